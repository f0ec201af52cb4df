use Rattle.std.proofs.Common.{◌≡◌, ap}
use Rattle.arwen_macho.specs.declared.macho.MachoContainer.TheInside.{Inside}
use Rattle.macho_edits.specs.Edit.{calls_lent}
use Rattle.arwen_macho.proofs.ContainerLaws.{takes_fat, takes_thin}
use Rattle.arwen_macho.proofs.macho.MachoContainer.apply_lent.Goals.{in-Fat, in-SingleArch}
use Rattle.arwen_macho.proofs.macho.MachoContainer.apply_lent.Goals as goal

pub returns : goal.returns
returns c =
    let held : c.self.inside.inner ≡ c.args.self.now = c.self.view_is in
    elim c.match-self.branch [
      | in-SingleArch w ↦
          let taken = takes_thin (calls_lent c.args.edits.now) w.in-SingleArch.single w.apply_lent.new.self w.apply_lent.result w.apply_lent.ensures in
          rw (w.result-is, ap (λ (i : Inside). i.inner) w.self-inside-is, ← held, w.in-SingleArch.is) taken
      | in-Fat w ↦
          let taken = takes_fat (calls_lent c.args.edits.now) w.in-Fat.fat w.apply_lent-in-Fat.new.self w.apply_lent-in-Fat.result w.apply_lent-in-Fat.ensures in
          rw (w.result-is, ap (λ (i : Inside). i.inner) w.self-inside-is, ← held, w.in-Fat.is) taken
    ]
