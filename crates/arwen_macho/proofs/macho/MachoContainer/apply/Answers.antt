use Rattle.std.proofs.Common.{◌≡◌, ap}
use Rattle.arwen_macho.specs.declared.macho.MachoContainer.TheInside.{Inside}
use Rattle.macho_edits.specs.Batch.{calls_of}
use Rattle.arwen_macho.proofs.ContainerLaws.{takes_fat, takes_thin}
use Rattle.arwen_macho.proofs.macho.MachoContainer.apply.Goals.{in-Fat, in-SingleArch}
use Rattle.arwen_macho.proofs.macho.MachoContainer.apply.Goals as goal

pub returns-clause-takes : goal.returns-clause-takes
returns-clause-takes c =
    let held : c.self.inside.inner ≡ c.args.self.now = c.self.view_is in
    elim c.match-self.branch [
      | in-SingleArch w ↦
          let taken = takes_thin (calls_of c.args.edits.now) w.in-SingleArch.single w.apply.new.self w.apply.result w.apply.ensures.steps in
          rw (w.result-is, ap (λ (i : Inside). i.inner) w.self-inside-is, ← held, w.in-SingleArch.is) taken
      | in-Fat w ↦
          let taken = takes_fat (calls_of c.args.edits.now) w.in-Fat.fat w.apply-in-Fat.new.self w.apply-in-Fat.result w.apply-in-Fat.ensures.steps in
          rw (w.result-is, ap (λ (i : Inside). i.inner) w.self-inside-is, ← held, w.in-Fat.is) taken
    ]
