-- What stays is what is written.
use Rattle.std.proofs.Common.{List, map, ap, ◌∙◌}
use Rattle.std.proofs.lemmas.Result.{IfOk-weaker}
use Rattle.elf_format.specs.Image.{Image}
use Rattle.elf_format.specs.Versions.{VersionNeeds}
use Rattle.elf_layout_plan.specs.Needs.{written_needs}
use Rattle.elf_notes.proofs.notes.staying_needs.Goals as goal

pub returns : goal.returns
returns c =
    IfOk-weaker c.new.result _ _ (λ staying are. ap (λ (l : List VersionNeeds). map (λ n. n.file) l) (are.needs ∙ ap (λ (r : Image). written_needs r c.args.edited.now) c.in_ok-read.ensures)) c.new.ensures
