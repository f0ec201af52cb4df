use Rattle.std.proofs.lemmas.List.Folds.{list_all-map}
use Rattle.test_elf.proofs.versions.has_names.Goals as goal

pub returns : goal.returns
returns c = simp list_all-map c.has_each.ensures
