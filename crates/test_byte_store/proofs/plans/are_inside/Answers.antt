use Rattle.std.proofs.lemmas.List.Elements.{All-map}
use Rattle.byte_store.specs.Laid.{LiesIn, patch_of}
use Rattle.test_byte_store.proofs.plans.are_inside.Goals as goal

pub returns : goal.returns
returns c = λ is. All-map (LiesIn c.args.size) patch_of c.args.pieces.now (c.is_each_inside.ensures is)
