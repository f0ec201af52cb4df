use Rattle.byte_store.proofs.LaidLaws.{length-laid, slice_get-laid, slice_get-laid_inside}
use Rattle.byte_store.proofs.laws.laid_by_position.Goals as goal

pub returns-clause-length : goal.returns-clause-length
returns-clause-length c = length-laid

pub returns-clause-outside : goal.returns-clause-outside
returns-clause-outside c = slice_get-laid

pub returns-clause-inside : goal.returns-clause-inside
returns-clause-inside c = slice_get-laid_inside
