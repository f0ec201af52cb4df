use Rattle.macho_image.proofs.MeaningLaws.{first_content_is_least}
use Rattle.macho_image.proofs.laws.first_content_is_least.Goals as goal

pub returns : goal.returns
returns c = first_content_is_least
