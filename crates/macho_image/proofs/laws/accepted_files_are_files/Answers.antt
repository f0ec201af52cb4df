use Rattle.macho_image.proofs.MeaningLaws.{accepted_is_file, file_is_accepted}
use Rattle.macho_image.proofs.laws.accepted_files_are_files.Goals as goal

pub returns-clause-found : goal.returns-clause-found
returns-clause-found c = accepted_is_file

pub returns-clause-only : goal.returns-clause-only
returns-clause-only c = file_is_accepted
