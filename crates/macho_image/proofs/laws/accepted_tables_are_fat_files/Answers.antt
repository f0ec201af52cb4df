use Rattle.macho_image.proofs.MeaningLaws.{accepted_is_fat_file, fat_file_is_accepted}
use Rattle.macho_image.proofs.laws.accepted_tables_are_fat_files.Goals as goal

pub returns-clause-found : goal.returns-clause-found
returns-clause-found c = accepted_is_fat_file

pub returns-clause-only : goal.returns-clause-only
returns-clause-only c = fat_file_is_accepted
