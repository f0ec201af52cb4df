-- What it means that a file is accepted.
use Rattle.macho_image.specs.Laws.{AcceptedIsFatFile, AcceptedIsFile, FatFileIsAccepted, FileIsAccepted, FirstContentIsLeast}
use Rattle.macho_image.proofs.ContentLaws.{first_content_is}
use Rattle.macho_image.proofs.FatLaws.{fat_found, fat_only}
use Rattle.macho_image.proofs.FileLaws.{found, only}

pub accepted_is_file : AcceptedIsFile
accepted_is_file bytes accepted = found bytes accepted

pub file_is_accepted : FileIsAccepted
file_is_accepted bytes ctx commands is =
    let shows = only bytes ctx commands is in
    record { accepted = shows.0; form = shows.1; list = shows.2 }

pub accepted_is_fat_file : AcceptedIsFatFile
accepted_is_fat_file bytes accepted = fat_found bytes accepted

pub fat_file_is_accepted : FatFileIsAccepted
fat_file_is_accepted bytes archs is = fat_only bytes archs is

pub first_content_is_least : FirstContentIsLeast
first_content_is_least bytes = first_content_is bytes
