-- What is found of the signatures of a file.
use Rattle.std.specs.Prelude.{ℕ, Bool, false, List, [], map, Option, Some, None}
use Rattle.macho_signatures.specs.Pages.{unfit_from}
use Rattle.macho_signatures.specs.declared.directory.Directory.{Directory}
use Rattle.macho_signatures.specs.declared.pages.UnfitPage.{UnfitPage}
use Rattle.macho_signatures.specs.declared.signature.Signature.{Signature}
use Rattle.macho_signing.specs.File.{first_fault, part_bytes, parts_fault, parts_of}
use Rattle.macho_signing.specs.Thin.{has_identity, first_there, thin_directories, thin_fault}
use Rattle.macho_signing.specs.declared.check.Checked.{Checked}
use Rattle.macho_signing.specs.declared.fault.SigningFault.{SigningFault}
use Rattle.macho_signing.specs.declared.file.Part.{Part}

-- what is found of a part: the directories of its signature, whether an identity signed, and the pages whose slots don't hold
-- their hashes
pub record Found : Type 0 where
  pub part : Part
  pub directories : List Directory
  pub has_identity : Bool
  pub unfit : List UnfitPage

abbrev pub part_checked : List ℕ → Part → Found
part_checked bytes part = record {
  part = part;
  directories = thin_directories (part_bytes bytes part);
  has_identity = has_identity (part_bytes bytes part);
  unfit = unfit_from 0 (thin_directories (part_bytes bytes part)) (part_bytes bytes part);
}

-- what is found of each part of a file
unfoldable pub parts_checked : List ℕ → List Found
parts_checked bytes = map (part_checked bytes) (parts_of bytes)

-- what the call tells
abbrev pub directories_in : Option Signature → List Directory
directories_in None = []
directories_in (Some found) = found.directories.items

abbrev pub is_signed_in : Option Signature → Bool
is_signed_in None = false
is_signed_in (Some found) = found.is_signed

abbrev pub checked_model : Checked → Found
checked_model checked = record {
  part = checked.part;
  directories = directories_in checked.signature;
  has_identity = is_signed_in checked.signature;
  unfit = checked.unfit.items;
}

-- why it tells nothing: what is found first in the table of a fat file, or else in the parts
unfoldable pub checking_fault : List ℕ → Option SigningFault
checking_fault bytes = first_there (parts_fault bytes) (first_fault (λ p. thin_fault (part_bytes bytes p)) (parts_of bytes))
