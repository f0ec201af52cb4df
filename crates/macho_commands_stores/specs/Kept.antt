-- What an edit, and new slots, keep of what a file tells of its code signatures.
use Rattle.std.specs.Prelude.{ℕ, ◌≡◌, ◌≤◌, ◌<◌, ◌+◌, ◌⊎◌, false, List, [], map, drop, All, Some, Ok}
use Rattle.macho_image.specs.Commands.{first_content_of}
use Rattle.macho_signatures.specs.declared.directory.Directory.{Directory}
use Rattle.macho_signatures.specs.Signature.{slots_end}
use Rattle.macho_signing.specs.Check.{Found, parts_checked}
use Rattle.macho_signing.specs.File.{part_bytes, parts_of}
use Rattle.macho_signing.specs.Place.{signature_place}
use Rattle.macho_signing.specs.Thin.{has_identity, thin_directories}
use Rattle.macho_signing.specs.declared.place.Place.{Place}

-- a directory, apart from how long its identifier is
abbrev pub layout_of : Directory → Directory
layout_of d = record d { identifier_len = 0 }

-- the identifier of a directory, with the NUL behind it, stands in none of its slots
abbrev pub IsNamedApart : Directory → Type 0
IsNamedApart d = (d.identifier + d.identifier_len < d.slots) ⊎ (slots_end d ≤ d.identifier)

-- in each directory of a part of a file, unless an identity signed it, the identifier stands in none of the slots
abbrev pub IsAdhocNamedApart : Found → Type 0
IsAdhocNamedApart found = found.has_identity ≡ false → All IsNamedApart found.directories

-- two thin files tell of the same place of a signature
abbrev pub TellsSamePlace : List ℕ → List ℕ → Type 0
TellsSamePlace old new = signature_place new ≡ signature_place old

-- two thin files tell of the same place of a signature and of the same directories, and by an identity or not
pub record TellsSame (old new : List ℕ) : Type 0 where
  pub place : TellsSamePlace old new
  pub directories : thin_directories new ≡ thin_directories old
  pub identity : has_identity new ≡ has_identity old

-- two thin files tell of the same signature, and all bytes from where it begins are the same
pub record KeepsSignature (old new : List ℕ) : Type 0 where
  pub tells : TellsSame old new
  pub bytes : (place : Place) → signature_place old ≡ Ok (Some place) → drop place.dataoff new ≡ drop place.dataoff old

-- two thin files tell the same, apart from the lengths of identifiers
pub record TellsSameLayout (old new : List ℕ) : Type 0 where
  pub place : TellsSamePlace old new
  pub directories : map layout_of (thin_directories new) ≡ map layout_of (thin_directories old)
  pub identity : has_identity new ≡ has_identity old

-- a relation of the thin files of two files that have the same parts
pub record InEachPart (Same : List ℕ → List ℕ → Type 0) (old new : List ℕ) : Type 0 where
  pub parts : parts_of new ≡ parts_of old
  pub each : All (λ p. Same (part_bytes old p) (part_bytes new p)) (parts_of old)

-- the signature of a thin file begins where content does, or behind
abbrev pub IsSignatureBehind : List ℕ → Type 0
IsSignatureBehind bytes = (place : Place) → signature_place bytes ≡ Ok (Some place) → first_content_of bytes ≤ place.dataoff

-- no page of a part of a file fails to fit, unless an identity signed it
abbrev pub IsAdhocFit : Found → Type 0
IsAdhocFit found = found.has_identity ≡ false → found.unfit ≡ []

abbrev pub DoAdhocFit : List ℕ → Type 0
DoAdhocFit bytes = All IsAdhocFit (parts_checked bytes)
