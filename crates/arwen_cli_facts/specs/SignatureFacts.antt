-- What is told of the code signature of a thin file: each fact is what the signature's bytes say, as `macho_signing` reads them.
use Rattle.std.specs.Prelude.{ℕ, ◌==◌, Bool, true, false, not, List, [], ◌∷◌, length, map, take, drop, Option, Some, None, Result, Ok, bit_and, encode_utf8_all, if◌then◌else◌, string_bytes}
use Rattle.bstr.specs.Utf8.{lossy_chars}
use Rattle.macho_signatures.specs.Pages.{unfit_from}
use Rattle.macho_signatures.specs.declared.directory.Directory.{Directory}
use Rattle.macho_signatures.specs.declared.directory.HashKind.{HashKind}
use Rattle.macho_signing.specs.Place.{signature_place}
use Rattle.macho_signing.specs.Thin.{has_identity, thin_directories, thin_fault}
use Rattle.macho_signing.specs.declared.fault.SigningFault.{SigningFault}
use Rattle.macho_signing.specs.declared.place.Place.{Place}
use Rattle.arwen_cli_facts.specs.declared.signature.SignatureContents.{SignatureContents}
use Rattle.arwen_cli_facts.specs.declared.signature.SignatureKind.{SignatureKind}
use Rattle.arwen_cli_facts.specs.declared.signature.SignatureKind.TheVariants.{AdHoc, Identity, LinkerSigned}
use Rattle.arwen_cli_facts.specs.declared.signature.SignatureSummary.{SignatureSummary}
use Rattle.arwen_cli_facts.specs.declared.signature.SignatureSummary.TheVariants.{Read, Refused}
use Rattle.arwen_cli_facts.specs.declared.signature.TheConstants.{CS_LINKER_SIGNED}

pub record ContentsFacts : Type 0 where
  pub kind : SignatureKind
  pub identifier : List ℕ
  pub hashes : List HashKind
  pub unfit_pages : ℕ

-- what a signature says, or why it isn't read
pub data SignatureFacts : Type 0 where
  readable : ContentsFacts → SignatureFacts
  refused : SigningFault → SignatureFacts

-- ## What a summary holds

abbrev pub contents_model : SignatureContents → ContentsFacts
contents_model s = record {
  kind = s.kind;
  identifier = string_bytes s.identifier;
  hashes = s.hashes.items;
  unfit_pages = s.unfit_pages;
}

abbrev pub signature_model : SignatureSummary → SignatureFacts
signature_model (Read contents) = readable (contents_model contents)
signature_model (Refused fault) = refused fault

-- ## What a signature says

-- the UTF-8 text of bytes, with U+FFFD for what is no character
abbrev pub lossily : List ℕ → List ℕ
lossily text = encode_utf8_all (lossy_chars text)

-- the first code directory says that a linker made it (cs_blobs.h, `CS_LINKER_SIGNED`)
abbrev pub is_linker_signed : List Directory → Bool
is_linker_signed [] = false
is_linker_signed (d ∷ ds) = not (bit_and d.flags CS_LINKER_SIGNED == 0)

-- who made a signature: whether an identity did is told by its message, not by flags
abbrev pub kind_of : Bool → List Directory → SignatureKind
kind_of true ds = Identity
kind_of false ds = if is_linker_signed ds then LinkerSigned else AdHoc

-- the identifier in the first code directory, without its NUL
abbrev pub identifier_of : List ℕ → List Directory → List ℕ
identifier_of bytes [] = []
identifier_of bytes (d ∷ ds) = take d.identifier_len (drop d.identifier bytes)

-- of a file with these directories, which an identity signed or not
abbrev pub contents_facts : List ℕ → Bool → List Directory → ContentsFacts
contents_facts bytes is_identity ds = record {
  kind = kind_of is_identity ds;
  identifier = lossily (identifier_of bytes ds);
  hashes = map (λ d. d.hash) ds;
  unfit_pages = length (unfit_from 0 ds bytes);
}

-- ## A file

-- of a file without a fault: what its signature says, where there is one
abbrev pub facts_at : List ℕ → Result (Option Place) SigningFault → Option SignatureFacts
facts_at bytes (Ok (Some place)) = Some (readable (contents_facts bytes (has_identity bytes) (thin_directories bytes)))
facts_at bytes _ = None

abbrev pub facts_in : List ℕ → Option SignatureFacts
facts_in bytes = facts_at bytes (signature_place bytes)

abbrev pub fault_facts : SigningFault → Option SignatureFacts
fault_facts fault = Some (refused fault)

-- where a check of a file or of its signature fails, the first one
abbrev pub facts_unless : Option SigningFault → List ℕ → Option SignatureFacts
facts_unless (Some fault) bytes = fault_facts fault
facts_unless None bytes = facts_in bytes

unfoldable pub signature_facts : List ℕ → Option SignatureFacts
signature_facts bytes = facts_unless (thin_fault bytes) bytes
