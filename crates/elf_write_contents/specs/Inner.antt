-- What the steps towards the bytes of a file hand to each other.
use Rattle.std.specs.Prelude.{ℕ, ◌≡◌, List, [], ◌∷◌, length, Some, None, if◌then◌else◌}
use Rattle.elf_format.specs.declared.constants.TheConstants.{SHT_DYNAMIC, SHT_STRTAB}
use Rattle.elf_format.specs.declared.records.EntryNumbers.{EntryNumbers}
use Rattle.elf_format.specs.declared.records.SectionHeader.{SectionHeader}
use Rattle.elf_format.specs.Image.{Image}
use Rattle.elf_format.specs.Options.{list_at}
use Rattle.elf_format.specs.Places.{Place, occupies_file}
use Rattle.elf_image.specs.Kept.{KeptSection, kept_of_type}
use Rattle.elf_layout_plan.specs.Memory.{Resized}
use Rattle.elf_layout_plan.specs.Plan.{IsPlan, Plan, resized}
use Rattle.elf_write_spec.specs.Contents.{AreEntriesOf, IsContent}
use Rattle.elf_write_spec.specs.Final.{final}
use Rattle.elf_write_spec.specs.Headers.{IsHeaderOf}
use Rattle.elf_write_spec.specs.Output.{IsPlannedOutput, Output, written_bytes}
use Rattle.elf_write_spec.specs.Ready.{IsEditedReady}
use Rattle.elf_write_spec.specs.WrittenFile.{IsWrittenByPlan, IsWrittenOf}
use Rattle.elf_write_symbol_tables.specs.Made.{Made}
use Rattle.elf_write_symbol_tables.specs.WrittenStrings.{strings_at}

-- ## What is written

-- an edited image with a plan of it
pub record IsPlanned (read image : Image) (plan : Plan) : Type 0 where
  pub ready : IsEditedReady read image
  pub planned : IsPlan (resized image) plan

-- ## Headers and entries

-- one header for each section, with the sections' names among these
abbrev pub AreHeaders : Resized → List ℕ → List KeptSection → List Place → List SectionHeader → Type 0
AreHeaders r names [] [] [] = Unit {0}
AreHeaders r names (s ∷ ss) (p ∷ ps) (h ∷ hs) = IsHeaderOf r names s.section p h × AreHeaders r names ss ps hs
AreHeaders r names _ _ _ = ⊥

-- the numbers of the dynamic list's entries, none without a dynamic section
pub record AreRaw (r : Resized) (plan : Plan) (made : List Made) (raw : List EntryNumbers) : Type 0 where
  pub no_list : kept_of_type SHT_DYNAMIC r.image ≡ None → raw ≡ []
  pub listed : (s : KeptSection) → kept_of_type SHT_DYNAMIC r.image ≡ Some s
      → AreEntriesOf r plan (strings_at r.image made s.section.sh_link) (list_at (λ es. es) (final r.read r.image).entries) raw

-- ## Contents

-- the bytes of a section, as many as its place
pub record IsMadeContent (r : Resized) (plan : Plan) (made : List Made) (raw : List EntryNumbers) (s : KeptSection) (place : Place) (bytes : List ℕ) : Type 0 where
  pub sized : length bytes ≡ (if occupies_file place then place.sh_size else 0)
  pub content : IsContent r plan raw (strings_at r.image made s.section.sh_link) s bytes
  pub strings : s.section.sh_type ≡ SHT_STRTAB → bytes ≡ strings_at r.image made s.number

-- section by section
abbrev pub AreContents : Resized → Plan → List Made → List EntryNumbers → List KeptSection → List Place → List (List ℕ) → Type 0
AreContents r plan made raw [] [] [] = Unit {0}
AreContents r plan made raw (s ∷ ss) (p ∷ ps) (bytes ∷ more) = IsMadeContent r plan made raw s p bytes × AreContents r plan made raw ss ps more
AreContents r plan made raw _ _ _ = ⊥

-- ## All of it

abbrev pub output_of : Image → Plan → List SectionHeader → List (List ℕ) → List EntryNumbers → Output
output_of image plan headers contents raw = record { image = image; plan = plan; headers = headers; contents = contents; raw = raw }

-- these bytes are those of an image that is written whole
pub record IsPlannedFile (image : Image) (plan : Plan) (bytes : List ℕ) : Type 0 where
  pub output : Output
  pub of_image : output.image ≡ image
  pub by_plan : output.plan ≡ plan
  pub whole : IsPlannedOutput output
  pub are_bytes : bytes ≡ written_bytes output

-- what these bytes promise
pub record ArePromised (image : Image) (plan : Plan) (bytes : List ℕ) : Type 0 where
  pub written : IsWrittenOf image bytes
  pub by_plan : IsWrittenByPlan image plan bytes
