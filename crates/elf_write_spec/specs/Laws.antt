-- What is proved of written files.
use Rattle.std.specs.Prelude.{ℕ, ◌*◌, ◌≡◌, List, [], ◌∷◌, ◌++◌, length, map, filter, true, false, Some, Ok, IsTrue}
use Rattle.elf_format.specs.Image.{Image, image_of, lists_tag}
use Rattle.elf_format.specs.Options.{list_at}
use Rattle.elf_format.specs.declared.constants.TheConstants.{DT_SYMTAB}
use Rattle.elf_image.specs.Names.{are_names_changed}
use Rattle.elf_format.specs.Places.{file_range, occupies_file}
use Rattle.elf_format.specs.declared.range.Range.{Range}
use Rattle.elf_format.specs.Ranges.{all_apart, range}
use Rattle.elf_format.specs.Records.{section_header_size}
use Rattle.elf_format.specs.Views.{dynamic_symbol_count, loader_view, section_view}
use Rattle.elf_image.specs.Edited.{IsEdited}
use Rattle.elf_layout_plan.specs.FilePlaced.{written_headers}
use Rattle.elf_image.specs.Kept.{image_at_read}
use Rattle.elf_layout_plan.specs.Memory.{Resized}
use Rattle.elf_layout_plan.specs.Plan.{IsPlan, Plan, resized}
use Rattle.elf_write_spec.specs.ReadBack.{HasWrittenParts, IsReadBack}
use Rattle.elf_write_spec.specs.Final.{final_view}
use Rattle.elf_write_spec.specs.KeptSymbols.{AreSymbolsKept}
use Rattle.elf_write_spec.specs.Look.{AreNamesFound}
use Rattle.elf_write_spec.specs.Stays.{AreHashesSeen, AreOthersSeen, IsDataSeen, written_places}
use Rattle.elf_write_spec.specs.Output.{AreHeadersApart, IsPlannedOutput, Output, written_bytes}

-- the section header table
abbrev pub section_table : Resized → Plan → List Range
section_table r plan = range plan.e_shoff (length plan.places * section_header_size r.image.form) ∷ []

-- In each plan of an edited image the file header, the two header tables and all sections with bytes in the file share no byte of it,
-- if the file header and the program header table share none.
abbrev pub PlansAreApartInFile : Type 0
PlansAreApartInFile =
    (image : Image) (plan : Plan) → IsEdited image → IsPlan (resized image) plan → AreHeadersApart image plan
    → IsTrue (all_apart (written_headers (resized image) plan ++ section_table (resized image) plan ++ map file_range (filter occupies_file plan.places)))

-- A written file has the parts that were written.
abbrev pub WrittenFilesHaveParts : Type 0
WrittenFilesHaveParts = (w : Output) → IsPlannedOutput w → HasWrittenParts w

-- A written file is accepted, and reading it gives the image in its final form.
abbrev pub WrittenFilesAreRead : Type 0
WrittenFilesAreRead = (w : Output) → IsPlannedOutput w → IsReadBack w

-- What a file shows both ways: by its section headers, and to a loader that knows the program headers alone.
pub record ShowsFinal (image : Image) (file : List ℕ) : Type 0 where
  pub by_sections : section_view file ≡ Some (final_view (image_at_read image) image)
  pub by_loader : loader_view file (dynamic_symbol_count file) ≡ Some (final_view (image_at_read image) image)

-- A written file shows the edited lists, to a loader too.
abbrev pub WrittenFilesShow : Type 0
WrittenFilesShow = (w : Output) → IsPlannedOutput w → ShowsFinal w.image (written_bytes w)

-- Data stands at its address in a written file, and so does every other byte that isn't written anew.
abbrev pub WrittenFilesKeepData : Type 0
WrittenFilesKeepData = (w : Output) → IsPlannedOutput w → IsDataSeen (image_at_read w.image) w.image w.plan.segments (written_bytes w)

abbrev pub WrittenFilesKeepOthers : Type 0
WrittenFilesKeepOthers = (w : Output) → IsPlannedOutput w
    → AreOthersSeen w.image w.plan.segments (written_places (image_at_read w.image) w.image (written_headers (resized w.image) w.plan) w.plan.places) (written_bytes w)

-- The hash tables of the dynamic symbols, as they were read, stand in a written file where the dynamic list says, if the names are those
-- that were read.
abbrev pub WrittenFilesKeepHashes : Type 0
WrittenFilesKeepHashes = (w : Output) → IsPlannedOutput w → are_names_changed (image_at_read w.image) w.image ≡ false
    → AreHashesSeen w.image w.plan.segments w.raw (written_bytes w)

-- Where the names of the dynamic symbols changed, look-ups find exactly the symbols that are defined and not local, by the names that they
-- have now.
abbrev pub WrittenFilesFindNames : Type 0
WrittenFilesFindNames = (w : Output) → IsPlannedOutput w → are_names_changed (image_at_read w.image) w.image ≡ true
    → lists_tag DT_SYMTAB (list_at (λ es. es) w.image.entries) ≡ true
    → (again : Image) → image_of (written_bytes w) ≡ Ok again → AreNamesFound again w.raw (written_bytes w)

-- Each symbol of the image stands in a written file at its new number.
abbrev pub WrittenFilesKeepSymbols : Type 0
WrittenFilesKeepSymbols = (w : Output) → IsPlannedOutput w
    → (again : Image) → image_of (written_bytes w) ≡ Ok again → AreSymbolsKept (image_at_read w.image) w.image again
