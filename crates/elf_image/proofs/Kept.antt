-- A changed image was read and edited, where the one before it was.
use Rattle.std.proofs.Common.{◌≡◌, ℕ, Bool, List, refl, sym, ap, ◌∙◌, inr, subst, Option, Some, None, true}
use Rattle.std.specs.Prelude.{IsSome, IsTrue, is_some, not}
use Rattle.std.specs.Option.{option_map}
use Rattle.std.proofs.lemmas.Bool.{true≢false}
use Rattle.elf_format.specs.declared.constants.TheConstants.{PT_INTERP}
use Rattle.elf_format.specs.declared.header.Header.{Header}
use Rattle.elf_format.specs.declared.records.SegmentHeader.{SegmentHeader}
use Rattle.elf_format.specs.Dynamic.{Entry}
use Rattle.elf_format.specs.File.{segment_of_type}
use Rattle.elf_format.specs.Image.{Image}
use Rattle.elf_format.specs.Versions.{VersionNeeds}
use Rattle.elf_image_headers.specs.DynamicList.{all_but_last, holds_nul}
use Rattle.elf_image.specs.Complete.{IsComplete}
use Rattle.elf_image.specs.Edited.{AreEntriesOf, AreSegments, IsEdited, IsInterpreterOf}

-- ## What is there leans on nothing that went

-- an image with the same sections and symbols is complete, with an interpreter where there was one and there is its program header
complete_with : (read image : Image) (changed : Bool) (header : Header) (segments : List SegmentHeader) (entries : Option (List Entry)) (interpreter : Option (List ℕ)) (size : Option ℕ)
    → is_some interpreter ≡ is_some image.interpreter → is_some (segment_of_type PT_INTERP segments) ≡ is_some (segment_of_type PT_INTERP image.segments) → IsComplete read image
    → IsComplete read (record image { changed = changed; header = header; segments = segments; entries = entries; interpreter = interpreter; page_size = size })
complete_with read image changed header segments entries interpreter size same_interpreter same_segment h = record {
  lasting = h.lasting;
  linked = h.linked;
  first_dynamic = h.first_dynamic;
  first_static = h.first_static;
  no_static = h.no_static;
  dynamic_sections = h.dynamic_sections;
  static_sections = h.static_sections;
  dynamic_relocated = h.dynamic_relocated;
  static_relocated = h.static_relocated;
  tables = h.tables;
  interpreter = same_interpreter ∙ h.interpreter ∙ sym same_segment;
  interpreter_section = λ some. h.interpreter_section (sym same_interpreter ∙ some);
}

-- ## Parts of an image, one at a time

-- an image with another dynamic list, that is one of what was read where the one before is
pub with_entries : (image : Image) (new : Option (List Entry)) → IsEdited image → ((read : Option (List Entry)) → AreEntriesOf read image.entries → AreEntriesOf read new)
    → IsEdited (record image { changed = true; entries = new })
with_entries image new h step = record {
  read = h.read;
  is_read = h.is_read;
  is_edit = record {
    form = h.is_edit.form;
    header = h.is_edit.header;
    segments = h.is_edit.segments;
    sections = h.is_edit.sections;
    symbols = h.is_edit.symbols;
    dynamic_symbols = h.is_edit.dynamic_symbols;
    definitions = h.is_edit.definitions;
    needs = h.is_edit.needs;
    entries = step h.read.entries h.is_edit.entries;
    interpreter = h.is_edit.interpreter;
    complete = complete_with h.read image true image.header image.segments new image.interpreter image.page_size refl refl h.is_edit.complete;
    unchanged = λ e. absurd (true≢false e);
  };
}

-- other program headers, and another page size
pub with_segments : (image : Image) (size : Option ℕ) (new : List SegmentHeader) → IsEdited image
    → ((table : ℕ) (read : List SegmentHeader) → AreSegments table image.page_size read image.segments → AreSegments table size read new)
    → is_some (segment_of_type PT_INTERP new) ≡ is_some (segment_of_type PT_INTERP image.segments) → IsEdited (record image { changed = true; segments = new; page_size = size })
with_segments image size new h step same = record {
  read = h.read;
  is_read = h.is_read;
  is_edit = record {
    form = h.is_edit.form;
    header = h.is_edit.header;
    segments = step h.read.header.e_phoff h.read.segments h.is_edit.segments;
    sections = h.is_edit.sections;
    symbols = h.is_edit.symbols;
    dynamic_symbols = h.is_edit.dynamic_symbols;
    definitions = h.is_edit.definitions;
    needs = h.is_edit.needs;
    entries = h.is_edit.entries;
    interpreter = h.is_edit.interpreter;
    complete = complete_with h.read image true image.header new image.entries image.interpreter size refl same h.is_edit.complete;
    unchanged = λ e. absurd (true≢false e);
  };
}

interpreter_set : (read now : Option (List ℕ)) (bytes : List ℕ) → IsSome now → IsTrue (not (holds_nul (all_but_last bytes))) → IsInterpreterOf read now → IsInterpreterOf read (Some bytes)
interpreter_set None None bytes there no_nul h = absurd (true≢false (sym there))
interpreter_set None (Some now) bytes there no_nul h = absurd h
interpreter_set (Some read) now bytes there no_nul h = inr no_nul

-- an image with another interpreter
pub with_interpreter : (image : Image) (bytes : List ℕ) → IsEdited image → IsSome image.interpreter → IsTrue (not (holds_nul (all_but_last bytes)))
    → IsEdited (record image { changed = true; interpreter = Some bytes })
with_interpreter image bytes h there no_nul = record {
  read = h.read;
  is_read = h.is_read;
  is_edit = record {
    form = h.is_edit.form;
    header = h.is_edit.header;
    segments = h.is_edit.segments;
    sections = h.is_edit.sections;
    symbols = h.is_edit.symbols;
    dynamic_symbols = h.is_edit.dynamic_symbols;
    definitions = h.is_edit.definitions;
    needs = h.is_edit.needs;
    entries = h.is_edit.entries;
    interpreter = interpreter_set h.read.interpreter image.interpreter bytes there no_nul h.is_edit.interpreter;
    complete = complete_with h.read image true image.header image.segments image.entries (Some bytes) image.page_size (sym there) refl h.is_edit.complete;
    unchanged = λ e. absurd (true≢false e);
  };
}

-- an image with the same sections and symbols is complete with other records of needed versions
pub needs_complete : (read image : Image) (needs : List VersionNeeds) → IsComplete read image
    → IsComplete read (record image { changed = true; needs = needs })
needs_complete read image needs h = record {
  lasting = h.lasting;
  linked = h.linked;
  first_dynamic = h.first_dynamic;
  first_static = h.first_static;
  no_static = h.no_static;
  dynamic_sections = h.dynamic_sections;
  static_sections = h.static_sections;
  dynamic_relocated = h.dynamic_relocated;
  static_relocated = h.static_relocated;
  tables = h.tables;
  interpreter = h.interpreter;
  interpreter_section = h.interpreter_section;
}

-- an image with another ABI
pub with_os_abi : (image : Image) (byte : ℕ) → IsEdited image → IsEdited (record image { changed = true; header = record image.header { os_abi = byte } })
with_os_abi image byte h = record {
  read = h.read;
  is_read = h.is_read;
  is_edit = record {
    form = h.is_edit.form;
    header = ap (λ (header : Header). record header { os_abi = byte }) h.is_edit.header;
    segments = h.is_edit.segments;
    sections = h.is_edit.sections;
    symbols = h.is_edit.symbols;
    dynamic_symbols = h.is_edit.dynamic_symbols;
    definitions = h.is_edit.definitions;
    needs = h.is_edit.needs;
    entries = h.is_edit.entries;
    interpreter = h.is_edit.interpreter;
    complete = complete_with h.read image true (record image.header { os_abi = byte }) image.segments image.entries image.interpreter image.page_size refl refl h.is_edit.complete;
    unchanged = λ e. absurd (true≢false e);
  };
}

-- the list after a change of one that is there
pub with_list : (image : Image) (now new : List Entry) (change : List Entry → List Entry) → image.entries ≡ Some now → new ≡ change now → IsEdited image
    → ((read : Option (List Entry)) → AreEntriesOf read image.entries → AreEntriesOf read (option_map change image.entries))
    → IsEdited (record image { changed = true; entries = Some new })
with_list image now new change is changes h step =
    with_entries image (Some new) h (λ read g. subst (λ (o : Option (List Entry)). AreEntriesOf read o) (ap (λ (o : Option (List Entry)). option_map change o) is ∙ ap (λ (l : List Entry). Some l) (sym changes)) (step read g))
