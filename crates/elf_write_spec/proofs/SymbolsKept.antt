-- Each symbol of the image stands at its new number in a written file.
use Rattle.std.proofs.Common.{◌≡◌, ◌<◌, ℕ, List, get_or, length, map, sym, ap, ◌∙◌, subst, Result, Some, Ok, Err, arith}
use Rattle.std.specs.List.{slice_get}
use Rattle.std.specs.Prelude.{option_map}
use Rattle.std.proofs.lemmas.List.{length-map}
use Rattle.std.proofs.lemmas.Option.{slice_get-get_or, slice_get-map, slice_get_within}
use Rattle.elf_format.specs.declared.fault.ElfFault.{ElfFault}
use Rattle.elf_format.specs.Image.{Image, image_of}
use Rattle.elf_format.specs.Views.{NamedSymbol}
use Rattle.elf_image.specs.Kept.{image_at_read}
use Rattle.elf_layout_plan.proofs.ForCallers.ApartLists.{map-at}
use Rattle.elf_write_spec.specs.Final.{dynamic_order, final, final_symbol, new_dynamic_symbol, ordered}
use Rattle.elf_write_spec.specs.KeptSymbols.{IsDynamicSymbolOf}
use Rattle.elf_write_spec.specs.Laws.{WrittenFilesKeepSymbols}
use Rattle.elf_write_spec.specs.Output.{IsPlannedOutput, Output, written_bytes}
use Rattle.elf_write_spec.specs.ReadBack.{IsRewrittenImage}
use Rattle.elf_write_spec.proofs.FilesReadBack.{written_files_are_read}
use Rattle.elf_write_spec.proofs.FinalSymbols.{all_symbols}
use Rattle.elf_write_spec.proofs.OrderFacts.{HasSymbols, final-new, final_list, length-final, length-order, length-ordered, new-order, ordered-at}
use Rattle.elf_write_spec.proofs.StaticSymbols.{static_new}
use Rattle.elf_write_spec.proofs.WholeEdits.{symbols_written}
use Rattle.elf_write_spec.proofs.WholeFacts.{read_facts}

same_image : (o : Result Image ElfFault) (a b : Image) → o ≡ Ok a → o ≡ Ok b → a ≡ b
same_image o a b is also =
    let image_in : Result Image ElfFault → Image = λ r. elim r as (λ _. Image) [ Ok x ↦ x | Err _ ↦ a ] in
    sym (ap image_in is) ∙ ap image_in also

-- what is read of a written file is the image in its final form
pub read_again : (w : Output) → IsPlannedOutput w → (again : Image) → image_of (written_bytes w) ≡ Ok again → IsRewrittenImage w again
read_again w is again read =
    let back = written_files_are_read w is in
    subst (IsRewrittenImage w) (same_image (image_of (written_bytes w)) back.again again back.is_read read) back.is_rewritten_image

-- each dynamic symbol that is there has its number
pub has_all : (w : Output) → IsPlannedOutput w → HasSymbols (image_at_read w.image) w.image
has_all w is = all_symbols (image_at_read w.image) w.image (read_facts w is)

-- a final dynamic symbol is the one of the image that gets its number
symbol_of : (image : Image) → HasSymbols (image_at_read image) image → (new : ℕ) (z : NamedSymbol)
    → slice_get (final (image_at_read image) image).dynamic_symbols new ≡ Some z → IsDynamicSymbolOf (image_at_read image) image new z
symbol_of image all new z at =
    let read : Image = image_at_read image in
    let order : List ℕ = dynamic_order read image in
    let (y, y_at, made) = map-at (final_symbol image) (ordered read image) new z
    (ap (λ (l : List NamedSymbol). slice_get l new) (sym (final_list read image all)) ∙ at) in
    let inside : new < length order =
    omega (arith, slice_get_within (ordered read image) new y y_at, length-ordered read image all, length-order read image all) in
    let m : ℕ = get_or order new 0 in
    let here : slice_get order new ≡ Some m = slice_get-get_or order new 0 inside in
    let there : slice_get image.dynamic_symbols m ≡ Some y = sym (ordered-at read image all new m here) ∙ y_at in
    let n : ℕ = get_or image.dynamic_symbol_numbers m 0 in
    let number : slice_get image.dynamic_symbol_numbers m ≡ Some n =
    slice_get-get_or image.dynamic_symbol_numbers m 0 (omega (arith, slice_get_within image.dynamic_symbols m y there, all.as_many)) in
    record {
      position = m;
      number = n;
      symbol = y;
      is_number = number;
      is_symbol = there;
      is_new = new-order read image all new m n here number;
      is_final = sym made;
    }

pub written_files_keep_symbols : WrittenFilesKeepSymbols
written_files_keep_symbols w is again read =
    let before : Image = image_at_read w.image in
    let all = has_all w is in
    let same = read_again w is again read in
    let static : again.symbols ≡ map (final_symbol w.image) w.image.symbols = same.symbols ∙ symbols_written before w.image in
    record {
      there = λ i number y at y_at.
          ap (λ (l : List NamedSymbol). slice_get l (new_dynamic_symbol before w.image number)) same.dynamic_symbols
          ∙ final-new before w.image all i number y at y_at;
      count = ap length same.dynamic_symbols ∙ length-final before w.image all;
      each = λ new z at. symbol_of w.image all new z (ap (λ (l : List NamedSymbol). slice_get l new) (sym same.dynamic_symbols) ∙ at);
      static_count = ap length static ∙ length-map w.image.symbols (final_symbol w.image);
      static_order = λ i y y_at.
          ap (λ (l : List NamedSymbol). slice_get l i) static ∙ slice_get-map (final_symbol w.image) w.image.symbols i
          ∙ ap (option_map (final_symbol w.image)) y_at;
      static_there = λ i number y at y_at.
          ap (slice_get again.symbols) (static_new before w.image (read_facts w is) i number at)
          ∙ ap (λ (l : List NamedSymbol). slice_get l i) static ∙ slice_get-map (final_symbol w.image) w.image.symbols i
          ∙ ap (option_map (final_symbol w.image)) y_at;
    }
