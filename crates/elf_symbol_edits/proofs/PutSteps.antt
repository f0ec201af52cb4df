-- Symbols that an image may take in place of those that it has.
use Rattle.std.proofs.Common.{◌≡◌, ℕ, Bool, true, false, cond, List, [], ◌∷◌, filter, refl, sym, ap, ◌∙◌, subst, inl, inr, is_some, Option, Some, None}
use Rattle.std.specs.Prelude.{◌==◌, ◌&&◌, ◌⊎◌, All, Contains, IfSome, not}
use Rattle.std.specs.List.{list_any, slice_get}
use Rattle.std.proofs.lemmas.Bool.{cond-false, cond-true}
use Rattle.std.proofs.lemmas.List.Elements.{All-contains_itself, All-filter}
use Rattle.std.proofs.lemmas.Option.{none-some, same_Some}
use Rattle.elf_format.specs.declared.constants.TheConstants.{SHT_DYNSYM, SHT_SYMTAB}
use Rattle.elf_format.specs.Image.{Image}
use Rattle.elf_format.specs.Options.{is_one_of}
use Rattle.elf_format.specs.Views.{NamedSymbol}
use Rattle.elf_image_symbols.specs.EditedList.{EditedList, without_numbers}
use Rattle.elf_image_symbols.specs.EditedList.{stays as symbol_stays}
use Rattle.elf_image.specs.Complete.{AreRelocated, IsFirstThere}
use Rattle.elf_image.specs.Deleted.{numbers_left, parts_left}
use Rattle.elf_image.specs.Edited.{IsEdited}
use Rattle.elf_image.specs.Kept.{KeptSection, kept_sections}
use Rattle.elf_image.specs.Relocated.{is_symbol_used, names_symbol}
use Rattle.elf_image.specs.Renumbering.{can_renumber}
use Rattle.elf_image.specs.Staying.{staying, stays, table_number}
use Rattle.elf_image.specs.SymbolEdits.{IsPutFor, IsStaticPutFor, with_dynamic_symbols, with_static_symbols}
use Rattle.elf_image.specs.SymbolsRead.{OfRead}
use Rattle.elf_image.proofs.ForCallers.ListsLeft.{none_passes, one_of_there, passing_stays}
use Rattle.elf_image.proofs.ForCallers.SymbolsDeleted.{unused_zero}
use Rattle.elf_image.proofs.ForCallers.SymbolsKept.{dynamic_first, static_first}
use Rattle.elf_edits.specs.Edit.{RenameDynamicSymbols}
use Rattle.elf_edits.specs.SymbolChanges.{AreSymbolsAfter}
use Rattle.elf_edits.specs.Symbols.{behind_first, renamed}
use Rattle.elf_symbol_edits.specs.EditModel.{IsDone}
use Rattle.elf_symbol_edits.specs.Steps.{with_symbols_put}
use Rattle.elf_symbol_edits.specs.SymbolEdit.{RenameSymbols, touches, without_dynamic_symbols, without_symbols, written}

-- ## None is gone

pub static_put_of_all : (image : Image) (edited : EditedList) → IsEdited image → OfRead image (λ read. edited.read ≡ read.symbols) → edited.numbers ≡ image.symbol_numbers → IsStaticPutFor image edited
static_put_of_all image edited h read same = record {
  read = read;
  there = subst (λ (ns : List ℕ). All (Contains image.symbol_numbers) ns) (sym same) (All-contains_itself image.symbol_numbers);
  first = subst (λ (ns : List ℕ). IsFirstThere image.symbols ns) (sym same) (static_first image h);
  relocated = subst (λ (ns : List ℕ). AreRelocated image (table_number SHT_SYMTAB image) ns) (sym same) h.is_edit.complete.static_relocated;
}

-- symbols that got other names
pub renamed_put : (image : Image) (pairs : List (List ℕ × List ℕ)) (old : EditedList) (made : Option EditedList) → IsEdited image → OfRead image (λ read. old.read ≡ read.symbols)
    → old.numbers ≡ image.symbol_numbers → AreSymbolsAfter (RenameDynamicSymbols pairs) old made → IfSome made (IsStaticPutFor image)
renamed_put image pairs old None h read numbers after = tt
renamed_put image pairs old (Some new) h read numbers after =
    static_put_of_all image new h (λ r is_read. ap (λ (e : EditedList). e.read) after.1 ∙ read r is_read) (ap (λ (e : EditedList). e.numbers) after.1 ∙ numbers)

pub renamed_done : (image new : Image) (pairs : List (List ℕ × List ℕ)) (old : EditedList) (made : Option EditedList) (touched : Bool) → old.numbers ≡ image.symbol_numbers → old.symbols ≡ image.symbols
    → AreSymbolsAfter (RenameDynamicSymbols pairs) old made → touched ≡ is_some made → new ≡ with_symbols_put made image → IsDone (RenameSymbols pairs) image new touched
renamed_done image new pairs old None touched numbers symbols after told put =
    let none : touches (RenameSymbols pairs) image ≡ false = ap (λ (ys : List NamedSymbol). touches (RenameSymbols pairs) (record image { symbols = ys })) (sym symbols) ∙ after in
    record {
      told = told ∙ sym none;
      made = put ∙ sym (cond-false (touches (RenameSymbols pairs) image) (written (RenameSymbols pairs) image) image none);
    }
renamed_done image new pairs old (Some made) touched numbers symbols after told put =
    let some : touches (RenameSymbols pairs) image ≡ true = ap (λ (ys : List NamedSymbol). touches (RenameSymbols pairs) (record image { symbols = ys })) (sym symbols) ∙ after.0 in
    record {
      told = told ∙ sym some;
      made =
          put
          ∙ ap (λ (e : EditedList). record image { changed = true; symbols = e.symbols; symbol_numbers = e.numbers }) after.1
          ∙ ap (λ (ys : List NamedSymbol). record image { changed = true; symbols = behind_first (renamed pairs) ys; symbol_numbers = old.numbers }) symbols
          ∙ ap (λ (ns : List ℕ). record image { changed = true; symbols = behind_first (renamed pairs) image.symbols; symbol_numbers = ns }) numbers
          ∙ sym (cond-true (touches (RenameSymbols pairs) image) (written (RenameSymbols pairs) image) image some);
    }

-- ## Some are gone

first_left : (keep : ℕ → Bool) (ns : List ℕ) → slice_get ns 0 ≡ Some 0 → keep 0 ≡ true → slice_get (filter keep ns) 0 ≡ Some 0
first_left keep [] at holds = absurd (none-some 0 at)
first_left keep (n ∷ ns) at holds =
    ap (λ (b : Bool). slice_get (cond b (n ∷ filter keep ns) (filter keep ns)) 0) (ap keep (same_Some n 0 at) ∙ holds) ∙ at

all_left : (gone ns : List ℕ) → All (Contains ns) (filter (symbol_stays gone) ns)
all_left gone ns = All-filter (symbol_stays gone) (λ n. Contains ns n) ns (All-contains_itself ns)

module _ (image : Image) (type : ℕ) (gone : List ℕ) (unused : is_symbol_used image.form (table_number type image) gone (staying [] image) ≡ false) where
  abbrev names : ℕ → KeptSection → Bool
  names number s = names_symbol image.form (table_number type image) number s.section

  -- one that goes and is named is symbol 0
  gone_zero : (number : ℕ) → is_one_of gone number ≡ true → (s : KeptSection) → Contains (kept_sections image) s → names number s ≡ true → number ≡ 0
  gone_zero number one s has is =
      let there : Contains (staying [] image) s = passing_stays (stays []) (kept_sections image) s has refl in
      let none : list_any (λ n. not (n == 0) && names n s) gone ≡ false =
      none_passes (λ k. list_any (λ n. not (n == 0) && names n k) gone) (staying [] image) s unused there in
      unused_zero number (names number s) (none_passes (λ n. not (n == 0) && names n s) gone number none (one_of_there gone number one)) is

  still_relocated : (numbers : List ℕ) → AreRelocated image (table_number type image) numbers → AreRelocated image (table_number type image) (filter (symbol_stays gone) numbers)
  still_relocated numbers all s number has is = elim (all s number has is) [
    | inl none ↦ inl none
    | inr there ↦ by_one (is_one_of gone number) refl there
  ]
    where
      by_one : (b : Bool) → is_one_of gone number ≡ b → Contains numbers number → (number ≡ 0) ⊎ Contains (filter (symbol_stays gone) numbers) number
      by_one true one there = inl (gone_zero number one s has is)
      by_one false other there = inr (passing_stays (symbol_stays gone) numbers number there (ap not other))

module _ (image : Image) (gone : List ℕ) (old left : EditedList) (h : IsEdited image) (behind : is_one_of gone 0 ≡ false) (is : left ≡ without_numbers gone old) where
  -- symbols for a link editor
  module _ (read : OfRead image (λ r. old.read ≡ r.symbols)) (numbers : old.numbers ≡ image.symbol_numbers) (symbols : old.symbols ≡ image.symbols)
      (unused : is_symbol_used image.form (table_number SHT_SYMTAB image) gone (staying [] image) ≡ false) where
    static_numbers : left.numbers ≡ numbers_left gone image.symbol_numbers
    static_numbers = ap (λ (e : EditedList). e.numbers) is ∙ ap (numbers_left gone) numbers

    pub static_put_without : IsStaticPutFor image left
    static_put_without = record {
      read = λ r is_read. ap (λ (e : EditedList). e.read) is ∙ read r is_read;
      there = subst (λ (ns : List ℕ). All (Contains image.symbol_numbers) ns) (sym static_numbers) (all_left gone image.symbol_numbers);
      first = λ some. ap (λ (ns : List ℕ). slice_get ns 0) static_numbers ∙ first_left (symbol_stays gone) image.symbol_numbers (static_first image h some) (ap not behind);
      relocated = subst (λ (ns : List ℕ). AreRelocated image (table_number SHT_SYMTAB image) ns) (sym static_numbers)
          (still_relocated image SHT_SYMTAB gone unused image.symbol_numbers h.is_edit.complete.static_relocated);
    }

    pub static_left : with_static_symbols left image ≡ without_symbols gone image
    static_left =
        let shown : left.symbols ≡ parts_left gone image.symbol_numbers image.symbols =
        ap (λ (e : EditedList). e.symbols) is ∙ ap (λ (ns : List ℕ). parts_left gone ns old.symbols) numbers ∙ ap (parts_left gone image.symbol_numbers) symbols in
        ap (λ (ys : List NamedSymbol). record image { changed = true; symbols = ys; symbol_numbers = left.numbers }) shown
        ∙ ap (λ (ns : List ℕ). record image { changed = true; symbols = parts_left gone image.symbol_numbers image.symbols; symbol_numbers = ns }) static_numbers

  -- symbols for a loader
  module _ (read : OfRead image (λ r. old.read ≡ r.dynamic_symbols)) (numbers : old.numbers ≡ image.dynamic_symbol_numbers) (symbols : old.symbols ≡ image.dynamic_symbols)
      (unused : is_symbol_used image.form (table_number SHT_DYNSYM image) gone (staying [] image) ≡ false) where
    dynamic_numbers : left.numbers ≡ numbers_left gone image.dynamic_symbol_numbers
    dynamic_numbers = ap (λ (e : EditedList). e.numbers) is ∙ ap (numbers_left gone) numbers

    pub dynamic_put_without : can_renumber image ≡ true → IsPutFor image left
    dynamic_put_without renumbers = record {
      read = λ r is_read. ap (λ (e : EditedList). e.read) is ∙ read r is_read;
      there = subst (λ (ns : List ℕ). All (Contains image.dynamic_symbol_numbers) ns) (sym dynamic_numbers) (all_left gone image.dynamic_symbol_numbers);
      first = λ some. ap (λ (ns : List ℕ). slice_get ns 0) dynamic_numbers ∙ first_left (symbol_stays gone) image.dynamic_symbol_numbers (dynamic_first image h some) (ap not behind);
      relocated = subst (λ (ns : List ℕ). AreRelocated image (table_number SHT_DYNSYM image) ns) (sym dynamic_numbers)
          (still_relocated image SHT_DYNSYM gone unused image.dynamic_symbol_numbers h.is_edit.complete.dynamic_relocated);
      names = λ _ _ _. renumbers;
    }

    pub dynamic_left : with_dynamic_symbols left image ≡ without_dynamic_symbols gone image
    dynamic_left =
        let shown : left.symbols ≡ parts_left gone image.dynamic_symbol_numbers image.dynamic_symbols =
        ap (λ (e : EditedList). e.symbols) is ∙ ap (λ (ns : List ℕ). parts_left gone ns old.symbols) numbers ∙ ap (parts_left gone image.dynamic_symbol_numbers) symbols in
        ap (λ (ys : List NamedSymbol). record image { changed = true; dynamic_symbols = ys; dynamic_symbol_numbers = left.numbers }) shown
        ∙ ap (λ (ns : List ℕ). record image { changed = true; dynamic_symbols = parts_left gone image.dynamic_symbol_numbers image.dynamic_symbols; dynamic_symbol_numbers = ns }) dynamic_numbers
