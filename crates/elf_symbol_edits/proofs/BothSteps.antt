-- Symbols of both lists: the dynamic ones are made first, and put in place last.
use Rattle.std.proofs.Common.{◌≡◌, ℕ, Bool, true, false, List, [], ◌∷◌, map, drop, refl, sym, ap, ◌∙◌, subst, is_some, Option, Some, None}
use Rattle.std.specs.Prelude.{◌||◌, IfSome, if◌then◌else◌}
use Rattle.std.specs.List.{list_any}
use Rattle.elf_format.specs.Image.{Image}
use Rattle.elf_format.specs.Views.{NamedSymbol}
use Rattle.elf_image_symbols.specs.EditedList.{EditedList}
use Rattle.elf_image.specs.Deleted.{numbers_left, parts_left}
use Rattle.elf_image.specs.Edited.{IsEdited}
use Rattle.elf_image.specs.Renumbering.{can_renumber}
use Rattle.elf_image.specs.SymbolEdits.{IsPutFor, with_dynamic_symbols}
use Rattle.elf_image.specs.SymbolsRead.{OfRead}
use Rattle.elf_image.proofs.ForCallers.SymbolsKept.{put_of_all}
use Rattle.elf_edits.specs.Cause.{fixed_names}
use Rattle.elf_edits.specs.Edit.{RenameDynamicSymbols}
use Rattle.elf_edits.specs.SymbolChanges.{AreSymbolsAfter}
use Rattle.elf_edits.specs.Symbols.{behind_first, has_new_name, name_of_symbol, names_behind_first, renamed}
use Rattle.elf_edits.specs.Texts.{has_some}
use Rattle.elf_edits.proofs.ForCallers.{symbols_untouched}
use Rattle.elf_symbol_edits.specs.EditModel.{IsDone}
use Rattle.elf_symbol_edits.specs.Steps.{AreAllGone, AreDynamicLeft, AreGone, with_dynamic_put}
use Rattle.elf_symbol_edits.specs.SymbolEdit.{RenameAllSymbols, RenameSymbols, touches, without_dynamic_symbols, without_symbols, written}
use Rattle.elf_symbol_edits.proofs.ByNameLaws.{none_left_out}

-- ## The dynamic symbols may still be put in place

-- an image with other static symbols, where some changed
abbrev with_static : Bool → List NamedSymbol → List ℕ → Image → Image
with_static b symbols numbers image = if b then record image { changed = true; symbols = symbols; symbol_numbers = numbers } else image

still_put : (b : Bool) (symbols : List NamedSymbol) (numbers : List ℕ) (image : Image) (o : Option EditedList) → IfSome o (IsPutFor image) → IfSome o (IsPutFor (with_static b symbols numbers image))
still_put false symbols numbers image o h = h
still_put true symbols numbers image None h = tt
still_put true symbols numbers image (Some left) h = record { read = h.read; there = h.there; first = h.first; relocated = h.relocated; names = h.names }

-- ## Other names

any_named : (test : List ℕ → Bool) (ys : List NamedSymbol) → list_any test (map name_of_symbol ys) ≡ list_any (λ y. test y.name) ys
any_named test [] = refl
any_named test (y ∷ ys) = ap (λ b. test y.name || b) (any_named test ys)

module _ (pairs : List (List ℕ × List ℕ)) (image : Image) where
  abbrev is_static : Bool
  is_static = touches (RenameSymbols pairs) image

  abbrev is_dynamic : Bool
  is_dynamic = list_any (λ y. has_new_name pairs y.name) (drop 1 image.dynamic_symbols)

  -- where a dynamic symbol is to have another name and no name has to stay, all can change
  can_follow : list_any (has_new_name pairs) (fixed_names image) ≡ false → is_dynamic ≡ true → can_renumber image ≡ true
  can_follow free found = by_test (can_renumber image) refl
    where
      by_test : (b : Bool) → can_renumber image ≡ b → can_renumber image ≡ true
      by_test true e = e
      by_test false e =
          let none : is_dynamic ≡ false =
          sym (any_named (has_new_name pairs) (drop 1 image.dynamic_symbols))
          ∙ ap (λ (b : Bool). list_any (has_new_name pairs) (if b then [] else names_behind_first image.dynamic_symbols)) (sym e) ∙ free in
          let both : false ≡ true = sym none ∙ found in
          absurd (cc)

  pub renamed_put : (now : Image) (old : EditedList) (made : Option EditedList) → IsEdited image → list_any (has_new_name pairs) (fixed_names image) ≡ false
      → OfRead image (λ read. old.read ≡ read.dynamic_symbols) → old.numbers ≡ image.dynamic_symbol_numbers → old.symbols ≡ image.dynamic_symbols
      → AreSymbolsAfter (RenameDynamicSymbols pairs) old made → now ≡ (if is_static then written (RenameSymbols pairs) image else image) → IfSome made (IsPutFor now)
  renamed_put now old made h free read numbers symbols after is =
      subst (λ (x : Image). IfSome made (IsPutFor x)) (sym is) (still_put is_static (behind_first (renamed pairs) image.symbols) image.symbol_numbers image made (first made after))
    where
      first : (o : Option EditedList) → AreSymbolsAfter (RenameDynamicSymbols pairs) old o → IfSome o (IsPutFor image)
      first None none = tt
      first (Some new) some =
          put_of_all image new h (λ r is_read. ap (λ (e : EditedList). e.read) some.1 ∙ read r is_read) (ap (λ (e : EditedList). e.numbers) some.1 ∙ numbers)
          (λ _ _ _. can_follow free (ap (λ (ys : List NamedSymbol). list_any (λ y. has_new_name pairs y.name) (drop 1 ys)) (sym symbols) ∙ some.0))

  -- an image with other names of its dynamic symbols
  abbrev with_dynamic_named : Image → Image
  with_dynamic_named x = record x { changed = true; dynamic_symbols = behind_first (renamed pairs) image.dynamic_symbols; dynamic_symbol_numbers = image.dynamic_symbol_numbers }

  dynamic_named : (now : Image) (old : EditedList) (made : Option EditedList) → old.numbers ≡ image.dynamic_symbol_numbers → old.symbols ≡ image.dynamic_symbols
      → AreSymbolsAfter (RenameDynamicSymbols pairs) old made → (is_some made ≡ is_dynamic) × (with_dynamic_put made now ≡ (if is_dynamic then with_dynamic_named now else now))
  dynamic_named now old None numbers symbols after =
      let none : is_dynamic ≡ false = ap (λ (ys : List NamedSymbol). list_any (λ y. has_new_name pairs y.name) (drop 1 ys)) (sym symbols) ∙ after in
      (sym none, sym (ap (λ (b : Bool). if b then with_dynamic_named now else now) none))
  dynamic_named now old (Some made) numbers symbols after =
      let some : is_dynamic ≡ true = ap (λ (ys : List NamedSymbol). list_any (λ y. has_new_name pairs y.name) (drop 1 ys)) (sym symbols) ∙ after.0 in (
        sym some,
        ap (λ (e : EditedList). with_dynamic_symbols e now) after.1
            ∙ ap (λ (ys : List NamedSymbol). record now { changed = true; dynamic_symbols = behind_first (renamed pairs) ys; dynamic_symbol_numbers = old.numbers }) symbols
            ∙ ap (λ (ns : List ℕ). record now { changed = true; dynamic_symbols = behind_first (renamed pairs) image.dynamic_symbols; dynamic_symbol_numbers = ns }) numbers
            ∙ sym (ap (λ (b : Bool). if b then with_dynamic_named now else now) some),
      )

  -- one list after the other is both at once
  both_named : (a b : Bool) → is_static ≡ a → is_dynamic ≡ b
      → (if b then with_dynamic_named (if a then written (RenameSymbols pairs) image else image) else (if a then written (RenameSymbols pairs) image else image))
      ≡ (if a || b then written (RenameAllSymbols pairs) image else image)
  both_named true true e f = refl
  both_named true false e f =
      ap (λ (ys : List NamedSymbol). record image { changed = true; symbols = behind_first (renamed pairs) image.symbols; dynamic_symbols = ys })
      (sym (symbols_untouched (RenameDynamicSymbols pairs) image.dynamic_symbols f))
  both_named false true e f =
      ap (λ (ys : List NamedSymbol). record image { changed = true; symbols = ys; dynamic_symbols = behind_first (renamed pairs) image.dynamic_symbols })
      (sym (symbols_untouched (RenameDynamicSymbols pairs) image.symbols e))
  both_named false false e f = refl

  pub all_renamed : (now new : Image) (old : EditedList) (made : Option EditedList) (here there : Bool) → old.numbers ≡ image.dynamic_symbol_numbers → old.symbols ≡ image.dynamic_symbols
      → AreSymbolsAfter (RenameDynamicSymbols pairs) old made → IsDone (RenameSymbols pairs) image now here → there ≡ is_some made → new ≡ with_dynamic_put made now
      → IsDone (RenameAllSymbols pairs) image new (here || there)
  all_renamed now new old made here there numbers symbols after static told put =
      let (found, named) = dynamic_named now old made numbers symbols after in
      record {
        told = ap (λ (b : Bool). b || there) static.told ∙ ap (λ (b : Bool). is_static || b) (told ∙ found);
        made =
            put ∙ named ∙ ap (λ (x : Image). if is_dynamic then with_dynamic_named x else x) static.made
            ∙ both_named is_static is_dynamic refl refl;
      }

-- ## Fewer symbols

all_numbers : (ns : List ℕ) → numbers_left [] ns ≡ ns
all_numbers [] = refl
all_numbers (n ∷ ns) = ap (λ l. n ∷ l) (all_numbers ns)

module _ (image : Image) (gone dynamic_gone : List ℕ) where
  -- an image without some of its static symbols, where some go
  abbrev some_left : Image
  some_left = if has_some gone then without_symbols gone image else image

  pub left_put : (now : Image) (left : Option EditedList) → AreDynamicLeft dynamic_gone image left → now ≡ some_left → IfSome left (IsPutFor now)
  left_put now left all is =
      subst (λ (x : Image). IfSome left (IsPutFor x)) (sym is) (still_put (has_some gone) (parts_left gone image.symbol_numbers image.symbols) (numbers_left gone image.symbol_numbers) image left (first left all))
    where
      first : (o : Option EditedList) → AreDynamicLeft dynamic_gone image o → IfSome o (IsPutFor image)
      first None none = tt
      first (Some l) some = some.1

  left_after : (b : Bool) (left : EditedList) → with_dynamic_symbols left image ≡ without_dynamic_symbols dynamic_gone image
      → with_dynamic_symbols left (if b then without_symbols gone image else image) ≡ without_dynamic_symbols dynamic_gone (if b then without_symbols gone image else image)
  left_after true left same =
      ap (λ (x : Image). record (without_symbols gone image) { changed = true; dynamic_symbols = x.dynamic_symbols; dynamic_symbol_numbers = x.dynamic_symbol_numbers }) same
  left_after false left same = same

  dynamic_left : (left : Option EditedList) → AreDynamicLeft dynamic_gone image left
      → (is_some left ≡ has_some dynamic_gone) × (with_dynamic_put left some_left ≡ (if has_some dynamic_gone then without_dynamic_symbols dynamic_gone some_left else some_left))
  dynamic_left None none = (sym none, sym (ap (λ (b : Bool). if b then without_dynamic_symbols dynamic_gone some_left else some_left) none))
  dynamic_left (Some left) some = (
    sym some.0,
    left_after (has_some gone) left some.2 ∙ sym (ap (λ (b : Bool). if b then without_dynamic_symbols dynamic_gone some_left else some_left) some.0),
  )

-- one list after the other is both at once
both_left : (image : Image) (h : IsEdited image) (gone dynamic_gone : List ℕ)
    → (if has_some dynamic_gone then without_dynamic_symbols dynamic_gone (some_left image gone dynamic_gone) else some_left image gone dynamic_gone)
    ≡ (if has_some gone || has_some dynamic_gone then without_dynamic_symbols dynamic_gone (without_symbols gone image) else image)
both_left image h [] [] = refl
both_left image h (m ∷ ms) (n ∷ ns) = refl
both_left image h (m ∷ ms) [] =
    ap (λ (ys : List NamedSymbol). record (without_symbols (m ∷ ms) image) { dynamic_symbols = ys }) (sym (none_left_out image.dynamic_symbol_numbers image.dynamic_symbols h.is_edit.dynamic_symbols.numbered))
    ∙ ap (λ (ns : List ℕ). record (without_symbols (m ∷ ms) image) { dynamic_symbols = parts_left [] image.dynamic_symbol_numbers image.dynamic_symbols; dynamic_symbol_numbers = ns })
    (sym (all_numbers image.dynamic_symbol_numbers))
both_left image h [] (n ∷ ns) =
    ap (λ (ys : List NamedSymbol). record (without_dynamic_symbols (n ∷ ns) image) { symbols = ys }) (sym (none_left_out image.symbol_numbers image.symbols h.is_edit.symbols.numbered))
    ∙ ap (λ (ms : List ℕ). record (without_dynamic_symbols (n ∷ ns) image) { symbols = parts_left [] image.symbol_numbers image.symbols; symbol_numbers = ms })
    (sym (all_numbers image.symbol_numbers))

pub all_gone : (image now new : Image) (gone dynamic_gone : List ℕ) (left : Option EditedList) (here there : Bool) → IsEdited image → AreDynamicLeft dynamic_gone image left → AreGone gone image now here
    → there ≡ is_some left → new ≡ with_dynamic_put left now → AreAllGone gone dynamic_gone image new (here || there)
all_gone image now new gone dynamic_gone left here there h all static told put =
    let (found, made) = dynamic_left image gone dynamic_gone left all in
    record {
      told = ap (λ (b : Bool). b || there) static.told ∙ ap (λ (b : Bool). has_some gone || b) (told ∙ found);
      made = put ∙ ap (with_dynamic_put left) static.made ∙ made ∙ both_left image h gone dynamic_gone;
    }
