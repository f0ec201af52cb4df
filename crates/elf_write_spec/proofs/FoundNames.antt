-- The names of dynamic symbols as a loader sees them, and where each symbol stands, in a file that was read back.
use Rattle.std.proofs.Common.{◌≡◌, ℕ, Bool, true, false, ◌||◌, not, cond, List, [], ◌∷◌, map, refl, ap, ◌∙◌, inl, inr, Option, Some, None, Ok}
use Rattle.std.specs.Prelude.{if◌then◌else◌, ◌==◌, filter}
use Rattle.std.specs.List.{slice_get}
use Rattle.std.specs.Option.{option_map}
use Rattle.std.proofs.lemmas.Bool.{eqb-true, false≢true, or_cases}
use Rattle.std.proofs.lemmas.Option.{slice_get-map}
use Rattle.patch_bytes.specs.Memory.{◌>>=◌}
use Rattle.patch_bytes.proofs.MemoryLaws.{some_bind}
use Rattle.elf_format.specs.declared.constants.TheConstants.{DT_SYMTAB, DT_VERNEED, DT_VERNEEDNUM, DT_VERSYM}
use Rattle.elf_format.specs.Dynamic.{Entry}
use Rattle.elf_format.specs.Image.{Image, entry_tag, image_of, lists_tag, seen_symbol, shown, shown_if}
use Rattle.elf_format.specs.Options.{is_one_of, list_at}
use Rattle.elf_format.specs.Views.{NamedSymbol, dynamic_symbol_count, loader_view}
use Rattle.elf_format.proofs.ForCallers.ImageShows.{images_show}
use Rattle.elf_hashes.specs.Found.{AreNamesOf}
use Rattle.elf_layout_plan.specs.Needs.{are_needs_gone, written_entries}
use Rattle.elf_write_spec.specs.Look.{loader_name}

-- ## The dynamic list that is written

-- the entry isn't one of needed versions
abbrev is_lasting : Entry → Bool
is_lasting e = not (is_one_of (DT_VERNEED ∷ DT_VERNEEDNUM ∷ []) (entry_tag e))

-- without the tags of needed versions a list still names the symbols
symbols_listed : (es : List Entry) → lists_tag DT_SYMTAB es ≡ true → lists_tag DT_SYMTAB (filter is_lasting es) ≡ true
symbols_listed [] h = h
symbols_listed (e ∷ es) h = elim (or_cases (entry_tag e == DT_SYMTAB) (lists_tag DT_SYMTAB es) h) [
  | inl here ↦
      let stays : is_lasting e ≡ true =
      ap (λ (n : ℕ). not (is_one_of (DT_VERNEED ∷ DT_VERNEEDNUM ∷ []) n)) (eqb-true (entry_tag e) DT_SYMTAB here) in
      ap (λ (b : Bool). lists_tag DT_SYMTAB (cond b (e ∷ filter is_lasting es) (filter is_lasting es))) stays
      ∙ ap (λ (b : Bool). b || lists_tag DT_SYMTAB (filter is_lasting es)) here
  | inr later ↦ by_test (is_lasting e) (entry_tag e == DT_SYMTAB) (symbols_listed es later)
]
  where
    by_test : (b c : Bool) → lists_tag DT_SYMTAB (filter is_lasting es) ≡ true
        → lists_tag DT_SYMTAB (cond b (e ∷ filter is_lasting es) (filter is_lasting es)) ≡ true
    by_test true c rest = or_right (entry_tag e == DT_SYMTAB) (lists_tag DT_SYMTAB (filter is_lasting es)) rest
      where
        or_right : (x y : Bool) → y ≡ true → (x || y) ≡ true
        or_right true y k = refl
        or_right false y k = k
    by_test false c rest = rest

-- the list that is written names the symbols where the image's does
pub entries_listed : (read image : Image) → lists_tag DT_SYMTAB (list_at (λ es. es) image.entries) ≡ true
    → (es : List Entry) × (written_entries read image ≡ Some es) × (lists_tag DT_SYMTAB es ≡ true)
unfolding written_entries
entries_listed read image h = by_list image.entries h (are_needs_gone read image)
  where
    by_list : (o : Option (List Entry)) → lists_tag DT_SYMTAB (list_at (λ es. es) o) ≡ true → (gone : Bool)
        → (es : List Entry)
        × ((if gone then option_map (λ entries. filter (λ e. not (is_one_of (DT_VERNEED ∷ DT_VERNEEDNUM ∷ []) (entry_tag e))) entries) o else o) ≡ Some es)
        × (lists_tag DT_SYMTAB es ≡ true)
    by_list None k gone = absurd (false≢true k)
    by_list (Some es) k true = (filter is_lasting es, refl, symbols_listed es k)
    by_list (Some es) k false = (es, refl, k)

-- ## What a loader sees of a file whose dynamic list names the symbols

-- a loader sees each symbol by its name
pub names_are_seen : (file : List ℕ) (again : Image) → image_of file ≡ Ok again → (es : List Entry) → again.entries ≡ Some es
    → lists_tag DT_SYMTAB es ≡ true → AreNamesOf again.dynamic_symbols (loader_name file)
names_are_seen file again read es listed names i y at =
    let seen : NamedSymbol → NamedSymbol = seen_symbol (lists_tag DT_VERSYM es) in
    let name_in : List NamedSymbol → Option (List ℕ) = λ ys. slice_get ys i >>= λ z. Some z.name in
    let symbols : (shown again).symbols ≡ Some (map seen again.dynamic_symbols) =
    some_bind again.entries (λ l. shown_if (lists_tag DT_SYMTAB l) (map (seen_symbol (lists_tag DT_VERSYM l)) again.dynamic_symbols)) es listed
    ∙ ap (λ (b : Bool). shown_if b (map seen again.dynamic_symbols)) names in
    some_bind (loader_view file (dynamic_symbol_count file)) (λ v. v.symbols >>= name_in) (shown again) (images_show.by_loader file again read)
    ∙ some_bind (shown again).symbols name_in (map seen again.dynamic_symbols) symbols
    ∙ ap (λ (o : Option NamedSymbol). o >>= λ z. Some z.name) (slice_get-map seen again.dynamic_symbols i ∙ ap (option_map seen) at)
