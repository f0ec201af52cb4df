-- What is held, seen as an edited list, and what edits make of it.
use Rattle.std.proofs.Common.{◌≡◌, ◌≢◌, ◌↔◌, ℕ, ◌<◌, List, [], length, map, filter, get_or, map-id, refl, sym, ap, ◌∙◌, subst, inl, Some, arith}
use Rattle.std.specs.Prelude.{insert, option_map, remove, slice_get}
use Rattle.std.specs.List.{All}
use Rattle.std.proofs.lemmas.List.{get_or-map, length-map}
use Rattle.std.proofs.lemmas.Option.{get_or_from_slice_get, slice_get-map, slice_get_within}
use Rattle.elf_format.specs.Image.{counted}
use Rattle.elf_format.specs.Views.{NamedSymbol}
use Rattle.elf_image_symbols.proofs.ForCallers.Lengths.{length-counted}
use Rattle.elf_image_symbols.specs.declared.change.Change.{Change}
use Rattle.elf_image_symbols.specs.declared.edited_symbols.EditedSymbols.TheInside.{Inside}
use Rattle.elf_image_symbols.specs.Changes.{AreChanges, HasName, IsGapFor, IsPlaceOf, Leaves, changed_by, number_of, read_at, symbol_now}
use Rattle.elf_image_symbols.specs.EditedList.{ArePicked, EditedList, IsEditedSymbol, as_read, changed_at, stays, without_numbers}
use Rattle.elf_image_symbols.specs.EditedModel.{AreInOrder, edited_list, numbers_of}
use Rattle.elf_image_symbols.specs.Rising.{AreRising}
use Rattle.elf_image_symbols.proofs.ListLaws.{All-changed_at, All-insert, items_where_true-map, map-changed_at, map-remove}
use Rattle.elf_image_symbols.proofs.RisingLaws.{map-but_one, rising_at, rising_ordered, rising_there, rising_whole}
use Rattle.elf_image_symbols.proofs.ChangeLaws.{rising_insert}
use Rattle.elf_image_symbols.proofs.SymbolLaws.{all_from_each, all_leave, each_from_all, each_left, is_edited, now-changed_here, now-changed_other, now-none, read_there}

-- ## The changes

-- a change of a symbol that has none is put in
pub are_inserted : (read : List NamedSymbol) (cs : List Change) (c : Change) (k : ℕ) → c.number < length read → IsGapFor cs c.number k → c.name.bytes ≡ (read_at read c.number).name → AreChanges read cs → AreChanges read (insert cs k c)
are_inserted read cs c k below gap named are = record {
  rising = rising_insert 0 (length read) cs c k are.rising (omega arith) below gap.within gap.before gap.behind;
  named = All-insert (HasName read) cs k c (inl named) are.named;
}

-- a change is changed, and keeps its number
pub are_changed : (f : Change → Change) (read : List NamedSymbol) (cs new : List Change) (k : ℕ) → ((c : Change) → number_of (f c) ≡ number_of c) → ((c : Change) → HasName read c → HasName read (f c))
    → AreChanges read cs → new ≡ changed_at k f cs → AreChanges read new
are_changed f read cs new k keeps named are is = subst (AreChanges read) (sym is) (record {
  rising = subst (AreRising 0 (length read)) (sym (map-changed_at number_of f keeps k cs)) are.rising;
  named = All-changed_at (HasName read) f named k cs are.named;
})

-- ## What is held

-- an edited list of these parts
abbrev pub list_of : List NamedSymbol → List ℕ → List NamedSymbol → EditedList
list_of read numbers symbols = record { read = read; numbers = numbers; symbols = symbols }

module _ (s : Inside) (ok : AreInOrder s) where
  pub numbers_rise : AreRising 0 (length s.table) (numbers_of s)
  numbers_rise = rising_there s.are_all (length s.table) s.kept.items ok.kept

  pub are_picked : ArePicked (edited_list s)
  are_picked = record {
    numbered = sym (length-map (numbers_of s) (symbol_now s.table s.changes.items));
    rising = λ i j before less. rising_ordered 0 (length s.table) (numbers_of s) i j numbers_rise before less;
    edited = λ i y at.
        let now : ℕ → NamedSymbol = symbol_now s.table s.changes.items in
        let n : ℕ = get_or (numbers_of s) i 0 in
        let there : i < length (numbers_of s) = omega (arith, slice_get_within (map now (numbers_of s)) i y at, length-map (numbers_of s) now) in
        let below = rising_at 0 (length s.table) (numbers_of s) i numbers_rise there in
        let is : now n ≡ y = sym (get_or-map now (numbers_of s) i 0 y there) ∙ get_or_from_slice_get (map now (numbers_of s)) i y y at in
        (read_at s.table n, read_there s.table n below.1, subst (IsEditedSymbol (read_at s.table n)) is (is_edited s.table s.changes.items n ok.changes.named));
  }

  -- all symbols are there where there are as many as were read
  pub all_there : length (numbers_of s) ≡ length s.table → numbers_of s ≡ counted (length s.table)
  all_there long = rising_whole (length s.table) (numbers_of s) numbers_rise long

  -- what is known of the list that the symbols show
  module _ (e : EditedList) (seen : edited_list s ≡ e) where
    pub length-symbols : length e.symbols ≡ length (numbers_of s)
    length-symbols = sym (ap (λ (l : EditedList). length l.symbols) seen) ∙ length-map (numbers_of s) (symbol_now s.table s.changes.items)

    pub number_is : (i n : ℕ) → slice_get e.numbers i ≡ Some n → slice_get (numbers_of s) i ≡ Some n
    number_is i n at = subst (λ (l : EditedList). slice_get l.numbers i ≡ Some n) (sym seen) at

    pub number_below : (i n : ℕ) → slice_get e.numbers i ≡ Some n → n < length s.table
    number_below i n at =
        let there = number_is i n at in
        let bounds = rising_at 0 (length s.table) (numbers_of s) i numbers_rise (slice_get_within (numbers_of s) i n there) in
        omega (arith, bounds.1, get_or_from_slice_get (numbers_of s) i n 0 there)

    -- the symbol at the position of a number
    pub symbol_is : (i n : ℕ) → slice_get e.numbers i ≡ Some n → slice_get e.symbols i ≡ Some (symbol_now s.table s.changes.items n)
    symbol_is i n at =
        let now : ℕ → NamedSymbol = symbol_now s.table s.changes.items in
        sym (ap (λ (l : EditedList). slice_get l.symbols i) seen) ∙ slice_get-map now (numbers_of s) i ∙ ap (option_map now) (number_is i n at)

    -- what an edit of one symbol makes of them
    pub edited_at : (i n : ℕ) (h : NamedSymbol → NamedSymbol) (new : List Change) → slice_get e.numbers i ≡ Some n
        → ((m : ℕ) → m ≢ n → symbol_now s.table new m ≡ symbol_now s.table s.changes.items m) → symbol_now s.table new n ≡ h (symbol_now s.table s.changes.items n)
        → list_of s.table (numbers_of s) (map (symbol_now s.table new) (numbers_of s)) ≡ record e { symbols = changed_at i h e.symbols }
    edited_at i n h new at others here =
        let there = number_is i n at in
        let is : get_or (numbers_of s) i 0 ≡ n = get_or_from_slice_get (numbers_of s) i n 0 there in
        let old : ℕ → NamedSymbol = symbol_now s.table s.changes.items in
        let now : ℕ → NamedSymbol = symbol_now s.table new in
        subst (λ (l : EditedList). list_of s.table (numbers_of s) (map now (numbers_of s)) ≡ record l { symbols = changed_at i h l.symbols }) seen
        (ap (λ (ys : List NamedSymbol). record (edited_list s) { symbols = ys })
        (map-but_one old now h 0 (length s.table) (numbers_of s) i numbers_rise (slice_get_within (numbers_of s) i n there)
        (λ m other. others m (λ (same : m ≡ n). other (same ∙ sym is))) (subst (λ (k : ℕ). now k ≡ h (old k)) (sym is) here)))

    -- what an edit of one symbol's change makes of the list
    pub edited_by : (f : Change → Change) (h : NamedSymbol → NamedSymbol) → ((c : Change) → number_of (f c) ≡ number_of c) → ((c : Change) (y : NamedSymbol) → changed_by (f c) y ≡ h (changed_by c y))
        → (i n k : ℕ) (touched new : List Change) → slice_get e.numbers i ≡ Some n → IsPlaceOf touched n k → ((m : ℕ) → symbol_now s.table touched m ≡ symbol_now s.table s.changes.items m)
        → new ≡ changed_at k f touched
        → list_of s.table (numbers_of s) (map (symbol_now s.table new) (numbers_of s)) ≡ record e { symbols = changed_at i h e.symbols }
    edited_by f h keeps makes i n k touched new at place same is =
        edited_at i n h new at
        (λ m other. ap (λ (l : List Change). symbol_now s.table l m) is ∙ now-changed_other f h keeps makes s.table touched n k m place other ∙ same m)
        (ap (λ (l : List Change). symbol_now s.table l n) is ∙ now-changed_here f h keeps makes s.table touched n k place ∙ ap h (same n))

    -- what is left where one goes
    pub deleted_at : (i : ℕ) (new : List ℕ) → new ≡ remove (numbers_of s) i
        → list_of s.table new (map (symbol_now s.table s.changes.items) new) ≡ record e { numbers = remove e.numbers i; symbols = remove e.symbols i }
    deleted_at i new is =
        let now : ℕ → NamedSymbol = symbol_now s.table s.changes.items in
        ap (λ (ns : List ℕ). list_of s.table ns (map now ns)) is ∙ ap (list_of s.table (remove (numbers_of s) i)) (map-remove now (numbers_of s) i)
        ∙ ap (λ (l : EditedList). record l { numbers = remove l.numbers i; symbols = remove l.symbols i }) seen

    -- what is left where all symbols of some numbers go
    pub deleted_all : (gone new : List ℕ) → new ≡ filter (stays gone) (numbers_of s)
        → list_of s.table new (map (symbol_now s.table s.changes.items) new) ≡ without_numbers gone e
    deleted_all gone new is =
        let now : ℕ → NamedSymbol = symbol_now s.table s.changes.items in
        ap (λ (ns : List ℕ). list_of s.table ns (map now ns)) is ∙ ap (list_of s.table (filter (stays gone) (numbers_of s))) (sym (items_where_true-map (stays gone) now (numbers_of s)))
        ∙ ap (without_numbers gone) seen

    -- a part of all symbols is what was read where all are there, and each change leaves it
    pub keeps_part : {A : Type 0} (part : NamedSymbol → A) → numbers_of s ≡ counted (length s.table) → All (Leaves part s.table) s.changes.items ↔ (map part e.symbols ≡ map part e.read)
    keeps_part part whole =
        let now : ℕ → NamedSymbol = symbol_now s.table s.changes.items in
        let shown : map part e.symbols ≡ map part (map now (counted (length s.table))) =
        sym (ap (λ (l : EditedList). map part l.symbols) seen) ∙ ap (λ (ns : List ℕ). map part (map now ns)) whole in
        let was : map part e.read ≡ map part s.table = sym (ap (λ (l : EditedList). map part l.read) seen) in (
          λ all. shown ∙ all_from_each part s.table now (λ m less. each_left part s.table s.changes.items all m) ∙ sym was,
          λ same. all_leave part s.table s.changes.items ok.changes.rising (each_from_all part s.table now (sym shown ∙ same ∙ was)),
        )

    -- all symbols are there where there are as many as were read
    pub numbers_whole : length e.numbers ≡ length s.table → e.numbers ≡ counted (length e.read)
    numbers_whole long =
        sym (ap (λ (l : EditedList). l.numbers) seen) ∙ all_there (ap (λ (l : EditedList). length l.numbers) seen ∙ long) ∙ ap (λ (l : EditedList). counted (length l.read)) seen

    -- as many symbols are there where all are there
    pub whole_long : e.numbers ≡ counted (length e.read) → length e.numbers ≡ length s.table
    whole_long whole =
        ap (λ (l : List ℕ). length l) whole ∙ length-counted (length e.read) ∙ sym (ap (λ (l : EditedList). length l.read) seen)

    pub whole_is : e.numbers ≡ counted (length e.read) → numbers_of s ≡ counted (length s.table)
    whole_is whole = ap (λ (l : EditedList). l.numbers) seen ∙ whole ∙ ap (λ (l : EditedList). counted (length l.read)) (sym seen)

-- symbols without changes, all there
pub read_shown : (table : List NamedSymbol) (changes : List Change) → changes ≡ []
    → list_of table (counted (length table)) (map (symbol_now table changes) (counted (length table))) ≡ as_read table
read_shown table changes none =
    let now : ℕ → NamedSymbol = symbol_now table [] in
    ap (λ (cs : List Change). list_of table (counted (length table)) (map (symbol_now table cs) (counted (length table)))) none
    ∙ ap (list_of table (counted (length table)))
    (sym (map-id (map now (counted (length table)))) ∙ all_from_each (λ (y : NamedSymbol). y) table now (λ m less. now-none table [] m refl) ∙ map-id table)
