-- Sections that can go leave an image that was read and edited.
use Rattle.std.proofs.Common.{◌≡◌, ℕ, zero, suc, ◌<◌, Bool, true, false, cond, List, [], ◌∷◌, length, map, filter, get_or, refl, sym, ap, ◌∙◌, inl, inr, subst, Option, Some, None, arith}
use Rattle.std.specs.Prelude.{◌==◌, ◌&&◌, ◌||◌, ◌⊎◌, All, Contains, IsSome, drop, find, if◌then◌else◌, is_some, nat_le, not, slice_index}
use Rattle.std.specs.List.{items_where_true, list_any, slice_get, zip}
use Rattle.std.specs.Option.{option_map}
use Rattle.std.proofs.lemmas.Bool.{and_from, and_parts, eqb-true, false_from_ne_true, false≢true, ne_eqb, not-true, not_from_false, or_parts, or_right, true≢false}
use Rattle.std.proofs.lemmas.List.Elements.{Contains-get_or}
use Rattle.std.proofs.lemmas.Option.{get_or_from_slice_get, none-some, same_Some, slice_get-get_or, slice_get_within}
use Rattle.patch_bytes.specs.Memory.{◌>>=◌}
use Rattle.elf_format.specs.declared.constants.TheConstants.{PT_INTERP, SHN_LORESERVE, SHT_DYNAMIC, SHT_DYNSYM, SHT_GNU_HASH, SHT_HASH, SHT_SYMTAB}
use Rattle.elf_format.specs.declared.header.Header.{Header}
use Rattle.elf_format.specs.declared.records.SegmentHeader.{SegmentHeader}
use Rattle.elf_format.specs.File.{segment_of_type}
use Rattle.elf_format.specs.Image.{Image, ImageSection, counted}
use Rattle.elf_format.specs.Options.{first_there, is_one_of, is_some_and}
use Rattle.elf_format.specs.Views.{NamedSymbol}
use Rattle.elf_image_symbols.specs.Changes.{no_symbol}
use Rattle.elf_image_symbols.specs.EditedList.{EditedList, without_numbers}
use Rattle.elf_image.specs.Along.{goes_along, symbols_along}
use Rattle.elf_image.specs.Complete.{AreRelocated, IsFirstThere, has_section}
use Rattle.elf_image.specs.Deleted.{CanDelete, does_interpreter_go, is_left, numbers_left, parts_left, segments_left, with_deleted, without_sections}
use Rattle.elf_image.specs.Edited.{ArePicked, IsEdited, IsInterpreterOf}
use Rattle.elf_image.specs.Kept.{KeptSection, dynamic_strings_number, interpreter_number, kept_at_number, kept_of_type, kept_sections, link_of_type, stands_as_interpreter}
use Rattle.elf_image.specs.Needed.{is_lasting, lasting_types, names_section}
use Rattle.elf_image.specs.Relocated.{are_relocations, is_against, names_symbol}
use Rattle.elf_image.specs.Staying.{goes, going, staying, stays, table_number}
use Rattle.elf_image.proofs.EditedLaws.{read_itself}
use Rattle.elf_image.proofs.ListsLeft.{contained_by, contains_map, filter_picks, found_some, found_there, left_was, none_passes, number_there, one_of_there, passing_stays, picked_at, picked_long, picked_place, picked_rises}
use Rattle.elf_image.proofs.ReadComplete.{find_contained}
use Rattle.elf_image.proofs.ReadSingles.{few_interpreters, only_table, sections_counted}
use Rattle.elf_image.proofs.SectionsLeft.{AreSectionsLeft, Unnamed, both_some, first_stays, nameless, none_now, number_stays, same_read, section_read, section_was, sections_left, table_stays, type_stays, unnamed}
use Rattle.elf_image.proofs.SegmentsLeft.{interpreter_gone, interpreter_of_read, interpreter_stays, segments_without}
use Rattle.elf_image.proofs.TablesLeft.{relocated_left, renumbers_left}
use Rattle.elf_image.proofs.SymbolsDeleted.{unused_zero}
use Rattle.elf_image.proofs.SymbolsKept.{all_behind, behind_at}

-- ## Parts that are left

-- the number at a place is the one that was at the place from where it was picked
number_picked : (bs : List Bool) (ns : List ℕ) (i : ℕ) → i < length (items_where_true bs ns) → (slice_index (items_where_true bs ns) i ≡ slice_index ns (picked_place bs i)) × (picked_place bs i < length ns)
number_picked bs ns i less =
    let n : ℕ = get_or (items_where_true bs ns) i 0 in
    let at = picked_at bs ns i n (slice_get-get_or (items_where_true bs ns) i 0 less) in
    (sym (get_or_from_slice_get ns (picked_place bs i) n 0 at), slice_get_within ns (picked_place bs i) n at)

picked_some : {A : Type 0} {IsSame : A → A → Type 0} (read : List A) (ns : List ℕ) (now : List A) (bs : List Bool) → ArePicked IsSame read ns now
    → ArePicked IsSame read (items_where_true bs ns) (items_where_true bs now)
picked_some read ns now bs h = record {
  numbered = picked_long bs ns now h.numbered;
  rising = λ i j before less.
      let second = number_picked bs ns j less in
      let first = number_picked bs ns i (omega (arith, before, less)) in
      let rises = h.rising (picked_place bs i) (picked_place bs j) (picked_rises bs i j before) second.1 in
      omega (arith, first.0, second.0, rises);
  same = λ i x at.
      let less : i < length (items_where_true bs ns) = omega (arith, slice_get_within (items_where_true bs now) i x at, picked_long bs ns now h.numbered) in
      let (old, was, is) = h.same (picked_place bs i) x (picked_at bs now i x at) in
      (old, ap (slice_get read) (number_picked bs ns i less).0 ∙ was, is);
}

pub picked_left : {A : Type 0} {IsSame : A → A → Type 0} (read : List A) (gone ns : List ℕ) (now : List A) → ArePicked IsSame read ns now
    → ArePicked IsSame read (numbers_left gone ns) (parts_left gone ns now)
picked_left {A} {IsSame} read gone ns now h =
    subst (λ (l : List ℕ). ArePicked IsSame read l (parts_left gone ns now)) (sym (filter_picks (is_left gone) ns)) (picked_some read ns now (map (is_left gone) ns) h)

first_left : (keep : ℕ → Bool) (ns : List ℕ) → slice_get ns 0 ≡ Some 0 → keep 0 ≡ true → slice_get (filter keep ns) 0 ≡ Some 0
first_left keep [] at stays = absurd (none-some 0 at)
first_left keep (n ∷ ns) at stays =
    ap (λ (b : Bool). slice_get (cond b (n ∷ filter keep ns) (filter keep ns)) 0) (ap keep (same_Some n 0 at) ∙ stays) ∙ at

none_left : (keep : ℕ → Bool) (ns : List ℕ) → ((n : ℕ) → Contains ns n → keep n ≡ false) → filter keep ns ≡ []
none_left keep ns fails = by_list (filter keep ns) refl
  where
    by_list : (l : List ℕ) → filter keep ns ≡ l → l ≡ []
    by_list [] is = refl
    by_list (n ∷ l) is =
        let was = left_was keep ns n (subst (λ (k : List ℕ). Contains k n) (sym is) (0, omega arith, refl)) in
        absurd (true≢false (sym was.1 ∙ fails n was.0))

not_false : (b : Bool) → not b ≡ false → b ≡ true
not_false true h = refl
not_false false h = absurd (true≢false h)

no_length : {A : Type 0} (xs : List A) → length xs ≡ 0 → xs ≡ []
no_length [] h = refl
no_length (x ∷ xs) h = absurd (omega (arith, h))

-- two elements at one place stand together in the pairs
zip_has : {A B : Type 0} (xs : List A) (ys : List B) (i : ℕ) (x : A) (y : B) → slice_get xs i ≡ Some x → slice_get ys i ≡ Some y → (k : ℕ) × (k < length (zip xs ys)) × (slice_get (zip xs ys) k ≡ Some (x, y))
zip_has [] ys i x y at bt = absurd (none-some x at)
zip_has (a ∷ xs) [] i x y at bt = absurd (none-some y bt)
zip_has (a ∷ xs) (b ∷ ys) zero x y at bt = (0, omega arith, ap (λ z. Some (z, b)) (same_Some a x at) ∙ ap (λ z. Some (x, z)) (same_Some b y bt))
zip_has (a ∷ xs) (b ∷ ys) (suc i) x y at bt = let (k, less, is) = zip_has xs ys i x y at bt in (suc k, omega (arith, less), is)

find_same : {A : Type 0} (f g : A → Bool) → ((x : A) → f x ≡ g x) → (xs : List A) → find f xs ≡ find g xs
find_same f g same [] = refl
find_same f g same (x ∷ xs) =
    ap (λ (b : Bool). if b then Some x else find f xs) (same x) ∙ ap (λ o. if g x then Some x else o) (find_same f g same xs)

-- ## The sections of an edited image, by those that were read

module _ (image : Image) (h : IsEdited image) where
  counts : h.read.section_numbers ≡ counted (length h.read.sections)
  counts = sections_counted image.source h.read h.is_read

  -- each section was read at its number
  was_read : (k : KeptSection) → Contains (kept_sections image) k → (old : ImageSection) × (slice_get h.read.sections k.number ≡ Some old) × (nameless old ≡ nameless k.section)
  was_read k has = section_read h.read.sections image h.is_edit.sections k has

  read_was : (s : KeptSection) → Contains (kept_sections h.read) s → (old : ImageSection) × (slice_get h.read.sections s.number ≡ Some old) × (nameless old ≡ nameless s.section)
  read_was s has = section_read h.read.sections h.read (read_itself image.source h.read h.is_read).sections s has

  -- sections of one number, now and at read
  same_as_read : (k s : KeptSection) → Contains (kept_sections image) k → Contains (kept_sections h.read) s → k.number ≡ s.number → unnamed k ≡ unnamed s
  same_as_read k s k_has s_has number = same_read h.read.sections (unnamed k) (unnamed s) (was_read k k_has) (read_was s s_has) number

  -- a section of a type of which none goes lasts
  lasting_type : (from : Image) (type : ℕ) → is_one_of lasting_types type ≡ true → (s : KeptSection) → (s.section.sh_type == type) ≡ true → is_lasting from s ≡ true
  lasting_type from type one s typed = or_right _ (is_one_of lasting_types s.section.sh_type) (ap (is_one_of lasting_types) (eqb-true s.section.sh_type type typed) ∙ one)

  link_same : (type : ℕ) → is_one_of lasting_types type ≡ true → link_of_type type image ≡ link_of_type type h.read
  link_same type one = by_found (kept_of_type type h.read) refl
    where
      by_found : (o : Option KeptSection) → kept_of_type type h.read ≡ o → link_of_type type image ≡ link_of_type type h.read
      by_found None none =
          ap (λ (o : Option KeptSection). o >>= λ s. Some s.section.sh_link)
          (none_now h.read image (sections_counted image.source h.read h.is_read) h.is_edit.sections (λ x. x.1.sh_type == type) none ∙ sym none)
      by_found (Some s) found =
          let (has, typed) = found_there (λ (k : KeptSection). k.section.sh_type == type) (kept_sections h.read) s found in
          let there = h.is_edit.complete.lasting s has (lasting_type h.read type one s typed) in
          let (k, is, same) = first_stays h.read image (sections_counted image.source h.read h.is_read) h.is_edit.sections (λ x. x.1.sh_type == type) s found there in
          ap (λ (o : Option KeptSection). o >>= λ t. Some t.section.sh_link) is ∙ ap (λ (x : Unnamed). Some x.1.sh_link) same
          ∙ sym (ap (λ (o : Option KeptSection). o >>= λ t. Some t.section.sh_link) found)

  strings_same : dynamic_strings_number image ≡ dynamic_strings_number h.read
  strings_same =
      ap (λ (o : Option ℕ). first_there o (link_of_type SHT_DYNSYM image)) (link_same SHT_DYNAMIC refl)
      ∙ ap (λ (o : Option ℕ). first_there (link_of_type SHT_DYNAMIC h.read) o) (link_same SHT_DYNSYM refl)

  -- whether a section lasts, by what is kept of it but its name
  abbrev lasts : ℕ → Option ℕ → Unnamed → Bool
  lasts names strings x = x.0 == 0 || x.0 == names || is_some_and (λ n. n == x.0) strings || is_one_of lasting_types x.1.sh_type

  lasting_same : (k s : KeptSection) → unnamed k ≡ unnamed s → is_lasting h.read s ≡ true → is_lasting image k ≡ true
  lasting_same k s same is =
      ap (λ (x : Header). lasts x.e_shstrndx (dynamic_strings_number image) (unnamed k)) h.is_edit.header
      ∙ ap (λ (o : Option ℕ). lasts h.read.header.e_shstrndx o (unnamed k)) strings_same
      ∙ ap (lasts h.read.header.e_shstrndx (dynamic_strings_number h.read)) same ∙ is

  -- the section of symbols for a link editor is the only one of its type
  one_table : (k s : KeptSection) → Contains (kept_sections image) k → Contains (kept_sections image) s → (k.section.sh_type == SHT_SYMTAB) ≡ true → (s.section.sh_type == SHT_SYMTAB) ≡ true
      → k.number ≡ s.number
  one_table k s k_has s_has k_typed s_typed =
      let (x, x_at, x_is) = was_read k k_has in
      let (y, y_at, y_is) = was_read s s_has in
      only_table image.source h.read h.is_read k.number s.number x y x_at y_at (ap (λ (z : ImageSection). z.sh_type == SHT_SYMTAB) x_is ∙ k_typed)
      (ap (λ (z : ImageSection). z.sh_type == SHT_SYMTAB) y_is ∙ s_typed)

  -- the interpreter's section has the number that it had at read
  pub record HasInterpreter (n : ℕ) : Type 0 where
    pub now : interpreter_number image ≡ Some n
    pub read : interpreter_number h.read ≡ Some n
    pub there : IsSome (kept_at_number n image)

  interpreter_by : (p : SegmentHeader) → segment_of_type PT_INTERP image.segments ≡ Some p → (old : SegmentHeader) → segment_of_type PT_INTERP h.read.segments ≡ Some old
      → ((s : ImageSection) → stands_as_interpreter p s ≡ stands_as_interpreter old s) → (o : Option KeptSection) → find (λ s. stands_as_interpreter old s.section) (kept_sections h.read) ≡ o
      → IsSome (interpreter_number h.read >>= λ number. kept_at_number number image) → (n : ℕ) × HasInterpreter n
  interpreter_by p is old was same None none there =
      let number : interpreter_number h.read ≡ None =
      ap (λ (q : Option SegmentHeader). q >>= λ z. find (λ s. stands_as_interpreter z s.section) (kept_sections h.read) >>= λ s. Some s.number) was
      ∙ ap (λ (o : Option KeptSection). o >>= λ s. Some s.number) none in
      absurd (false≢true (sym (ap (λ (o : Option ℕ). is_some (o >>= λ number. kept_at_number number image)) number) ∙ there))
  interpreter_by p is old was same (Some s) found there =
      let number : interpreter_number h.read ≡ Some s.number =
      ap (λ (q : Option SegmentHeader). q >>= λ z. find (λ t. stands_as_interpreter z t.section) (kept_sections h.read) >>= λ t. Some t.number) was
      ∙ ap (λ (o : Option KeptSection). o >>= λ t. Some t.number) found in
      let here : IsSome (kept_at_number s.number image) = sym (ap (λ (o : Option ℕ). is_some (o >>= λ n. kept_at_number n image)) number) ∙ there in
      let (k, k_is, k_same) = first_stays h.read image (sections_counted image.source h.read h.is_read) h.is_edit.sections (λ x. stands_as_interpreter old x.1) s found here in
      let search : find (λ t. stands_as_interpreter p t.section) (kept_sections image) ≡ find (λ t. stands_as_interpreter old t.section) (kept_sections image) =
      find_same (λ t. stands_as_interpreter p t.section) (λ t. stands_as_interpreter old t.section) (λ t. same t.section) (kept_sections image) in (
        s.number,
        record {
          now =
              ap (λ (q : Option SegmentHeader). q >>= λ z. find (λ t. stands_as_interpreter z t.section) (kept_sections image) >>= λ t. Some t.number) is
              ∙ ap (λ (o : Option KeptSection). o >>= λ t. Some t.number) (search ∙ k_is) ∙ ap (λ (x : Unnamed). Some x.0) k_same;
          read = number;
          there = here;
        },
      )

  pub interpreter_now : IsSome image.interpreter → (n : ℕ) × HasInterpreter n
  interpreter_now some = by_segment (segment_of_type PT_INTERP image.segments) refl (sym h.is_edit.complete.interpreter ∙ some)
    where
      by_segment : (o : Option SegmentHeader) → segment_of_type PT_INTERP image.segments ≡ o → is_some (segment_of_type PT_INTERP image.segments) ≡ true → (n : ℕ) × HasInterpreter n
      by_segment None none there = absurd (false≢true (sym (ap is_some none) ∙ there))
      by_segment (Some p) is there =
          let (old, was, kept) = interpreter_of_read image.page_size h.read.header.e_phoff h.read.segments image.segments p (few_interpreters image.source h.read h.is_read) h.is_edit.segments is in
          interpreter_by p is old was (λ s. ap (λ (q : SegmentHeader). stands_as_interpreter q s) kept) (find (λ s. stands_as_interpreter old s.section) (kept_sections h.read)) refl
          (h.is_edit.complete.interpreter_section some)

-- ## What goes

module _ (image : Image) (gone : List ℕ) (h : IsEdited image) (can : CanDelete image gone) where
  abbrev new : Image
  new = with_deleted gone image

  abbrev along : List ℕ
  along = symbols_along image gone

  left : AreSectionsLeft (is_left gone) image new
  left = sections_left gone image new h.is_edit.sections.numbered refl refl

  -- one that isn't left goes, and one that is stays
  has_going : (k : KeptSection) → Contains (kept_sections image) k → is_left gone k.number ≡ false → Contains (going gone image) k
  has_going k has fails = passing_stays (goes gone) (kept_sections image) k has (not_false (is_one_of gone k.number) fails)

  has_staying : (k : KeptSection) → Contains (kept_sections image) k → is_left gone k.number ≡ true → Contains (staying gone image) k
  has_staying k has is = passing_stays (stays gone) (kept_sections image) k has is

  none_lasts : list_any (is_lasting image) (going gone image) ≡ false
  none_lasts = (or_parts (list_any (is_lasting image) (going gone image)) _ (or_parts _ (list_any (λ y. is_one_of gone y.st_shndx) image.dynamic_symbols) can.unused).0).0

  none_named : list_any (λ s. list_any (names_section s.section) gone) (staying gone image) ≡ false
  none_named = (or_parts (list_any (is_lasting image) (going gone image)) _ (or_parts _ (list_any (λ y. is_one_of gone y.st_shndx) image.dynamic_symbols) can.unused).0).1

  none_defined : list_any (λ y. is_one_of gone y.st_shndx) image.dynamic_symbols ≡ false
  none_defined = (or_parts _ (list_any (λ y. is_one_of gone y.st_shndx) image.dynamic_symbols) can.unused).1

  left_if : (n : ℕ) → (is_left gone n ≡ false → ⊥) → is_left gone n ≡ true
  left_if n never = by_left (is_left gone n) refl
    where
      by_left : (b : Bool) → is_left gone n ≡ b → b ≡ true
      by_left true is = refl
      by_left false is = absurd (never is)

  lasting_stays : (k : KeptSection) → Contains (kept_sections image) k → is_lasting image k ≡ true → is_left gone k.number ≡ true
  lasting_stays k has lasts = left_if k.number (λ fails. true≢false (sym lasts ∙ none_passes (is_lasting image) (going gone image) k none_lasts (has_going k has fails)))

  type_lasts : (type : ℕ) → is_one_of lasting_types type ≡ true → (k : KeptSection) → Contains (kept_sections image) k → (k.section.sh_type == type) ≡ true → is_left gone k.number ≡ true
  type_lasts type one k has typed = lasting_stays k has (lasting_type image h image type one k typed)

  there_still : (n : ℕ) → is_left gone n ≡ true → IsSome (kept_at_number n image) → IsSome (kept_at_number n new)
  there_still n is there = number_stays (is_left gone) image new left n is ∙ there

  -- ## Sections

  lasting_there : (s : KeptSection) → Contains (kept_sections h.read) s → is_lasting h.read s ≡ true → IsSome (kept_at_number s.number new)
  lasting_there s has lasts =
      let there = h.is_edit.complete.lasting s has lasts in
      let (k, _, k_has, numbered) = found_some (λ (t : KeptSection). t.number == s.number) (kept_sections image) there in
      let number : k.number ≡ s.number = eqb-true k.number s.number numbered in
      let is = lasting_stays k k_has (lasting_same image h k s (same_as_read image h k s k_has has number) lasts) in
      there_still s.number (ap (is_left gone) (sym number) ∙ is) there

  linked_there : (s t : KeptSection) → Contains (kept_sections new) s → Contains (kept_sections h.read) t → names_section s.section t.number ≡ true → IsSome (kept_at_number t.number new)
  linked_there s t has t_has names =
      let (old, old_has, same, is) = section_was (is_left gone) image new left s has in
      let old_names : names_section old.section t.number ≡ true = ap (λ (x : Unnamed). names_section x.1 t.number) same ∙ names in
      let none : list_any (names_section old.section) gone ≡ false =
      none_passes (λ (k : KeptSection). list_any (names_section k.section) gone) (staying gone image) old none_named
      (has_staying old old_has (ap (λ (x : Unnamed). is_left gone x.0) same ∙ is)) in
      there_still t.number
      (left_if t.number (λ fails. true≢false (sym old_names ∙ none_passes (names_section old.section) gone t.number none (one_of_there gone t.number (not_false (is_one_of gone t.number) fails)))))
      (h.is_edit.complete.linked old t old_has t_has old_names)

  -- the section of a symbol that isn't defined in one that goes
  section_still : (y : NamedSymbol) → is_one_of gone y.st_shndx ≡ false → has_section image y ≡ true → has_section new y ≡ true
  section_still y other is =
      ap (λ (b : Bool). y.st_shndx == 0 || nat_le SHN_LORESERVE y.st_shndx || b) (number_stays (is_left gone) image new left y.st_shndx (not_from_false (is_one_of gone y.st_shndx) other)) ∙ is

  dynamic_sections_still : All (λ y. has_section new y ≡ true) image.dynamic_symbols
  dynamic_sections_still i d less =
      let y : NamedSymbol = get_or image.dynamic_symbols i d in
      section_still y (none_passes (λ z. is_one_of gone z.st_shndx) image.dynamic_symbols y none_defined (Contains-get_or image.dynamic_symbols i d less))
      (h.is_edit.complete.dynamic_sections i d less)

  -- ## Symbols that go along

  abbrev pairs_of : List (ℕ × NamedSymbol)
  pairs_of = zip image.symbol_numbers image.symbols

  goes_with : (p n : ℕ) (y : NamedSymbol) → slice_get image.symbol_numbers p ≡ Some n → slice_get image.symbols p ≡ Some y → goes_along image gone n y ≡ true → is_one_of along n ≡ true
  goes_with p n y at bt goes =
      let (k, less, is) = zip_has image.symbol_numbers image.symbols p n y at bt in
      let has : Contains pairs_of (n, y) = (k, less, get_or_from_slice_get pairs_of k (n, y) (n, y) is) in
      number_there along n (contains_map (λ (x : ℕ × NamedSymbol). x.0) (filter (λ x. goes_along image gone x.0 x.1) pairs_of) (n, y) (passing_stays (λ x. goes_along image gone x.0 x.1) pairs_of (n, y) has goes))

  -- a number that goes along is that of a symbol that does
  goes_by : (n : ℕ) → is_one_of along n ≡ true → (y : NamedSymbol) × (goes_along image gone n y ≡ true)
  goes_by n one =
      let (x, has, is) = contained_by (λ (z : ℕ × NamedSymbol). z.0) (filter (λ z. goes_along image gone z.0 z.1) pairs_of) n (one_of_there along n one) in
      let was = left_was (λ (z : ℕ × NamedSymbol). goes_along image gone z.0 z.1) pairs_of x has in
      (x.1, ap (λ (m : ℕ). goes_along image gone m x.1) (sym is) ∙ was.1)

  abbrev does_table_go : Bool
  does_table_go = is_some_and (is_one_of gone) (table_number SHT_SYMTAB image)

  -- the first goes with its table alone
  first_stays_there : does_table_go ≡ false → is_left along 0 ≡ true
  first_stays_there stays = by_one (is_one_of along 0) refl
    where
      by_one : (b : Bool) → is_one_of along 0 ≡ b → not b ≡ true
      by_one false is = refl
      by_one true is =
          let (y, goes) = goes_by 0 is in
          absurd (false≢true (sym (ap (λ (b : Bool). b || false) stays) ∙ goes))

  -- a section of symbols for a link editor is the one
  table_is : (k : KeptSection) → Contains (kept_sections image) k → (k.section.sh_type == SHT_SYMTAB) ≡ true → (s : KeptSection) × (kept_of_type SHT_SYMTAB image ≡ Some s) × (s.number ≡ k.number)
  table_is k has typed =
      let (s, is, s_has, s_typed) = found_some (λ (t : KeptSection). t.section.sh_type == SHT_SYMTAB) (kept_sections image) (find_contained (λ (t : KeptSection). t.section.sh_type == SHT_SYMTAB) (kept_sections image) k has typed) in
      (s, is, one_table image h s k s_has has s_typed typed)

  -- where the section of symbols for a link editor is still there, it doesn't go
  record HasTable : Type 0 where
    section : KeptSection
    is : kept_of_type SHT_SYMTAB image ≡ Some section
    is_left_there : is_left gone section.number ≡ true

  table_still : IsSome (kept_of_type SHT_SYMTAB new) → HasTable
  table_still some =
      let (k, _, has, typed) = found_some (λ (t : KeptSection). t.section.sh_type == SHT_SYMTAB) (kept_sections new) some in
      let (old, old_has, same, is) = section_was (is_left gone) image new left k has in
      let (s, s_is, number) = table_is old old_has (ap (λ (x : Unnamed). x.1.sh_type == SHT_SYMTAB) same ∙ typed) in
      record { section = s; is = s_is; is_left_there = ap (is_left gone) (number ∙ ap (λ (x : Unnamed). x.0) same) ∙ is }

  table_stays_by : (t : HasTable) → does_table_go ≡ false
  table_stays_by t =
      ap (λ (o : Option KeptSection). is_some_and (is_one_of gone) (option_map (λ s. s.number) o)) t.is ∙ not-true (is_one_of gone t.section.number) t.is_left_there

  all_tables_stay : (t : HasTable) → (k : KeptSection) → Contains (kept_sections image) k → (k.section.sh_type == SHT_SYMTAB) ≡ true → is_left gone k.number ≡ true
  all_tables_stay t k has typed =
      let (s, s_is, number) = table_is k has typed in
      let same : s ≡ t.section = same_Some s t.section (sym s_is ∙ t.is) in
      ap (is_left gone) (sym number ∙ ap (λ (x : KeptSection). x.number) same) ∙ t.is_left_there

  first_static_there : IsSome (kept_of_type SHT_SYMTAB new) → IsFirstThere h.read.symbols new.symbol_numbers
  first_static_there some less =
      let t = table_still some in
      first_left (is_left along) image.symbol_numbers (h.is_edit.complete.first_static (ap is_some t.is) less) (first_stays_there (table_stays_by t))

  none_picked : {A : Type 0} (bs : List Bool) → items_where_true {X = A} bs [] ≡ []
  none_picked [] = refl
  none_picked (b ∷ bs) = refl

  no_static_there : kept_of_type SHT_SYMTAB new ≡ None → new.symbols ≡ []
  no_static_there none = by_table (kept_of_type SHT_SYMTAB image) refl
    where
      by_left : (t : KeptSection) → kept_of_type SHT_SYMTAB image ≡ Some t → (b : Bool) → is_left gone t.number ≡ b → new.symbols ≡ []
      by_left t is true stays =
          let has : HasTable = record { section = t; is = is; is_left_there = stays } in
          let same = both_some (kept_of_type SHT_SYMTAB new) (kept_of_type SHT_SYMTAB image) (type_stays (is_left gone) image new left SHT_SYMTAB (all_tables_stay has)) in
          absurd (false≢true (sym (ap is_some none) ∙ same ∙ ap is_some is))
      by_left t is false goes =
          let table : does_table_go ≡ true =
          ap (λ (o : Option KeptSection). is_some_and (is_one_of gone) (option_map (λ s. s.number) o)) is ∙ not_false (is_one_of gone t.number) goes in
          let all_go : numbers_left along image.symbol_numbers ≡ [] =
          none_left (is_left along) image.symbol_numbers (λ n has.
          let less : has.0 < length image.symbols = omega (arith, has.1, h.is_edit.symbols.numbered) in
          let y : NamedSymbol = get_or image.symbols has.0 no_symbol in
          let at : slice_get image.symbol_numbers has.0 ≡ Some n = slice_get-get_or image.symbol_numbers has.0 n has.1 ∙ ap Some has.2 in
          let one = goes_with has.0 n y at (slice_get-get_or image.symbols has.0 no_symbol less) (ap (λ (b : Bool). b || not (n == 0) && is_one_of gone y.st_shndx) table) in
          ap not one) in
          let long = (picked_left h.read.symbols along image.symbol_numbers image.symbols h.is_edit.symbols).numbered in
          no_length new.symbols (sym long ∙ ap length all_go)

      by_table : (o : Option KeptSection) → kept_of_type SHT_SYMTAB image ≡ o → new.symbols ≡ []
      by_table None was =
          ap (λ (ys : List NamedSymbol). parts_left along image.symbol_numbers ys) (h.is_edit.complete.no_static was) ∙ none_picked (map (is_left along) image.symbol_numbers)
      by_table (Some t) is = by_left t is (is_left gone t.number) refl

  -- each symbol that is left but the first has its section
  static_section_still : (p n : ℕ) (y : NamedSymbol) → 0 < p → slice_get image.symbol_numbers p ≡ Some n → slice_get image.symbols p ≡ Some y → is_left along n ≡ true → has_section new y ≡ true
  static_section_still zero n y behind at bt is = absurd (omega (arith, behind))
  static_section_still (suc p) n y behind at bt is =
      let inside : suc p < length image.symbol_numbers = slice_get_within image.symbol_numbers (suc p) n at in
      let rises = h.is_edit.symbols.rising 0 (suc p) (omega arith) inside in
      let here : slice_index image.symbol_numbers (suc p) ≡ n = get_or_from_slice_get image.symbol_numbers (suc p) n 0 at in
      let filled : (n == 0) ≡ false = ne_eqb n 0 (λ (e : n ≡ 0). omega (arith, rises, here, e)) in
      let other : is_one_of gone y.st_shndx ≡ false =
      false_from_ne_true (is_one_of gone y.st_shndx) (λ one.
      let goes : goes_along image gone n y ≡ true =
      or_right does_table_go (not (n == 0) && is_one_of gone y.st_shndx) (and_from (not (n == 0)) (is_one_of gone y.st_shndx) (ap not filled) one) in
      false≢true (sym (ap not (goes_with (suc p) n y at bt goes)) ∙ is)) in
      section_still y other (behind_at (λ z. has_section image z ≡ true) image.symbols h.is_edit.complete.static_sections p y bt)

  static_sections_still : All (λ y. has_section new y ≡ true) (drop 1 new.symbols)
  static_sections_still =
      all_behind (λ y. has_section new y ≡ true) new.symbols (λ i y at.
      let bs : List Bool = map (is_left along) image.symbol_numbers in
      let less : suc i < length (items_where_true bs image.symbol_numbers) =
      omega (arith, slice_get_within new.symbols (suc i) y at, picked_long bs image.symbol_numbers image.symbols h.is_edit.symbols.numbered) in
      let place : ℕ = picked_place bs (suc i) in
      let rises = picked_rises bs 0 (suc i) (omega arith) in
      let n : ℕ = get_or (items_where_true bs image.symbol_numbers) (suc i) 0 in
      let n_at : slice_get image.symbol_numbers place ≡ Some n = picked_at bs image.symbol_numbers (suc i) n (slice_get-get_or (items_where_true bs image.symbol_numbers) (suc i) 0 less) in
      let has : Contains (numbers_left along image.symbol_numbers) n =
      subst (λ (l : List ℕ). Contains l n) (sym (filter_picks (is_left along) image.symbol_numbers)) (Contains-get_or (items_where_true bs image.symbol_numbers) (suc i) 0 less) in
      static_section_still place n y (omega (arith, rises)) n_at (picked_at bs image.symbols (suc i) y at) (left_was (is_left along) image.symbol_numbers n has).1)

  -- ## Relocations

  static_relocated_still : AreRelocated new (table_number SHT_SYMTAB new) new.symbol_numbers
  static_relocated_still s number has names = by_table (kept_of_type SHT_SYMTAB new) refl
    where
      by_left : (old : KeptSection) → Contains (kept_sections image) old → is_left gone old.number ≡ true → names_symbol image.form (table_number SHT_SYMTAB image) number old.section ≡ true
          → Contains image.symbol_numbers number → (b : Bool) → is_left along number ≡ b → (number ≡ 0) ⊎ Contains new.symbol_numbers number
      by_left old old_has stays old_names there true is = inr (passing_stays (is_left along) image.symbol_numbers number there is)
      by_left old old_has stays old_names there false is =
          let none : list_any (λ n. not (n == 0) && names_symbol image.form (table_number SHT_SYMTAB image) n old.section) along ≡ false =
          none_passes (λ (k : KeptSection). list_any (λ n. not (n == 0) && names_symbol image.form (table_number SHT_SYMTAB image) n k.section) along) (staying gone image) old can.unnamed
          (has_staying old old_has stays) in
          let unused = none_passes (λ n. not (n == 0) && names_symbol image.form (table_number SHT_SYMTAB image) n old.section) along number none (one_of_there along number (not_false (is_one_of along number) is)) in
          inl (unused_zero number (names_symbol image.form (table_number SHT_SYMTAB image) number old.section) unused old_names)

      by_table : (o : Option KeptSection) → kept_of_type SHT_SYMTAB new ≡ o → (number ≡ 0) ⊎ Contains new.symbol_numbers number
      by_table None none =
          let against = (and_parts (is_against (table_number SHT_SYMTAB new) s.section) _ names).0 in
          let linked = (and_parts (are_relocations s.section.kind) (is_some_and (λ n. n == s.section.sh_link) (table_number SHT_SYMTAB new)) against).1 in
          absurd (false≢true (sym (ap (λ (o : Option KeptSection). is_some_and (λ n. n == s.section.sh_link) (option_map (λ k. k.number) o)) none) ∙ linked))
      by_table (Some k) is =
          let t = table_still (ap is_some is) in
          let table : table_number SHT_SYMTAB new ≡ table_number SHT_SYMTAB image = table_stays (is_left gone) image new left SHT_SYMTAB (all_tables_stay t) in
          let (old, old_has, same, stays) = section_was (is_left gone) image new left s has in
          let old_names : names_symbol image.form (table_number SHT_SYMTAB image) number old.section ≡ true =
          ap (λ (x : Unnamed). names_symbol image.form (table_number SHT_SYMTAB image) number x.1) same ∙ ap (λ (o : Option ℕ). names_symbol image.form o number s.section) (sym table) ∙ names in
          elim (h.is_edit.complete.static_relocated old number old_has old_names) [
            | inl none ↦ inl none
            | inr there ↦ by_left old old_has (ap (λ (x : Unnamed). is_left gone x.0) same ∙ stays) old_names there (is_left along number) refl
          ]

  -- ## The interpreter

  abbrev interpreter_if : Bool → Option (List ℕ)
  interpreter_if b = if b then None else image.interpreter

  interpreter_like : (read : Option (List ℕ)) (b : Bool) → IsInterpreterOf read image.interpreter → IsInterpreterOf read (interpreter_if b)
  interpreter_like None true is = tt
  interpreter_like (Some bytes) true is = tt
  interpreter_like None false is = is
  interpreter_like (Some bytes) false is = is

  interpreter_with : (b : Bool) → does_interpreter_go gone image ≡ b → is_some (interpreter_if b) ≡ is_some (segment_of_type PT_INTERP (segments_left gone image))
  interpreter_with true goes = sym (ap is_some (interpreter_gone image gone goes))
  interpreter_with false stays = h.is_edit.complete.interpreter ∙ sym (ap is_some (interpreter_stays image gone stays))

  interpreter_section_still : (b : Bool) → does_interpreter_go gone image ≡ b → IsSome (interpreter_if b) → IsSome (interpreter_number h.read >>= λ number. kept_at_number number new)
  interpreter_section_still true goes some = absurd (false≢true some)
  interpreter_section_still false stays some =
      let (n, is) = interpreter_now image h some in
      let other : is_one_of gone n ≡ false = ap (is_some_and (is_one_of gone)) (sym is.now) ∙ stays in
      ap (λ (o : Option ℕ). is_some (o >>= λ number. kept_at_number number new)) is.read ∙ there_still n (not_from_false (is_one_of gone n) other) is.there

  -- ## All of it

  pub deleted_is_edited : IsEdited new
  deleted_is_edited = record {
    read = h.read;
    is_read = h.is_read;
    is_edit = record {
      form = h.is_edit.form;
      header = h.is_edit.header;
      segments = segments_without image gone h.read.header.e_phoff image.page_size h.read.segments h.is_edit.segments;
      sections = picked_left h.read.sections gone image.section_numbers image.sections h.is_edit.sections;
      symbols = picked_left h.read.symbols along image.symbol_numbers image.symbols h.is_edit.symbols;
      dynamic_symbols = h.is_edit.dynamic_symbols;
      definitions = h.is_edit.definitions;
      needs = h.is_edit.needs;
      entries = h.is_edit.entries;
      interpreter = interpreter_like h.read.interpreter (does_interpreter_go gone image) h.is_edit.interpreter;
      complete = record {
        lasting = lasting_there;
        linked = linked_there;
        first_dynamic = h.is_edit.complete.first_dynamic;
        first_static = first_static_there;
        no_static = no_static_there;
        dynamic_sections = dynamic_sections_still;
        static_sections = static_sections_still;
        dynamic_relocated = relocated_left (is_left gone) image new left refl SHT_DYNSYM image.dynamic_symbol_numbers
            (table_stays (is_left gone) image new left SHT_DYNSYM (type_lasts SHT_DYNSYM refl)) h.is_edit.complete.dynamic_relocated;
        static_relocated = static_relocated_still;
        tables = λ changed. renumbers_left (is_left gone) image new left refl
            (type_stays (is_left gone) image new left SHT_HASH (type_lasts SHT_HASH refl)) (type_stays (is_left gone) image new left SHT_GNU_HASH (type_lasts SHT_GNU_HASH refl))
            (table_stays (is_left gone) image new left SHT_DYNSYM (type_lasts SHT_DYNSYM refl)) (h.is_edit.complete.tables changed);
        interpreter = interpreter_with (does_interpreter_go gone image) refl;
        interpreter_section = interpreter_section_still (does_interpreter_go gone image) refl;
      };
      unchanged = λ e. absurd (true≢false e);
    };
  }

-- ## What the code makes

pub made_deleted : (image : Image) (gone : List ℕ) (segments : List SegmentHeader) (sections : List ImageSection) (numbers : List ℕ) (edited old : EditedList) (interpreter : Option (List ℕ))
    → segments ≡ segments_left gone image → sections ≡ parts_left gone image.section_numbers image.sections → numbers ≡ numbers_left gone image.section_numbers
    → edited ≡ without_numbers (symbols_along image gone) old → old.numbers ≡ image.symbol_numbers → old.symbols ≡ image.symbols
    → interpreter ≡ (if does_interpreter_go gone image then None else image.interpreter)
    → record image { changed = true; segments = segments; sections = sections; section_numbers = numbers; symbols = edited.symbols; symbol_numbers = edited.numbers; interpreter = interpreter }
    ≡ with_deleted gone image
made_deleted image gone segments sections numbers edited old interpreter e1 e2 e3 e4 e5 e6 e7 =
    let made : List SegmentHeader → List ImageSection → List ℕ → List NamedSymbol → List ℕ → Option (List ℕ) → Image =
    λ a b c d e f. record image { changed = true; segments = a; sections = b; section_numbers = c; symbols = d; symbol_numbers = e; interpreter = f } in
    let along : List ℕ = symbols_along image gone in
    let symbols : edited.symbols ≡ parts_left along image.symbol_numbers image.symbols =
    ap (λ (x : EditedList). x.symbols) e4 ∙ ap (λ (ns : List ℕ). parts_left along ns old.symbols) e5 ∙ ap (λ (ys : List NamedSymbol). parts_left along image.symbol_numbers ys) e6 in
    let symbol_numbers : edited.numbers ≡ numbers_left along image.symbol_numbers = ap (λ (x : EditedList). x.numbers) e4 ∙ ap (numbers_left along) e5 in
    ap (λ (x : List SegmentHeader). made x sections numbers edited.symbols edited.numbers interpreter) e1
    ∙ ap (λ (x : List ImageSection). made (segments_left gone image) x numbers edited.symbols edited.numbers interpreter) e2
    ∙ ap (λ (x : List ℕ). made (segments_left gone image) (parts_left gone image.section_numbers image.sections) x edited.symbols edited.numbers interpreter) e3
    ∙ ap (λ (x : List NamedSymbol). made (segments_left gone image) (parts_left gone image.section_numbers image.sections) (numbers_left gone image.section_numbers) x edited.numbers interpreter) symbols
    ∙ ap (λ (x : List ℕ). made (segments_left gone image) (parts_left gone image.section_numbers image.sections) (numbers_left gone image.section_numbers)
    (parts_left along image.symbol_numbers image.symbols) x interpreter) symbol_numbers
    ∙ ap (λ (x : Option (List ℕ)). made (segments_left gone image) (parts_left gone image.section_numbers image.sections) (numbers_left gone image.section_numbers)
    (parts_left along image.symbol_numbers image.symbols) (numbers_left along image.symbol_numbers) x) e7

-- where some go
pub deleted_some : (image : Image) (gone : List ℕ) → 0 < length gone → with_deleted gone image ≡ without_sections gone image
deleted_some image [] some = absurd (omega (arith, some))
deleted_some image (n ∷ gone) some = refl

pub some_there : {A : Type 0} (xs : List A) (b : Bool) → b ≡ (length xs == 0) → b ≡ false → 0 < length xs
some_there [] b is fails = absurd (true≢false (sym is ∙ fails))
some_there (x ∷ xs) b is fails = omega arith
