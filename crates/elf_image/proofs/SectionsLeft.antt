-- The sections of an image of which some go, or get other names: each by its number at read, and by all that is kept of it but its
-- name.
use Rattle.std.proofs.Common.{◌≡◌, ℕ, zero, suc, ◌+◌, ◌<◌, Bool, true, false, cond, List, [], ◌∷◌, length, map, filter, get_or, refl, sym, ap, ◌∙◌, subst, Option, Some, None, arith}
use Rattle.std.specs.Prelude.{Contains, IsSome, find, is_some, slice_index, ◌==◌}
use Rattle.std.specs.List.{items_where_true, slice_get}
use Rattle.std.specs.Option.{option_map}
use Rattle.std.proofs.lemmas.Bool.{eqb-true, false≢true}
use Rattle.std.proofs.lemmas.Option.{get_or_from_slice_get, same_Some, slice_get-get_or, slice_get_within}
use Rattle.elf_format.specs.Image.{Image, ImageSection, counted}
use Rattle.elf_format.proofs.ForCallers.Lengths.{length-counted, slice_index-counted}
use Rattle.elf_image_symbols.specs.EditedList.{changed_at}
use Rattle.elf_image.specs.Deleted.{is_left, numbers_left, parts_left}
use Rattle.elf_image.specs.Edited.{ArePicked, IsSameSection}
use Rattle.elf_image.specs.Kept.{KeptSection, kept_at_number, kept_from, kept_of_type, kept_sections}
use Rattle.elf_image.specs.SectionEdits.{with_section_name}
use Rattle.elf_image.specs.Staying.{table_number}
use Rattle.elf_image.proofs.KeptSections.{kept-at, length-kept}
use Rattle.elf_image.proofs.ListsLeft.{IsFirstAt, contained_by, contains_at, contains_map, find_first, find_left, first_place, found_some, found_there, left_was}
use Rattle.elf_image.proofs.LookupSteps.{find-map}
use Rattle.elf_image.proofs.ReadComplete.{find_contained}

-- ## Without names and positions

abbrev pub Unnamed : Type 0
Unnamed = ℕ × ImageSection

abbrev pub nameless : ImageSection → ImageSection
nameless s = record s { name = [] }

abbrev pub unnamed : KeptSection → Unnamed
unnamed k = (k.number, nameless k.section)

abbrev pub unnamed_sections : Image → List Unnamed
unnamed_sections image = map unnamed (kept_sections image)

-- numbers and sections, pair by pair
abbrev pub pairs : List ℕ → List ImageSection → List Unnamed
pairs [] ss = []
pairs (n ∷ ns) [] = []
pairs (n ∷ ns) (s ∷ ss) = (n, nameless s) ∷ pairs ns ss

pub unnamed_from : (at : ℕ) (ns : List ℕ) (ss : List ImageSection) → map unnamed (kept_from at ns ss) ≡ pairs ns ss
unnamed_from at [] ss = refl
unnamed_from at (n ∷ ns) [] = refl
unnamed_from at (n ∷ ns) (s ∷ ss) = ap (λ l. (n, nameless s) ∷ l) (unnamed_from (at + 1) ns ss)

-- the pairs of numbers and sections with numbers that don't go
pub pairs_left : (keep : ℕ → Bool) (ns : List ℕ) (ss : List ImageSection) → length ns ≡ length ss
    → pairs (filter keep ns) (items_where_true (map keep ns) ss) ≡ filter (λ x. keep x.0) (pairs ns ss)
pairs_left keep [] [] long = refl
pairs_left keep [] (s ∷ ss) long = absurd (omega (arith, long))
pairs_left keep (n ∷ ns) [] long = absurd (omega (arith, long))
pairs_left keep (n ∷ ns) (s ∷ ss) long = by_keep (keep n) (pairs_left keep ns ss (omega (arith, long)))
  where
    by_keep : (b : Bool) → pairs (filter keep ns) (items_where_true (map keep ns) ss) ≡ filter (λ x. keep x.0) (pairs ns ss)
        → pairs (cond b (n ∷ filter keep ns) (filter keep ns)) (items_where_true (b ∷ map keep ns) (s ∷ ss))
        ≡ cond b ((n, nameless s) ∷ filter (λ x. keep x.0) (pairs ns ss)) (filter (λ x. keep x.0) (pairs ns ss))
    by_keep true rest = ap (λ l. (n, nameless s) ∷ l) rest
    by_keep false rest = rest

-- a name changes nothing of them
pub pairs_renamed : (name : List ℕ) (i : ℕ) (ns : List ℕ) (ss : List ImageSection) → pairs ns (changed_at i (with_section_name name) ss) ≡ pairs ns ss
pairs_renamed name i [] ss = refl
pairs_renamed name i (n ∷ ns) [] = refl
pairs_renamed name zero (n ∷ ns) (s ∷ ss) = refl
pairs_renamed name (suc i) (n ∷ ns) (s ∷ ss) = ap (λ l. (n, nameless s) ∷ l) (pairs_renamed name i ns ss)

-- ## Searches

same_some : {A B : Type 0} (f : A → B) (o : Option A) → is_some (option_map f o) ≡ is_some o
same_some f None = refl
same_some f (Some x) = refl

-- where two searches find the same, but for names and positions, both find something or neither does
pub both_some : (o q : Option KeptSection) → option_map unnamed o ≡ option_map unnamed q → is_some o ≡ is_some q
both_some o q same = sym (same_some unnamed o) ∙ ap is_some same ∙ same_some unnamed q

-- a search that looks at neither names nor positions
pub unnamed_search : (test : Unnamed → Bool) (image : Image) → option_map unnamed (find (λ k. test (unnamed k)) (kept_sections image)) ≡ find test (unnamed_sections image)
unnamed_search test image = find-map unnamed test (kept_sections image)

number_unnamed : (o : Option KeptSection) → option_map (λ k. k.number) o ≡ option_map (λ (x : Unnamed). x.0) (option_map unnamed o)
number_unnamed None = refl
number_unnamed (Some k) = refl

-- An image whose sections are those of another one, of which some may have gone and some may have other names.
abbrev pub AreSectionsLeft : (ℕ → Bool) → Image → Image → Type 0
AreSectionsLeft keep image new = unnamed_sections new ≡ filter (λ x. keep x.0) (unnamed_sections image)

module _ (keep : ℕ → Bool) (image new : Image) (left : AreSectionsLeft keep image new) where
  -- each was there, and stays
  pub section_was : (k : KeptSection) → Contains (kept_sections new) k → (old : KeptSection) × Contains (kept_sections image) old × (unnamed old ≡ unnamed k) × (keep k.number ≡ true)
  section_was k has =
      let there : Contains (filter (λ x. keep x.0) (unnamed_sections image)) (unnamed k) =
      subst (λ (l : List Unnamed). Contains l (unnamed k)) left (contains_map unnamed (kept_sections new) k has) in
      let was = left_was (λ (x : Unnamed). keep x.0) (unnamed_sections image) (unnamed k) there in
      let (old, here, same) = contained_by unnamed (kept_sections image) (unnamed k) was.0 in
      (old, here, same, was.1)

  -- a search for what stays where it passes comes to the same
  pub search_stays : (test : Unnamed → Bool) → ((k : KeptSection) → Contains (kept_sections image) k → test (unnamed k) ≡ true → keep k.number ≡ true)
      → option_map unnamed (find (λ k. test (unnamed k)) (kept_sections new)) ≡ option_map unnamed (find (λ k. test (unnamed k)) (kept_sections image))
  search_stays test stays =
      unnamed_search test new ∙ ap (find test) left
      ∙ find_left (λ (x : Unnamed). keep x.0) test (unnamed_sections image)
      (λ x has passes.
      let (k, here, same) = contained_by unnamed (kept_sections image) x has in
      ap (λ (y : Unnamed). keep y.0) (sym same) ∙ stays k here (ap test same ∙ passes))
      ∙ sym (unnamed_search test image)

  -- the section with a number that stays
  pub number_stays : (number : ℕ) → keep number ≡ true → is_some (kept_at_number number new) ≡ is_some (kept_at_number number image)
  number_stays number stays =
      both_some (kept_at_number number new) (kept_at_number number image)
      (search_stays (λ x. x.0 == number) (λ k has passes. ap keep (eqb-true k.number number passes) ∙ stays))

  -- the first of a type of which all stay
  pub type_stays : (type : ℕ) → ((k : KeptSection) → Contains (kept_sections image) k → (k.section.sh_type == type) ≡ true → keep k.number ≡ true)
      → option_map unnamed (kept_of_type type new) ≡ option_map unnamed (kept_of_type type image)
  type_stays type stays = search_stays (λ x. x.1.sh_type == type) stays

  pub table_stays : (type : ℕ) → ((k : KeptSection) → Contains (kept_sections image) k → (k.section.sh_type == type) ≡ true → keep k.number ≡ true)
      → table_number type new ≡ table_number type image
  table_stays type stays =
      number_unnamed (kept_of_type type new) ∙ ap (option_map (λ (x : Unnamed). x.0)) (type_stays type stays) ∙ sym (number_unnamed (kept_of_type type image))

-- without some numbers
pub sections_left : (gone : List ℕ) (image new : Image) → length image.section_numbers ≡ length image.sections → new.section_numbers ≡ numbers_left gone image.section_numbers
    → new.sections ≡ parts_left gone image.section_numbers image.sections → AreSectionsLeft (is_left gone) image new
sections_left gone image new long numbers sections =
    unnamed_from 0 new.section_numbers new.sections ∙ ap (λ (ns : List ℕ). pairs ns new.sections) numbers
    ∙ ap (λ (ss : List ImageSection). pairs (numbers_left gone image.section_numbers) ss) sections
    ∙ pairs_left (is_left gone) image.section_numbers image.sections long
    ∙ ap (filter (λ (x : Unnamed). is_left gone x.0)) (sym (unnamed_from 0 image.section_numbers image.sections))

filter_all : {A : Type 0} (xs : List A) → xs ≡ filter (λ _. true) xs
filter_all [] = refl
filter_all (x ∷ xs) = ap (λ l. x ∷ l) (filter_all xs)

-- with another name
pub sections_renamed : (i : ℕ) (name : List ℕ) (image new : Image) → new.section_numbers ≡ image.section_numbers → new.sections ≡ changed_at i (with_section_name name) image.sections
    → AreSectionsLeft (λ _. true) image new
sections_renamed i name image new numbers sections =
    unnamed_from 0 new.section_numbers new.sections ∙ ap (λ (ns : List ℕ). pairs ns new.sections) numbers
    ∙ ap (λ (ss : List ImageSection). pairs image.section_numbers ss) sections
    ∙ pairs_renamed name i image.section_numbers image.sections
    ∙ sym (unnamed_from 0 image.section_numbers image.sections) ∙ filter_all (unnamed_sections image)

-- ## By what was read

-- the section that was read at a number is this one, but for its name
abbrev pub IsReadAs : List ImageSection → Unnamed → Type 0
IsReadAs read x = (old : ImageSection) × (slice_get read x.0 ≡ Some old) × (nameless old ≡ x.1)

module _ (read : List ImageSection) (image : Image) (picked : ArePicked IsSameSection read image.section_numbers image.sections) where
  -- each at its place
  pub section_at : (i : ℕ) (k : KeptSection) → slice_get (kept_sections image) i ≡ Some k → (i < length image.sections) × (k.number ≡ slice_index image.section_numbers i) × IsReadAs read (unnamed k)
  section_at i k at =
      let inside : i < length image.sections = omega (arith, slice_get_within (kept_sections image) i k at, length-kept image picked.numbered) in
      let x : ImageSection = get_or image.sections i k.section in
      let is : k ≡ record { position = i; number = slice_index image.section_numbers i; section = x } =
      sym (get_or_from_slice_get (kept_sections image) i k k at) ∙ kept-at image i k k.section picked.numbered inside in
      let (old, was, same) = picked.same i x (slice_get-get_or image.sections i k.section inside) in (
        inside,
        ap (λ (y : KeptSection). y.number) is,
        subst (λ (y : KeptSection). IsReadAs read (unnamed y)) (sym is) (old, was, sym (ap nameless same.1)),
      )

  pub section_read : (k : KeptSection) → Contains (kept_sections image) k → IsReadAs read (unnamed k)
  section_read k has =
      (section_at has.0 k (slice_get-get_or (kept_sections image) has.0 k has.1 ∙ ap Some has.2)).2

-- one section is read at a number
pub same_read : (read : List ImageSection) (x y : Unnamed) → IsReadAs read x → IsReadAs read y → x.0 ≡ y.0 → x ≡ y
same_read read x y (old, at, is) (other, there, are) same =
    let one : old ≡ other = same_Some old other (sym at ∙ ap (slice_get read) same ∙ there) in
    ap (λ (n : ℕ). (n, x.1)) same ∙ ap (λ (s : ImageSection). (y.0, s)) (sym is ∙ ap nameless one ∙ are)

-- the first that passes a test at read is the first that does so now, where it is there
module _ (read image : Image) (counts : read.section_numbers ≡ counted (length read.sections))
    (picked : ArePicked IsSameSection read.sections image.section_numbers image.sections) (test : Unnamed → Bool) where
  abbrev passes_test : KeptSection → Bool
  passes_test k = test (unnamed k)

  long_read : length read.section_numbers ≡ length read.sections
  long_read = ap length counts ∙ length-counted (length read.sections)

  number_read : (i : ℕ) → i < length read.sections → slice_index read.section_numbers i ≡ i
  number_read i less = ap (λ (ns : List ℕ). slice_index ns i) counts ∙ slice_index-counted (length read.sections) i less

  -- each stands at its number
  read_place : (n : ℕ) (x : ImageSection) → slice_get read.sections n ≡ Some x → slice_get (kept_sections read) n ≡ Some (record { position = n; number = n; section = x })
  read_place n x at =
      let inside : n < length read.sections = slice_get_within read.sections n x at in
      let d : KeptSection = record { position = n; number = n; section = x } in
      slice_get-get_or (kept_sections read) n d (omega (arith, inside, length-kept read long_read))
      ∙ ap Some
      (kept-at read n d x long_read inside
      ∙ ap (λ (m : ℕ). record { position = n; number = m; section = get_or read.sections n x }) (number_read n inside)
      ∙ ap (λ (y : ImageSection). record { position = n; number = n; section = y }) (get_or_from_slice_get read.sections n x x at))

  place_read : (i : ℕ) (s : KeptSection) → slice_get (kept_sections read) i ≡ Some s → (s.number ≡ i) × (slice_get read.sections s.number ≡ Some s.section)
  place_read i s at =
      let inside : i < length read.sections = omega (arith, slice_get_within (kept_sections read) i s at, length-kept read long_read) in
      let x : ImageSection = get_or read.sections i s.section in
      let there : slice_get read.sections i ≡ Some x = slice_get-get_or read.sections i s.section inside in
      let is : record { position = i; number = i; section = x } ≡ s = same_Some (record { position = i; number = i; section = x }) s (sym (read_place i x there) ∙ at) in
      let number : s.number ≡ i = ap (λ (y : KeptSection). y.number) (sym is) in
      (number, ap (slice_get read.sections) number ∙ there ∙ ap (λ (y : KeptSection). Some y.section) is)

  -- what has a smaller number than the first that passes fails
  smaller_fails : (s : KeptSection) (i : ℕ) → IsFirstAt passes_test (kept_sections read) i s → (x : Unnamed) → IsReadAs read.sections x → x.0 < i → test x ≡ false
  smaller_fails s i first x (old, at, is) less =
      ap (λ (y : ImageSection). test (x.0, y)) (sym is) ∙ first.before x.0 (record { position = x.0; number = x.0; section = old }) less (read_place x.0 old at)

  before_fails : (s k : KeptSection) (i place : ℕ) → IsFirstAt passes_test (kept_sections read) i s → k.number ≡ s.number → slice_get (kept_sections image) place ≡ Some k
      → (j : ℕ) (other : KeptSection) → j < place → slice_get (kept_sections image) j ≡ Some other → test (unnamed other) ≡ false
  before_fails s k i place first number at j other less other_at =
      let mine = section_at read.sections image picked place k at in
      let its = section_at read.sections image picked j other other_at in
      let was = place_read i s first.at in
      let rises : slice_index image.section_numbers j < slice_index image.section_numbers place = picked.rising j place less (omega (arith, mine.0, picked.numbered)) in
      smaller_fails s i first (unnamed other) its.2 (omega (arith, its.1, mine.1, number, was.0, rises))

  pub first_stays : (s : KeptSection) → find passes_test (kept_sections read) ≡ Some s → IsSome (kept_at_number s.number image)
      → (k : KeptSection) × (find passes_test (kept_sections image) ≡ Some k) × (unnamed k ≡ unnamed s)
  first_stays s found there =
      let (k, _, has, numbered) = found_some (λ k. k.number == s.number) (kept_sections image) there in
      let number : k.number ≡ s.number = eqb-true k.number s.number numbered in
      let (i, first) = first_place passes_test (kept_sections read) s found in
      let was = place_read i s first.at in
      let same : unnamed k ≡ unnamed s =
      same_read read.sections (unnamed k) (unnamed s) (section_read read.sections image picked k has) (s.section, was.1, refl) number in
      let at : slice_get (kept_sections image) has.0 ≡ Some k = slice_get-get_or (kept_sections image) has.0 k has.1 ∙ ap Some has.2 in
      let is : IsFirstAt passes_test (kept_sections image) has.0 k = record {
        at = at;
        passes = ap test same ∙ first.passes;
        before = before_fails s k i has.0 first number at;
      } in
      (k, find_first passes_test (kept_sections image) has.0 k is, same)

  -- no section passes where none did at read
  pub none_now : find passes_test (kept_sections read) ≡ None → find passes_test (kept_sections image) ≡ None
  none_now none = by_found (find passes_test (kept_sections image)) refl
    where
      by_found : (o : Option KeptSection) → find passes_test (kept_sections image) ≡ o → o ≡ None
      by_found None is = refl
      by_found (Some k) is =
          let (has, passes) = found_there passes_test (kept_sections image) k is in
          let (old, at, same) = section_read read.sections image picked k has in
          let d : KeptSection = record { position = k.number; number = k.number; section = old } in
          let there : Contains (kept_sections read) d = contains_at (kept_sections read) k.number d (read_place k.number old at) in
          absurd (false≢true (sym (ap is_some none) ∙ find_contained passes_test (kept_sections read) d there (ap (λ (y : ImageSection). test (k.number, y)) same ∙ passes)))
