-- What a program header goes by, told by the positions of sections, is its anchor.
use Rattle.std.proofs.Common.{◌≡◌, ℕ, zero, suc, ◌+◌, ◌<◌, Bool, true, false, ◌&&◌, ◌||◌, cond, List, ◌∷◌, map, length, get_or, refl, sym, ap, ◌∙◌, subst, Option, Some, None, Ok, Err, All, option_map, arith, []}
use Rattle.std.specs.Prelude.{count_by, filter, find, if◌then◌else◌, nat_le, slice_index, ◌==◌}
use Rattle.std.specs.List.{list_all, slice_get}
use Rattle.std.proofs.lemmas.Bool.{and_parts, eq-eqb, leb-true, ne_eqb, true≢false}
use Rattle.std.proofs.lemmas.List.{length-map}
use Rattle.std.proofs.lemmas.List.Elements.{All-cons, All-head, All-nil, All-tail}
use Rattle.std.proofs.lemmas.List.Folds.{list_all-map}
use Rattle.std.proofs.lemmas.List.Sums.{length-filter}
use Rattle.std.proofs.lemmas.Option.{slice_get-get_or, slice_get_within, get_or_from_slice_get}
use Rattle.elf_format.specs.declared.constants.TheConstants.{PT_DYNAMIC, PT_GNU_PROPERTY, PT_INTERP, PT_LOAD, PT_NOTE, PT_PHDR, SHT_DYNAMIC, SHT_NOTE}
use Rattle.elf_format.specs.Image.{Image, ImageSection, counted}
use Rattle.elf_format.specs.Options.{first_there, is_one_of}
use Rattle.elf_format.specs.Placement.{file_part}
use Rattle.elf_format.specs.Places.{file_range, occupies_memory}
use Rattle.elf_format.specs.Ranges.{lies_in}
use Rattle.elf_format.specs.declared.records.SegmentHeader.{SegmentHeader}
use Rattle.elf_image.specs.declared.segment.Segment.{Segment}
use Rattle.elf_image.specs.Edited.{IsEdited}
use Rattle.elf_image.specs.ImageModel.{segment_model}
use Rattle.elf_image.proofs.ForCallers.LookupSteps.{find-map}
use Rattle.elf_image.proofs.ForCallers.ReadImageLaws.{read_images_hold_parts}
use Rattle.elf_layout_plan.specs.Anchors.{Itself, Anchor, Notes, is_loaded_section, is_note_in, is_over_notes, anchor_of, anchor_or_itself, does_relro_stay, notes_under, section_or_table, section_under, sharers, shares_bytes}
use Rattle.elf_image.specs.Kept.{KeptSection, interpreter_number, is_numbered, kept_from, kept_of_type, kept_sections, place_at_read}
use Rattle.elf_layout_plan.specs.Memory.{Resized}
use Rattle.elf_layout_segments.specs.declared.sections.SectionAt.{SectionAt}
use Rattle.elf_layout_segments.specs.declared.sections.Wanted.{Wanted}
use Rattle.elf_layout_segments.specs.declared.sections.Wanted.TheVariants.{Numbered, OfType}
use Rattle.elf_layout_moves.specs.Inner.{IsResized}
use Rattle.elf_layout_segments.specs.AnchorPositions.{AnchorPosition, itself, notes, anchor_position}
use Rattle.elf_layout_segments.specs.AnchorSearch.{are_notes_in, interpreter_at, is_over_notes_at, position_or_itself, searched_lists, section_or_table_at, anchor_position_by_range, anchor_position_of, under_at}
use Rattle.elf_layout_segments.specs.Sections.{begins_in, first_at, first_wanted, is_just_over_at, is_note_at, is_wanted, place_at, positions_at, positions_in, section_at, indexed_sections, shares_bytes_at}
use Rattle.elf_layout_segments.proofs.NoteLaws.{shares_begins}
use Rattle.elf_format.proofs.ForCallers.Lengths.{length-counted, slice_index-counted}
use Rattle.elf_image.proofs.ForCallers.KeptSections.{kept-at, length-kept}

-- ## One section

position_found : (p : SegmentHeader) (o : Option KeptSection) → position_or_itself (option_map (λ (s : SectionAt). s.position) (option_map section_at o)) ≡ anchor_position p (anchor_or_itself o)
position_found p None = refl
position_found p (Some s) = refl

first_found : (p : SegmentHeader) (w : Wanted) (xs : List KeptSection) → position_or_itself (first_wanted w (map section_at xs)) ≡ anchor_position p (anchor_or_itself (find (λ s. is_wanted w (section_at s)) xs))
first_found p w xs =
    ap (λ o. position_or_itself (option_map (λ (s : SectionAt). s.position) o)) (sym (find-map section_at (is_wanted w) xs)) ∙ position_found p (find (λ s. is_wanted w (section_at s)) xs)

find_none : (xs : List KeptSection) → find (λ _. false) xs ≡ None
find_none [] = refl
find_none (x ∷ xs) = find_none xs

position_by_number : (p : SegmentHeader) (number : Option ℕ) (xs : List KeptSection) → position_or_itself (interpreter_at number (map section_at xs)) ≡ anchor_position p (anchor_or_itself (find (is_numbered number) xs))
position_by_number p None xs = ap (λ o. anchor_position p (anchor_or_itself o)) (sym (find_none xs))
position_by_number p (Some n) xs = first_found p (Numbered n) xs

-- ## The section under a program header

find-filter : {A : Type 0} → (p q : A → Bool) (xs : List A) → find q (filter p xs) ≡ find (λ x. p x && q x) xs
find-filter p q [] = refl
find-filter {A} p q (x ∷ xs) = by_test (p x) (q x) (find-filter p q xs)
  where
    by_test : (a b : Bool) → find q (filter p xs) ≡ find (λ y. p y && q y) xs
        → find q (cond a (x ∷ filter p xs) (filter p xs)) ≡ cond (a && q x) (Some x) (find (λ y. p y && q y) xs)
    by_test true b e = ap (λ o. cond (q x) (Some x) o) e
    by_test false b e = e

find-any : {A : Type 0} → (p : A → Bool) (xs : List A) → find (λ _. true) (filter p xs) ≡ find p xs
find-any p [] = refl
find-any {A} p (x ∷ xs) = by_test (p x) (find-any p xs)
  where
    by_test : (a : Bool) → find (λ _. true) (filter p xs) ≡ find p xs → find (λ _. true) (cond a (x ∷ filter p xs) (filter p xs)) ≡ cond a (Some x) (find p xs)
    by_test true e = refl
    by_test false e = e

either_at : (a b : Option KeptSection)
    → first_there (option_map (λ (s : SectionAt). s.position) (option_map section_at a)) (option_map (λ (s : SectionAt). s.position) (option_map section_at b))
    ≡ option_map (λ (s : SectionAt). s.position) (option_map section_at (first_there a b))
either_at None b = refl
either_at (Some s) b = refl

-- where the section under a program header stands
under : (r : Resized) (p : SegmentHeader) → under_at p (indexed_sections r.image) ≡ option_map (λ (s : SectionAt). s.position) (option_map section_at (section_under r.image p))
under r p =
    let xs : List KeptSection = kept_sections r.image in
    let is_loaded : SectionAt → Bool = λ s. is_just_over_at p s && occupies_memory (place_at s) in
    let over : KeptSection → Bool = λ s. is_just_over_at p (section_at s) in
    let loaded : KeptSection → Bool = λ s. is_loaded (section_at s) in
    ap (λ o. first_there (option_map (λ (s : SectionAt). s.position) o) (first_at (is_just_over_at p) (map section_at xs))) (sym (find-map section_at is_loaded xs))
    ∙ ap (λ o. first_there (option_map (λ (s : SectionAt). s.position) (option_map section_at (find loaded xs))) (option_map (λ (s : SectionAt). s.position) o)) (sym (find-map section_at (is_just_over_at p) xs))
    ∙ either_at (find loaded xs) (find over xs)
    ∙ ap (λ o. option_map (λ (s : SectionAt). s.position) (option_map section_at (first_there o (find over xs)))) (sym (find-filter over (λ s. is_loaded_section s.section) xs))
    ∙ ap (λ o. option_map (λ (s : SectionAt). s.position) (option_map section_at (first_there (find (λ s. is_loaded_section s.section) (filter over xs)) o))) (sym (find-any over xs))

anchored_under : (r : Resized) (p : SegmentHeader) → position_or_itself (under_at p (indexed_sections r.image)) ≡ anchor_position p (anchor_or_itself (section_under r.image p))
anchored_under r p = ap position_or_itself (under r p) ∙ position_found p (section_under r.image p)

table_found : (p : SegmentHeader) (o : Option KeptSection)
    → section_or_table_at (option_map (λ (s : SectionAt). s.position) (option_map section_at o)) ≡ anchor_position p (section_or_table o)
table_found p None = refl
table_found p (Some s) = refl

-- where there is none, the program header table
table_or_under : (r : Resized) (p : SegmentHeader) → section_or_table_at (under_at p (indexed_sections r.image)) ≡ anchor_position p (section_or_table (section_under r.image p))
table_or_under r p = ap section_or_table_at (under r p) ∙ table_found p (section_under r.image p)

-- ## Notes

filter-map : {A B : Type 0} → (f : A → B) (q : B → Bool) (xs : List A) → filter q (map f xs) ≡ map f (filter (λ x. q (f x)) xs)
filter-map f q [] = refl
filter-map {A} f q (x ∷ xs) = by_test (q (f x)) (filter-map f q xs)
  where
    by_test : (a : Bool) → filter q (map f xs) ≡ map f (filter (λ y. q (f y)) xs)
        → cond a (f x ∷ filter q (map f xs)) (filter q (map f xs)) ≡ map f (cond a (x ∷ filter (λ y. q (f y)) xs) (filter (λ y. q (f y)) xs))
    by_test true e = ap (λ l. f x ∷ l) e
    by_test false e = e

pub map-map : {A B C : Type 0} → (f : A → B) (g : B → C) (xs : List A) → map g (map f xs) ≡ map (λ x. g (f x)) xs
map-map f g [] = refl
map-map f g (x ∷ xs) = ap (λ l. g (f x) ∷ l) (map-map f g xs)

and_assoc : (a b c : Bool) → (a && (b && c)) ≡ (a && b && c)
and_assoc true b c = refl
and_assoc false b c = refl

over_notes : (r : Resized) (p : SegmentHeader)
    → (is_one_of (PT_NOTE ∷ PT_GNU_PROPERTY ∷ []) p.p_type && are_notes_in p (indexed_sections r.read)) ≡ is_over_notes r.read p
over_notes r p =
    let xs : List KeptSection = kept_sections r.read in
    let kind : Bool = is_one_of (PT_NOTE ∷ PT_GNU_PROPERTY ∷ []) p.p_type in
    let same : filter (shares_bytes_at p) (map section_at xs) ≡ map section_at (filter (shares_bytes p) xs) = filter-map section_at (shares_bytes_at p) xs in
    let many : count_by (shares_bytes_at p) (map section_at xs) ≡ length (filter (shares_bytes p) xs) =
    sym (length-filter (shares_bytes_at p) (map section_at xs)) ∙ ap length same ∙ length-map (filter (shares_bytes p) xs) section_at in
    let notes_too : list_all (is_note_at p) (filter (shares_bytes_at p) (map section_at xs)) ≡ list_all (is_note_in p) (filter (shares_bytes p) xs) =
    ap (list_all (is_note_at p)) same ∙ list_all-map (is_note_at p) section_at (filter (shares_bytes p) xs) in
    ap (λ n. kind && (nat_le 2 n && list_all (is_note_at p) (filter (shares_bytes_at p) (map section_at xs)))) many
    ∙ ap (λ b. kind && (nat_le 2 (length (filter (shares_bytes p) xs)) && b)) notes_too
    ∙ and_assoc kind (nat_le 2 (length (filter (shares_bytes p) xs))) (list_all (is_note_in p) (filter (shares_bytes p) xs))

-- the numbers of those that pass a test, where the numbers count up
CountUp : ℕ → List ℕ → Type 0
CountUp b ns = (i : ℕ) → i < length ns → slice_index ns i ≡ b + i

count_on : (b n : ℕ) (ns : List ℕ) → CountUp b (n ∷ ns) → CountUp (b + 1) ns
unfolding CountUp
count_on b n ns up i h = let e : slice_index (n ∷ ns) (suc i) ≡ b + suc i = up (suc i) (omega (arith, h)) in omega (arith, e)

count_from : (b n : ℕ) (ns : List ℕ) → CountUp b (n ∷ ns) → n ≡ b
unfolding CountUp
count_from b n ns up = let e : slice_index (n ∷ ns) 0 ≡ b + 0 = up 0 (omega arith) in let f : n ≡ b + 0 = e in omega (arith, f)

module _ (test : ImageSection → Bool) where
  abbrev numbers_passing : ℕ → List ℕ → List ImageSection → List ℕ
  numbers_passing k ns ss = map (λ (s : KeptSection). s.number) (filter (λ (s : KeptSection). test s.section) (kept_from k ns ss))

  none_before : (k b v : ℕ) (ns : List ℕ) (ss : List ImageSection) → CountUp b ns → v < b → is_one_of (numbers_passing k ns ss) v ≡ false
  none_before k b v [] ss up h = refl
  none_before k b v (n ∷ ns) [] up h = refl
  none_before k b v (n ∷ ns) (t ∷ ss) up h =
      by_test (test t) (ne_eqb n v (λ e. absurd (omega (arith, e, h, count_from b n ns up)))) (none_before (k + 1) (b + 1) v ns ss (count_on b n ns up) (omega (arith, h)))
    where
      by_test : (a : Bool) → (n == v) ≡ false → is_one_of (numbers_passing (k + 1) ns ss) v ≡ false
          → is_one_of (map (λ (s : KeptSection). s.number) (cond a (record { position = k; number = n; section = t } ∷ filter (λ (s : KeptSection). test s.section) (kept_from (k + 1) ns ss)) (filter (λ (s : KeptSection). test s.section) (kept_from (k + 1) ns ss)))) v ≡ false
      by_test true e rest = ap (λ c. c || is_one_of (numbers_passing (k + 1) ns ss) v) e ∙ rest
      by_test false e rest = rest

  passes_at : (k b m : ℕ) (ns : List ℕ) (ss : List ImageSection) (d : ImageSection) → CountUp b ns → length ns ≡ length ss → m < length ss
      → is_one_of (numbers_passing k ns ss) (b + m) ≡ test (get_or ss m d)
  passes_at k b m [] [] d up e h = absurd (omega (arith, h))
  passes_at k b m [] (t ∷ ss) d up e h = absurd (omega (arith, e))
  passes_at k b m (n ∷ ns) [] d up e h = absurd (omega (arith, e))
  passes_at k b zero (n ∷ ns) (t ∷ ss) d up e h =
      by_test (test t) (eq-eqb n (b + 0) (omega (arith, count_from b n ns up))) (none_before (k + 1) (b + 1) (b + 0) ns ss (count_on b n ns up) (omega arith))
    where
      by_test : (a : Bool) → (n == (b + 0)) ≡ true → is_one_of (numbers_passing (k + 1) ns ss) (b + 0) ≡ false
          → is_one_of (map (λ (s : KeptSection). s.number) (cond a (record { position = k; number = n; section = t } ∷ filter (λ (s : KeptSection). test s.section) (kept_from (k + 1) ns ss)) (filter (λ (s : KeptSection). test s.section) (kept_from (k + 1) ns ss)))) (b + 0) ≡ a
      by_test true e rest = ap (λ c. c || is_one_of (numbers_passing (k + 1) ns ss) (b + 0)) e
      by_test false e rest = rest
  passes_at k b (suc m) (n ∷ ns) (t ∷ ss) d up e h =
      by_test (test t) (ne_eqb n (b + suc m) (λ f. absurd (omega (arith, f, count_from b n ns up))))
      (let move : b + suc m ≡ b + 1 + m = omega arith in
      ap (is_one_of (numbers_passing (k + 1) ns ss)) move ∙ passes_at (k + 1) (b + 1) m ns ss d (count_on b n ns up) (omega (arith, e)) (omega (arith, h)))
    where
      by_test : (a : Bool) → (n == (b + suc m)) ≡ false → is_one_of (numbers_passing (k + 1) ns ss) (b + suc m) ≡ test (get_or ss m d)
          → is_one_of (map (λ (s : KeptSection). s.number) (cond a (record { position = k; number = n; section = t } ∷ filter (λ (s : KeptSection). test s.section) (kept_from (k + 1) ns ss)) (filter (λ (s : KeptSection). test s.section) (kept_from (k + 1) ns ss)))) (b + suc m) ≡ test (get_or ss m d)
      by_test true e rest = ap (λ c. c || is_one_of (numbers_passing (k + 1) ns ss) (b + suc m)) e ∙ rest
      by_test false e rest = rest

filter_same : {A : Type 0} → (p q : A → Bool) (xs : List A) → All (λ x. p x ≡ q x) xs → filter p xs ≡ filter q xs
filter_same p q [] all = refl
filter_same p q (x ∷ xs) all =
    ap (λ b. cond b (x ∷ filter p xs) (filter p xs)) (All-head (λ y. p y ≡ q y) x xs all)
    ∙ ap (λ l. cond (q x) (x ∷ l) l) (filter_same p q xs (All-tail (λ y. p y ≡ q y) x xs all))

-- an image that was read and edited, and the image as it was read
pub record IsReadAgain (r : Resized) : Type 0 where
  pub edited : IsEdited r.image
  pub same : r.read ≡ edited.read
  pub numbers : r.read.section_numbers ≡ counted (length r.read.sections)

read_source-is : (r : Resized) → IsResized r → IsEdited r.image → IsReadAgain r
read_source-is r h edited =
    let (p, there, parts, rules, holds) = read_images_hold_parts r.image.source edited.read edited.is_read in
    let same : r.read ≡ edited.read = h.read ∙ ap (λ f. elim f as (λ _. Image) [ Ok read ↦ read | Err _ ↦ r.image ]) edited.is_read in
    record { edited = edited; same = same; numbers = subst (λ (image : Image). image.section_numbers ≡ counted (length image.sections)) (sym same) holds.section_numbers }

-- what is seen of an image with sizes, and of the image as it was read
pub again-seen : (x r : Resized) → x ≡ r → IsResized x → IsEdited x.image → IsReadAgain r
again-seen x r e h edited = let P : Resized → Type 0 = IsReadAgain in subst P e (read_source-is x h edited)

count_up : (r : Resized) → IsReadAgain r → CountUp 0 r.read.section_numbers
unfolding CountUp
count_up r is i h =
    let long : length r.read.section_numbers ≡ length r.read.sections = ap length is.numbers ∙ length-counted (length r.read.sections) in
    let zero_add : i ≡ 0 + i = omega arith in
    ap (λ ns. slice_index ns i) is.numbers ∙ slice_index-counted (length r.read.sections) i (omega (arith, long, h)) ∙ zero_add

-- a note that is still there has the bytes that it had at read
notes_same : (r : Resized) (p : SegmentHeader) → IsReadAgain r → notes_under r.read r.image p ≡ filter (shares_bytes p) (kept_sections r.image)
notes_same r p is = filter_same (λ s. is_one_of (map (λ n. n.number) (sharers r.read p)) s.number) (shares_bytes p) (kept_sections r.image)
    (λ i d h. at i d h)
  where
    at : (i : ℕ) (d : KeptSection) → i < length (kept_sections r.image)
        → is_one_of (map (λ n. n.number) (sharers r.read p)) (get_or (kept_sections r.image) i d).number ≡ shares_bytes p (get_or (kept_sections r.image) i d)
    at i d h =
        let picked = is.edited.is_edit.sections in
        let many : length (kept_sections r.image) ≡ length r.image.sections = length-kept r.image picked.numbered in
        let within : i < length r.image.sections = omega (arith, many, h) in
        let s : ImageSection = get_or r.image.sections i d.section in
        let m : ℕ = slice_index r.image.section_numbers i in
        let (old, there, changed) = picked.same i s (slice_get-get_or r.image.sections i d.section within) in
        let read_there : slice_get r.read.sections m ≡ Some old = ap (λ (image : Image). slice_get image.sections m) is.same ∙ there in
        let long : length r.read.section_numbers ≡ length r.read.sections = ap length is.numbers ∙ length-counted (length r.read.sections) in
        let test : ImageSection → Bool = λ t. shares_bytes p (record { position = i; number = m; section = t }) in
        let zero_add : m ≡ 0 + m = omega arith in
        let kept : get_or (kept_sections r.image) i d ≡ record { position = i; number = m; section = s } = kept-at r.image i d d.section picked.numbered within in
        subst (λ (x : KeptSection). is_one_of (map (λ n. n.number) (sharers r.read p)) x.number ≡ shares_bytes p x) (sym kept)
        (ap (is_one_of (map (λ n. n.number) (sharers r.read p))) zero_add
        ∙ passes_at test 0 0 m r.read.section_numbers r.read.sections old (count_up r is) long (slice_get_within r.read.sections m old read_there)
        ∙ ap test (get_or_from_slice_get r.read.sections m old old read_there)
        ∙ sym (ap test changed.1))

-- the notes at read are loaded notes that the program header has all of
notes_inside : (r : Resized) (p : SegmentHeader) → is_over_notes r.read p ≡ true → list_all (is_note_in p) (sharers r.read p) ≡ true
notes_inside r p over =
    (and_parts (is_one_of (PT_NOTE ∷ PT_GNU_PROPERTY ∷ []) p.p_type && nat_le 2 (length (sharers r.read p))) (list_all (is_note_in p) (sharers r.read p)) over).1

all_pass : {A : Type 0} → (p q : A → Bool) (xs : List A) → list_all q (filter p xs) ≡ true → All (λ x. p x ≡ true → q x ≡ true) xs
all_pass p q [] e = All-nil (λ x. p x ≡ true → q x ≡ true)
all_pass {A} p q (x ∷ xs) e = by_test (p x) refl (λ f. all_pass p q xs f) e
  where
    by_test : (b : Bool) → p x ≡ b → (list_all q (filter p xs) ≡ true → All (λ y. p y ≡ true → q y ≡ true) xs)
        → list_all q (cond b (x ∷ filter p xs) (filter p xs)) ≡ true → All (λ y. p y ≡ true → q y ≡ true) (x ∷ xs)
    by_test true is others h =
        let (here, rest) = and_parts (q x) (list_all q (filter p xs)) h in
        All-cons (λ y. p y ≡ true → q y ≡ true) x xs (λ _. here) (others rest)
    by_test false is others h = All-cons (λ y. p y ≡ true → q y ≡ true) x xs (λ g. absurd (true≢false (sym g ∙ is))) (others h)

-- where a program header is over notes, those that are still there are the sections that begin in its bytes
pub notes_begin : (r : Resized) (p : SegmentHeader) → IsReadAgain r → is_over_notes r.read p ≡ true → map (λ (s : KeptSection). s.position) (notes_under r.read r.image p) ≡ positions_in (indexed_sections r.image) (file_part p)
notes_begin r p is over =
    ap (map (λ (s : KeptSection). s.position)) (notes_same r p is ∙ filter_same (shares_bytes p) (λ s. begins_in (file_part p) (section_at s)) (kept_sections r.image) (λ i d h. at i d h))
    ∙ sym (map-map section_at (λ (s : SectionAt). s.position) (filter (λ s. begins_in (file_part p) (section_at s)) (kept_sections r.image)))
    ∙ sym (ap positions_at (filter-map section_at (begins_in (file_part p)) (kept_sections r.image)))
  where
    at : (i : ℕ) (d : KeptSection) → i < length (kept_sections r.image)
        → shares_bytes p (get_or (kept_sections r.image) i d) ≡ begins_in (file_part p) (section_at (get_or (kept_sections r.image) i d))
    at i d h =
        let picked = is.edited.is_edit.sections in
        let many : length (kept_sections r.image) ≡ length r.image.sections = length-kept r.image picked.numbered in
        let within : i < length r.image.sections = omega (arith, many, h) in
        let s : ImageSection = get_or r.image.sections i d.section in
        let m : ℕ = slice_index r.image.section_numbers i in
        let (old, there, changed) = picked.same i s (slice_get-get_or r.image.sections i d.section within) in
        let read_there : slice_get r.read.sections m ≡ Some old = ap (λ (image : Image). slice_get image.sections m) is.same ∙ there in
        let long : length r.read.section_numbers ≡ length r.read.sections = ap length is.numbers ∙ length-counted (length r.read.sections) in
        let m_within : m < length r.read.sections = slice_get_within r.read.sections m old read_there in
        let kept : get_or (kept_sections r.image) i d ≡ record { position = i; number = m; section = s } = kept-at r.image i d d.section picked.numbered within in
        let k : KeptSection = get_or (kept_sections r.read) m d in
        let k_is : k ≡ record { position = m; number = slice_index r.read.section_numbers m; section = old } =
        kept-at r.read m d old long m_within ∙ ap (λ (t : ImageSection). let x : KeptSection = record { position = m; number = slice_index r.read.section_numbers m; section = t } in x) (get_or_from_slice_get r.read.sections m old old read_there) in
        let k_within : m < length (kept_sections r.read) = omega (arith, length-kept r.read long, m_within) in
        let note = all_pass (shares_bytes p) (is_note_in p) (kept_sections r.read) (notes_inside r p over) m d k_within in
        let test : ImageSection → Bool = λ t. shares_bytes p (record { position = i; number = m; section = t }) in
        subst (λ (x : KeptSection). shares_bytes p x ≡ begins_in (file_part p) (section_at x)) (sym kept)
        (shares_begins p (section_at (record { position = i; number = m; section = s })) (λ shares.
        let shares_old : shares_bytes p k ≡ true = ap (λ (x : KeptSection). shares_bytes p x) k_is ∙ sym (ap test changed.1) ∙ shares in
        let inside : is_note_in p (record { position = m; number = slice_index r.read.section_numbers m; section = old }) ≡ true = ap (is_note_in p) (sym k_is) ∙ note shares_old in
        let ends = (and_parts (old.sh_type == SHT_NOTE && is_loaded_section old) (lies_in (file_range (place_at_read old)) (file_part p)) inside).1 in
        let first = (and_parts (nat_le p.p_offset old.sh_offset) (nat_le (old.sh_offset + old.sh_size) (p.p_offset + p.p_filesz)) ends).0 in
        let same : s.sh_offset ≡ old.sh_offset = ap (λ (t : ImageSection). t.sh_offset) changed.1 in
        omega (arith, same, leb-true p.p_offset old.sh_offset first)))

-- ## All of them

pub anchor_position-is : (r : Resized) (p : SegmentHeader) → anchor_position_of (searched_lists r) p ≡ anchor_position p (anchor_of r.read r.image p)
unfolding anchor_position_of anchor_position_by_range is_over_notes_at anchor_of
anchor_position-is r p =
    let xs : List KeptSection = kept_sections r.image in
    by_type (p.p_type == PT_LOAD) (p.p_type == PT_PHDR) (p.p_type == PT_DYNAMIC) (p.p_type == PT_INTERP) (does_relro_stay r.image.moves_dynamic p.p_type) (p.p_filesz == 0)
    (is_one_of (PT_NOTE ∷ PT_GNU_PROPERTY ∷ []) p.p_type && are_notes_in p (indexed_sections r.read)) (is_over_notes r.read p) (over_notes r p)
    _ _ _ _ (section_or_table (section_under r.image p)) (anchor_or_itself (kept_of_type SHT_DYNAMIC r.image)) (anchor_or_itself (find (is_numbered (interpreter_number r.read)) xs)) (anchor_or_itself (section_under r.image p)) (notes_under r.read r.image p)
    (table_or_under r p) (first_found p (OfType SHT_DYNAMIC) xs) (position_by_number p (interpreter_number r.read) xs) (anchored_under r p)
  where
    by_type : (loaded phdr dynamic interpreter stays empty a b : Bool) → a ≡ b → (t x y under_it : AnchorPosition) (ot ox oy over_it : Anchor) (ks : List KeptSection)
        → t ≡ anchor_position p ot → x ≡ anchor_position p ox → y ≡ anchor_position p oy → under_it ≡ anchor_position p over_it
        → (if loaded then itself else if phdr then t else if dynamic then x else if interpreter then y else if stays then itself else if empty then itself else if a then notes (file_part p) else under_it)
        ≡ anchor_position p (if loaded then Itself else if phdr then ot else if dynamic then ox else if interpreter then oy else if stays then Itself else if empty then Itself else if b then Notes ks else over_it)
    by_type true phdr dynamic interpreter stays empty a b e t x y under_it ot ox oy over_it ks et ex ey eu = refl
    by_type false true dynamic interpreter stays empty a b e t x y under_it ot ox oy over_it ks et ex ey eu = et
    by_type false false true interpreter stays empty a b e t x y under_it ot ox oy over_it ks et ex ey eu = ex
    by_type false false false true stays empty a b e t x y under_it ot ox oy over_it ks et ex ey eu = ey
    by_type false false false false true empty a b e t x y under_it ot ox oy over_it ks et ex ey eu = refl
    by_type false false false false false true a b e t x y under_it ot ox oy over_it ks et ex ey eu = refl
    by_type false false false false false false true true e t x y under_it ot ox oy over_it ks et ex ey eu = refl
    by_type false false false false false false true false e t x y under_it ot ox oy over_it ks et ex ey eu = absurd (true≢false e)
    by_type false false false false false false false true e t x y under_it ot ox oy over_it ks et ex ey eu = absurd (true≢false (sym e))
    by_type false false false false false false false false e t x y under_it ot ox oy over_it ks et ex ey eu = eu

pub map_same : {A B : Type 0} → (f g : A → B) → ((x : A) → f x ≡ g x) → (xs : List A) → map f xs ≡ map g xs
map_same f g e [] = refl
map_same f g e (x ∷ xs) = ap (λ y. y ∷ map f xs) (e x) ∙ ap (λ l. g x ∷ l) (map_same f g e xs)

-- what each program header that is seen goes by
pub anchors-are : (r : Resized) (segments : List Segment) → map segment_model segments ≡ r.image.segments
    → map (λ s. anchor_position_of (searched_lists r) (segment_model s)) segments ≡ map (λ p. anchor_position p (anchor_of r.read r.image p)) r.image.segments
anchors-are r segments seen =
    sym (map-map segment_model (anchor_position_of (searched_lists r)) segments)
    ∙ ap (map (anchor_position_of (searched_lists r))) seen
    ∙ map_same (anchor_position_of (searched_lists r)) (λ p. anchor_position p (anchor_of r.read r.image p)) (λ p. anchor_position-is r p) r.image.segments
