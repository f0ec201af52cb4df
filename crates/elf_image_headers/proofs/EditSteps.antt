-- What a change of a `Vec` makes of the list that it shows.
use Rattle.std.proofs.Common.{◌≡◌, ℕ, zero, suc, ◌+◌, ◌<◌, ◌≤◌, Bool, true, false, cond, List, [], ◌∷◌, ◌++◌, length, map, take, drop, get_or, refl, sym, ap, ◌∙◌, subst, Some, None, arith}
use Rattle.std.specs.Prelude.{◌==◌, filter, if◌then◌else◌, not, position, slice_set}
use Rattle.std.specs.List.{position_from, remove}
use Rattle.std.proofs.lemmas.Iterator.Adapters.{position_from-zero}
use Rattle.std.proofs.lemmas.Option.{none-some}
use Rattle.std.proofs.lemmas.List.{map-append, map-set, set-get_or, take-map, drop-map, append-nil, get_or-map, length-map, take_all, drop_all}
use Rattle.std.proofs.lemmas.List.Edits.{map_over_more}
use Rattle.std.proofs.lemmas.List.Quantifiers.{position-Some}
use Rattle.elf_format.specs.declared.constants.TheConstants.{PT_GNU_STACK}
use Rattle.elf_format.specs.declared.records.SegmentHeader.{SegmentHeader}
use Rattle.elf_format.specs.File.{segment_of_type}
use Rattle.elf_format.specs.Dynamic.{Entry}
use Rattle.elf_image_headers.specs.declared.dynamic.Dynamic.{Dynamic}
use Rattle.elf_image_headers.specs.declared.dynamic.Dynamic.TheVariants as kinds
use Rattle.elf_image_headers.specs.DynamicList.{with_tag, with_tag_at, without_tag}
use Rattle.elf_image_headers.specs.DynamicTag.{tag_of}
use Rattle.elf_image_headers.specs.PartModels.{entry_model}
use Rattle.elf_image_headers.specs.Segments.{added_stack, with_stack_added, with_stack_flags}

-- ## Any list, seen element by element

pub map_remove : {A B : Type 0} (f : A → B) (xs : List A) (i : ℕ) → map f (remove xs i) ≡ remove (map f xs) i
map_remove f xs i = map-append f (take i xs) (drop (suc i) xs) ∙ ap (λ ys. ys ++ map f (drop (suc i) xs)) (sym (take-map f i xs)) ∙ ap (λ ys. take i (map f xs) ++ ys) (sym (drop-map f (suc i) xs))

module _ {A X : Type 0} (view : A → X) (f : X → X) (xs : List X) (i : ℕ) (within : i < length xs) (zs : List A) (so_far : map view zs ≡ map f (take i xs) ++ drop i xs) (here : i < length zs) (z : A) (is : z ≡ get_or zs i z) where
  -- the element at a place is changed
  pub next_changed : (z' : A) → view z' ≡ f (view z) → map view (slice_set zs i z') ≡ map f (take (i + 1) xs) ++ drop (i + 1) xs
  next_changed z' changes =
      map-set view zs i z' ∙ ap (λ x. slice_set (map view zs) i x) changes
      ∙ map_over_more f xs (map view zs) i (view z) within so_far (ap view is ∙ sym (get_or-map view zs i z (view z) here))

  -- the element at a place is what it changes to
  pub next_stays : f (view z) ≡ view z → map view zs ≡ map f (take (i + 1) xs) ++ drop (i + 1) xs
  next_stays stays = ap (map view) (sym (set-get_or zs i z) ∙ ap (slice_set zs i) (sym is)) ∙ next_changed z (sym stays)

-- ## The program header for the stack

abbrev pub is_stack : SegmentHeader → Bool
is_stack p = p.p_type == PT_GNU_STACK

flagged : SegmentHeader → ℕ → SegmentHeader
flagged p flags = record p { p_flags = flags }

-- the first that is one, by its place
flags_at : (ps : List SegmentHeader) (i : ℕ) (d : SegmentHeader) (flags : ℕ) → i < length ps → is_stack (get_or ps i d) ≡ true → ((k : ℕ) → k < i → is_stack (get_or ps k d) ≡ false)
    → slice_set ps i (flagged (get_or ps i d) flags) ≡ with_stack_flags flags ps
unfolding with_stack_flags flagged
flags_at [] i d flags within here before = absurd (omega arith)
flags_at (p ∷ ps) zero d flags within here before = rw here refl
flags_at (p ∷ ps) (suc i) d flags within here before =
    let first : is_stack p ≡ false = before 0 (omega arith) in
    rw first (ap (λ qs. p ∷ qs) (flags_at ps i d flags (omega arith) here (λ k below. before (suc k) (omega arith))))

-- by the place of the first among what is seen so
module _ {A : Type 0} (view : A → SegmentHeader) (zs : List A) (i : ℕ) (z : A) (is : z ≡ get_or zs i z) (found : position (λ a. is_stack (view a)) zs ≡ Some i) where
  seen : (k : ℕ) → k < length zs → get_or (map view zs) k (view z) ≡ view (get_or zs k z)
  seen k below = get_or-map view zs k z (view z) below

  -- the code's write is the change
  pub flags_set : (z' : A) (flags : ℕ) → view z' ≡ record (view z) { p_flags = flags } → map view (slice_set zs i z') ≡ with_stack_flags flags (map view zs)
  unfolding flagged
  flags_set z' flags changes =
      let (here, right, before) = position-Some (λ a. is_stack (view a)) zs i z found in
      let there : get_or (map view zs) i (view z) ≡ view z = seen i here ∙ ap view (sym is) in
      map-set view zs i z' ∙ ap (λ x. slice_set (map view zs) i x) (changes ∙ ap (λ (y : SegmentHeader). flagged y flags) (sym there))
      ∙ flags_at (map view zs) i (view z) flags (subst (λ n. i < n) (sym (length-map zs view)) here) (ap is_stack (seen i here) ∙ right)
      (λ k below. ap is_stack (seen k (omega arith)) ∙ before k below)

  pub first_seen : segment_of_type PT_GNU_STACK (map view zs) ≡ Some (view z)
  first_seen =
      let (here, right, before) = position-Some (λ a. is_stack (view a)) zs i z found in
      first_at zs i z here right before ∙ ap (λ a. Some (view a)) (sym is)
    where
      first_at : (rest : List A) (k : ℕ) (d : A) → k < length rest → is_stack (view (get_or rest k d)) ≡ true → ((j : ℕ) → j < k → is_stack (view (get_or rest j d)) ≡ false)
          → segment_of_type PT_GNU_STACK (map view rest) ≡ Some (view (get_or rest k d))
      first_at [] k d within here before = absurd (omega arith)
      first_at (a ∷ rest) zero d within here before = rw here refl
      first_at (a ∷ rest) (suc k) d within here before =
          let first : is_stack (view a) ≡ false = before 0 (omega arith) in
          rw first (first_at rest k d (omega arith) here (λ j below. before (suc j) (omega arith)))

-- the program header for the stack stands in the list
pub place_within : {A : Type 0} → (view : A → SegmentHeader) (zs : List A) (i : ℕ) → position (λ a. is_stack (view a)) zs ≡ Some i → i < length zs
place_within view [] i found = absurd (none-some i found)
place_within view (z ∷ zs) i found = (position-Some (λ a. is_stack (view a)) (z ∷ zs) i z found).0

-- no program header for the stack is found
pub none_seen : {A : Type 0} → (view : A → SegmentHeader) (zs : List A) → position (λ a. is_stack (view a)) zs ≡ None → segment_of_type PT_GNU_STACK (map view zs) ≡ None
none_seen {A} view zs h = none_from zs 0 (sym (position_from-zero (λ a. is_stack (view a)) zs) ∙ h)
  where
    none_by : (a : A) (rest : List A) (i : ℕ) (b : Bool) → ((k : ℕ) → position_from (λ z. is_stack (view z)) k rest ≡ None → segment_of_type PT_GNU_STACK (map view rest) ≡ None)
        → cond b (Some i) (position_from (λ z. is_stack (view z)) (i + 1) rest) ≡ None → cond b (Some (view a)) (segment_of_type PT_GNU_STACK (map view rest)) ≡ None
    none_by a rest i true more e = absurd (none-some i (sym e))
    none_by a rest i false more e = more (i + 1) e

    none_from : (rest : List A) (i : ℕ) → position_from (λ a. is_stack (view a)) i rest ≡ None → segment_of_type PT_GNU_STACK (map view rest) ≡ None
    none_from [] i e = refl
    none_from (a ∷ rest) i e = none_by a rest i (is_stack (view a)) (none_from rest) e

-- where there is no program header for the stack, there is nothing to change
pub none_flagged : (flags : ℕ) (ps : List SegmentHeader) → segment_of_type PT_GNU_STACK ps ≡ None → with_stack_flags flags ps ≡ ps
unfolding with_stack_flags flagged
none_flagged flags [] h = refl
none_flagged flags (p ∷ ps) h = by_type p ps (is_stack p) (none_flagged flags ps) h
  where
    by_type : (q : SegmentHeader) (qs : List SegmentHeader) (b : Bool) → (segment_of_type PT_GNU_STACK qs ≡ None → with_stack_flags flags qs ≡ qs)
        → cond b (Some q) (segment_of_type PT_GNU_STACK qs) ≡ None → (if b then flagged q flags ∷ qs else q ∷ with_stack_flags flags qs) ≡ q ∷ qs
    by_type q qs true more e = absurd (none-some q (sym e))
    by_type q qs false more e = ap (λ rest. q ∷ rest) (more e)

-- flags that are set behind others are those of what was added there
pub flags_pushed : (f g : ℕ) (ps : List SegmentHeader) → segment_of_type PT_GNU_STACK ps ≡ None → with_stack_flags g (with_stack_added f ps) ≡ with_stack_added g ps
unfolding with_stack_flags flagged
flags_pushed f g [] h = refl
flags_pushed f g (p ∷ ps) h = by_type p ps (is_stack p) (flags_pushed f g ps) h
  where
    by_type : (q : SegmentHeader) (qs : List SegmentHeader) (b : Bool) → (segment_of_type PT_GNU_STACK qs ≡ None → with_stack_flags g (with_stack_added f qs) ≡ with_stack_added g qs)
        → cond b (Some q) (segment_of_type PT_GNU_STACK qs) ≡ None → (if b then flagged q g ∷ with_stack_added f qs else q ∷ with_stack_flags g (with_stack_added f qs)) ≡ q ∷ with_stack_added g qs
    by_type q qs true more e = absurd (none-some q (sym e))
    by_type q qs false more e = ap (λ rest. q ∷ rest) (more e)

-- the program header for the stack that is added is the first one
pub pushed_found : (f : ℕ) (ps : List SegmentHeader) → segment_of_type PT_GNU_STACK ps ≡ None → segment_of_type PT_GNU_STACK (with_stack_added f ps) ≡ Some (added_stack f)
pushed_found f [] h = refl
pushed_found f (p ∷ ps) h = by_type p ps (is_stack p) (pushed_found f ps) h
  where
    by_type : (q : SegmentHeader) (qs : List SegmentHeader) (b : Bool) → (segment_of_type PT_GNU_STACK qs ≡ None → segment_of_type PT_GNU_STACK (with_stack_added f qs) ≡ Some (added_stack f))
        → cond b (Some q) (segment_of_type PT_GNU_STACK qs) ≡ None → cond b (Some q) (segment_of_type PT_GNU_STACK (with_stack_added f qs)) ≡ Some (added_stack f)
    by_type q qs true more e = absurd (none-some q (sym e))
    by_type q qs false more e = more e

-- the program header for the stack that is added stands behind the others
pub pushed_place : (f : ℕ) (ps : List SegmentHeader) → segment_of_type PT_GNU_STACK ps ≡ None → position is_stack (with_stack_added f ps) ≡ Some (length ps)
pushed_place f ps h = position_from-zero is_stack (with_stack_added f ps) ∙ place_from ps 0 h ∙ ap Some (omega arith)
  where
    by_place : (q : SegmentHeader) (qs : List SegmentHeader) (i : ℕ) (b : Bool) → ((k : ℕ) → segment_of_type PT_GNU_STACK qs ≡ None → position_from is_stack k (with_stack_added f qs) ≡ Some (k + length qs))
        → cond b (Some q) (segment_of_type PT_GNU_STACK qs) ≡ None → cond b (Some i) (position_from is_stack (i + 1) (with_stack_added f qs)) ≡ Some (i + suc (length qs))
    by_place q qs i true more e = absurd (none-some q (sym e))
    by_place q qs i false more e = more (i + 1) e ∙ ap Some (omega arith)

    place_from : (qs : List SegmentHeader) (i : ℕ) → segment_of_type PT_GNU_STACK qs ≡ None → position_from is_stack i (with_stack_added f qs) ≡ Some (i + length qs)
    place_from [] i e = ap Some (omega arith)
    place_from (q ∷ qs) i e = by_place q qs i (is_stack q) (place_from qs) e

-- ## The dynamic list

-- a tag at a place
pub tag_set : (zs : List Dynamic) (i tag : ℕ) (z z' : Dynamic) → i < length zs → z ≡ get_or zs i z → entry_model z' ≡ with_tag tag (entry_model z)
    → map entry_model (slice_set zs i z') ≡ with_tag_at i tag (map entry_model zs)
unfolding with_tag_at
tag_set [] i tag z z' within is changes = absurd (omega arith)
tag_set (e ∷ es) zero tag z z' within is changes = ap (λ x. x ∷ map entry_model es) (changes ∙ ap (λ x. with_tag tag (entry_model x)) is)
tag_set (e ∷ es) (suc i) tag z z' within is changes = ap (λ xs. entry_model e ∷ xs) (tag_set es i tag z z' (omega arith) is changes)

-- the entries without a tag
pub without_kept : (zs : List Dynamic) (tag : ℕ) → map entry_model (filter (λ e. not (tag_of e == tag)) zs) ≡ without_tag tag (map entry_model zs)
without_kept [] tag = refl
without_kept (z ∷ zs) tag = by_tag z zs tag (without_kept zs tag)
  where
    split : (b : Bool) (z : Dynamic) (kept : List Dynamic) (rest : List Entry) → map entry_model kept ≡ rest → map entry_model (if b then z ∷ kept else kept) ≡ (if b then entry_model z ∷ rest else rest)
    split true z kept rest h = ap (λ xs. entry_model z ∷ xs) h
    split false z kept rest h = h

    by_tag : (z : Dynamic) (zs : List Dynamic) (tag : ℕ) → map entry_model (filter (λ e. not (tag_of e == tag)) zs) ≡ without_tag tag (map entry_model zs)
        → map entry_model (filter (λ e. not (tag_of e == tag)) (z ∷ zs)) ≡ without_tag tag (map entry_model (z ∷ zs))
    by_tag (kinds.Auto t) zs tag h = split (not (t == tag)) (kinds.Auto t) _ _ h
    by_tag (kinds.Integer t v) zs tag h = split (not (t == tag)) (kinds.Integer t v) _ _ h
    by_tag (kinds.Text t v) zs tag h = split (not (t == tag)) (kinds.Text t v) _ _ h

-- ## Loops over all

-- all elements are changed once the last one is
pub mapped_all : {X : Type 0} → (f : X → X) (ys xs : List X) (i : ℕ) → length xs ≤ i → ys ≡ map f (take i xs) ++ drop i xs → ys ≡ map f xs
mapped_all f ys xs i past so_far = so_far ∙ ap (λ l. map f l ++ drop i xs) (take_all i xs past) ∙ ap (λ l. map f xs ++ l) (drop_all i xs past) ∙ append-nil (map f xs)
