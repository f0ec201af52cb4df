-- The least offset of content, as it is found part by part.
use Rattle.std.proofs.Common.{◌≡◌, ℕ, suc, ◌+◌, ◌*◌, ◌-◌, ◌<◌, ◌≤◌, ◌⊎◌, inl, inr, min, List, [], ◌∷◌, ◌++◌, length, take, drop, refl, sym, ◌∙◌, arith, true, false, ap}
use Rattle.std.specs.List.{All}
use Rattle.std.proofs.lemmas.List.{length-drop, take_rest}
use Rattle.std.proofs.lemmas.List.Elements.{All-cons, All-nil}
use Rattle.patch_bytes.specs.declared.number.ByteOrder2.{ByteOrder2}
use Rattle.macho_image.specs.Command.{SegmentForm, section_content, sections_content, cmd_of, contents_of, is_text_kind}
use Rattle.macho_image.specs.Commands.{IsLeastOf, IsOneOf, first_content_of, least, named_contents}
use Rattle.std.proofs.lemmas.Bool.{cases_lt, ne_eqb}
use Rattle.macho_image.specs.declared.command.TheConstants.{LC_SEGMENT, LC_SEGMENT_64, LC_SYMTAB}

-- the least of two lists, one after the other
pub least-append : (n : ℕ) (xs ys : List ℕ) → least n (xs ++ ys) ≡ least (least n xs) ys
least-append n [] ys = refl
least-append n (x ∷ xs) ys = least-append (min n x) xs ys

pub ruleset contents = least-append

-- the least of a number and others is at most that number, and at most each of the others
pub least-le : (n : ℕ) (xs : List ℕ) → least n xs ≤ n
least-le n [] = omega arith
least-le n (x ∷ xs) = let rest = least-le (min n x) xs in omega arith

least-le_each : (n : ℕ) (xs : List ℕ) → All (λ x. least n xs ≤ x) xs
least-le_each n [] = All-nil (λ x. n ≤ x)
least-le_each n (x ∷ xs) =
    let here = least-le (min n x) xs in
    All-cons (λ y. least (min n x) xs ≤ y) x xs (omega arith) (least-le_each (min n x) xs)

-- the least of a number and others is one of them
one_more : (n x : ℕ) (xs : List ℕ) → IsOneOf n xs → IsOneOf n (x ∷ xs)
one_more n x xs one = record { index = suc one.index; within = let w = one.within in omega arith; is = one.is }

least-one : (n : ℕ) (xs : List ℕ) → (least n xs ≡ n) ⊎ IsOneOf (least n xs) xs
least-one n [] = inl refl
least-one n (x ∷ xs) =
    elim (least-one (min n x) xs) [
      | inl bound ↦
          elim (cases_lt x n) [
            | inl below ↦ inr (record { index = 0; within = omega arith; is = let e : min n x ≡ x = omega arith in sym (bound ∙ e) })
            | inr above ↦ inl (let e : min n x ≡ n = omega arith in bound ∙ e)
          ]
      | inr one ↦ inr (one_more (least (min n x) xs) x xs one)
    ]

pub least_is : (n : ℕ) (xs : List ℕ) → IsLeastOf (least n xs) n xs
least_is n xs = record { most = least-le n xs; each = least-le_each n xs; one = least-one n xs }

-- where content begins at the earliest
pub first_content_is : (bytes : List ℕ) → IsLeastOf (first_content_of bytes) (length bytes) (named_contents bytes)
unfolding first_content_of
first_content_is bytes = least_is (length bytes) (named_contents bytes)

-- one section of those that are left
pub least_more_sections : (f : SegmentForm) (order : ByteOrder2) (all so_far next count i : ℕ) (rest : List ℕ) → i < count → least so_far (sections_content f order (count - i) rest) ≡ all → next ≡ least so_far (section_content f order rest) → least next (sections_content f order (count - (i + 1)) (take (length rest - f.section) (drop f.section rest))) ≡ all
least_more_sections f order all so_far next count i rest within before is =
    let left : count - i ≡ suc (count - (i + 1)) = omega arith in
    let step = rw left at before in
    rw (take_rest rest f.section, is) (sym (least-append so_far (section_content f order rest) (sections_content f order (count - (i + 1)) (drop f.section rest))) ∙ step)

-- the room for the sections that are left
pub room_for_more : (size count i : ℕ) (rest : List ℕ) → i < count → size * (count - i) ≤ length rest → size * (count - (i + 1)) ≤ length (take (length rest - size) (drop size rest))
room_for_more size count i rest within room =
    let left : count - i ≡ suc (count - (i + 1)) = omega arith in
    let step = rw left at room in
    rw (take_rest rest size, length-drop) (omega arith)

-- a command that is no segment and no symbol table names no content
pub contents_of-none : (order : ByteOrder2) (c : List ℕ) → (cmd_of order c ≡ LC_SEGMENT → ⊥) → (cmd_of order c ≡ LC_SEGMENT_64 → ⊥) → (cmd_of order c ≡ LC_SYMTAB → ⊥) → contents_of order c ≡ []
unfolding contents_of
contents_of-none order c a b d =
    rw (ne_eqb (cmd_of order c) LC_SEGMENT a, ne_eqb (cmd_of order c) LC_SEGMENT_64 b, ne_eqb (cmd_of order c) LC_SYMTAB d) refl

-- a command that holds a text names no content
no_text : (cmd kind : ℕ) → is_text_kind kind ≡ false → is_text_kind cmd ≡ true → cmd ≡ kind → ⊥
no_text cmd kind out text same = let e : is_text_kind cmd ≡ is_text_kind kind = ap is_text_kind same in cc

pub contents_of-text : (order : ByteOrder2) (c : List ℕ) → is_text_kind (cmd_of order c) ≡ true → contents_of order c ≡ []
contents_of-text order c text =
    contents_of-none order c (no_text (cmd_of order c) LC_SEGMENT refl text) (no_text (cmd_of order c) LC_SEGMENT_64 refl text) (no_text (cmd_of order c) LC_SYMTAB refl text)
