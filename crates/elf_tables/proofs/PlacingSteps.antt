-- Bytes that are compared with a text, and a table in which a text is placed.
use Rattle.std.proofs.Common.{◌≡◌, ℕ, zero, suc, ◌+◌, ◌-◌, ◌<◌, true, false, List, [], ◌∷◌, ◌++◌, length, drop, take, get_or, sym, subst, ap, ◌∙◌, nat_eq, refl, Option, Some, arith}
use Rattle.std.specs.Prelude.{IsSome, IsTrue}
use Rattle.std.specs.Cmp.Lexicographic.{bytes_decides}
use Rattle.std.specs.List.{starts_with}
use Rattle.std.specs.Map.{lookup}
use Rattle.std.specs.Str.{bytes_eq}
use Rattle.std.proofs.Math.Seq.{get_or-append_seam, take-append_seam}
use Rattle.std.proofs.lemmas.Bool.{cond-false, cond-true, ne_eqb, true≢false}
use Rattle.std.proofs.lemmas.List.{get_or-take, length-drop, take-take, take_all, take_more}
use Rattle.elf_image.proofs.ForCallers.EditedLaws.{text_whole}
use Rattle.patch_bytes.specs.Memory.{memory_of}
use Rattle.elf_tables.specs.StringSteps.{StandsWith}
use Rattle.elf_tables.specs.Strings.{IsPlaced, PlacesStand, StandsAt, holds_nul}
use Rattle.elf_tables.proofs.LaySteps.{PutsPlace, stand_shared}
use Rattle.elf_tables.proofs.TextLists.{by_test}

-- ## Bytes that are compared

-- the bytes from a place on, as a slice has them
pub from_place : (table : List ℕ) (place : ℕ) → take (length table - place) (drop place table) ≡ drop place table
from_place table place = take_all (length table - place) (drop place table) (omega (arith, length-drop place table))

-- bytes that begin with the text, and then have a NUL
pub there-from : (table : List ℕ) (place : ℕ) (text : List ℕ) (d : ℕ) → place + length text < length table → starts_with nat_eq (drop place table) text ≡ true
    → get_or (drop place table) (length text) d ≡ 0 → StandsWith table place text
unfolding StandsWith
there-from table place text d within begins nul =
    let rest : List ℕ = drop place table in
    let front : text ≡ take (length text) rest = (bytes_decides text (take (length text) rest)).0 begins in
    take_more rest (length text) d (omega (arith, length-drop place table)) ∙ ap (λ l. l ++ get_or rest (length text) d ∷ []) (sym front) ∙ ap (λ x. text ++ x ∷ []) nul

pub there-begins : (table : List ℕ) (place : ℕ) (text : List ℕ) → StandsWith table place text → starts_with nat_eq (drop place table) text ≡ true
unfolding StandsWith
there-begins table place text stands =
    let rest : List ℕ = drop place table in
    let whole : take (length text) (take (length text + 1) rest) ≡ take (length text) (text ++ 0 ∷ []) = ap (take (length text)) stands in
    let front : text ≡ take (length text) rest = sym (take-append_seam text (0 ∷ [])) ∙ sym whole ∙ take-take (length text) (length text + 1) rest (omega arith) in
    (bytes_decides text (take (length text) rest)).1 front

pub there-nul : (table : List ℕ) (place : ℕ) (text : List ℕ) (d : ℕ) → StandsWith table place text → get_or (drop place table) (length text) d ≡ 0
unfolding StandsWith
there-nul table place text d stands =
    let rest : List ℕ = drop place table in
    let whole : get_or (take (length text + 1) rest) (length text) d ≡ get_or (text ++ 0 ∷ []) (length text) d = ap (λ l. get_or l (length text) d) stands in
    sym (get_or-take (length text + 1) rest (length text) d (omega arith)) ∙ whole ∙ get_or-append_seam text 0 [] d

pub nul-is : (x : ℕ) → IsTrue (nat_eq x 0) → x ≡ 0
nul-is zero is = refl
nul-is (suc x) is = absurd (true≢false (sym is ∙ ne_eqb (suc x) 0 (λ none. absurd (omega arith))))

pub nul-from : (x : ℕ) → x ≡ 0 → IsTrue (nat_eq x 0)
nul-from x e = rw e refl

-- what a reader finds has no NUL
pub stands-whole : (table : List ℕ) (place : ℕ) (text : List ℕ) → StandsAt table place text → holds_nul text ≡ false
stands-whole table place text stands =
    let within : length text < length text + 1 = omega arith in
    text_whole (length text + 1) (memory_of table) place text (stands.read (length text + 1) within)

-- ## One more place

some_place : (o : Option ℕ) (place : ℕ) → o ≡ Some place → IsSome o
some_place o place e = subst (λ (p : Option ℕ). IsSome p) (sym e) refl

pub is-placed : (bytes in_order : List ℕ) (old new : List (List ℕ × ℕ)) (text : List ℕ) (place : ℕ) → PutsPlace old new text place
    → IsPlaced (record { bytes = bytes; places = old; in_order = in_order }) (record { bytes = bytes; places = new; in_order = in_order }) text place
unfolding PutsPlace
is-placed bytes in_order old new text place puts =
    let here : lookup (bytes_eq text) new ≡ Some place = puts text ∙ cond-true (bytes_eq text text) (Some place) (lookup (bytes_eq text) old) ((bytes_decides text text).1 refl) in
    record {
      bytes = refl;
      here = here;
      others = λ other apart. by_test (bytes_eq text other)
          (λ same. absurd (apart (sym ((bytes_decides text other).0 same))))
          (λ no. puts other ∙ cond-false (bytes_eq text other) (Some place) (lookup (bytes_eq other) old) no);
      had = λ other some. by_test (bytes_eq text other)
          (λ same. some_place (lookup (bytes_eq other) new) place (puts other ∙ cond-true (bytes_eq text other) (Some place) (lookup (bytes_eq other) old) same))
          (λ no. subst (λ (o : Option ℕ). IsSome o) (sym (puts other ∙ cond-false (bytes_eq text other) (Some place) (lookup (bytes_eq other) old) no)) some);
      in_order = refl;
    }

-- what is told of places is right, also of the one more
pub placed-stand : (bytes in_order : List ℕ) (old new : List (List ℕ × ℕ)) (text : List ℕ) (place : ℕ)
    → PlacesStand (record { bytes = bytes; places = old; in_order = in_order }) → PutsPlace old new text place
    → StandsAt bytes place text → PlacesStand (record { bytes = bytes; places = new; in_order = in_order })
placed-stand bytes in_order old new text place stand puts here = stand_shared bytes old new text place stand puts here
