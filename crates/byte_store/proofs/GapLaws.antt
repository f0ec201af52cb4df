-- Positions that spans leave out.
use Rattle.std.proofs.Common.{◌≡◌, ◌≤◌, ◌<◌, ℕ, suc, List, [], ◌∷◌, ◌++◌, length, drop, get_or, min, max, inl, inr, refl, sym, ap, ◌∙◌, subst, arith, All, Bool, true, false, not, ◌&&◌, ◌||◌, ltb, leb}
use Rattle.std.specs.List.Sorted.{IsNonDecreasingBy, IsPermutation}
use Rattle.std.proofs.lemmas.List.{append_assoc, drop_all}
use Rattle.std.proofs.lemmas.List.Elements.{All-append, All-cons, All-nil, All-same}
use Rattle.std.proofs.lemmas.List.Folds.{list_any-append, list_any_none}
use Rattle.std.proofs.lemmas.List.Sorted.{list_any-IsPermutation}
use Rattle.std.proofs.lemmas.Bool.{and_left, cases_lt, cond_both, le-leb, le-ltb, lt-leb, lt-ltb, ltb-true}
use Rattle.byte_store.specs.Laid.{Patch}
use Rattle.byte_store.specs.Composed.{has_position, is_in_spans, is_patched, is_patched_at}
use Rattle.byte_store.specs.Gaps.{AreKept, AreZeros, HasRest, IsSpanIn, gap, gaps_from, spans_of}
use Rattle.byte_store.specs.declared.composed.Span.{Span}

or_none : (b : Bool) → (b || false) ≡ b
or_none true = refl
or_none false = refl

and_no : (b : Bool) → (b && false) ≡ false
and_no true = refl
and_no false = refl

-- a gap has the positions between its ends
gap_has : (start end k : ℕ) → is_in_spans (gap start end) k ≡ (leb start k && ltb k end)
gap_has start end k =
    elim (cases_lt start end) [
      | inl less ↦
          let is : ltb start end ≡ true = lt-ltb start end less in
          rw is (or_none (leb start k && ltb k end))
      | inr none ↦
          let is : ltb start end ≡ false = le-ltb start end none in
          rw is (elim (cases_lt k end) [
            | inl below ↦
                let out : leb start k ≡ false = lt-leb start k (omega arith) in
                rw out refl
            | inr above ↦
                let out : ltb k end ≡ false = le-ltb k end above in
                rw out (sym (and_no (leb start k)))
          ])
    ]

gap_within : (size start end : ℕ) → end ≤ size → All (IsSpanIn size) (gap start end)
gap_within size start end inside =
    let span : Span = record { start = start; end = end } in
    cond_both (ltb start end) (span ∷ []) [] (All (IsSpanIn size))
    (λ is.
    let less : start < end = ltb-true start end is in
    let whole : IsSpanIn size span = (omega arith, inside) in
    All-cons (IsSpanIn size) span [] whole (All-nil (IsSpanIn size)))
    (λ _. All-nil (IsSpanIn size))

-- one span more: a position before it, and one that is not
step_before : (at start end size k : ℕ) (rest : Bool) → k < size → k < start → rest ≡ false → (leb at k && ltb k (min start size) || leb (max (max at (min start size)) end) k && not rest) ≡ (leb at k && not (leb start k && ltb k end || rest))
step_before at start end size k rest inside below none =
    let b : ltb k (min start size) ≡ true = lt-ltb k (min start size) (omega arith) in
    let c : leb (max (max at (min start size)) end) k ≡ false = lt-leb (max (max at (min start size)) end) k (omega arith) in
    let d : leb start k ≡ false = lt-leb start k below in
    rw (b, c, d, none) (or_none (leb at k && true))

step_behind : (at start end size k : ℕ) (rest : Bool) → start ≤ k → (leb at k && ltb k (min start size) || leb (max (max at (min start size)) end) k && not rest) ≡ (leb at k && not (leb start k && ltb k end || rest))
step_behind at start end size k rest above =
    let b : ltb k (min start size) ≡ false = le-ltb k (min start size) (omega arith) in
    let d : leb start k ≡ true = le-leb start k above in
    elim (cases_lt k at) [
      | inl before ↦
          let a : leb at k ≡ false = lt-leb at k before in
          let c : leb (max (max at (min start size)) end) k ≡ false = lt-leb (max (max at (min start size)) end) k (omega arith) in
          rw (a, c) refl
      | inr behind ↦
          let a : leb at k ≡ true = le-leb at k behind in
          elim (cases_lt k end) [
            | inl within ↦
                let c : leb (max (max at (min start size)) end) k ≡ false = lt-leb (max (max at (min start size)) end) k (omega arith) in
                let e : ltb k end ≡ true = lt-ltb k end within in
                rw (a, b, c, d, e) refl
            | inr past ↦
                let c : leb (max (max at (min start size)) end) k ≡ true = le-leb (max (max at (min start size)) end) k (omega arith) in
                let e : ltb k end ≡ false = le-ltb k end past in
                rw (a, b, c, d, e) refl
          ]
    ]

step : (at start end size k : ℕ) (rest : Bool) → k < size → (k < start → rest ≡ false) → (leb at k && ltb k (min start size) || leb (max (max at (min start size)) end) k && not rest) ≡ (leb at k && not (leb start k && ltb k end || rest))
step at start end size k rest inside none =
    elim (cases_lt k start) [
      | inl below ↦ step_before at start end size k rest inside below (none below)
      | inr above ↦ step_behind at start end size k rest above
    ]

abbrev IsOrdered : List Span → Type 0
IsOrdered spans = IsNonDecreasingBy (λ (span : Span). span.start) spans

none_before : (span : Span) (spans : List Span) (k : ℕ) → IsOrdered (span ∷ spans) → k < span.start → is_in_spans spans k ≡ false
none_before span spans k up below =
    list_any_none (has_position k) spans
    (λ i d inside.
    let up_to : span.start ≤ (get_or spans i d).start = up 0 (suc i) d (omega arith) (omega arith) in
    and_left (leb (get_or spans i d).start k) (ltb k (get_or spans i d).end) (lt-leb (get_or spans i d).start k (omega arith)))

tail_ordered : (span : Span) (spans : List Span) → IsOrdered (span ∷ spans) → IsOrdered spans
tail_ordered span spans up i j d order inside = up (suc i) (suc j) d (omega arith) (omega arith)

from_has : (size : ℕ) (spans : List Span) (at k : ℕ) → IsOrdered spans → k < size → is_in_spans (gaps_from size at spans) k ≡ (leb at k && not (is_in_spans spans k))
unfolding gaps_from
from_has size [] at k up inside =
    let below : ltb k size ≡ true = lt-ltb k size inside in
    gap_has at size k ∙ ap (λ (b : Bool). leb at k && b) below
from_has size (span ∷ spans) at k up inside =
    let next : ℕ = max (max at (min span.start size)) span.end in
    list_any-append (has_position k) (gap at (min span.start size)) (gaps_from size next spans)
    ∙ ap (λ (b : Bool). b || is_in_spans (gaps_from size next spans) k) (gap_has at (min span.start size) k)
    ∙ ap (λ (b : Bool). leb at k && ltb k (min span.start size) || b) (from_has size spans next k (tail_ordered span spans up) inside)
    ∙ step at span.start span.end size k (is_in_spans spans k) inside (none_before span spans k up)

from_within : (size : ℕ) (spans : List Span) (at : ℕ) → All (IsSpanIn size) (gaps_from size at spans)
unfolding gaps_from
from_within size [] at = gap_within size at size (omega arith)
from_within size (span ∷ spans) at =
    let next : ℕ = max (max at (min span.start size)) span.end in
    All-append (IsSpanIn size) (gap at (min span.start size)) (gaps_from size next spans)
    (gap_within size at (min span.start size) (omega arith))
    (from_within size spans next)

from_rest : (size : ℕ) (spans : List Span) → IsOrdered spans → HasRest size spans (gaps_from size 0 spans)
from_rest size spans up k inside =
    let all : leb 0 k ≡ true = le-leb 0 k (omega arith) in
    from_has size spans 0 k up inside ∙ ap (λ (b : Bool). b && not (is_in_spans spans k)) all

-- one span more in the walk, and none
pub from_next : (size at : ℕ) (span : Span) (spans before more : List Span) → more ≡ before ++ gap at (min span.start size) → more ++ gaps_from size (max (max at (min span.start size)) span.end) spans ≡ before ++ gaps_from size at (span ∷ spans)
unfolding gaps_from
from_next size at span spans before more is =
    let next : ℕ = max (max at (min span.start size)) span.end in
    ap (λ (xs : List Span). xs ++ gaps_from size next spans) is ∙ append_assoc before (gap at (min span.start size)) (gaps_from size next spans)

from_none : (size at : ℕ) → gaps_from size at [] ≡ gap at size
unfolding gaps_from
from_none size at = refl

-- the end of the walk
pub from_done : (size at i : ℕ) (spans before made : List Span) → length spans ≤ i → before ++ gaps_from size at (drop i spans) ≡ gaps_from size 0 spans → made ≡ before ++ gap at size → made ≡ gaps_from size 0 spans
from_done size at i spans before made all walked is =
    is
    ∙ ap (λ (xs : List Span). before ++ xs) (sym (from_none size at))
    ∙ ap (λ (xs : List Span). before ++ gaps_from size at xs) (sym (drop_all i spans all))
    ∙ walked

pub done_within : (size : ℕ) (spans made : List Span) → made ≡ gaps_from size 0 spans → All (IsSpanIn size) made
done_within size spans made is = All-same (IsSpanIn size) made (gaps_from size 0 spans) is (from_within size spans 0)

pub done_rest : (size : ℕ) (spans made : List Span) → IsOrdered spans → made ≡ gaps_from size 0 spans → HasRest size spans made
done_rest size spans made up is = let P : List Span → Type 0 = HasRest size spans in subst P (sym is) (from_rest size spans up)

-- the order of spans doesn't matter
pub rest_sorted : (size : ℕ) (spans sorted gaps : List Span) → IsPermutation spans sorted → HasRest size sorted gaps → HasRest size spans gaps
rest_sorted size spans sorted gaps moves rest k inside =
    rest k inside ∙ ap not (sym (list_any-IsPermutation (has_position k) spans sorted moves))

-- the positions of patches
spans_have : (patches : List Patch) (k : ℕ) → is_in_spans (spans_of patches) k ≡ is_patched patches k
spans_have [] k = refl
spans_have (patch ∷ patches) k = ap (λ (b : Bool). is_patched_at k patch || b) (spans_have patches k)

not_or : (a c : Bool) → not (not a || c) ≡ (a && not c)
not_or true c = refl
not_or false c = refl

pub kept_are : (size : ℕ) (kept cleared unkept lost held : List Span) → HasRest size kept unkept → lost ≡ unkept ++ cleared → HasRest size lost held → AreKept size kept cleared held
kept_are size kept cleared unkept lost held first is_lost second k inside =
    let P : List Span → Bool = λ spans. is_in_spans spans k in
    let a : is_in_spans lost k ≡ (not (is_in_spans kept k) || is_in_spans cleared k) =
    ap P is_lost ∙ list_any-append (has_position k) unkept cleared ∙ ap (λ (b : Bool). b || is_in_spans cleared k) (first k inside) in
    second k inside ∙ ap not a ∙ not_or (is_in_spans kept k) (is_in_spans cleared k)

pub zeros_are : (size : ℕ) (kept cleared spans held zeros : List Span) (patches : List Patch) → AreKept size kept cleared spans → held ≡ spans ++ spans_of patches → HasRest size held zeros → AreZeros size kept cleared patches zeros
zeros_are size kept cleared spans held zeros patches are is_held rest k inside =
    let P : List Span → Bool = λ spans. is_in_spans spans k in
    let a : is_in_spans held k ≡ (is_in_spans kept k && not (is_in_spans cleared k) || is_patched patches k) =
    ap P is_held
    ∙ list_any-append (has_position k) spans (spans_of patches)
    ∙ ap (λ (b : Bool). b || is_in_spans (spans_of patches) k) (are k inside)
    ∙ ap (λ (b : Bool). is_in_spans kept k && not (is_in_spans cleared k) || b) (spans_have patches k) in
    rest k inside ∙ ap not a
