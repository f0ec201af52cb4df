-- Positions that spans leave out.
use Rattle.std.specs.Prelude.{ℕ, ◌≡◌, ◌+◌, ◌<◌, ◌≤◌, List, [], ◌∷◌, ◌++◌, Bool, ◌&&◌, ◌||◌, not, nat_lt, length, map, max, min, if◌then◌else◌}
use Rattle.byte_store.specs.Laid.{Patch}
use Rattle.byte_store.specs.Composed.{is_in_spans, is_patched}
use Rattle.byte_store.specs.declared.composed.Span.{Span}

-- a span that doesn't end before it begins, and that ends within so many positions
abbrev pub IsSpanIn : ℕ → Span → Type 0
IsSpanIn size span = (span.start ≤ span.end) × (span.end ≤ size)

-- spans have the positions below a size that others don't have
abbrev pub HasRest : ℕ → List Span → List Span → Type 0
HasRest size spans gaps = (k : ℕ) → k < size → is_in_spans gaps k ≡ not (is_in_spans spans k)

-- spans have the positions below a size that are kept and not cleared
abbrev pub AreKept : ℕ → List Span → List Span → List Span → Type 0
AreKept size kept cleared spans = (k : ℕ) → k < size → is_in_spans spans k ≡ (is_in_spans kept k && not (is_in_spans cleared k))

-- the span from a position to another, if it has one
abbrev pub gap : ℕ → ℕ → List Span
gap start end = if nat_lt start end then record { start = start; end = end } ∷ [] else []

-- what the spans of a list leave out from a position on, if none begins before the one in front of it
unfoldable pub gaps_from : ℕ → ℕ → List Span → List Span
gaps_from size at [] = gap at size
gaps_from size at (span ∷ spans) = gap at (min span.start size) ++ gaps_from size (max (max at (min span.start size)) span.end) spans

-- the positions that a patch has
abbrev pub span_of : Patch → Span
span_of patch = record { start = patch.offset; end = patch.offset + length patch.bytes }

abbrev pub spans_of : List Patch → List Span
spans_of patches = map span_of patches

-- a position whose byte is no zero that is put there: a patch has it, or it is kept and not cleared
abbrev pub is_held : List Span → List Span → List Patch → ℕ → Bool
is_held kept cleared patches k = is_in_spans kept k && not (is_in_spans cleared k) || is_patched patches k

-- spans have the positions below a size that no patch has, and that are cleared or not kept
abbrev pub AreZeros : ℕ → List Span → List Span → List Patch → List Span → Type 0
AreZeros size kept cleared patches zeros = (k : ℕ) → k < size → is_in_spans zeros k ≡ not (is_held kept cleared patches k)
