-- How many program headers more sections that move need, by where the program header table ends.
use Rattle.std.specs.Prelude.{[], ◌∷◌, Option, drop, max, take, ℕ, ◌+◌, ◌-◌, ◌<◌, ◌≤◌, ◌≡◌, List, length, map, Bool, false, IsTrue, Some, None, count_by, filter, nat_le, nat_lt, ◌&&◌, ◌==◌, slice_get}
use Rattle.std.specs.List.{filter_map, list_any}
use Rattle.elf_format.specs.Image.{ImageSection, counted}
use Rattle.elf_format.specs.declared.range.Range.{Range}
use Rattle.elf_layout_plan.specs.Memory.{Resized}
use Rattle.elf_layout_plan.specs.Rounds.{are_chosen, do_move, flags_for, headers_needed}
use Rattle.elf_layout_moves.specs.Limits.{Covers, end_with, limit_at}
use Rattle.elf_layout_moves.specs.declared.limits.TheConstants.{NEVER}
use Rattle.elf_layout_segments.specs.declared.forecasts.Forecast.{Forecast}
use Rattle.elf_layout_segments.specs.declared.forecasts.Limited.{Limited}
use Rattle.elf_layout_segments.specs.declared.leasts.Stretch.{Stretch}
use Rattle.elf_layout_segments.specs.declared.sections.SectionAt.{SectionAt}
use Rattle.elf_layout_segments.specs.AnchorPositions.{AnchorPosition, itself, notes, section, table}
use Rattle.elf_layout_segments.specs.InOrder.{is_in}
use Rattle.elf_layout_segments.specs.Sections.{begins_in, has_bytes_at}

-- sections with bytes, by where they begin, with their limits
abbrev pub limited_at : List ℕ → List SectionAt → List Limited
limited_at limits sections =
    map (λ (s : SectionAt). let b : Limited = record { start = s.sh_offset; limit = limit_at limits s.position } in b) (filter has_bytes_at sections)

-- one of the sections begins in a range, and moves with a table that ends there
abbrev pub does_one_move : List ℕ → List SectionAt → Range → ℕ → Bool
does_one_move limits sections part end = list_any (λ s. begins_in part s && nat_le (limit_at limits s.position) end) sections

-- one of the sections begins in a range, and stays
abbrev pub does_one_stay : List ℕ → List SectionAt → Range → ℕ → Bool
does_one_stay limits sections part end = list_any (λ s. begins_in part s && nat_lt end (limit_at limits s.position)) sections

-- a program header that goes by this is split
abbrev pub splits_with : List ℕ → List SectionAt → ℕ → AnchorPosition → Bool
splits_with limits sections end itself = false
splits_with limits sections end table = false
splits_with limits sections end (section position) = false
splits_with limits sections end (notes part) = does_one_move limits sections part end && does_one_stay limits sections part end

-- how many numbers are no greater than another one
abbrev pub count_up_to : List ℕ → ℕ → ℕ
count_up_to numbers end = count_by (λ n. nat_lt n (end + 1)) numbers

-- what the forecast says with a table that ends there
abbrev pub needed_at : Forecast → ℕ → ℕ
needed_at f end = count_up_to f.flags.numbers.items end + (count_up_to f.splits.numbers.items end - count_up_to f.joins.numbers.items end)

-- A forecast tells how many program headers more the sections need that move, and with each table some move.
pub record IsForecast (r : Resized) (f : Forecast) : Type 0 where
  pub near : (added : ℕ) → Covers r f.from f.bound added → end_with r added < NEVER
  pub lists : (added : ℕ) → Covers r f.from f.bound added → (moved : List ℕ) × IsTrue (do_move r added moved) × IsTrue (are_chosen r added moved)
  pub needs : (added : ℕ) (moved : List ℕ) → Covers r f.from f.bound added → IsTrue (do_move r added moved) → IsTrue (are_chosen r added moved)
      → needed_at f (end_with r added) ≡ headers_needed r moved

-- ## Steps

-- the section at a position needs these flags
unfoldable pub needs_flags : Bool → List ImageSection → ℕ → ℕ → Bool
needs_flags leave sections flags position = elim (slice_get sections position) [ Some s ↦ flags_for leave s == flags | None ↦ false ]

-- a section that needs these flags moves with a table that ends there
abbrev pub does_flagged_move : Bool → List ℕ → List ImageSection → ℕ → ℕ → Bool
does_flagged_move leave limits sections end flags = list_any (λ position. needs_flags leave sections flags position && nat_le (limit_at limits position) end) (counted (length sections))

-- the least limit of sections that need these flags
pub record IsFlagsLimit (leave : Bool) (limits : List ℕ) (sections : List ImageSection) (flags least : ℕ) : Type 0 where
  pub tells : (end : ℕ) → end < NEVER → nat_le least end ≡ does_flagged_move leave limits sections end flags

-- the least limit of sections that need the flags, for each set of flags
pub record AreFlagsLimits (leave : Bool) (limits : List ℕ) (sections : List ImageSection) (found : List ℕ) : Type 0 where
  pub tells : (end : ℕ) → end < NEVER → count_up_to found end ≡ count_by (does_flagged_move leave limits sections end) (4 ∷ 5 ∷ 6 ∷ 7 ∷ [])

-- a stretch has those that begin in a range
pub record IsStretchIn (begins : List Limited) (part : Range) (s : Stretch) : Type 0 where
  pub ends : s.until ≤ length begins
  pub tells : (test : Limited → Bool) → list_any test (take (s.until - s.from) (drop s.from begins)) ≡ list_any (λ b. is_in part b.start && test b) begins

-- the range of notes that a program header goes by
abbrev pub part_of : AnchorPosition → Option Range
part_of itself = None
part_of table = None
part_of (section position) = None
part_of (notes part) = Some part

abbrev pub parts_of : List AnchorPosition → List Range
parts_of anchors = filter_map part_of anchors

-- a stretch for each range
pub record AreStretchesIn (begins : List Limited) (parts : List Range) (asked : List Stretch) : Type 0 where
  pub many : length asked ≡ length parts
  pub each : (j : ℕ) (part : Range) (s : Stretch) → slice_get parts j ≡ Some part → slice_get asked j ≡ Some s → IsStretchIn begins part s

-- the greater of each first limit and of a limit that was counted from NEVER down
pub record AreJoins (firsts mirrored joins : List ℕ) : Type 0 where
  pub many : length joins ≡ length firsts
  pub each : (j first mirror join : ℕ) → slice_get firsts j ≡ Some first → slice_get mirrored j ≡ Some mirror → slice_get joins j ≡ Some join → join ≡ max first (NEVER - mirror)

-- from where on program headers are split, and from where on they are so no longer
pub record AreSplitLimits (limits : List ℕ) (sections : List SectionAt) (anchors : List AnchorPosition) (splits joins : List ℕ) : Type 0 where
  pub tells : (end : ℕ) → end < NEVER → count_up_to splits end - count_up_to joins end ≡ count_by (splits_with limits sections end) anchors
