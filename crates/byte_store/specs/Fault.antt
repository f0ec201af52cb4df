-- What a run of writes that failed leaves.
use Rattle.std.specs.Prelude.{ℕ, ◌≡◌, ◌≤◌, List, [], ◌++◌, IsOk, Option, Result, length, take}
use Rattle.byte_store.specs.Known.{Becomes, KeepsKnown}
use Rattle.byte_store.specs.Laid.{Patch, first_bytes, laid, patches_of}
use Rattle.byte_store.specs.declared.writing.Changes.{Changes}
use Rattle.byte_store.specs.declared.writing.Left.{Left}
use Rattle.byte_store.specs.declared.writing.Left.TheVariants.{Longer, Old, Torn}

-- known bytes get the first bytes of patches laid over them
abbrev pub BecomesLaid : List Patch → Option (List ℕ) → Option (List ℕ) → Type 0
BecomesLaid patches old new = (n : ℕ) × Becomes (laid (first_bytes n patches)) old new

-- known bytes get the first bytes of a growth behind them
abbrev pub BecomesLonger : List ℕ → Option (List ℕ) → Option (List ℕ) → Type 0
BecomesLonger growth old new = (n : ℕ) × Becomes (λ bytes. bytes ++ take n growth) old new

-- known bytes get a growth behind them, and the first bytes of patches laid over both
abbrev pub BecomesTorn : List ℕ → List Patch → Option (List ℕ) → Option (List ℕ) → Type 0
BecomesTorn growth patches old new = (n : ℕ)
    × Becomes (λ bytes. laid (first_bytes n patches) (bytes ++ growth)) old new

-- what a failed run left
abbrev pub IsLeft : Left → List ℕ → List Patch → Option (List ℕ) → Option (List ℕ) → Type 0
IsLeft Old growth patches old new = KeepsKnown old new
IsLeft Longer growth patches old new = BecomesLonger growth old new
IsLeft Torn growth patches old new = BecomesTorn growth patches old new

-- what a failed run of these changes left, and what a growth left that failed
abbrev pub IsLeftBy : Changes → Left → Option (List ℕ) → Option (List ℕ) → Type 0
IsLeftBy changes left old new = IsLeft left changes.growth.now (patches_of changes.pieces.now) old new

abbrev pub IsLeftByGrowth : List ℕ → Left → Option (List ℕ) → Option (List ℕ) → Type 0
IsLeftByGrowth growth left old new = IsLeft left growth [] old new

-- success, and the very store that there was
abbrev pub IsOkAndSame : {S T E : Type 0} → Result T E → S → S → Type 0
IsOkAndSame result old new = IsOk result × (new ≡ old)

-- changes that change nothing
pub record IsIdle (changes : Changes) : Type 0 where
  pub growth : length changes.growth.now ≡ 0
  pub pieces : length changes.pieces.now ≡ 0
  pub end : changes.old_length ≤ changes.new_length
