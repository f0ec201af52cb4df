-- What replaces the bytes of a store by others, and what is left where that fails.
use Rattle.std.specs.Prelude.{ℕ, ◌≡◌, All, List, Option, length, drop}
use Rattle.byte_store.specs.Laid.{Patch, changed}
use Rattle.byte_store.specs.Composed.{Stands}
use Rattle.byte_store.specs.Fault.{IsLeft}
use Rattle.byte_store.specs.declared.difference.ReplaceError.{ReplaceError}
use Rattle.byte_store.specs.declared.difference.ReplaceError.TheVariants.{Memory, Write}
use Rattle.byte_store.specs.declared.writing.Left.{Left}

-- A run of writes that turns old bytes into new ones: a growth behind them, patches over both, and a cut. What comes behind the
-- old bytes and what each patch puts is part of the new ones.
pub record Turns (old new : List ℕ) (growth : List ℕ) (patches : List Patch) : Type 0 where
  pub behind : growth ≡ drop (length old) new
  pub makes : changed growth patches (length new) old ≡ new
  pub stand : All (Stands new) patches

-- What such a run leaves that failed.
pub record IsReplacedInPart (old new : List ℕ) (left : Left) (before after : Option (List ℕ)) : Type 0 where
  pub growth : List ℕ
  pub patches : List Patch
  pub turns : Turns old new growth patches
  pub is_left : IsLeft left growth patches before after

-- What an error leaves: the very store that there was, or what the failed run tells.
abbrev pub IsNotReplaced : {S : Type 0} → (S → Option (List ℕ)) → List ℕ → List ℕ → S → S → ReplaceError → Type 0
IsNotReplaced contents old new before after Memory = after ≡ before
IsNotReplaced contents old new before after (Write e) = IsReplacedInPart old new e.left (contents before) (contents after)
