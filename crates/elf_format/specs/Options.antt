-- Tests and lists of values that may be missing.
use Rattle.std.specs.Prelude.{ℕ, List, [], ◌∷◌, Bool, true, false, Option, Some, None, ◌==◌, if◌then◌else◌}
use Rattle.std.specs.List.{list_any}
use Rattle.patch_bytes.specs.Memory.{◌>>=◌}
pub use Rattle.patch_bytes.specs.Memory.{first_there}

-- a value is there, and passes the test
abbrev pub is_some_and : {A : Type 0} → (A → Bool) → Option A → Bool
is_some_and test None = false
is_some_and test (Some x) = test x

-- a value passes the test where it is there
abbrev pub is_none_or : {A : Type 0} → (A → Bool) → Option A → Bool
is_none_or test None = true
is_none_or test (Some x) = test x

-- two values are both there, and pass a test together, or neither is there
abbrev pub are_both_or_neither : {A B : Type 0} → (A → B → Bool) → Option A → Option B → Bool
are_both_or_neither test None None = true
are_both_or_neither test None (Some y) = false
are_both_or_neither test (Some x) None = false
are_both_or_neither test (Some x) (Some y) = test x y

-- the value, if it passes a test
abbrev pub kept_if : {A : Type 0} → (A → Bool) → Option A → Option A
kept_if test None = None
kept_if test (Some x) = if test x then Some x else None

-- the list that belongs to a value, where that is there
abbrev pub list_at : {A B : Type 0} → (A → List B) → Option A → List B
list_at f None = []
list_at f (Some x) = f x

-- what is asked for has to be there; what isn't asked for is none
abbrev pub when_wanted : {A : Type 0} → Bool → Option A → Option (Option A)
when_wanted false found = Some None
when_wanted true found = found >>= λ x. Some (Some x)

-- one value for each element, where there is one for each
unfoldable pub each : {A B : Type 0} → (A → Option B) → List A → Option (List B)
each f [] = Some []
each f (x ∷ xs) = do
  y ← f x
  ys ← each f xs
  Some (y ∷ ys)

-- the number is one of these numbers
abbrev pub is_one_of : List ℕ → ℕ → Bool
is_one_of xs n = list_any (λ x. x == n) xs
