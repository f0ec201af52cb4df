-- Walks over the versions of symbols, one by one.
use Rattle.std.proofs.Common.{◌≡◌, ◌+◌, ℕ, List, [], ◌∷◌, ◌++◌, take, ap, ◌∙◌, refl, Some, Bool, true, false}
use Rattle.std.specs.Prelude.{◌==◌, ◌||◌, slice_get}
use Rattle.std.proofs.lemmas.List.{take_more}
use Rattle.std.proofs.lemmas.List.Folds.{list_any-append}
use Rattle.std.proofs.lemmas.Option.{get_or_from_slice_get, slice_get_within}
use Rattle.elf_format.specs.Options.{is_some_and}
use Rattle.elf_format.specs.Views.{NamedSymbol}
use Rattle.elf_layout_plan.specs.Needs.{is_version_used}

-- one element more of the first ones, with what stands behind them
front_at : {A : Type 0} → (xs : List A) (i : ℕ) (x : A) → slice_get xs i ≡ Some x → take (i + 1) xs ≡ take i xs ++ x ∷ []
front_at {A} xs i x at =
    take_more xs i x (slice_get_within xs i x at) ∙ ap (λ (y : A). take i xs ++ y ∷ []) (get_or_from_slice_get xs i x x at)

or_false : (b : Bool) → (b || false) ≡ b
or_false true = refl
or_false false = refl

-- the versions of one symbol more
pub used_next : (ys : List NamedSymbol) (i : ℕ) (y : NamedSymbol) (index : ℕ) → slice_get ys i ≡ Some y
    → is_version_used (take (i + 1) ys) index ≡ (is_version_used (take i ys) index || is_some_and (λ v. v.index == index) y.version)
used_next ys i y index at =
    ap (λ (l : List NamedSymbol). is_version_used l index) (front_at ys i y at)
    ∙ list_any-append (λ (z : NamedSymbol). is_some_and (λ v. v.index == index) z.version) (take i ys) (y ∷ [])
    ∙ ap (λ (b : Bool). is_version_used (take i ys) index || b) (or_false (is_some_and (λ v. v.index == index) y.version))
