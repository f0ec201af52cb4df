-- What of a list passes a test, with one element more looked at.
use Rattle.std.proofs.Common.{◌≡◌, ℕ, ◌+◌, ◌<◌, Bool, true, false, cond, List, [], ◌∷◌, ◌++◌, length, take, get_or, map, sym, ap, ◌∙◌}
use Rattle.std.specs.List.{filter}
use Rattle.std.proofs.lemmas.List.{append-nil, map_push}
use Rattle.std.proofs.lemmas.List.Elements.{filter_more}

module _ {X : Type 0} (p : X → Bool) (xs : List X) (i : ℕ) (d : X) (less : i < length xs) where
  pub picked_more : p (get_or xs i d) ≡ true → filter p (take (i + 1) xs) ≡ filter p (take i xs) ++ get_or xs i d ∷ []
  picked_more passes = filter_more p xs i d less ∙ ap (λ (b : Bool). filter p (take i xs) ++ cond b (get_or xs i d ∷ []) []) passes

  pub picked_same : p (get_or xs i d) ≡ false → filter p (take (i + 1) xs) ≡ filter p (take i xs)
  picked_same fails =
      filter_more p xs i d less
      ∙ ap (λ (b : Bool). filter p (take i xs) ++ cond b (get_or xs i d ∷ []) []) fails
      ∙ append-nil (filter p (take i xs))

  -- what is made of those that pass, put behind one another
  module _ {Y V : Type 0} (f : X → Y) (view : V → Y) (before : List V) (so_far : map view before ≡ map f (filter p (take i xs))) where
    pub made_more : (after : List V) (v : V) → p (get_or xs i d) ≡ true → after ≡ before ++ v ∷ [] → view v ≡ f (get_or xs i d) → map view after ≡ map f (filter p (take (i + 1) xs))
    made_more after v passes pushed same =
        ap (map view) pushed
        ∙ map_push view before v
        ∙ ap (λ (ys : List Y). ys ++ view v ∷ []) so_far
        ∙ ap (λ (y : Y). map f (filter p (take i xs)) ++ y ∷ []) same
        ∙ sym (ap (map f) (picked_more passes) ∙ map_push f (filter p (take i xs)) (get_or xs i d))

    pub made_same : p (get_or xs i d) ≡ false → map view before ≡ map f (filter p (take (i + 1) xs))
    made_same fails = so_far ∙ sym (ap (map f) (picked_same fails))
