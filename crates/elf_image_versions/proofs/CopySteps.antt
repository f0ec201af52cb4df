-- One element more is copied, as far as it is seen.
use Rattle.std.proofs.Common.{◌≡◌, ◌<◌, ◌+◌, ◌++◌, ◌∷◌, [], ℕ, List, map, take, length, get_or, sym, ap, ◌∙◌}
use Rattle.std.proofs.lemmas.List.{map_push, take_more}

pub next_copied : {A B : Type 0} → (view : A → B) (xs : List A) (i : ℕ) (made : List A) (x y : A) (longer : List A) → i < length xs → x ≡ get_or xs i x → longer ≡ made ++ y ∷ [] → view y ≡ view x
    → map view made ≡ map view (take i xs) → map view longer ≡ map view (take (i + 1) xs)
next_copied view xs i made x y longer less is pushed same so_far =
    ap (map view) pushed ∙ map_push view made y
    ∙ ap (λ l. l ++ view y ∷ []) so_far
    ∙ ap (λ b. map view (take i xs) ++ b ∷ []) (same ∙ ap view is)
    ∙ sym (ap (map view) (take_more xs i x less) ∙ map_push view (take i xs) (get_or xs i x))

pub next_same : {A : Type 0} → (xs : List A) (i : ℕ) (made : List A) (x y : A) (longer : List A) → i < length xs → x ≡ get_or xs i x → longer ≡ made ++ y ∷ [] → y ≡ x
    → made ≡ take i xs → longer ≡ take (i + 1) xs
next_same xs i made x y longer less is pushed same so_far =
    pushed
    ∙ ap (λ l. l ++ y ∷ []) so_far
    ∙ ap (λ z. take i xs ++ z ∷ []) (same ∙ is)
    ∙ sym (take_more xs i x less)
