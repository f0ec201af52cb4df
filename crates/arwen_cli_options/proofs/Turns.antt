-- What is told of the items that are left, one turn of a loop further.
use Rattle.std.proofs.Common.{◌≡◌, ◌∙◌, ◌+◌, ◌<◌, ◌∷◌, ℕ, List, ap, drop, get_or, length, sym}
use Rattle.std.proofs.lemmas.List.{at_drop_more}

-- the item at a place is taken: what was told with it is told now without it
pub turned : {X Y : Type 0} (F : List X → Y) (xs : List X) (i : ℕ) (d x : X) (now meant : Y) → i < length xs → x ≡ get_or xs i d
    → F (x ∷ drop (i + 1) xs) ≡ now → F (drop i xs) ≡ meant → now ≡ meant
turned F xs i d x now meant inside is told before =
    sym told ∙ ap (λ y. F (y ∷ drop (i + 1) xs)) is ∙ sym (at_drop_more F xs i d inside) ∙ before
