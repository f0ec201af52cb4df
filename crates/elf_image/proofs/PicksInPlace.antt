-- A loop that moves those elements of a list to the front that stay.
use Rattle.std.proofs.Common.{◌≡◌, ℕ, ◌+◌, ◌<◌, ◌≤◌, Bool, true, false, List, [], ◌∷◌, ◌++◌, length, map, take, drop, get_or, set, refl, sym, ap, ◌∙◌, arith}
use Rattle.std.specs.List.{SwappedAt, items_where_true}
use Rattle.std.proofs.Retain.{picked_push_false, picked_push_true}
use Rattle.std.proofs.lemmas.List.{drop-set-lt, drop_more, length-set, length-take-le, take-set-le, take_all, take_more}

-- Of the first elements of a list, which began as xs, those that are told to stay stand in front; from there on it is as it was.
pub record PicksInPlace {X : Type 0} (bs : List Bool) (xs ys : List X) (k i : ℕ) : Type 0 where
  pub front : take k ys ≡ items_where_true (take i bs) xs
  pub rest : drop i ys ≡ drop i xs
  pub behind : k ≤ i
  pub long : length ys ≡ length xs

module _ {X : Type 0} (bs : List Bool) (xs ys : List X) (k i : ℕ) (h : PicksInPlace bs xs ys k i) (few : i < length bs) (same : length bs ≡ length xs) (d : X) where
  on : get_or ys i d ∷ drop (i + 1) ys ≡ get_or xs i d ∷ drop (i + 1) xs
  on = sym (drop_more ys i d (omega (arith, few, same, h.long))) ∙ h.rest ∙ drop_more xs i d (omega (arith, few, same))

  told : (b : Bool) → get_or bs i false ≡ b → take (i + 1) bs ≡ take i bs ++ b ∷ []
  told b is = take_more bs i false few ∙ ap (λ (c : Bool). take i bs ++ c ∷ []) is

  -- the next goes
  pub picks_less : get_or bs i false ≡ false → PicksInPlace bs xs ys k (i + 1)
  picks_less goes = record {
    front = h.front ∙ sym (picked_push_false (take i bs) xs) ∙ ap (λ (l : List Bool). items_where_true l xs) (sym (told false goes));
    rest = ap (drop 1) on;
    behind = omega (arith, h.behind);
    long = h.long;
  }

  -- the next stays
  pub picks_more : (zs : List X) → get_or bs i false ≡ true → SwappedAt ys zs k i → PicksInPlace bs xs zs (k + 1) (i + 1)
  picks_more zs stays swapped =
      let sets : zs ≡ set (set ys k (get_or ys i d)) i (get_or ys k d) = swapped.3 d in
      let long : length zs ≡ length ys = ap length sets ∙ length-set (set ys k (get_or ys i d)) i (get_or ys k d) ∙ length-set ys k (get_or ys i d) in
      let before : take k zs ≡ take k ys =
      ap (take k) sets ∙ take-set-le k (set ys k (get_or ys i d)) i (get_or ys k d) h.behind ∙ take-set-le k ys k (get_or ys i d) (omega arith) in
      let here : get_or zs k d ≡ get_or xs i d = swapped.0 d ∙ ap (λ (l : List X). get_or l 0 d) on in
      let count : length (take i bs) ≡ i = length-take-le i bs (omega (arith, few)) in
      record {
        front =
            take_more zs k d (omega (arith, h.behind, few, same, h.long, long))
            ∙ ap (λ (l : List X). l ++ get_or zs k d ∷ []) (before ∙ h.front)
            ∙ ap (λ (x : X). items_where_true (take i bs) xs ++ x ∷ []) (here ∙ ap (λ (n : ℕ). get_or xs n d) (sym count))
            ∙ sym (picked_push_true (take i bs) xs d (omega (arith, count, few, same)))
            ∙ ap (λ (l : List Bool). items_where_true l xs) (sym (told true stays));
        rest =
            ap (drop (i + 1)) sets ∙ drop-set-lt (i + 1) (set ys k (get_or ys i d)) i (get_or ys k d) (omega arith)
            ∙ drop-set-lt (i + 1) ys k (get_or ys i d) (omega (arith, h.behind)) ∙ ap (drop 1) on;
        behind = omega (arith, h.behind);
        long = long ∙ h.long;
      }

pub picks_all : {X : Type 0} (bs : List Bool) (xs ys : List X) (k i : ℕ) → PicksInPlace bs xs ys k i → length bs ≤ i → take k ys ≡ items_where_true bs xs
picks_all bs xs ys k i h past = h.front ∙ ap (λ (l : List Bool). items_where_true l xs) (take_all i bs past)

pub map_picked : {A B : Type 0} (f : A → B) (bs : List Bool) (xs : List A) → map f (items_where_true bs xs) ≡ items_where_true bs (map f xs)
map_picked f [] xs = refl
map_picked f (b ∷ bs) [] = refl
map_picked f (true ∷ bs) (x ∷ xs) = ap (λ l. f x ∷ l) (map_picked f bs xs)
map_picked f (false ∷ bs) (x ∷ xs) = map_picked f bs xs

-- something that a list holds that isn't empty
pub some_element : {X : Type 0} (xs : List X) (i : ℕ) → i < length xs → X
some_element [] i less = absurd (omega (arith, less))
some_element (x ∷ xs) i less = x
