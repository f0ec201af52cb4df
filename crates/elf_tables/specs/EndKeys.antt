-- The ends of texts as numbers.
use Rattle.std.specs.Prelude.{ℕ, ◌+◌, ◌*◌, ◌^◌, List, [], ◌∷◌, zero, suc, reverse}

-- the first bytes, so many, as one number, the first of them the highest; those that aren't there count 0
unfoldable pub front_number : ℕ → List ℕ → ℕ
front_number zero bytes = 0
front_number (suc n) [] = 0
front_number (suc n) (b ∷ bytes) = b * 256 ^ n + front_number n bytes

-- a text's last 8 bytes as one number, the last of them the highest
abbrev pub end_key : List ℕ → ℕ
end_key text = front_number 8 (reverse text)
