-- Texts that are put one behind the other.
use Rattle.std.proofs.Common.{◌≡◌, ℕ, List, ◌++◌, append_assoc}

pub joined_4 : (start a b c d x y z all : List ℕ) → x ≡ start ++ a → y ≡ x ++ b → z ≡ y ++ c → all ≡ z ++ d → all ≡ start ++ (a ++ (b ++ (c ++ d)))
joined_4 start a b c d x y z all e f g h = rw (h, g, f, e) (simp append_assoc)

pub joined_5 : (start a b c d e x y z w all : List ℕ) → x ≡ start ++ a → y ≡ x ++ b → z ≡ y ++ c → w ≡ z ++ d → all ≡ w ++ e → all ≡ start ++ (a ++ (b ++ (c ++ (d ++ e))))
joined_5 start a b c d e x y z w all p q r s t = rw (t, s, r, q, p) (simp append_assoc)
