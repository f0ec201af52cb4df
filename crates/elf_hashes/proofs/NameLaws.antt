-- Names, their hashes and their buckets, symbol by symbol.
use Rattle.std.proofs.Common.{◌≡◌, ℕ, zero, suc, ◌/◌, ◌%◌, List, [], ◌∷◌, length, map, true, not, refl, sym, ap, ◌∙◌, Option, Some, None, arith}
use Rattle.std.specs.Prelude.{◌==◌, option_map, slice_get}
use Rattle.std.proofs.lemmas.Bool.{and_from, and_parts, cond-true, eqb-false, ne_eqb, not-true, not_from_false}
use Rattle.std.proofs.lemmas.List.{length-map}
use Rattle.std.proofs.lemmas.Option.{cond_some, none-some, same_Some, slice_get-map}
use Rattle.elf_format.specs.Views.{NamedSymbol}
use Rattle.elf_hashes.specs.Buckets.{hashes_of, in_buckets}
use Rattle.elf_hashes.specs.Found.{AreNamesOf, IsFoundAt, found_name, hashed_names, is_found}
use Rattle.elf_hashes.proofs.ChainLaws.{IsFirstInNone}

-- ## One by one

pub mapped_some : {A B : Type 0} (f : A → B) (xs : List (Option A)) (i : ℕ) (x : A) → slice_get xs i ≡ Some (Some x) → slice_get (map (option_map f) xs) i ≡ Some (Some (f x))
mapped_some f xs i x at = slice_get-map (option_map f) xs i ∙ ap (option_map (option_map f)) at

pub mapped_from : {A B : Type 0} (f : A → B) (xs : List (Option A)) (i : ℕ) (y : B) → slice_get (map (option_map f) xs) i ≡ Some (Some y)
    → (x : A) × (slice_get xs i ≡ Some (Some x)) × (f x ≡ y)
mapped_from f [] i y at = absurd (none-some (Some y) at)
mapped_from f (None ∷ xs) zero y at = absurd (none-some y (same_Some None (Some y) at))
mapped_from f (Some x ∷ xs) zero y at = (x, refl, same_Some (f x) y (same_Some (Some (f x)) (Some y) at))
mapped_from f (x ∷ xs) (suc i) y at = mapped_from f xs i y at

-- the bucket of a name
pub bucket_of_name : (hash : List ℕ → ℕ) (buckets : ℕ) (names : List (Option (List ℕ))) (i : ℕ) (name : List ℕ) → slice_get names i ≡ Some (Some name)
    → slice_get (in_buckets buckets (hashes_of hash names)) i ≡ Some (Some (hash name % buckets))
bucket_of_name hash buckets names i name at =
    mapped_some (λ (h : ℕ). h % buckets) (hashes_of hash names) i (hash name) (mapped_some hash names i name at)

-- the name that stands in a bucket
pub name_in_bucket : (hash : List ℕ → ℕ) (buckets : ℕ) (names : List (Option (List ℕ))) (i b : ℕ) → slice_get (in_buckets buckets (hashes_of hash names)) i ≡ Some (Some b)
    → (name : List ℕ) × (slice_get names i ≡ Some (Some name)) × (hash name % buckets ≡ b)
name_in_bucket hash buckets names i b at =
    let (h, at_h, is_b) = mapped_from (λ (h : ℕ). h % buckets) (hashes_of hash names) i b at in
    let (name, at_name, is_h) = mapped_from hash names i h at_h in
    (name, at_name, ap (λ (n : ℕ). n % buckets) is_h ∙ is_b)

-- ## How many they are

pub length-hashed_names : (ys : List NamedSymbol) → length (hashed_names ys) ≡ length ys
unfolding hashed_names
length-hashed_names [] = refl
length-hashed_names (y ∷ ys) = ap suc (length-map ys found_name)

pub length-hashes : (hash : List ℕ → ℕ) (ys : List NamedSymbol) → length (hashes_of hash (hashed_names ys)) ≡ length ys
length-hashes hash ys = length-map (hashed_names ys) (option_map hash) ∙ length-hashed_names ys

pub length-buckets : (hash : List ℕ → ℕ) (buckets : ℕ) (ys : List NamedSymbol) → length (in_buckets buckets (hashes_of hash (hashed_names ys))) ≡ length ys
length-buckets hash buckets ys = length-map (hashes_of hash (hashed_names ys)) (option_map (λ (h : ℕ). h % buckets)) ∙ length-hashes hash ys

-- no bucket has the first symbol
pub first_in_none : (hash : List ℕ → ℕ) (buckets : ℕ) (ys : List NamedSymbol) → IsFirstInNone (in_buckets buckets (hashes_of hash (hashed_names ys)))
unfolding hashed_names
first_in_none hash buckets [] b at = none-some (Some b) at
first_in_none hash buckets (y ∷ ys) b at = none-some b (same_Some None (Some b) at)

-- ## A name that a look-up finds is that of a symbol that is defined, not local and not the first

pub name_of_found : (ys : List NamedSymbol) (name : List ℕ) (i : ℕ) → IsFoundAt ys name i → slice_get (hashed_names ys) i ≡ Some (Some name)
unfolding hashed_names
name_of_found [] name i found = absurd (none-some found.symbol found.is_there)
name_of_found (y ∷ ys) name zero found = absurd (found.not_first refl)
name_of_found (y ∷ ys) name (suc i) found =
    let s : NamedSymbol = found.symbol in
    let defined : not (s.st_shndx == 0) ≡ true = not_from_false (s.st_shndx == 0) (ne_eqb s.st_shndx 0 found.defined) in
    let seen : not (s.st_info / 16 == 0) ≡ true = not_from_false (s.st_info / 16 == 0) (ne_eqb (s.st_info / 16) 0 found.seen) in
    let is : is_found s ≡ true = and_from (not (s.st_shndx == 0)) (not (s.st_info / 16 == 0)) defined seen in
    slice_get-map found_name ys i ∙ ap (option_map found_name) found.is_there
    ∙ ap (λ (o : Option (List ℕ)). Some o) (cond-true (is_found s) (Some s.name) None is ∙ ap (λ (n : List ℕ). Some n) found.named)

pub found_of_name : (ys : List NamedSymbol) (name : List ℕ) (i : ℕ) → slice_get (hashed_names ys) i ≡ Some (Some name) → IsFoundAt ys name i
unfolding hashed_names
found_of_name [] name i at = absurd (none-some (Some name) at)
found_of_name (y ∷ ys) name zero at = absurd (none-some name (same_Some None (Some name) at))
found_of_name (y ∷ ys) name (suc i) at = by_symbol (slice_get ys i) refl (sym (slice_get-map found_name ys i) ∙ at)
  where
    by_symbol : (o : Option NamedSymbol) → slice_get ys i ≡ o → option_map found_name o ≡ Some (Some name) → IsFoundAt (y ∷ ys) name (suc i)
    by_symbol None is h = absurd (none-some (Some name) h)
    by_symbol (Some s) is h =
        let (found, named) = cond_some (is_found s) s.name name (same_Some (found_name s) (Some name) h) in
        let (defined, seen) = and_parts (not (s.st_shndx == 0)) (not (s.st_info / 16 == 0)) found in
        record {
          not_first = λ z. omega (arith, z);
          symbol = s;
          is_there = is;
          defined = eqb-false s.st_shndx 0 (not-true (s.st_shndx == 0) defined);
          seen = eqb-false (s.st_info / 16) 0 (not-true (s.st_info / 16 == 0) seen);
          named = named;
        }

-- a symbol of a bucket has the name that is read of it
pub found_in_bucket : (hash : List ℕ → ℕ) (buckets : ℕ) (ys : List NamedSymbol) (name_of : ℕ → Option (List ℕ)) (name : List ℕ) (i b : ℕ) → AreNamesOf ys name_of
    → slice_get (in_buckets buckets (hashes_of hash (hashed_names ys))) i ≡ Some (Some b) → name_of i ≡ Some name → IsFoundAt ys name i
found_in_bucket hash buckets ys name_of name i b names at named =
    let (other, at_name, is) = name_in_bucket hash buckets (hashed_names ys) i b at in
    let found = found_of_name ys other i at_name in
    record {
      not_first = found.not_first;
      symbol = found.symbol;
      is_there = found.is_there;
      defined = found.defined;
      seen = found.seen;
      named = same_Some found.symbol.name name (sym (names i found.symbol found.is_there) ∙ named);
    }
