-- What hash tables and the order by buckets see of symbols: their names, their bindings, and whether they are defined.
use Rattle.std.proofs.Common.{◌≡◌, ℕ, suc, ◌+◌, ◌/◌, ◌%◌, List, [], ◌∷◌, ◌++◌, length, map, Bool, not, refl, sym, ap, ◌∙◌, subst, Option, Some, None, arith}
use Rattle.std.specs.Prelude.{◌&&◌, ◌==◌, if◌then◌else◌, option_map, slice_get}
use Rattle.std.specs.List.{flat_map}
use Rattle.std.proofs.lemmas.List.{length-map}
use Rattle.std.proofs.lemmas.Option.{same_Some, slice_get-map}
use Rattle.elf_format.specs.Hashes.{gnu_hash}
use Rattle.elf_format.specs.Image.{counted}
use Rattle.elf_format.specs.Views.{NamedSymbol}
use Rattle.elf_hashes.specs.Found.{found_name, hashed_names, is_found, is_local, is_sought}
use Rattle.elf_hashes.specs.Order.{is_found_in, places_by_bucket, places_where}
use Rattle.elf_hashes.proofs.ListLaws.{flat_map-same}

-- Look-ups and the order by buckets see the same of two symbols: their name and their binding, and whether they are defined.
pub record IsSeenAlike (y z : NamedSymbol) : Type 0 where
  pub named : y.name ≡ z.name
  pub bound : y.st_info ≡ z.st_info
  pub defined : (y.st_shndx == 0) ≡ (z.st_shndx == 0)

-- look-ups and the order by buckets see the same of two lists, symbol by symbol
abbrev pub AreSeenAlike : List NamedSymbol → List NamedSymbol → Type 0
AreSeenAlike ys zs = (i : ℕ) (y z : NamedSymbol) → slice_get ys i ≡ Some y → slice_get zs i ≡ Some z → IsSeenAlike y z

-- ## One symbol

local-alike : (y z : NamedSymbol) → IsSeenAlike y z → is_local y ≡ is_local z
local-alike y z alike = ap (λ (n : ℕ). n / 16 == 0) alike.bound

sought-alike : (y z : NamedSymbol) → IsSeenAlike y z → is_sought y ≡ is_sought z
sought-alike y z alike =
    ap (λ (t : Bool). not t && y.st_shndx == 0) (local-alike y z alike) ∙ ap (λ (t : Bool). not (is_local z) && t) alike.defined

found-alike : (y z : NamedSymbol) → IsSeenAlike y z → is_found y ≡ is_found z
found-alike y z alike =
    ap (λ (t : Bool). not t && not (is_local y)) alike.defined ∙ ap (λ (t : Bool). not (z.st_shndx == 0) && not t) (local-alike y z alike)

name-alike : (y z : NamedSymbol) → IsSeenAlike y z → found_name y ≡ found_name z
name-alike y z alike =
    ap (λ (t : Bool). if t then Some y.name else None) (found-alike y z alike)
    ∙ ap (λ (n : List ℕ). if is_found z then Some n else None) alike.named

bucket-alike : (buckets bucket : ℕ) (y z : NamedSymbol) → IsSeenAlike y z → is_found_in buckets bucket y ≡ is_found_in buckets bucket z
bucket-alike buckets bucket y z alike =
    ap (λ (t : Bool). t && gnu_hash y.name % buckets == bucket) (found-alike y z alike)
    ∙ ap (λ (n : List ℕ). is_found z && gnu_hash n % buckets == bucket) alike.named

-- ## Lists

behind-alike : (y z : NamedSymbol) (ys zs : List NamedSymbol) → AreSeenAlike (y ∷ ys) (z ∷ zs) → AreSeenAlike ys zs
behind-alike y z ys zs alike = λ i v w at_v at_w. alike (suc i) v w at_v at_w

names-alike : (ys zs : List NamedSymbol) → length ys ≡ length zs → AreSeenAlike ys zs → map found_name ys ≡ map found_name zs
names-alike [] [] long alike = refl
names-alike [] (z ∷ zs) long alike = absurd (omega (arith, long))
names-alike (y ∷ ys) [] long alike = absurd (omega (arith, long))
names-alike (y ∷ ys) (z ∷ zs) long alike =
    ap (λ (o : Option (List ℕ)). o ∷ map found_name ys) (name-alike y z (alike 0 y z refl refl))
    ∙ ap (λ l. found_name z ∷ l) (names-alike ys zs (omega (arith, long)) (behind-alike y z ys zs alike))

places-alike : (test : NamedSymbol → Bool) → ((y z : NamedSymbol) → IsSeenAlike y z → test y ≡ test z)
    → (i : ℕ) (ys zs : List NamedSymbol) → length ys ≡ length zs → AreSeenAlike ys zs → places_where test i ys ≡ places_where test i zs
places-alike test same i [] [] long alike = refl
places-alike test same i [] (z ∷ zs) long alike = absurd (omega (arith, long))
places-alike test same i (y ∷ ys) [] long alike = absurd (omega (arith, long))
places-alike test same i (y ∷ ys) (z ∷ zs) long alike =
    let more : List ℕ = places_where test (i + 1) ys in
    ap (λ (t : Bool). if t then i ∷ more else more) (same y z (alike 0 y z refl refl))
    ∙ ap (λ l. if test z then i ∷ l else l) (places-alike test same (i + 1) ys zs (omega (arith, long)) (behind-alike y z ys zs alike))

-- lists of which look-ups see the same have the same names in hash tables
pub hashed_names-alike : (ys zs : List NamedSymbol) → length ys ≡ length zs → AreSeenAlike ys zs → hashed_names ys ≡ hashed_names zs
unfolding hashed_names
hashed_names-alike [] [] long alike = refl
hashed_names-alike [] (z ∷ zs) long alike = absurd (omega (arith, long))
hashed_names-alike (y ∷ ys) [] long alike = absurd (omega (arith, long))
hashed_names-alike (y ∷ ys) (z ∷ zs) long alike =
    ap (λ l. None ∷ l) (names-alike ys zs (omega (arith, long)) (behind-alike y z ys zs alike))

-- lists of which look-ups see the same have their symbols at the same places by buckets
pub places_by_bucket-alike : (buckets : ℕ) (ys zs : List NamedSymbol) → length ys ≡ length zs → AreSeenAlike ys zs → places_by_bucket buckets ys ≡ places_by_bucket buckets zs
unfolding places_by_bucket
places_by_bucket-alike buckets [] [] long alike = refl
places_by_bucket-alike buckets [] (z ∷ zs) long alike = absurd (omega (arith, long))
places_by_bucket-alike buckets (y ∷ ys) [] long alike = absurd (omega (arith, long))
places_by_bucket-alike buckets (y ∷ ys) (z ∷ zs) long alike =
    let same : length ys ≡ length zs = omega (arith, long) in
    let behind : AreSeenAlike ys zs = behind-alike y z ys zs alike in
    let found : (us : List NamedSymbol) → List ℕ = λ us. flat_map (λ bucket. places_where (is_found_in buckets bucket) 1 us) (counted buckets) in
    ap (λ l. 0 ∷ (l ++ places_where is_sought 1 ys ++ found ys)) (places-alike is_local local-alike 1 ys zs same behind)
    ∙ ap (λ l. 0 ∷ (places_where is_local 1 zs ++ l ++ found ys)) (places-alike is_sought sought-alike 1 ys zs same behind)
    ∙ ap (λ l. 0 ∷ (places_where is_local 1 zs ++ places_where is_sought 1 zs ++ l))
    (flat_map-same (λ bucket. places_where (is_found_in buckets bucket) 1 ys) (λ bucket. places_where (is_found_in buckets bucket) 1 zs)
    (λ bucket. places-alike (is_found_in buckets bucket) (bucket-alike buckets bucket) 1 ys zs same behind) (counted buckets))

-- ## Symbols each of which is changed

pub map-alike : (f : NamedSymbol → NamedSymbol) → ((y : NamedSymbol) → IsSeenAlike (f y) y) → (ys : List NamedSymbol) → AreSeenAlike (map f ys) ys
map-alike f each ys = λ i y z at_y at_z.
    let is : f z ≡ y = same_Some (f z) y (sym (slice_get-map f ys i ∙ ap (option_map f) at_z) ∙ at_y) in
    subst (λ v. IsSeenAlike v z) is (each z)

pub hashed_names-map : (f : NamedSymbol → NamedSymbol) → ((y : NamedSymbol) → IsSeenAlike (f y) y) → (ys : List NamedSymbol) → hashed_names (map f ys) ≡ hashed_names ys
hashed_names-map f each ys = hashed_names-alike (map f ys) ys (length-map ys f) (map-alike f each ys)

pub places_by_bucket-map : (f : NamedSymbol → NamedSymbol) → ((y : NamedSymbol) → IsSeenAlike (f y) y) → (buckets : ℕ) (ys : List NamedSymbol)
    → places_by_bucket buckets (map f ys) ≡ places_by_bucket buckets ys
places_by_bucket-map f each buckets ys = places_by_bucket-alike buckets (map f ys) ys (length-map ys f) (map-alike f each ys)
