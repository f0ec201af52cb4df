-- Lists of byte strings under edits, seen as the bytes of each.
use Rattle.std.proofs.Common.{◌≡◌, ℕ, suc, ◌+◌, Bool, not, cond, List, [], ◌∷◌, ◌++◌, length, take, drop, set, map, Option, Some, None, nat_lt, refl, sym, ap, ◌∙◌}
use Rattle.std.specs.List.{position, position_or_len, prefix_len, remove}
use Rattle.std.proofs.lemmas.List.{drop-map, length-map, map-append, map-set, map_push, take-map}
use Rattle.patch_bytes.specs.ByteString.{StringValue, bytes_of_each, owned_string}

-- one string more behind the others
pub pushed : (old new : List StringValue) (s : StringValue) (bytes : List ℕ) → new ≡ old ++ s ∷ [] → s ≡ owned_string bytes → bytes_of_each old ++ bytes ∷ [] ≡ bytes_of_each new
pushed old new s bytes is owned =
    ap (λ (x : StringValue). bytes_of_each old ++ x.bytes ∷ []) (sym owned)
    ∙ sym (map_push (λ (x : StringValue). x.bytes) old s)
    ∙ ap bytes_of_each (sym is)

-- one in the place of another
pub replaced : (old new : List StringValue) (i : ℕ) (s : StringValue) (bytes : List ℕ) → new ≡ set old i s → s ≡ owned_string bytes → bytes_of_each new ≡ set (bytes_of_each old) i bytes
replaced old new i s bytes is owned =
    ap bytes_of_each is ∙ map-set (λ (x : StringValue). x.bytes) old i s ∙ ap (λ (x : StringValue). set (bytes_of_each old) i x.bytes) owned

-- one command less in a list
pub removed : (old new : List StringValue) (i : ℕ) → new ≡ remove old i → remove (bytes_of_each old) i ≡ bytes_of_each new
removed old new i is =
    let f : StringValue → List ℕ = λ x. x.bytes in
    ap (λ (front : List (List ℕ)). front ++ drop (suc i) (map f old)) (take-map f i old)
    ∙ ap (λ (back : List (List ℕ)). map f (take i old) ++ back) (drop-map f (suc i) old)
    ∙ sym (map-append f (take i old) (drop (suc i) old))
    ∙ ap (map f) (sym is)

-- the first that passes a test
prefix_len-bytes : (p : List ℕ → Bool) (strings : List StringValue) → prefix_len p (bytes_of_each strings) ≡ prefix_len (λ x. p x.bytes) strings
prefix_len-bytes p [] = refl
prefix_len-bytes p (s ∷ strings) = ap (λ (n : ℕ). cond (p s.bytes) (1 + n) 0) (prefix_len-bytes p strings)

same_position : (p : List ℕ → Bool) (strings : List StringValue) → position p (bytes_of_each strings) ≡ position (λ x. p x.bytes) strings
same_position p strings =
    let here : position_or_len p (bytes_of_each strings) ≡ position_or_len (λ x. p x.bytes) strings = prefix_len-bytes (λ bytes. not (p bytes)) strings in
    let long : length (bytes_of_each strings) ≡ length strings = length-map strings (λ (x : StringValue). x.bytes) in
    ap (λ (n : ℕ). cond (nat_lt n (length (bytes_of_each strings))) (Some n) None) here
    ∙ ap (λ (n : ℕ). cond (nat_lt (position_or_len (λ x. p x.bytes) strings) n) (Some (position_or_len (λ x. p x.bytes) strings)) None) long

pub position-bytes : (p : List ℕ → Bool) (strings : List StringValue) (place : Option ℕ) → position (λ x. p x.bytes) strings ≡ place → position p (bytes_of_each strings) ≡ place
position-bytes p strings place is = same_position p strings ∙ is
