-- The blobs that an index names, one after the other, and what the checks of them show.
use Rattle.std.proofs.Common.{◌≡◌, ◌≤◌, ◌<◌, ℕ, ◌+◌, Bool, true, false, ◌||◌, nat_lt, List, [], ◌∷◌, ◌++◌, length, get_or, None, refl, sym, ap, ◌∙◌, arith, subst}
use Rattle.std.specs.List.{All, list_any}
use Rattle.std.proofs.lemmas.Bool.{both_ways, false_from_ne_true, ltb-false, or_parts}
use Rattle.std.proofs.lemmas.List.Elements.{All-push}
use Rattle.std.proofs.lemmas.List.Folds.{list_any_at, list_any_none}
use Rattle.std.proofs.lemmas.List.FromFn.{get_or-map-range_with_len, length-map-range_with_len, map-range_with_len_more}
use Rattle.macho_signatures.specs.declared.blobs.Blob.{Blob}
use Rattle.macho_signatures.specs.Blobs.{AreBlobs, blob_at, blob_count, blobs_fault, blobs_of, first_blobs, header_fault, index_end, first_there, is_bad_blob, some_overlap, super_length}
use Rattle.macho_signatures.proofs.OverlapLaws.{apart_blobs}

-- one blob more
pub first_blobs_more : (s : List ℕ) (i : ℕ) (made next : List Blob) (b : Blob) → made ≡ first_blobs s i → b ≡ blob_at s i → next ≡ made ++ b ∷ [] → next ≡ first_blobs s (i + 1)
first_blobs_more s i made next b before is push =
    push ∙ ap (λ xs. xs ++ b ∷ []) before ∙ ap (λ x. first_blobs s i ++ x ∷ []) is ∙ sym (map-range_with_len_more (blob_at s) 0 i i (omega arith))

-- all that were read are good
abbrev pub AreGood : ℕ → ℕ → List Blob → Type 0
AreGood len end blobs = All (λ b. is_bad_blob len end b ≡ false) blobs

pub AreGood-push : (len end : ℕ) (made next : List Blob) (b : Blob) → AreGood len end made → is_bad_blob len end b ≡ false → next ≡ made ++ b ∷ [] → AreGood len end next
AreGood-push len end made next b good is push =
    let P : List Blob → Type 0 = λ xs. AreGood len end xs in
    subst P (sym push) (All-push (λ x. is_bad_blob len end x ≡ false) made b good is)

pub none_bad : (len end n : ℕ) (s : List ℕ) (made : List Blob) → made ≡ first_blobs s n → AreGood len end made → list_any (is_bad_blob len end) (first_blobs s n) ≡ false
none_bad len end n s made is good =
    let P : List Blob → Type 0 = λ xs. AreGood len end xs in
    list_any_none (is_bad_blob len end) (first_blobs s n) (subst P is good)

-- a bad one among all
pub one_bad : (len end n : ℕ) (s : List ℕ) (i : ℕ) → i < n → is_bad_blob len end (blob_at s i) ≡ true → list_any (is_bad_blob len end) (first_blobs s n) ≡ true
one_bad len end n s i within bad =
    let d = blob_at s i in
    let here : get_or (first_blobs s n) i d ≡ blob_at s i = get_or-map-range_with_len (blob_at s) 0 n i i d within (omega arith) in
    let long : length (first_blobs s n) ≡ n = length-map-range_with_len (blob_at s) 0 n in
    list_any_at (is_bad_blob len end) (first_blobs s n) i d (omega arith) (ap (is_bad_blob len end) here ∙ bad)

pub one_bad_of : (len end len' end' n : ℕ) (s : List ℕ) (i : ℕ) → len ≡ len' → end ≡ end' → i < n → is_bad_blob len end (blob_at s i) ≡ true → list_any (is_bad_blob len' end') (first_blobs s n) ≡ true
one_bad_of len end len' end' n s i first second within bad =
    let P : ℕ → Type 0 = λ m. list_any (is_bad_blob m end') (first_blobs s n) ≡ true in
    let Q : ℕ → Type 0 = λ m. list_any (is_bad_blob len m) (first_blobs s n) ≡ true in
    subst P first (subst Q second (one_bad len end n s i within bad))

pub none_bad_of : (len end len' end' n : ℕ) (s : List ℕ) (made : List Blob) → len ≡ len' → end ≡ end' → made ≡ first_blobs s n → AreGood len end made → list_any (is_bad_blob len' end') (first_blobs s n) ≡ false
none_bad_of len end len' end' n s made first second is good =
    let P : ℕ → Type 0 = λ m. list_any (is_bad_blob m end') (first_blobs s n) ≡ false in
    let Q : ℕ → Type 0 = λ m. list_any (is_bad_blob len m) (first_blobs s n) ≡ false in
    subst P first (subst Q second (none_bad len end n s made is good))

-- all blobs were read
pub all_blobs : (s : List ℕ) (i n : ℕ) (made : List Blob) → i ≤ n → n ≤ i → made ≡ first_blobs s i → made ≡ first_blobs s n
all_blobs s i n made below above is = let e : i ≡ n = omega arith in is ∙ ap (first_blobs s) e

-- what it is for a blob to be good, in numbers
pub good_blob : (len end : ℕ) (b : Blob) → is_bad_blob len end b ≡ false → (end ≤ b.offset) × (8 ≤ b.size) × (b.offset + b.size ≤ len)
good_blob len end b good =
    let third = nat_lt b.size 8 || nat_lt len (b.offset + b.size) in
    let second = nat_lt len (b.offset + 8) || third in
    let x = or_parts (nat_lt b.offset end) second good in
    let y = or_parts (nat_lt len (b.offset + 8)) third x.1 in
    let z = or_parts (nat_lt b.size 8) (nat_lt len (b.offset + b.size)) y.1 in
    (ltb-false b.offset end x.0, ltb-false b.size 8 z.0, ltb-false len (b.offset + b.size) z.1)

-- the blobs of an index that passes the checks
pub are_blobs : (s : List ℕ) (blobs : List Blob) → 12 ≤ length s → super_length s ≤ length s → list_any (is_bad_blob (super_length s) (index_end (blob_count s))) blobs ≡ false → some_overlap blobs ≡ false → AreBlobs s blobs
are_blobs s blobs header within good none =
    let len = super_length s in
    let end = index_end (blob_count s) in
    let each : (k : ℕ) (d : Blob) → k < length blobs → is_bad_blob len end (get_or blobs k d) ≡ false = λ k d inside. false_from_ne_true _ (λ e. both_ways (list_any (is_bad_blob len end) blobs) good (list_any_at (is_bad_blob len end) blobs k d inside e)) in
    record {
      header = header;
      within = within;
      behind = λ k d inside. (good_blob len end (get_or blobs k d) (each k d inside)).0;
      long = λ k d inside. (good_blob len end (get_or blobs k d) (each k d inside)).1;
      inside = λ k d inside. (good_blob len end (get_or blobs k d) (each k d inside)).2;
      apart = apart_blobs blobs none;
    }

-- blobs that lie behind the index have bytes
pub filled_blobs : (len end : ℕ) (blobs : List Blob) → list_any (is_bad_blob len end) blobs ≡ false → All (λ b. 0 < b.size) blobs
filled_blobs len end blobs good = λ k d inside.
    let each = false_from_ne_true (is_bad_blob len end (get_or blobs k d)) (λ e. both_ways (list_any (is_bad_blob len end) blobs) good (list_any_at (is_bad_blob len end) blobs k d inside e)) in
    let long = (good_blob len end (get_or blobs k d) each).1 in
    omega (arith, long)

pub filled_seen : (s : List ℕ) (len end n : ℕ) (blobs seen : List Blob) → seen ≡ blobs → blobs ≡ first_blobs s n → list_any (is_bad_blob len end) (first_blobs s n) ≡ false → All (λ b. 0 < b.size) seen
filled_seen s len end n blobs seen same read good =
    let P : List Blob → Type 0 = λ xs. All (λ b. 0 < b.size) xs in
    subst P (sym (same ∙ read)) (filled_blobs len end (first_blobs s n) good)

-- a SuperBlob that passes all checks
pub super_found : (s : List ℕ) (n : ℕ) (blobs seen : List Blob) (answer : Bool) → header_fault s ≡ None → n ≡ blob_count s → 12 ≤ length s → super_length s ≤ length s → blobs ≡ first_blobs s n → list_any (is_bad_blob (super_length s) (index_end n)) (first_blobs s n) ≡ false → seen ≡ blobs → answer ≡ some_overlap seen → answer ≡ false → (first_there (header_fault s) (blobs_fault s) ≡ None) × (blobs ≡ blobs_of s) × AreBlobs s blobs
unfolding blobs_fault blobs_of
super_found s n blobs seen answer pass count header within read good same told none =
    let P : ℕ → Type 0 = λ m. list_any (is_bad_blob (super_length s) (index_end m)) (first_blobs s m) ≡ false in
    let all : blobs ≡ blobs_of s = read ∙ ap (first_blobs s) count in
    let good_all : list_any (is_bad_blob (super_length s) (index_end (blob_count s))) (blobs_of s) ≡ false = subst P count good in
    let apart : some_overlap blobs ≡ false = ap some_overlap (sym same) ∙ sym told ∙ none in
    let apart_all : some_overlap (blobs_of s) ≡ false = ap some_overlap (sym all) ∙ apart in
    let Q : List Blob → Type 0 = λ xs. list_any (is_bad_blob (super_length s) (index_end (blob_count s))) xs ≡ false in
    (rw (pass, good_all, apart_all) refl, all, are_blobs s blobs header within (subst Q (sym all) good_all) apart)
