-- Where the slots of the directories of a signature without a fault stand.
use Rattle.std.proofs.Common.{◌≡◌, ◌≤◌, ◌<◌, ℕ, ◌+◌, ◌*◌, Bool, true, false, ◌&&◌, ◌⊎◌, not, cond, nat_lt, eqb, List, [], ◌∷◌, length, map, drop, filter, get_or, Option, Some, None, is_none, unwrap_or, refl, sym, ap, ◌∙◌, subst, inl, inr, arith, if◌then◌else◌}
use Rattle.std.specs.List.{All}
use Rattle.std.proofs.lemmas.Bool.{and_parts, both_ways, cases_Bool, cases_lt, eqb-true, ltb-false, not-false, or_parts}
use Rattle.std.proofs.lemmas.List.{get_or-map, length-drop, length-map, length-take-le}
use Rattle.std.proofs.lemmas.List.Elements.{All-cons, All-filter}
use Rattle.std.proofs.lemmas.Nat.{pow_pos}
use Rattle.std.proofs.lemmas.Option.{same_Some}
use Rattle.std.proofs.lemmas.List.Kept.{AllPairs-filter}
use Rattle.macho_signatures.specs.declared.blobs.Blob.{Blob}
use Rattle.macho_signatures.specs.declared.directory.Directory.{Directory}
use Rattle.macho_signatures.specs.declared.directory.HashKind.{HashKind}
use Rattle.macho_signatures.specs.declared.directory.HashKind.TheVariants.{Sha1, Sha256}
use Rattle.macho_signatures.specs.declared.fault.SignatureFault.{SignatureFault}
use Rattle.macho_signatures.specs.declared.fault.SignatureFault.TheVariants.{BadDirectory, BadLimit, BadPageSize, BadSlots, Scattered, UnknownHash}
use Rattle.macho_signatures.specs.Blobs.{AreBlobs, first_there, overlap, super_length}
use Rattle.macho_signatures.specs.Directory.{are_slots_outside, code_count, code_limit, directory_fault, directory_of, fixed_size, hash_kind_of, hash_offset, hash_size, hash_type, is_header_bad, is_identifier_outside, is_scattered, page_count, page_exponent, page_size, pages_fault, slot_size, special_count, version_of}
use Rattle.macho_signatures.specs.Signature.{AreApart, ArePlaced, IsPlaced, blob_bytes, blob_directory, blob_fault, first_fault, is_directory, slots_end}
use Rattle.macho_signatures.proofs.OverlapLaws.{overlaps}

-- a check that passes
pub passes : (b : Bool) (fault : SignatureFault) (next : Option SignatureFault) → cond b (Some fault) next ≡ None → (b ≡ false) × (next ≡ None)
passes true fault next pass = cc
passes false fault next pass = (refl, pass)

pub neither_there : (a b : Option SignatureFault) → first_there a b ≡ None → (a ≡ None) × (b ≡ None)
neither_there None b pass = (refl, pass)
neither_there (Some fault) b pass = cc

-- what is known of a kind of hash
some_kind : (o : Option HashKind) → is_none o ≡ false → (kind : HashKind) × (o ≡ Some kind)
some_kind None none = cc
some_kind (Some kind) none = (kind, refl)

-- ## A directory

-- slots lie in the directory's bytes, one for each page, and pages end before the signature
pub record HasSlots (start place : ℕ) (d : List ℕ) (found : Directory) : Type 0 where
  pub filled : 0 < found.page_size
  pub pages : found.count ≡ page_count found.page_size found.limit
  pub before : found.limit ≤ start
  pub behind : place ≤ found.slots
  pub inside : slots_end found ≤ place + length d

kind_cases : (a b : Bool) (kind : HashKind) → cond a (Some Sha1) (cond b (Some Sha256) None) ≡ Some kind → ((a ≡ true) × (kind ≡ Sha1)) ⊎ ((b ≡ true) × (kind ≡ Sha256))
kind_cases true b kind e = inl (refl, sym (same_Some Sha1 kind e))
kind_cases false true kind e = inr (refl, sym (same_Some Sha256 kind e))
kind_cases false false kind e = cc

-- the size of a slot is that of its hash
size_of_kind : (type size : ℕ) (kind : HashKind) → hash_kind_of type size ≡ Some kind → size ≡ hash_size kind
unfolding hash_kind_of
size_of_kind type size kind found =
    elim (kind_cases (eqb type 1 && eqb size 20) (eqb type 2 && eqb size 32) kind found) [
      | inl first ↦ eqb-true size 20 (and_parts (eqb type 1) (eqb size 20) first.0).1 ∙ sym (ap hash_size first.1)
      | inr second ↦ eqb-true size 32 (and_parts (eqb type 2) (eqb size 32) second.0).1 ∙ sym (ap hash_size second.1)
    ]

page_size-filled : (e limit : ℕ) → 0 < page_size e limit
page_size-filled e limit =
    elim (cases_Bool (eqb e 0)) [
      | inl whole ↦ rw whole (omega arith)
      | inr power ↦ rw power (pow_pos e)
    ]

pub has_slots : (start place : ℕ) (d : List ℕ) → directory_fault start d ≡ None → HasSlots start place d (directory_of place d)
unfolding directory_fault directory_of pages_fault are_slots_outside
has_slots start place d pass =
    let pages : Option SignatureFault = pages_fault start d in
    let hash : Option SignatureFault = if is_none (hash_kind_of (hash_type d) (slot_size d)) then Some UnknownHash else pages in
    let ident : Option SignatureFault = if is_identifier_outside (fixed_size (version_of d)) d then Some BadDirectory else hash in
    let slots : Option SignatureFault = if are_slots_outside (fixed_size (version_of d)) d then Some BadDirectory else ident in
    let first = passes (is_header_bad d) BadDirectory slots pass in
    let second = passes (are_slots_outside (fixed_size (version_of d)) d) BadDirectory ident first.1 in
    let third = passes (is_identifier_outside (fixed_size (version_of d)) d) BadDirectory hash second.1 in
    let fourth = passes (is_none (hash_kind_of (hash_type d) (slot_size d))) UnknownHash pages third.1 in
    let limit = code_limit d in
    let count = page_count (page_size (page_exponent d) limit) limit in
    let bound : Option SignatureFault = if nat_lt start limit then Some BadLimit else None in
    let one : Option SignatureFault = if not (eqb count (code_count d)) then Some BadSlots else bound in
    let whole : Option SignatureFault = if is_scattered d then Some Scattered else one in
    let fifth = passes (nat_lt 31 (page_exponent d)) BadPageSize whole fourth.1 in
    let sixth = passes (is_scattered d) Scattered one fifth.1 in
    let seventh = passes (not (eqb count (code_count d))) BadSlots bound sixth.1 in
    let eighth = passes (nat_lt start limit) BadLimit None seventh.1 in
    let kind = some_kind (hash_kind_of (hash_type d) (slot_size d)) fourth.0 in
    let same : hash_size (unwrap_or (hash_kind_of (hash_type d) (slot_size d)) Sha1) ≡ slot_size d = ap (λ o. hash_size (unwrap_or o Sha1)) kind.1 ∙ sym (size_of_kind (hash_type d) (slot_size d) kind.0 kind.1) in
    let ends = or_parts (nat_lt (hash_offset d) (fixed_size (version_of d) + special_count d * slot_size d)) (nat_lt (length d) (hash_offset d + code_count d * slot_size d)) second.0 in
    let inside = ltb-false (length d) (hash_offset d + code_count d * slot_size d) ends.1 in
    record {
      filled = page_size-filled (page_exponent d) limit;
      pages = sym (eqb-true count (code_count d) (not-false (eqb count (code_count d)) seventh.0));
      before = ltb-false start limit eighth.0;
      behind = omega arith;
      inside = rw same (omega (arith, inside));
    }

-- ## All of them

-- blobs that don't overlap
apart_or : (a b : Blob) → overlap a b ≡ false → (a.offset + a.size ≤ b.offset) ⊎ (b.offset + b.size ≤ a.offset)
apart_or a b none =
    elim (cases_lt a.offset (b.offset + b.size)) [
      | inl here ↦
          elim (cases_lt b.offset (a.offset + a.size)) [
            | inl there ↦ absurd (both_ways (overlap a b) none (overlaps a b here there))
            | inr behind ↦ inl behind
          ]
      | inr behind ↦ inr behind
    ]

pub first_fault_at : {X : Type 0} (f : X → Option SignatureFault) (xs : List X) → first_fault f xs ≡ None → All (λ x. f x ≡ None) xs
first_fault_at f [] pass = λ k d inside. absurd (omega (arith, inside))
first_fault_at f (x ∷ xs) pass = let p = neither_there (f x) (first_fault f xs) pass in All-cons (λ y. f y ≡ None) x xs p.0 (first_fault_at f xs p.1)

length-blob_bytes : (s : List ℕ) (b : Blob) → b.offset + b.size ≤ length s → length (blob_bytes s b) ≡ b.size
length-blob_bytes s b inside = let long = length-drop b.offset s in length-take-le b.size (drop b.offset s) (omega (arith, long, inside))

placed_blob : (start len : ℕ) (s : List ℕ) (b : Blob) → start + length s ≤ len → b.offset + b.size ≤ length s → blob_fault start s b ≡ None → IsPlaced start len (blob_directory start s b)
placed_blob start len s b room inside good =
    let has = has_slots start (start + b.offset) (blob_bytes s b) good in
    let long = length-blob_bytes s b inside in
    let behind : start + b.offset ≤ (blob_directory start s b).slots = has.behind in
    let ends : slots_end (blob_directory start s b) ≤ start + b.offset + length (blob_bytes s b) = has.inside in
    let before : (blob_directory start s b).limit ≤ start = has.before in
    record {
      lies = record {
        pages = record { filled = has.filled; count = has.pages };
        limit = omega (arith, before, room);
        within = omega (arith, ends, long, room, inside);
      };
      before = before;
      behind = omega (arith, behind);
    }

apart_places : (start : ℕ) (s : List ℕ) (a b : Blob) → a.offset + a.size ≤ length s → blob_fault start s a ≡ None → blob_fault start s b ≡ None → a.offset + a.size ≤ b.offset → slots_end (blob_directory start s a) ≤ (blob_directory start s b).slots
apart_places start s a b inside good other behind =
    let first = has_slots start (start + a.offset) (blob_bytes s a) good in
    let second = has_slots start (start + b.offset) (blob_bytes s b) other in
    let long = length-blob_bytes s a inside in
    let ends : slots_end (blob_directory start s a) ≤ start + a.offset + length (blob_bytes s a) = first.inside in
    let begins : start + b.offset ≤ (blob_directory start s b).slots = second.behind in
    omega (arith, ends, long, begins, behind)

apart_directories : (start : ℕ) (s : List ℕ) (a b : Blob) → a.offset + a.size ≤ length s → b.offset + b.size ≤ length s → blob_fault start s a ≡ None → blob_fault start s b ≡ None → overlap a b ≡ false → AreApart (blob_directory start s a) (blob_directory start s b)
apart_directories start s a b here there good other none =
    elim (apart_or a b none) [
      | inl behind ↦ inl (apart_places start s a b here good other behind)
      | inr before ↦ inr (apart_places start s b a there other good before)
    ]

no_blob : Blob
no_blob = record { kind = 0; offset = 0; size = 0 }

pub are_placed : (start len : ℕ) (s : List ℕ) (blobs : List Blob) → start + length s ≤ len → AreBlobs s blobs → first_fault (blob_fault start s) (filter is_directory blobs) ≡ None → ArePlaced start len (map (blob_directory start s) (filter is_directory blobs))
are_placed start len s blobs room are pass =
    let bs : List Blob = filter is_directory blobs in
    let f : Blob → Directory = blob_directory start s in
    let count : length (map f bs) ≡ length bs = length-map bs f in
    let good = first_fault_at (blob_fault start s) bs pass in
    let inside = All-filter is_directory (λ b. b.offset + b.size ≤ super_length s) blobs are.inside in
    let apart = AllPairs-filter (λ a b. overlap a b ≡ false) is_directory blobs are.apart in
    let within = are.within in
    let room_at : (k : ℕ) → k < length bs → (get_or bs k no_blob).offset + (get_or bs k no_blob).size ≤ length s = λ k here. let h = inside k no_blob here in omega (arith, h, within) in
    record {
      each = λ k d here.
          let k_inside : k < length bs = omega (arith, here, count) in
          let P : Directory → Type 0 = λ x. IsPlaced start len x in
          subst P (sym (get_or-map f bs k no_blob d k_inside)) (placed_blob start len s (get_or bs k no_blob) room (room_at k k_inside) (good k no_blob k_inside));
      apart = λ i j d before here.
          let j_inside : j < length bs = omega (arith, here, count) in
          let i_inside : i < length bs = omega (arith, before, j_inside) in
          let P : Directory → Type 0 = λ x. AreApart x (get_or (map f bs) j d) in
          let Q : Directory → Type 0 = λ x. AreApart (f (get_or bs i no_blob)) x in
          subst P (sym (get_or-map f bs i no_blob d i_inside)) (subst Q (sym (get_or-map f bs j no_blob d j_inside))
          (apart_directories start s (get_or bs i no_blob) (get_or bs j no_blob) (room_at i i_inside) (room_at j j_inside) (good i no_blob i_inside) (good j no_blob j_inside) (apart i j no_blob before j_inside)));
    }
