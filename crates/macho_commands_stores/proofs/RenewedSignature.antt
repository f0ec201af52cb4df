-- Slots that are made anew leave what the bytes of a signature tell: its blobs, whether an identity signed, and its directories, apart
-- from the lengths of their identifiers.
use Rattle.std.proofs.Common.{◌≡◌, ◌≤◌, ◌<◌, ◌+◌, ◌*◌, ◌⊎◌, ◌||◌, ◌&&◌, ◌==◌, ℕ, Bool, true, false, not, cond, nat_lt, List, [], ◌∷◌, length, map, filter, take, drop, get_or, Some, None, refl, sym, ap, ◌∙◌, subst, inl, inr, arith, if◌then◌else◌}
use Rattle.std.specs.List.{All, Any, list_any, range_with_len}
use Rattle.std.proofs.lemmas.Bool.{and_from, both_ways, cases_eq, cases_lt, le-ltb, lt-ltb, ltb-false, or_parts}
use Rattle.std.proofs.lemmas.List.{get_or-drop, get_or-take, get_or_default, get_or_past, length-drop, length-take, length-take-le, same_lists}
use Rattle.std.proofs.lemmas.List.Elements.{All-filter, All-head, All-map, All-tail}
use Rattle.std.proofs.lemmas.List.FromFn.{get_or-map-range_with_len, length-map-range_with_len}
use Rattle.patch_bytes.specs.declared.number.ByteOrder2.TheVariants.{Big}
use Rattle.patch_bytes.specs.Number.{number_at}
use Rattle.patch_bytes.proofs.NumberLaws.{number_at-same}
use Rattle.macho_signatures.specs.Blobs.{AreBlobs, blob_at, blob_count, blobs_fault, blobs_of, header_fault, index_end, is_bad_blob, number32, first_there, overlap, signature_bytes, some_overlap, super_length}
use Rattle.macho_signatures.specs.Directory.{are_slots_outside, code_limit, directory_fault, directory_of, fixed_size, hash_offset, is_header_bad, slot_size, special_count, version_of}
use Rattle.macho_signatures.specs.Renewed.{IsRenewed, LiesInSlot}
use Rattle.macho_signatures.specs.Signature.{blob_bytes, blob_directory, blob_fault, contents_fault, directories_of, directory_blobs, first_fault, has_main, is_directory, is_message, is_signed, signature_fault, slots_end}
use Rattle.macho_signatures.specs.declared.directory.Directory.{Directory}
use Rattle.macho_signatures.specs.declared.fault.SignatureFault.TheVariants.{BadBlob, BadDirectory, BadLength, NoDirectory, NoSuperBlob, Outside}
use Rattle.macho_signatures.specs.declared.renewal.ByteRange.{ByteRange}
use Rattle.macho_signatures.proofs.IndexLaws.{are_blobs}
use Rattle.macho_signatures.proofs.LaidLaws.{same_field}
use Rattle.macho_signatures.proofs.PageLaws.{slot-within}
use Rattle.macho_signatures.proofs.PlaceLaws.{first_fault_at, has_slots, neither_there, passes}
use Rattle.macho_commands_stores.specs.Kept.{layout_of}

-- ## What checks show

pub header_passes : (s : List ℕ) → header_fault s ≡ None → (12 ≤ length s) × (super_length s ≤ length s) × (index_end (blob_count s) ≤ super_length s)
unfolding header_fault
header_passes s none =
    let first = passes (nat_lt (length s) 12) NoSuperBlob _ none in
    let second = passes (not (number32 0 s == 4208856256)) NoSuperBlob _ first.1 in
    let third = passes (nat_lt (super_length s) 12 || nat_lt (length s) (super_length s)) BadLength _ second.1 in
    let fourth = passes (nat_lt (super_length s) (index_end (blob_count s))) _ None third.1 in
    let either = or_parts (nat_lt (super_length s) 12) (nat_lt (length s) (super_length s)) third.0 in
    (ltb-false (length s) 12 first.0, ltb-false (length s) (super_length s) either.1, ltb-false (super_length s) (index_end (blob_count s)) fourth.0)

blobs_pass : (s : List ℕ) → header_fault s ≡ None → blobs_fault s ≡ None → AreBlobs s (blobs_of s)
unfolding blobs_fault
blobs_pass s header none =
    let long = header_passes s header in
    let first = passes (list_any (is_bad_blob (super_length s) (index_end (blob_count s))) (blobs_of s)) BadBlob _ none in
    let second = passes (some_overlap (blobs_of s)) BadBlob None first.1 in
    are_blobs s (blobs_of s) long.0 long.1 first.0 second.0

contents_pass : (start : ℕ) (s : List ℕ) → contents_fault start s ≡ None → All (λ b. blob_fault start s b ≡ None) (directory_blobs s)
unfolding contents_fault
contents_pass start s none =
    first_fault_at (blob_fault start s) (directory_blobs s)
    (neither_there (first_fault (blob_fault start s) (directory_blobs s)) (if has_main s then None else Some NoDirectory) none).0

-- the fields of a directory stand before its slots, and in it
record HasRoom (d : List ℕ) : Type 0 where
  pub before : fixed_size (version_of d) ≤ hash_offset d
  pub inside : fixed_size (version_of d) ≤ length d

has_room : (start : ℕ) (d : List ℕ) → directory_fault start d ≡ None → HasRoom d
unfolding directory_fault is_header_bad are_slots_outside
has_room start d none =
    let fixed : ℕ = fixed_size (version_of d) in
    let first = passes (is_header_bad d) BadDirectory _ none in
    let second = passes (are_slots_outside fixed d) BadDirectory _ first.1 in
    let a = or_parts (nat_lt (length d) 12) _ first.0 in
    let b = or_parts (not (number32 0 d == 4208856066)) _ a.1 in
    let c = or_parts (nat_lt (version_of d) 131073) _ b.1 in
    let e = or_parts (nat_lt 132608 (version_of d)) (nat_lt (length d) fixed) c.1 in
    let slots = or_parts (nat_lt (hash_offset d) (fixed + special_count d * slot_size d)) _ second.0 in
    let least = ltb-false (hash_offset d) (fixed + special_count d * slot_size d) slots.0 in
    record { before = omega (arith, least); inside = ltb-false (length d) fixed e.1 }

-- ## The fields of a directory

choice_least : (n a b : ℕ) (c : Bool) → n ≤ a → n ≤ b → n ≤ cond c a b
choice_least n a b true first second = first
choice_least n a b false first second = second

late_least : (n v : ℕ) → n ≤ 64 → n ≤ cond (nat_lt v 132096) 64 (cond (nat_lt v 132352) 88 (cond (nat_lt v 132608) 96 108))
late_least n v h =
    choice_least n 64 _ (nat_lt v 132096) h
    (choice_least n 88 _ (nat_lt v 132352) (omega (arith, h)) (choice_least n 96 108 (nat_lt v 132608) (omega (arith, h)) (omega (arith, h))))

pub fixed_least : (v : ℕ) → 44 ≤ fixed_size v
fixed_least v =
    choice_least 44 44 _ (nat_lt v 131328) (omega arith)
    (choice_least 44 48 _ (nat_lt v 131584) (omega arith)
    (choice_least 44 52 _ (nat_lt v 131840) (omega arith) (late_least 44 v (omega arith))))

fixed_late : (v : ℕ) → 131840 ≤ v → 64 ≤ fixed_size v
fixed_late v late =
    rw (le-ltb v 131328 (omega (arith, late)), le-ltb v 131584 (omega (arith, late)), le-ltb v 131840 late) (late_least 64 v (omega arith))

-- bytes that agree on the fields of a directory
abbrev pub AgreeOnFields : List ℕ → List ℕ → Type 0
AgreeOnFields d e = (length e ≡ length d) × ((i : ℕ) → i < fixed_size (version_of d) → get_or e i 0 ≡ get_or d i 0)

pub field_kept : (d e : List ℕ) (n pos : ℕ) → AgreeOnFields d e → pos + n ≤ fixed_size (version_of d) → number_at Big n pos e ≡ number_at Big n pos d
field_kept d e n pos agree inside =
    number_at-same Big n pos pos e d (same_field n pos e d agree.0 (λ i from to. agree.1 i (omega (arith, to, inside))))

pub limit_kept : (d e : List ℕ) → AgreeOnFields d e → code_limit e ≡ code_limit d
unfolding code_limit
limit_kept d e agree =
    let least = fixed_least (version_of d) in
    let version : version_of e ≡ version_of d = field_kept d e 4 8 agree (omega (arith, least)) in
    let short : number32 32 e ≡ number32 32 d = field_kept d e 4 32 agree (omega (arith, least)) in
    elim (cases_lt (version_of d) 131840) [
      | inl early ↦ rw (version, lt-ltb (version_of d) 131840 early, short) refl
      | inr late ↦
          let room = fixed_late (version_of d) late in
          let long : number_at Big 8 56 e ≡ number_at Big 8 56 d = field_kept d e 8 56 agree (omega (arith, room)) in
          rw (version, long, short) refl
    ]

layout_kept : (place : ℕ) (d e : List ℕ) → AgreeOnFields d e → layout_of (directory_of place e) ≡ layout_of (directory_of place d)
unfolding directory_of
layout_kept place d e agree =
    let least = fixed_least (version_of d) in
    let version : version_of e ≡ version_of d = field_kept d e 4 8 agree (omega (arith, least)) in
    let flags : number32 12 e ≡ number32 12 d = field_kept d e 4 12 agree (omega (arith, least)) in
    let slots : number32 16 e ≡ number32 16 d = field_kept d e 4 16 agree (omega (arith, least)) in
    let ident : number32 20 e ≡ number32 20 d = field_kept d e 4 20 agree (omega (arith, least)) in
    let count : number32 28 e ≡ number32 28 d = field_kept d e 4 28 agree (omega (arith, least)) in
    let size : get_or e 36 0 ≡ get_or d 36 0 = agree.1 36 (omega (arith, least)) in
    let type : get_or e 37 0 ≡ get_or d 37 0 = agree.1 37 (omega (arith, least)) in
    let exponent : get_or e 39 0 ≡ get_or d 39 0 = agree.1 39 (omega (arith, least)) in
    let limit : code_limit e ≡ code_limit d = limit_kept d e agree in
    rw (version, flags, slots, ident, count, size, type, exponent, limit) refl

-- ## The bytes of a signature

-- a byte of the file stands in no slot of the directory
abbrev pub IsOutside : ℕ → Directory → Type 0
IsOutside i d = (i < d.slots) ⊎ (slots_end d ≤ i)

-- bytes of a signature that pass its checks, and others that differ from them in slots alone
pub record IsResigned (start : ℕ) (s t : List ℕ) : Type 0 where
  pub long : length t ≡ length s
  pub header : header_fault s ≡ None
  pub blobs : blobs_fault s ≡ None
  pub contents : contents_fault start s ≡ None
  pub kept : (i : ℕ) → All (IsOutside (start + i)) (directories_of start s) → get_or t i 0 ≡ get_or s i 0

outside_none : (touched : List ByteRange) (ds : List Directory) (i : ℕ) → All (IsOutside i) ds → ¬ Any (LiesInSlot touched i) ds
outside_none touched ds i all h =
    let k = h.0 in
    let d : Directory = h.1 in
    let within = h.2 in
    let same = h.3 in
    let lies = h.4 in
    let P : Directory → Type 0 = λ x. IsOutside i x in
    let out : IsOutside i d = subst P same (all k d within) in
    let ends = slot-within d lies.page lies.inside in
    let behind = lies.behind in
    let before = lies.before in
    elim out [
      | inl early ↦ absurd (omega (arith, early, behind))
      | inr late ↦ absurd (omega (arith, late, before, ends))
    ]

length-signature : (start size : ℕ) (old new : List ℕ) → length new ≡ length old → length (signature_bytes start size new) ≡ length (signature_bytes start size old)
length-signature start size old new long =
    let a = length-take size (drop start old) in
    let b = length-take size (drop start new) in
    let c = length-drop start old in
    let d = length-drop start new in
    omega (arith, a, b, c, d, long)

pub signature_byte : (start size : ℕ) (bytes : List ℕ) (i : ℕ) → i < size → get_or (signature_bytes start size bytes) i 0 ≡ get_or bytes (start + i) 0
signature_byte start size bytes i inside = get_or-take size (drop start bytes) i 0 inside ∙ get_or-drop start bytes i 0

past_signature : (start size : ℕ) (bytes : List ℕ) (i : ℕ) → size ≤ i → get_or (signature_bytes start size bytes) i 0 ≡ 0
past_signature start size bytes i past = let a = length-take size (drop start bytes) in get_or_past (signature_bytes start size bytes) i 0 (omega (arith, a, past))

pub is_resigned : (start size : ℕ) (old new : List ℕ) (touched : List ByteRange) → signature_fault start size old ≡ None → IsRenewed (directories_of start (signature_bytes start size old)) touched old new → IsResigned start (signature_bytes start size old) (signature_bytes start size new)
unfolding signature_fault
is_resigned start size old new touched none is =
    let s : List ℕ = signature_bytes start size old in
    let outer = passes (nat_lt (length old) (start + size)) Outside _ none in
    let both = neither_there (first_there (header_fault s) (blobs_fault s)) (contents_fault start s) outer.1 in
    let parts = neither_there (header_fault s) (blobs_fault s) both.0 in
    record {
      long = length-signature start size old new is.long;
      header = parts.0;
      blobs = parts.1;
      contents = both.1;
      kept = λ i out.
          elim (cases_lt i size) [
            | inl inside ↦ signature_byte start size new i inside ∙ is.kept (start + i) (outside_none touched (directories_of start s) (start + i) out) ∙ sym (signature_byte start size old i inside)
            | inr past ↦ past_signature start size new i past ∙ sym (past_signature start size old i past)
          ];
    }

-- ## Blobs

-- what holds of each of a list, by the list
abbrev pub Each : {X : Type 0} → List X → (X → Type 0) → Type 0
Each xs P = All P xs

pub moved : {X : Type 0} {x y : X} → x ≡ y → (P : X → Type 0) → P x → P y
moved same P h = subst P same h

-- of two pieces that don't overlap one ends before the other begins
apart_or : (p m q n : ℕ) → (nat_lt p (q + n) && nat_lt q (p + m)) ≡ false → (p + m ≤ q) ⊎ (q + n ≤ p)
apart_or p m q n none =
    elim (cases_lt p (q + n)) [
      | inl here ↦
          elim (cases_lt q (p + m)) [
            | inl there ↦ absurd (both_ways (nat_lt p (q + n) && nat_lt q (p + m)) none (and_from (nat_lt p (q + n)) (nat_lt q (p + m)) (lt-ltb p (q + n) here) (lt-ltb q (p + m) there)))
            | inr behind ↦ inl behind
          ]
      | inr behind ↦ inr behind
    ]

turned : (p m q n : ℕ) → (p + m ≤ q) ⊎ (q + n ≤ p) → (q + n ≤ p) ⊎ (p + m ≤ q)
turned p m q n apart = elim apart [ inl before ↦ inr before | inr behind ↦ inl behind ]

pub long_blob : (s : List ℕ) (offset size : ℕ) → offset + size ≤ length s → length (take size (drop offset s)) ≡ size
long_blob s offset size inside = let long = length-drop offset s in length-take-le size (drop offset s) (omega (arith, long, inside))

-- where the slots of a directory stand
pub slots_from : (place : ℕ) (d : List ℕ) → (directory_of place d).slots ≡ place + hash_offset d
unfolding directory_of
slots_from place d = refl

slots_inside : (start offset size : ℕ) (s : List ℕ) → offset + size ≤ length s → directory_fault start (take size (drop offset s)) ≡ None → slots_end (directory_of (start + offset) (take size (drop offset s))) ≤ start + offset + size
slots_inside start offset size s inside good =
    let d : List ℕ = take size (drop offset s) in
    let has = has_slots start (start + offset) d good in
    let ends : slots_end (directory_of (start + offset) d) ≤ start + offset + length d = has.inside in
    let long = long_blob s offset size inside in
    omega (arith, ends, long)

map_twice : {X Y Z : Type 0} (h : Y → Z) (f g : X → Y) (xs : List X) → All (λ x. h (f x) ≡ h (g x)) xs → map h (map f xs) ≡ map h (map g xs)
map_twice h f g [] same = refl
map_twice {X} {Y} {Z} h f g (x ∷ xs) same =
    let one = All-head (λ y. h (f y) ≡ h (g y)) x xs same in
    let rest = map_twice h f g xs (All-tail (λ y. h (f y) ≡ h (g y)) x xs same) in
    ap (λ (z : Z). z ∷ map h (map f xs)) one ∙ ap (λ (zs : List Z). h (g x) ∷ zs) rest

pub any_same : {X : Type 0} (p q : X → Bool) (xs : List X) → All (λ x. p x ≡ q x) xs → list_any p xs ≡ list_any q xs
any_same p q [] same = refl
any_same p q (x ∷ xs) same =
    let one = All-head (λ y. p y ≡ q y) x xs same in
    let rest = any_same p q xs (All-tail (λ y. p y ≡ q y) x xs same) in
    rw (one, rest) refl

-- ## What stays

module _ (start : ℕ) (s t : List ℕ) (is : IsResigned start s t) where
  pub are : AreBlobs s (blobs_of s)
  are = blobs_pass s is.header is.blobs

  pub good : Each (directory_blobs s) (λ b. blob_fault start s b ≡ None)
  good = contents_pass start s is.contents

  pub inside_kept : Each (directory_blobs s) (λ b. b.offset + b.size ≤ length s)
  inside_kept =
      All-filter is_directory (λ b. b.offset + b.size ≤ length s) (blobs_of s)
      (λ k e here. let h = are.inside k e here in let w = are.within in omega (arith, h, w))

  byte_kept : (i : ℕ) → Each (directory_blobs s) (λ b. IsOutside (start + i) (blob_directory start s b)) → get_or t i 0 ≡ get_or s i 0
  unfolding directories_of
  byte_kept i out = is.kept i (All-map (IsOutside (start + i)) (blob_directory start s) (directory_blobs s) out)

  -- a byte before the blobs
  index_byte : (i : ℕ) → i < index_end (blob_count s) → get_or t i 0 ≡ get_or s i 0
  index_byte i before =
      let behind = All-filter is_directory (λ b. index_end (blob_count s) ≤ b.offset) (blobs_of s) are.behind in
      byte_kept i (λ k e here.
      let b = get_or (directory_blobs s) k e in
      let from : index_end (blob_count s) ≤ b.offset = behind k e here in
      let slots = slots_from (start + b.offset) (blob_bytes s b) in
      inl (omega (arith, before, from, slots)))

  -- the blobs by their numbers
  long_blobs : length (blobs_of s) ≡ blob_count s
  unfolding blobs_of
  long_blobs = length-map-range_with_len (blob_at s) 0 (blob_count s)

  blob_is : (k : ℕ) → k < blob_count s → get_or (blobs_of s) k (blob_at s k) ≡ blob_at s k
  unfolding blobs_of
  blob_is k inside = get_or-map-range_with_len (blob_at s) 0 (blob_count s) k k (blob_at s k) inside (omega arith)

  pub all_numbered : Each (blobs_of s) (λ b. (k : ℕ) × (k < blob_count s) × (b ≡ blob_at s k))
  all_numbered = λ k e here.
      let inside : k < blob_count s = omega (arith, here, long_blobs) in
      (k, inside, get_or_default (blobs_of s) k e (blob_at s k) here ∙ blob_is k inside)

  -- each blob is this one, or apart from it
  all_near : (k : ℕ) → k < blob_count s → Each (blobs_of s) (λ a. (a ≡ blob_at s k) ⊎ ((a.offset + a.size ≤ (blob_at s k).offset) ⊎ ((blob_at s k).offset + (blob_at s k).size ≤ a.offset)))
  all_near k inside = λ j e there.
      let b = blob_at s k in
      let a = get_or (blobs_of s) j e in
      let here : k < length (blobs_of s) = omega (arith, inside, long_blobs) in
      let same : get_or (blobs_of s) k e ≡ b = get_or_default (blobs_of s) k e b here ∙ blob_is k inside in
      elim (cases_eq j k) [
        | inl one ↦ inl (ap (λ (n : ℕ). get_or (blobs_of s) n e) one ∙ same)
        | inr two ↦
            elim (cases_lt j k) [
              | inl before ↦ inr (apart_or a.offset a.size b.offset b.size (moved same (λ x. overlap a x ≡ false) (are.apart j k e before here)))
              | inr behind ↦
                  inr (turned b.offset b.size a.offset a.size
                  (apart_or b.offset b.size a.offset a.size (moved same (λ x. overlap x a ≡ false) (are.apart k j e (omega (arith, behind, two)) there))))
            ]
      ]

  -- a byte of a blob, in no slot of its own
  pub blob_byte : (k i : ℕ) → k < blob_count s → (blob_at s k).offset ≤ i → i < (blob_at s k).offset + (blob_at s k).size → (blob_fault start s (blob_at s k) ≡ None → IsOutside (start + i) (blob_directory start s (blob_at s k))) → get_or t i 0 ≡ get_or s i 0
  blob_byte k i inside from to own =
      let b = blob_at s k in
      let near = All-filter is_directory (λ a. (a ≡ blob_at s k) ⊎ ((a.offset + a.size ≤ (blob_at s k).offset) ⊎ ((blob_at s k).offset + (blob_at s k).size ≤ a.offset))) (blobs_of s) (all_near k inside) in
      byte_kept i (λ j e here.
      let a = get_or (directory_blobs s) j e in
      let fine : blob_fault start s a ≡ None = good j e here in
      let within : a.offset + a.size ≤ length s = inside_kept j e here in
      let slots = slots_from (start + a.offset) (blob_bytes s a) in
      elim (near j e here) [
        | inl same ↦ moved (sym same) (λ x. IsOutside (start + i) (blob_directory start s x)) (own (moved same (λ x. blob_fault start s x ≡ None) fine))
        | inr (inl before) ↦ let ends = slots_inside start a.offset a.size s within fine in inr (omega (arith, before, ends, from))
        | inr (inr behind) ↦ inl (omega (arith, behind, slots, to))
      ])

  field_byte : (k i : ℕ) → k < blob_count s → (blob_at s k).offset ≤ i → i < (blob_at s k).offset + (blob_at s k).size → (blob_fault start s (blob_at s k) ≡ None → i < (blob_at s k).offset + hash_offset (blob_bytes s (blob_at s k))) → get_or t i 0 ≡ get_or s i 0
  field_byte k i inside from to own =
      blob_byte k i inside from to (λ fine.
      let slots = slots_from (start + (blob_at s k).offset) (blob_bytes s (blob_at s k)) in
      let before = own fine in
      inl (omega (arith, before, slots)))

  long_at : (k : ℕ) → k < blob_count s → 8 ≤ (blob_at s k).size
  long_at k inside =
      let here : k < length (blobs_of s) = omega (arith, inside, long_blobs) in
      moved (blob_is k inside) (λ x. 8 ≤ x.size) (are.long k (blob_at s k) here)

  -- the header of a blob
  header_byte : (k i : ℕ) → k < blob_count s → (blob_at s k).offset ≤ i → i < (blob_at s k).offset + 8 → get_or t i 0 ≡ get_or s i 0
  header_byte k i inside from to =
      let long = long_at k inside in
      field_byte k i inside from (omega (arith, long, to)) (λ fine.
      let d : List ℕ = blob_bytes s (blob_at s k) in
      let room = (has_room start d fine).before in
      let least = fixed_least (version_of d) in
      omega (arith, to, room, least))

  pub number_kept : (n pos : ℕ) → ((i : ℕ) → pos ≤ i → i < pos + n → get_or t i 0 ≡ get_or s i 0) → number_at Big n pos t ≡ number_at Big n pos s
  number_kept n pos agree = number_at-same Big n pos pos t s (same_field n pos t s is.long agree)

  pub index_number : (pos : ℕ) → pos + 4 ≤ index_end (blob_count s) → number32 pos t ≡ number32 pos s
  index_number pos inside = number_kept 4 pos (λ i from to. index_byte i (omega (arith, inside, to)))

  pub count_kept : blob_count t ≡ blob_count s
  count_kept = index_number 8 (omega arith)

  blob_kept : (k : ℕ) → k < blob_count s → blob_at t k ≡ blob_at s k
  unfolding blob_at
  blob_kept k inside =
      let at : ℕ = number32 (index_end k + 4) s in
      let kind : number32 (index_end k) t ≡ number32 (index_end k) s = index_number (index_end k) (omega (arith, inside)) in
      let offset : number32 (index_end k + 4) t ≡ at = index_number (index_end k + 4) (omega (arith, inside)) in
      let size : number32 (at + 4) t ≡ number32 (at + 4) s =
      number_kept 4 (at + 4) (λ i from to. header_byte k i inside (omega (arith, from)) (omega (arith, to))) in
      rw (kind, offset, size) refl

  pub blobs_kept : blobs_of t ≡ blobs_of s
  unfolding blobs_of
  blobs_kept =
      let n : ℕ = blob_count s in
      let first = length-map-range_with_len (blob_at t) 0 n in
      let second = length-map-range_with_len (blob_at s) 0 n in
      rw count_kept
      (same_lists (map (blob_at t) (range_with_len 0 n)) (map (blob_at s) (range_with_len 0 n)) (omega (arith, first, second))
      (λ k d here.
      let inside : k < n = omega (arith, here, first) in
      get_or-map-range_with_len (blob_at t) 0 n k k d inside (omega arith) ∙ blob_kept k inside ∙ sym (get_or-map-range_with_len (blob_at s) 0 n k k d inside (omega arith))))

  message_kept : Each (blobs_of s) (λ b. is_message t b ≡ is_message s b)
  message_kept = λ j e there.
      let numbered = all_numbered j e there in
      let k : ℕ = numbered.0 in
      let magic : number32 (blob_at s k).offset t ≡ number32 (blob_at s k).offset s =
      number_kept 4 (blob_at s k).offset (λ i from to. header_byte k i numbered.1 from (omega (arith, to))) in
      let here : is_message t (blob_at s k) ≡ is_message s (blob_at s k) = rw magic refl in
      moved (sym numbered.2) (λ x. is_message t x ≡ is_message s x) here

  pub identity_kept : is_signed t ≡ is_signed s
  unfolding is_signed
  identity_kept = ap (list_any (is_message t)) blobs_kept ∙ any_same (is_message t) (is_message s) (blobs_of s) message_kept

  -- the fields of a directory
  pub fields_kept : (k : ℕ) → k < blob_count s → (blob_at s k).offset + (blob_at s k).size ≤ length s → blob_fault start s (blob_at s k) ≡ None → AgreeOnFields (blob_bytes s (blob_at s k)) (blob_bytes t (blob_at s k))
  fields_kept k inside within fine =
      let b = blob_at s k in
      let room = has_room start (blob_bytes s b) fine in
      let here = long_blob s b.offset b.size within in
      let long = is.long in
      let there = long_blob t b.offset b.size (omega (arith, within, long)) in (
        omega (arith, here, there),
        λ i before.
            let last = room.inside in
            let slots = room.before in
            let short : i < b.size = omega (arith, before, last, here) in
            signature_byte b.offset b.size t i short
            ∙ field_byte k (b.offset + i) inside (omega arith) (omega (arith, short)) (λ _. omega (arith, before, slots))
            ∙ sym (signature_byte b.offset b.size s i short),
      )

  directories_kept : Each (directory_blobs s) (λ b. layout_of (blob_directory start t b) ≡ layout_of (blob_directory start s b))
  directories_kept = λ j e there.
      let numbered = All-filter is_directory (λ b. (k : ℕ) × (k < blob_count s) × (b ≡ blob_at s k)) (blobs_of s) all_numbered j e there in
      let k : ℕ = numbered.0 in
      let within = moved numbered.2 (λ x. x.offset + x.size ≤ length s) (inside_kept j e there) in
      let fine = moved numbered.2 (λ x. blob_fault start s x ≡ None) (good j e there) in
      let b = blob_at s k in
      let here : layout_of (blob_directory start t b) ≡ layout_of (blob_directory start s b) =
      layout_kept (start + b.offset) (blob_bytes s b) (blob_bytes t b) (fields_kept k numbered.1 within fine) in
      moved (sym numbered.2) (λ x. layout_of (blob_directory start t x) ≡ layout_of (blob_directory start s x)) here

  pub layouts_kept : map layout_of (directories_of start t) ≡ map layout_of (directories_of start s)
  unfolding directories_of
  layouts_kept =
      ap (λ bs. map layout_of (map (blob_directory start t) (filter is_directory bs))) blobs_kept
      ∙ map_twice layout_of (blob_directory start t) (blob_directory start s) (directory_blobs s) directories_kept
