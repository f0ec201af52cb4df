-- A signature whose slots were made anew passes its checks again, and tells the same directories, where no identifier stands in slots.
use Rattle.std.proofs.Common.{◌≡◌, ◌≤◌, ◌<◌, ◌+◌, ◌==◌, ℕ, Bool, true, false, cond, nat_lt, is_none, unwrap_or, List, [], ◌∷◌, length, map, filter, drop, get_or, Option, Some, None, refl, sym, ap, ◌∙◌, inl, inr, arith, if◌then◌else◌}
use Rattle.std.specs.List.{All, position_or_len}
use Rattle.std.proofs.lemmas.Bool.{cases_lt, le-ltb, lt-leb, lt-ltb, or_parts}
use Rattle.std.proofs.lemmas.List.{get_or-drop, length-drop}
use Rattle.std.proofs.lemmas.List.Elements.{All-cons, All-filter, All-head, All-nil, All-tail}
use Rattle.std.proofs.lemmas.List.Quantifiers.{position-Some}
use Rattle.std.proofs.lemmas.List.Sums.{position_or_len_is}
use Rattle.macho_signatures.specs.Blobs.{blob_at, blob_count, blobs_fault, blobs_of, header_fault, number32, signature_bytes, super_length}
use Rattle.macho_signatures.specs.Directory.{are_slots_outside, code_limit, directory_fault, directory_of, first_nul, fixed_size, ident_offset, is_header_bad, is_identifier_outside, is_scattered, pages_fault, version_of}
use Rattle.macho_signatures.specs.Signature.{blob_bytes, blob_directory, blob_fault, contents_fault, directories_of, directory_blobs, first_fault, has_main, is_directory, signature_fault}
use Rattle.macho_signatures.specs.declared.directory.Directory.{Directory}
use Rattle.macho_signatures.specs.declared.fault.SignatureFault.{SignatureFault}
use Rattle.macho_signatures.specs.declared.fault.SignatureFault.TheVariants.{BadDirectory, NoDirectory, Outside}
use Rattle.macho_signatures.proofs.PlaceLaws.{neither_there, passes}
use Rattle.macho_commands_stores.specs.Kept.{IsNamedApart}
use Rattle.macho_commands_stores.proofs.RenewedSignature.{AgreeOnFields, Each, IsResigned, all_numbered, blob_byte, blobs_kept, count_kept, field_kept, fields_kept, fixed_least, good, index_number, inside_kept, limit_kept, long_blob, moved, signature_byte}

-- ## Directories

-- a NUL that is first stays so, where bytes agree up to it
nul_kept : (xs ys : List ℕ) (n : ℕ) → first_nul xs ≡ Some n → length ys ≡ length xs → ((i : ℕ) → i ≤ n → get_or ys i 0 ≡ get_or xs i 0) → first_nul ys ≡ Some n
nul_kept xs ys n found long agree =
    let is_nul : ℕ → Bool = λ byte. byte == 0 in
    let was = position-Some is_nul xs n 0 found in
    let inside : n < length ys = omega (arith, was.0, long) in
    let at : position_or_len is_nul ys ≡ n =
    position_or_len_is is_nul ys n 0 (omega (arith, inside))
    (λ k before. ap is_nul (agree k (omega (arith, before))) ∙ was.2 k before)
    (λ _. ap is_nul (agree n (omega arith)) ∙ was.1) in
    rw (at, lt-ltb n (length ys) inside) refl

-- the first NUL of an identifier that has one
nul_of : (found : Option ℕ) → is_none found ≡ false → (n : ℕ) × (found ≡ Some n)
nul_of None none = cc
nul_of (Some n) none = (n, refl)

has_nul : (start : ℕ) (d : List ℕ) → directory_fault start d ≡ None → is_none (first_nul (drop (ident_offset d) d)) ≡ false
unfolding directory_fault is_identifier_outside
has_nul start d none =
    let fixed : ℕ = fixed_size (version_of d) in
    let first = passes (is_header_bad d) BadDirectory _ none in
    let second = passes (are_slots_outside fixed d) BadDirectory _ first.1 in
    let third = passes (is_identifier_outside fixed d) BadDirectory _ second.1 in
    (or_parts (nat_lt (ident_offset d) fixed) (is_none (first_nul (drop (ident_offset d) d))) third.0).1

-- bytes of a directory that agree on its fields, and on where the first NUL of its identifier stands
abbrev AgreeOnName : List ℕ → List ℕ → Type 0
AgreeOnName d e = AgreeOnFields d e × (first_nul (drop (ident_offset d) e) ≡ first_nul (drop (ident_offset d) d))

scattered_kept : (d e : List ℕ) → AgreeOnFields d e → is_scattered e ≡ is_scattered d
unfolding is_scattered
scattered_kept d e agree =
    let least = fixed_least (version_of d) in
    let version : version_of e ≡ version_of d = field_kept d e 4 8 agree (omega (arith, least)) in
    elim (cases_lt (version_of d) 131328) [
      | inl early ↦ rw (version, lt-leb 131328 (version_of d) early) refl
      | inr late ↦
          let room = fixed_scattered (version_of d) late in
          let scatter : number32 44 e ≡ number32 44 d = field_kept d e 4 44 agree (omega (arith, room)) in
          rw (version, scatter) refl
    ]
  where
    choice : (n a b : ℕ) (c : Bool) → n ≤ a → n ≤ b → n ≤ cond c a b
    choice n a b true first second = first
    choice n a b false first second = second

    fixed_scattered : (v : ℕ) → 131328 ≤ v → 48 ≤ fixed_size v
    fixed_scattered v late =
        rw (le-ltb v 131328 late)
        (choice 48 48 _ (nat_lt v 131584) (omega arith)
        (choice 48 52 _ (nat_lt v 131840) (omega arith)
        (choice 48 64 _ (nat_lt v 132096) (omega arith)
        (choice 48 88 _ (nat_lt v 132352) (omega arith) (choice 48 96 108 (nat_lt v 132608) (omega arith) (omega arith))))))

fault_kept : (start : ℕ) (d e : List ℕ) → AgreeOnName d e → directory_fault start e ≡ directory_fault start d
unfolding directory_fault is_header_bad are_slots_outside is_identifier_outside pages_fault
fault_kept start d e agree =
    let least = fixed_least (version_of d) in
    let long = agree.0.0 in
    let magic : number32 0 e ≡ number32 0 d = field_kept d e 4 0 agree.0 (omega (arith, least)) in
    let version : version_of e ≡ version_of d = field_kept d e 4 8 agree.0 (omega (arith, least)) in
    let slots : number32 16 e ≡ number32 16 d = field_kept d e 4 16 agree.0 (omega (arith, least)) in
    let ident : number32 20 e ≡ number32 20 d = field_kept d e 4 20 agree.0 (omega (arith, least)) in
    let special : number32 24 e ≡ number32 24 d = field_kept d e 4 24 agree.0 (omega (arith, least)) in
    let count : number32 28 e ≡ number32 28 d = field_kept d e 4 28 agree.0 (omega (arith, least)) in
    let size : get_or e 36 0 ≡ get_or d 36 0 = agree.0.1 36 (omega (arith, least)) in
    let type : get_or e 37 0 ≡ get_or d 37 0 = agree.0.1 37 (omega (arith, least)) in
    let exponent : get_or e 39 0 ≡ get_or d 39 0 = agree.0.1 39 (omega (arith, least)) in
    let limit : code_limit e ≡ code_limit d = limit_kept d e agree.0 in
    let scattered : is_scattered e ≡ is_scattered d = scattered_kept d e agree.0 in
    rw (ident, agree.1, long, magic, version, slots, special, count, size, type, exponent, limit, scattered) refl

directory_kept : (place : ℕ) (d e : List ℕ) → AgreeOnName d e → directory_of place e ≡ directory_of place d
unfolding directory_of
directory_kept place d e agree =
    let least = fixed_least (version_of d) in
    let version : version_of e ≡ version_of d = field_kept d e 4 8 agree.0 (omega (arith, least)) in
    let flags : number32 12 e ≡ number32 12 d = field_kept d e 4 12 agree.0 (omega (arith, least)) in
    let slots : number32 16 e ≡ number32 16 d = field_kept d e 4 16 agree.0 (omega (arith, least)) in
    let ident : number32 20 e ≡ number32 20 d = field_kept d e 4 20 agree.0 (omega (arith, least)) in
    let count : number32 28 e ≡ number32 28 d = field_kept d e 4 28 agree.0 (omega (arith, least)) in
    let size : get_or e 36 0 ≡ get_or d 36 0 = agree.0.1 36 (omega (arith, least)) in
    let type : get_or e 37 0 ≡ get_or d 37 0 = agree.0.1 37 (omega (arith, least)) in
    let exponent : get_or e 39 0 ≡ get_or d 39 0 = agree.0.1 39 (omega (arith, least)) in
    let limit : code_limit e ≡ code_limit d = limit_kept d e agree.0 in
    rw (ident, agree.1, version, flags, slots, count, size, type, exponent, limit) refl

-- ## Signatures

identifier_from : (place n : ℕ) (d : List ℕ) → first_nul (drop (ident_offset d) d) ≡ Some n → ((directory_of place d).identifier ≡ place + ident_offset d) × ((directory_of place d).identifier_len ≡ n)
unfolding directory_of
identifier_from place n d found = (refl, ap (λ (o : Option ℕ). unwrap_or o 0) found)

all_pass : {X : Type 0} (f : X → Option SignatureFault) (xs : List X) → All (λ x. f x ≡ None) xs → first_fault f xs ≡ None
all_pass f [] pass = refl
all_pass f (x ∷ xs) pass =
    let here = All-head (λ y. f y ≡ None) x xs pass in
    let rest = all_pass f xs (All-tail (λ y. f y ≡ None) x xs pass) in
    rw here rest

map_same : {X Y : Type 0} (f g : X → Y) (xs : List X) → All (λ x. f x ≡ g x) xs → map f xs ≡ map g xs
map_same f g [] same = refl
map_same {X} {Y} f g (x ∷ xs) same =
    ap (λ (y : Y). y ∷ map f xs) (All-head (λ z. f z ≡ g z) x xs same)
    ∙ ap (λ (ys : List Y). g x ∷ ys) (map_same f g xs (All-tail (λ z. f z ≡ g z) x xs same))

module _ (start : ℕ) (s t : List ℕ) (is : IsResigned start s t) (apart : All IsNamedApart (directories_of start s)) where
  named_kept : (k : ℕ) → k < blob_count s → (blob_at s k).offset + (blob_at s k).size ≤ length s → blob_fault start s (blob_at s k) ≡ None → IsNamedApart (blob_directory start s (blob_at s k)) → AgreeOnName (blob_bytes s (blob_at s k)) (blob_bytes t (blob_at s k))
  named_kept k inside within fine named =
      let b = blob_at s k in
      let d : List ℕ = blob_bytes s b in
      let e : List ℕ = blob_bytes t b in
      let fields = fields_kept start s t is k inside within fine in
      let long = fields.0 in
      let whole = long_blob s b.offset b.size within in
      let at : ℕ = ident_offset d in
      let nul = nul_of (first_nul (drop at d)) (has_nul start d fine) in
      let n : ℕ = nul.0 in
      let name = identifier_from (start + b.offset) n d nul.1 in
      let was = position-Some (λ (byte : ℕ). byte == 0) (drop at d) n 0 nul.1 in
      let left = length-drop at d in
      let left_too = length-drop at e in
      let first = name.0 in
      let count = name.1 in
      let byte : (i : ℕ) → i ≤ n → get_or (drop at e) i 0 ≡ get_or (drop at d) i 0 = λ i before.
      let short : at + i < b.size = omega (arith, before, was.0, left, whole) in
      get_or-drop at e i 0
      ∙ signature_byte b.offset b.size t (at + i) short
      ∙ blob_byte start s t is k (b.offset + (at + i)) inside (omega arith) (omega (arith, short))
      (λ _.
      elim named [
        | inl ahead ↦ inl (omega (arith, ahead, first, count, before))
        | inr past ↦ inr (omega (arith, past, first))
      ])
      ∙ sym (signature_byte b.offset b.size s (at + i) short)
      ∙ sym (get_or-drop at d i 0) in
      (fields, nul_kept (drop at d) (drop at e) n nul.1 (omega (arith, left, left_too, long)) byte ∙ sym nul.1)

  each_named : Each (directory_blobs s) (λ b. IsNamedApart (blob_directory start s b))
  unfolding directories_of
  each_named = all_of_map (blob_directory start s) (directory_blobs s) apart
    where
      all_of_map : {X : Type 0} (f : X → Directory) (xs : List X) → All IsNamedApart (map f xs) → All (λ x. IsNamedApart (f x)) xs
      all_of_map f [] told = All-nil (λ x. IsNamedApart (f x))
      all_of_map f (x ∷ xs) told =
          All-cons (λ y. IsNamedApart (f y)) x xs (All-head IsNamedApart (f x) (map f xs) told) (all_of_map f xs (All-tail IsNamedApart (f x) (map f xs) told))

  each_agrees : Each (directory_blobs s) (λ b. AgreeOnName (blob_bytes s b) (blob_bytes t b))
  each_agrees = λ j e there.
      let numbered = All-filter is_directory (λ b. (k : ℕ) × (k < blob_count s) × (b ≡ blob_at s k)) (blobs_of s) (all_numbered start s t is) j e there in
      let k : ℕ = numbered.0 in
      let within = moved numbered.2 (λ x. x.offset + x.size ≤ length s) (inside_kept start s t is j e there) in
      let fine = moved numbered.2 (λ x. blob_fault start s x ≡ None) (good start s t is j e there) in
      let named = moved numbered.2 (λ x. IsNamedApart (blob_directory start s x)) (each_named j e there) in
      moved (sym numbered.2) (λ x. AgreeOnName (blob_bytes s x) (blob_bytes t x)) (named_kept k numbered.1 within fine named)

  each_passes : Each (directory_blobs s) (λ b. blob_fault start t b ≡ None)
  each_passes = λ j e there.
      let b = get_or (directory_blobs s) j e in
      fault_kept start (blob_bytes s b) (blob_bytes t b) (each_agrees j e there) ∙ good start s t is j e there

  pub directories_again : directories_of start t ≡ directories_of start s
  unfolding directories_of
  directories_again =
      ap (λ bs. map (blob_directory start t) (filter is_directory bs)) (blobs_kept start s t is)
      ∙ map_same (blob_directory start t) (blob_directory start s) (directory_blobs s)
      (λ j e there.
      let b = get_or (directory_blobs s) j e in
      directory_kept (start + b.offset) (blob_bytes s b) (blob_bytes t b) (each_agrees j e there))

  header_again : header_fault t ≡ None
  unfolding header_fault
  header_again =
      let long = is.long in
      let magic : number32 0 t ≡ number32 0 s = index_number start s t is 0 (omega arith) in
      let whole : super_length t ≡ super_length s = index_number start s t is 4 (omega arith) in
      let count : blob_count t ≡ blob_count s = count_kept start s t is in
      rw (long, magic, whole, count) is.header

  blobs_again : blobs_fault t ≡ None
  unfolding blobs_fault
  blobs_again =
      let whole : super_length t ≡ super_length s = index_number start s t is 4 (omega arith) in
      let count : blob_count t ≡ blob_count s = count_kept start s t is in
      let same : blobs_of t ≡ blobs_of s = blobs_kept start s t is in
      rw (whole, count, same) is.blobs

  contents_again : contents_fault start t ≡ None
  unfolding contents_fault
  contents_again =
      let same : blobs_of t ≡ blobs_of s = blobs_kept start s t is in
      let pass : first_fault (blob_fault start t) (directory_blobs s) ≡ None = all_pass (blob_fault start t) (directory_blobs s) each_passes in
      let main = (neither_there (first_fault (blob_fault start s) (directory_blobs s)) (if has_main s then None else Some NoDirectory) is.contents).1 in
      rw (same, pass) main

pub signature_again : (start size : ℕ) (old new : List ℕ) → signature_fault start size old ≡ None → length new ≡ length old → IsResigned start (signature_bytes start size old) (signature_bytes start size new) → All IsNamedApart (directories_of start (signature_bytes start size old)) → signature_fault start size new ≡ None
unfolding signature_fault
signature_again start size old new none long is apart =
    let s : List ℕ = signature_bytes start size old in
    let t : List ℕ = signature_bytes start size new in
    let outer = passes (nat_lt (length old) (start + size)) Outside _ none in
    let room : nat_lt (length new) (start + size) ≡ false = ap (λ (n : ℕ). nat_lt n (start + size)) long ∙ outer.0 in
    rw (room, header_again start s t is apart, blobs_again start s t is apart, contents_again start s t is apart) refl
