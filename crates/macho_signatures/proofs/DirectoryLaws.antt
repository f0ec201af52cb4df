-- The checks of a directory in their order, and what a directory shows that passes them.
use Rattle.std.proofs.Common.{◌≡◌, ◌≤◌, ℕ, Bool, true, false, List, length, Some, None, refl, sym, ap, ◌∙◌, arith}
use Rattle.macho_signatures.specs.declared.directory.HashKind.{HashKind}
use Rattle.macho_signatures.specs.declared.fault.SignatureFault.TheVariants.{BadDirectory, UnknownHash}
use Rattle.macho_signatures.specs.Directory.{HasFields, are_slots_outside, directory_fault, fixed_size, hash_kind_of, hash_type, is_header_bad, is_identifier_outside, page_exponent, pages_fault, slot_size, version_of}

-- the fields are there
pub header_fault : (n : ℕ) (d : List ℕ) → is_header_bad d ≡ true → directory_fault n d ≡ Some BadDirectory
unfolding directory_fault
header_fault n d bad = rw bad refl

-- a directory that has its fields, and whose slots don't lie behind them
pub slots_fault : (n : ℕ) (d : List ℕ) (fixed : ℕ) (answer : Bool) → is_header_bad d ≡ false → fixed ≡ fixed_size (version_of d) → answer ≡ are_slots_outside fixed d → answer ≡ true → directory_fault n d ≡ Some BadDirectory
unfolding directory_fault
slots_fault n d fixed answer good size told bad =
    let e : are_slots_outside (fixed_size (version_of d)) d ≡ true = ap (λ (k : ℕ). are_slots_outside k d) (sym size) ∙ sym told ∙ bad in
    rw (good, e) refl

-- what passed so far
pub record HasPlaces (d : List ℕ) : Type 0 where
  pub header : is_header_bad d ≡ false
  pub slots : are_slots_outside (fixed_size (version_of d)) d ≡ false

pub has_places : (d : List ℕ) (fixed : ℕ) (answer : Bool) → is_header_bad d ≡ false → fixed ≡ fixed_size (version_of d) → answer ≡ are_slots_outside fixed d → answer ≡ false → HasPlaces d
has_places d fixed answer good size told none = record {
  header = good;
  slots = ap (λ (k : ℕ). are_slots_outside k d) (sym size) ∙ sym told ∙ none;
}

pub identifier_fault : (n : ℕ) (d : List ℕ) (fixed : ℕ) → HasPlaces d → fixed ≡ fixed_size (version_of d) → is_identifier_outside fixed d ≡ true → directory_fault n d ≡ Some BadDirectory
unfolding directory_fault
identifier_fault n d fixed has size bad =
    let e : is_identifier_outside (fixed_size (version_of d)) d ≡ true = ap (λ (k : ℕ). is_identifier_outside k d) (sym size) ∙ bad in
    rw (has.header, has.slots, e) refl

pub hash_fault : (n : ℕ) (d : List ℕ) (fixed : ℕ) → HasPlaces d → fixed ≡ fixed_size (version_of d) → is_identifier_outside fixed d ≡ false → hash_kind_of (hash_type d) (slot_size d) ≡ None → directory_fault n d ≡ Some UnknownHash
unfolding directory_fault
hash_fault n d fixed has size inside none =
    let e : is_identifier_outside (fixed_size (version_of d)) d ≡ false = ap (λ (k : ℕ). is_identifier_outside k d) (sym size) ∙ inside in
    rw (has.header, has.slots, e, none) refl

pub rest_fault : (n : ℕ) (d : List ℕ) (fixed : ℕ) (kind : HashKind) → HasPlaces d → fixed ≡ fixed_size (version_of d) → is_identifier_outside fixed d ≡ false → hash_kind_of (hash_type d) (slot_size d) ≡ Some kind → directory_fault n d ≡ pages_fault n d
unfolding directory_fault
rest_fault n d fixed kind has size inside found =
    let e : is_identifier_outside (fixed_size (version_of d)) d ≡ false = ap (λ (k : ℕ). is_identifier_outside k d) (sym size) ∙ inside in
    rw (has.header, has.slots, e, found) refl

pub has_fields : (d : List ℕ) (fixed : ℕ) → 44 ≤ fixed → (0x20100 ≤ version_of d → 48 ≤ fixed) → (0x20300 ≤ version_of d → 64 ≤ fixed) → fixed ≤ length d → page_exponent d ≤ 31 → HasFields d
has_fields d fixed least scatter limit within exponent = record {
  least = omega arith;
  scatter = λ late. let h = scatter late in omega (arith, h, within);
  limit = λ late. let h = limit late in omega (arith, h, within);
  exponent = exponent;
}
