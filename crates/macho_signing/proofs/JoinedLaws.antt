-- What the slots of all parts make of a file in which each part passes.
use Rattle.std.proofs.Common.{◌≡◌, ℕ, List, [], ◌∷◌, length, None, refl, sym, subst, inl, inr, arith}
use Rattle.std.specs.List.{All}
use Rattle.std.proofs.lemmas.Bool.{cases_Bool}
use Rattle.std.proofs.lemmas.List.Elements.{All-cons, All-nil}
use Rattle.macho_signatures.specs.declared.renewal.Slot.{Slot}
use Rattle.macho_signatures.specs.Renewed.{SlotLies, laid}
use Rattle.macho_signing.specs.declared.file.Part.{Part}
use Rattle.macho_signing.specs.File.{AreParts, IsInside, IsSigned, begins_fat, first_fault, part_fault, parts_fault, parts_of, signed_slots, signing_fault}
use Rattle.macho_signing.specs.Shown.{FileShowsSame}
use Rattle.macho_signing.specs.Thin.{Pages}
use Rattle.macho_signing.proofs.PartLaws.{slices_are_parts}
use Rattle.macho_signing.proofs.SignedLaws.{ArePlacedIn, fat_parts, fault_is, parts_show, passes_at, shows, signed, slots_lie, thin_parts}

whole_is_part : (n : ℕ) → AreParts n (record { offset = 0; size = n } ∷ [])
whole_is_part n = record {
  inside = All-cons (IsInside n) (record { offset = 0; size = n }) [] (omega arith) (All-nil (IsInside n));
  apart = λ i j d before within. absurd (omega (arith, before, within));
}

-- the parts of a file lie in it, apart from each other
pub parts_are : (bytes : List ℕ) → parts_fault bytes ≡ None → AreParts (length bytes) (parts_of bytes)
parts_are bytes none =
    let P : List Part → Type 0 = λ l. AreParts (length bytes) l in
    elim (cases_Bool (begins_fat bytes)) [
      | inl fat ↦ subst P (sym (fat_parts bytes fat).0) (slices_are_parts bytes ((fat_parts bytes fat).1 none))
      | inr thin ↦ subst P (sym (thin_parts bytes thin)) (whole_is_part (length bytes))
    ]

-- slots that are made anew sign a file, and a parse finds the same
pub record SignsParts (pages : Pages) (bytes : List ℕ) : Type 0 where
  pub passes : signing_fault pages bytes ≡ None
  pub inside : All (SlotLies (length bytes)) (signed_slots pages bytes)
  pub signed : IsSigned pages bytes (laid (signed_slots pages bytes) bytes)
  pub same : FileShowsSame bytes (laid (signed_slots pages bytes) bytes)

pub signs_parts : (pages : Pages) (bytes : List ℕ) → parts_fault bytes ≡ None → first_fault (part_fault pages bytes) (parts_of bytes) ≡ None → All (ArePlacedIn bytes) (parts_of bytes) → SignsParts pages bytes
unfolding signed_slots
signs_parts pages bytes none first placed =
    let parts : List Part = parts_of bytes in
    let slots : List Slot = signed_slots pages bytes in
    let are = parts_are bytes none in
    let now : IsSigned pages bytes (laid slots bytes) = signed pages bytes parts slots refl are placed refl in
    record {
      passes = fault_is pages bytes parts None none refl first;
      inside = slots_lie pages bytes parts are placed;
      signed = now;
      same = shows pages bytes (laid slots bytes) none now (parts_show pages bytes (laid slots bytes) parts placed (passes_at pages bytes parts first) now.parts);
    }
