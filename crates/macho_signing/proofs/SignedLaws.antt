-- What the slots of all parts make of a file: it is signed anew, and a parse finds the same.
use Rattle.std.proofs.Common.{◌≡◌, ◌≢◌, ◌<◌, ℕ, true, false, List, [], ◌∷◌, length, map, take, get_or, Option, Some, None, Result, Ok, Err, IfOk, refl, sym, ap, ◌∙◌, subst, inl, inr, arith}
use Rattle.std.specs.Result.{MatchResult}
use Rattle.std.specs.List.{All, flat_map, list_any}
use Rattle.std.proofs.lemmas.Bool.{both_ways, cases_Bool}
use Rattle.std.proofs.lemmas.List.{take_all}
use Rattle.std.proofs.lemmas.List.Elements.{All-cons, All-head, All-map, All-nil}
use Rattle.patch_bytes.specs.declared.number.ByteOrder2.TheVariants.{Big}
use Rattle.patch_bytes.specs.Number.{number_at}
use Rattle.macho_image.specs.Checks.{file_fault}
use Rattle.macho_image.specs.Fat.{archs_of, table_end, table_fault}
use Rattle.macho_image.specs.Form.{commands_end, ctx_of}
use Rattle.macho_image.proofs.ForCallers.{fat_found, header_size-least}
use Rattle.macho_signatures.specs.declared.renewal.Slot.{Slot}
use Rattle.macho_signatures.specs.Renewed.{IsRenewed, SlotLies, laid}
use Rattle.macho_signatures.proofs.LaidLaws.{laid-outside, length-laid, same_field}
use Rattle.macho_signatures.proofs.RenewedLaws.{before_slots, is_renewed}
use Rattle.macho_signing.specs.declared.fault.SigningFault.{SigningFault}
use Rattle.macho_signing.specs.declared.fault.SigningFault.TheVariants.{Memory}
use Rattle.macho_signing.specs.declared.file.NewSlots.{NewSlots}
use Rattle.macho_signing.specs.declared.file.Part.{Part}
use Rattle.macho_signing.specs.declared.thin.ThinSlots.{ThinSlots}
use Rattle.macho_signing.specs.File.{AreParts, IsInside, IsOutside, IsSigned, IsSignedPart, begins_fat, first_fault, has_identity_in, pages_in, part_bytes, part_fault, part_slots, parts_fault, parts_of, signed_slots, signing_fault, slice_part}
use Rattle.macho_signing.specs.Shown.{FileShowsSame, ShowsSame}
use Rattle.macho_signing.specs.Thin.{AreSlotsPlaced, Pages, adhoc_directories, has_identity, renewal_fault, thin_slots, touched_by}
use Rattle.macho_signing.proofs.LaidParts.{all_lie, all_outside, each_laid, length-part}
use Rattle.macho_signing.proofs.ShownLaws.{number_same, shows_same, table_same}
use Rattle.macho_signing.proofs.ThinLaws.{first_none, no_check, renewal_passes, thin_slots_lie}

-- ## A part

part_signed : (pages : Pages) (old new : List ℕ) → AreSlotsPlaced old → new ≡ laid (thin_slots pages old) old → IsRenewed (adhoc_directories old) (touched_by pages old) old new
unfolding thin_slots
part_signed pages old new are made = is_renewed are.start (adhoc_directories old) (touched_by pages old) old new are.placed made

part_shows : (pages : Pages) (old new : List ℕ) → file_fault old ≡ None → AreSlotsPlaced old → IsRenewed (adhoc_directories old) (touched_by pages old) old new → ShowsSame old new
part_shows pages old new pass are renewed =
    let end : ℕ = commands_end (ctx_of old) old in
    let behind = are.behind in
    shows_same old new pass renewed.long
    (same_field end 0 new old renewed.long (λ i from to. renewed.kept i (before_slots are.start (length old) (adhoc_directories old) (touched_by pages old) i are.placed (omega (arith, to, behind)))))

-- ## All parts

abbrev pub ArePlacedIn : List ℕ → Part → Type 0
ArePlacedIn bytes p = AreSlotsPlaced (part_bytes bytes p)

module _ (pages : Pages) (bytes : List ℕ) (parts : List Part) (are : AreParts (length bytes) parts) (placed : All (ArePlacedIn bytes) parts) where
  abbrev slots_at : Part → List Slot
  slots_at p = thin_slots (pages_in pages p) (part_bytes bytes p)

  abbrev all_slots : List Slot
  all_slots = flat_map (part_slots pages bytes) parts

  each_lie : All (λ p. All (SlotLies p.size) (slots_at p)) parts
  each_lie = λ k e here.
      let p : Part = get_or parts k e in
      let P : ℕ → Type 0 = λ n. All (SlotLies n) (slots_at p) in
      subst P (length-part bytes p (are.inside k e here)) (thin_slots_lie (pages_in pages p) (part_bytes bytes p) (placed k e here))

  pub slots_lie : All (SlotLies (length bytes)) all_slots
  slots_lie = all_lie slots_at (length bytes) parts are.inside each_lie

  pub parts_signed : All (IsSignedPart pages bytes (laid all_slots bytes)) parts
  parts_signed = λ k e here.
      let p : Part = get_or parts k e in
      part_signed (pages_in pages p) (part_bytes bytes p) (part_bytes (laid all_slots bytes) p) (placed k e here)
      (each_laid slots_at parts bytes are.inside are.apart each_lie k e here)

  pub outside_kept : (i : ℕ) → All (IsOutside i) parts → get_or (laid all_slots bytes) i 0 ≡ get_or bytes i 0
  outside_kept i outside = laid-outside all_slots bytes i slots_lie (all_outside slots_at i parts outside each_lie)

  pub long : length (laid all_slots bytes) ≡ length bytes
  long = length-laid all_slots bytes slots_lie

-- a file is signed anew
pub signed : (pages : Pages) (bytes : List ℕ) (parts : List Part) (slots : List Slot) → parts ≡ parts_of bytes → AreParts (length bytes) parts → All (ArePlacedIn bytes) parts → slots ≡ flat_map (part_slots pages bytes) parts → IsSigned pages bytes (laid slots bytes)
signed pages bytes parts slots is are placed made =
    let P : List Slot → Type 0 = λ l. IsSigned pages bytes (laid l bytes) in
    let Q : List Part → Type 0 = λ l. All (IsSignedPart pages bytes (laid (flat_map (part_slots pages bytes) parts) bytes)) l in
    let R : ℕ → List Part → Type 0 = λ i l. All (IsOutside i) l in
    subst P (sym made)
    (record {
      long = long pages bytes parts are placed;
      parts = subst Q is (parts_signed pages bytes parts are placed);
      outside = λ i outside. outside_kept pages bytes parts are placed i (subst (R i) (sym is) outside);
    })

-- ## What a parse finds

pub passes_at : (pages : Pages) (bytes : List ℕ) (parts : List Part) → first_fault (part_fault pages bytes) parts ≡ None → All (λ p. file_fault (part_bytes bytes p) ≡ None) parts
passes_at pages bytes [] none = All-nil _
passes_at pages bytes (p ∷ parts) none =
    let both = first_none (part_fault pages bytes p) (first_fault (part_fault pages bytes) parts) none in
    All-cons (λ q. file_fault (part_bytes bytes q) ≡ None) p parts
    (renewal_passes (pages_in pages p) (part_bytes bytes p) both.0).0
    (passes_at pages bytes parts both.1)

pub parts_show : (pages : Pages) (old new : List ℕ) (parts : List Part) → All (ArePlacedIn old) parts → All (λ p. file_fault (part_bytes old p) ≡ None) parts → All (IsSignedPart pages old new) parts → All (λ p. ShowsSame (part_bytes old p) (part_bytes new p)) parts
parts_show pages old new parts placed pass renewed = λ k e here.
    let p : Part = get_or parts k e in
    part_shows (pages_in pages p) (part_bytes old p) (part_bytes new p) (pass k e here) (placed k e here) (renewed k e here)

abbrev Shape : List ℕ → List ℕ → Type 0
Shape old new = (begins_fat new ≡ begins_fat old) × (begins_fat old ≡ true → (table_fault new ≡ None) × (archs_of new ≡ archs_of old))

same_shape : (old new : List ℕ) → length new ≡ length old → number_at Big 4 0 new ≡ number_at Big 4 0 old → begins_fat new ≡ begins_fat old
same_shape old new same magic = rw (same, magic) refl

-- a fat file: all up to the table's end is outside its slices
pub fat_parts : (bytes : List ℕ) → begins_fat bytes ≡ true → (parts_of bytes ≡ map slice_part (archs_of bytes)) × (parts_fault bytes ≡ None → table_fault bytes ≡ None)
unfolding parts_of parts_fault
fat_parts bytes fat = rw fat (refl, λ none. no_check (table_fault bytes) none)

fat_shape : (pages : Pages) (old new : List ℕ) → begins_fat old ≡ true → parts_fault old ≡ None → IsSigned pages old new → Shape old new
fat_shape pages old new fat none is =
    let pass : table_fault old ≡ None = (fat_parts old fat).1 none in
    let file = fat_found old pass in
    let end : ℕ = table_end (length (archs_of old)) in
    let outside : (i : ℕ) → i < end → All (IsOutside i) (parts_of old) = λ i before.
    let P : List Part → Type 0 = λ l. All (IsOutside i) l in
    subst P (sym (fat_parts old fat).0)
    (All-map (IsOutside i) slice_part (archs_of old) (λ k e here. let behind = file.slices.behind k e here in inl (omega (arith, before, behind)))) in
    let front : take end new ≡ take end old = same_field end 0 new old is.long (λ i from to. is.outside i (outside i (omega (arith, to)))) in
    (same_shape old new is.long (number_same Big 4 0 end old new front (omega arith)), λ _. table_same old new pass is.long front)

-- a thin one
pub thin_parts : (bytes : List ℕ) → begins_fat bytes ≡ false → parts_of bytes ≡ record { offset = 0; size = length bytes } ∷ []
unfolding parts_of
thin_parts bytes thin = rw thin refl

thin_shape : (old new : List ℕ) → begins_fat old ≡ false → length new ≡ length old → All (λ p. ShowsSame (part_bytes old p) (part_bytes new p)) (parts_of old) → Shape old new
thin_shape old new thin same shown =
    let whole : Part = record { offset = 0; size = length old } in
    let P : List Part → Type 0 = λ l. All (λ p. ShowsSame (part_bytes old p) (part_bytes new p)) l in
    let Shown : List ℕ → List ℕ → Type 0 = λ a b. ShowsSame a b in
    let both : ShowsSame (take (length old) old) (take (length old) new) = All-head (λ p. ShowsSame (part_bytes old p) (part_bytes new p)) whole [] (subst P (thin_parts old thin) shown) in
    let old_all : take (length old) old ≡ old = take_all (length old) old (omega arith) in
    let new_all : take (length old) new ≡ new = take_all (length old) new (omega (arith, same)) in
    let Q : List ℕ → Type 0 = λ a. ShowsSame a (take (length old) new) in
    let R : List ℕ → Type 0 = λ b. ShowsSame old b in
    let shows : ShowsSame old new = subst R new_all (subst Q old_all both) in
    let least = header_size-least (ctx_of old).container in (
      same_shape old new same (number_same Big 4 0 (commands_end (ctx_of old) old) old new shows.front (omega (arith, least))),
      λ fat. absurd (both_ways (begins_fat old) thin fat),
    )

pub shows : (pages : Pages) (old new : List ℕ) → parts_fault old ≡ None → IsSigned pages old new → All (λ p. ShowsSame (part_bytes old p) (part_bytes new p)) (parts_of old) → FileShowsSame old new
shows pages old new none is shown =
    let shape : Shape old new = elim (cases_Bool (begins_fat old)) [
      | inl fat ↦ fat_shape pages old new fat none is
      | inr thin ↦ thin_shape old new thin is.long shown
    ] in
    record { long = is.long; shape = shape.0; table = shape.1; parts = shown }

-- ## The answers of the call

abbrev Made : Pages → List ℕ → List Part → Result NewSlots SigningFault → Type 0
Made pages bytes parts r =
    MatchResult r
    (λ made. (first_fault (part_fault pages bytes) parts ≡ None) × (made.slots.items ≡ flat_map (part_slots pages bytes) parts) × (made.are_some_left ≡ list_any (has_identity_in bytes) parts) × All (ArePlacedIn bytes) parts)
    (λ e. e ≢ Memory → first_fault (part_fault pages bytes) parts ≡ Some e)

pub fault_is : (pages : Pages) (bytes : List ℕ) (parts : List Part) (found : Option SigningFault) → parts_fault bytes ≡ None → parts ≡ parts_of bytes → first_fault (part_fault pages bytes) parts ≡ found → signing_fault pages bytes ≡ found
unfolding signing_fault
fault_is pages bytes parts found none is told =
    let P : List Part → Type 0 = λ l. first_fault (part_fault pages bytes) l ≡ found in
    rw none (subst P is told)

pub value_of : (pages : Pages) (bytes : List ℕ) (parts : List Part) (r : Result NewSlots SigningFault) → parts_fault bytes ≡ None → parts ≡ parts_of bytes → Made pages bytes parts r → MatchResult r (λ made. (signing_fault pages bytes ≡ None) × (made.slots.items ≡ signed_slots pages bytes) × (made.are_some_left ≡ list_any (has_identity_in bytes) (parts_of bytes))) (λ e. e ≢ Memory → signing_fault pages bytes ≡ Some e)
unfolding signed_slots
value_of pages bytes parts (Ok made) none is told =
    (fault_is pages bytes parts None none is told.0, told.1 ∙ ap (flat_map (part_slots pages bytes)) is, told.2 ∙ ap (list_any (has_identity_in bytes)) is)
value_of pages bytes parts (Err e) none is told = λ other. fault_is pages bytes parts (Some e) none is (told other)

pub fault_of : (pages : Pages) (bytes : List ℕ) (e : SigningFault) → parts_fault bytes ≡ Some e → signing_fault pages bytes ≡ Some e
unfolding signing_fault
fault_of pages bytes e is = rw is refl

pub lie_of : (pages : Pages) (bytes : List ℕ) (parts : List Part) (r : Result NewSlots SigningFault) → AreParts (length bytes) parts → Made pages bytes parts r → IfOk r (λ made. All (SlotLies (length bytes)) made.slots.items)
lie_of pages bytes parts (Ok made) are told =
    let P : List Slot → Type 0 = λ l. All (SlotLies (length bytes)) l in
    subst P (sym told.1) (slots_lie pages bytes parts are told.3)
lie_of pages bytes parts (Err e) are told = tt

pub signed_of : (pages : Pages) (bytes : List ℕ) (parts : List Part) (r : Result NewSlots SigningFault) → parts ≡ parts_of bytes → AreParts (length bytes) parts → Made pages bytes parts r → IfOk r (λ made. IsSigned pages bytes (laid made.slots.items bytes))
signed_of pages bytes parts (Ok made) is are told = signed pages bytes parts made.slots.items is are told.3 told.1
signed_of pages bytes parts (Err e) is are told = tt

pub shows_of : (pages : Pages) (bytes : List ℕ) (parts : List Part) (r : Result NewSlots SigningFault) → parts_fault bytes ≡ None → parts ≡ parts_of bytes → AreParts (length bytes) parts → Made pages bytes parts r → IfOk r (λ made. FileShowsSame bytes (laid made.slots.items bytes))
shows_of pages bytes parts (Ok made) none is are told =
    let new : List ℕ = laid made.slots.items bytes in
    let signed_now = signed pages bytes parts made.slots.items is are told.3 told.1 in
    let P : List Part → Type 0 = λ l. All (ArePlacedIn bytes) l in
    let Q : List Part → Type 0 = λ l. All (λ p. file_fault (part_bytes bytes p) ≡ None) l in
    shows pages bytes new none signed_now
    (parts_show pages bytes new (parts_of bytes) (subst P is told.3) (subst Q is (passes_at pages bytes parts told.0)) signed_now.parts)
shows_of pages bytes parts (Err e) none is are told = tt

-- ## A part of the file

abbrev MadeThin : Pages → List ℕ → Result ThinSlots SigningFault → Type 0
MadeThin pages bytes r =
    MatchResult r
    (λ made. (renewal_fault pages bytes ≡ None) × (made.slots.items ≡ thin_slots pages bytes) × (made.is_left ≡ has_identity bytes) × AreSlotsPlaced bytes)
    (λ e. e ≢ Memory → renewal_fault pages bytes ≡ Some e)

abbrev MadeIn : Pages → List ℕ → Part → Result ThinSlots SigningFault → Type 0
MadeIn pages bytes part r =
    MatchResult r
    (λ made. (part_fault pages bytes part ≡ None) × (made.slots.items ≡ thin_slots (pages_in pages part) (part_bytes bytes part)) × (made.is_left ≡ has_identity_in bytes part) × AreSlotsPlaced (part_bytes bytes part) × All (SlotLies part.size) made.slots.items)
    (λ e. e ≢ Memory → part_fault pages bytes part ≡ Some e)

in_part_here : (pages : Pages) (bytes : List ℕ) (part : Part) (r : Result ThinSlots SigningFault) → IsInside (length bytes) part → MadeThin (pages_in pages part) (part_bytes bytes part) r → MadeIn pages bytes part r
in_part_here pages bytes part (Ok made) inside told =
    let P : ℕ → Type 0 = λ n. All (SlotLies n) made.slots.items in
    let Q : List Slot → Type 0 = λ l. All (SlotLies (length (part_bytes bytes part))) l in
    (told.0, told.1, told.2, told.3, subst P (length-part bytes part inside) (subst Q (sym told.1) (thin_slots_lie (pages_in pages part) (part_bytes bytes part) told.3)))
in_part_here pages bytes part (Err e) inside told = told

pub in_part : (pages given : Pages) (bytes inner : List ℕ) (part : Part) (r : Result ThinSlots SigningFault) → given ≡ pages_in pages part → inner ≡ part_bytes bytes part → IsInside (length bytes) part → MadeThin given inner r → MadeIn pages bytes part r
in_part pages given bytes inner part r same is inside told =
    let P : Pages → Type 0 = λ g. MadeThin g inner r in
    let Q : List ℕ → Type 0 = λ l. MadeThin (pages_in pages part) l r in
    in_part_here pages bytes part r inside (subst Q is (subst P same told))
