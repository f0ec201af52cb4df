-- One part more of a file.
use Rattle.std.proofs.Common.{◌≡◌, ◌∙◌, ◌<◌, ◌+◌, ℕ, List, [], ◌++◌, length, map, take, drop, get_or, None, refl, sym, ap}
use Rattle.std.specs.List.{flat_map}
use Rattle.std.proofs.lemmas.List.{at_drop_more, flat_map_more, take_more}
use Rattle.macho_signatures.specs.declared.renewal.Slot.{Slot}
use Rattle.macho_signing.specs.declared.file.Part.{Part}
use Rattle.macho_signing.specs.File.{first_fault, pages_in, part_bytes, part_fault, part_slots, slot_in}
use Rattle.macho_signing.specs.Thin.{Pages, thin_slots}

pub slots_more : (pages : Pages) (bytes : List ℕ) (parts : List Part) (i : ℕ) (d : Part) (old next made seen : List Slot) → i < length parts → old ≡ flat_map (part_slots pages bytes) (take i parts) → made ≡ thin_slots (pages_in pages (get_or parts i d)) (part_bytes bytes (get_or parts i d)) → seen ≡ made → next ≡ old ++ map (slot_in (get_or parts i d).offset) seen → next ≡ flat_map (part_slots pages bytes) (take (i + 1) parts)
slots_more pages bytes parts i d old next made seen inside before is same push =
    let p : Part = get_or parts i d in
    let f : Part → List Slot = part_slots pages bytes in
    push
    ∙ ap (λ (l : List Slot). old ++ map (slot_in p.offset) l) (same ∙ is)
    ∙ ap (λ (l : List Slot). l ++ f p) before
    ∙ flat_map_more f [] (take i parts) p
    ∙ ap (flat_map f) (sym (take_more parts i d inside))

pub fault_more : (pages : Pages) (bytes : List ℕ) (parts : List Part) (i : ℕ) (d : Part) → i < length parts → part_fault pages bytes (get_or parts i d) ≡ None → first_fault (part_fault pages bytes) parts ≡ first_fault (part_fault pages bytes) (drop i parts) → first_fault (part_fault pages bytes) parts ≡ first_fault (part_fault pages bytes) (drop (i + 1) parts)
fault_more pages bytes parts i d inside none before =
    before ∙ at_drop_more (first_fault (part_fault pages bytes)) parts i d inside ∙ rw none refl
