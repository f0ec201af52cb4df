-- The facts of a Mach-O file as it was parsed are those of the bytes that were read.
use Rattle.std.proofs.Common.{◌≡◌, ℕ, Bool, true, false, List, [], ◌∷◌, take, drop, map, Option, Some, None, ap, refl, ◌∙◌, arith}
use Rattle.std.specs.Prelude.{if◌then◌else◌}
use Rattle.std.specs.Str.{bytes_eq}
use Rattle.patch_bytes.specs.Bytes.{AreBytes}
use Rattle.patch_bytes.proofs.NumberLaws.{AreBytes-drop, AreBytes-take}
use Rattle.macho_image.specs.declared.fat.FatArch.{FatArch}
use Rattle.macho_image.specs.declared.format.MachFault.{MachFault}
use Rattle.macho_image.specs.Checks.{file_fault}
use Rattle.macho_image.specs.Fat.{archs_of, slice_of, table_fault}
use Rattle.macho_image.specs.Form.{ctx_of}
use Rattle.macho_image.proofs.ForCallers.{concat-commands_of, found, with_area-same}
use Rattle.macho_edits.specs.Held.{held_at_read}
use Rattle.macho_edits.specs.State.{first_state, laid_bytes}
use Rattle.arwen_macho.specs.Container.{first_container}
use Rattle.arwen_macho.specs.FatHeld.{fat_held_at_read}
use Rattle.arwen_macho.specs.FatState.{first_fat_state, first_slice}
use Rattle.arwen_macho.specs.Found.{ARCHIVE, Found, archive, begins_fat, container_found, fat_found, found_fault, found_first, slice_found, slices_found}
use Rattle.arwen_macho.specs.declared.macho.MachoType.TheVariants.{Fat, SingleArch}
use Rattle.arwen_cli_facts.specs.FileFacts.{AreMachoFacts, container_facts}
use Rattle.arwen_cli_facts.specs.MachoFacts.{SliceFacts, macho_facts, slice_facts, told_slice}

-- a thin file as it is read has the bytes that were read
laid_at_read : (old : List ℕ) → file_fault old ≡ None → AreBytes old → laid_bytes (first_state old) ≡ old
unfolding first_state laid_bytes
laid_at_read old accepted bytes =
    let file = found old accepted in
    let size = file.size in
    let room = file.room in
    rw (← file.count, concat-commands_of old accepted) (with_area-same (ctx_of old) old bytes (omega arith))

-- nothing is found by a check, by the first and the second of two, by the one of two that is asked
no_fault : (fault : Option MachFault) → found_fault fault ≡ None → fault ≡ None
no_fault None h = refl
no_fault (Some check) h = absurd (cc)

none_first : (a b : Option Found) → found_first a b ≡ None → a ≡ None
none_first None b h = refl
none_first (Some one) b h = absurd (cc)

none_behind : (a b : Option Found) → found_first a b ≡ None → b ≡ None
none_behind None b h = h
none_behind (Some one) b h = absurd (cc)

none_if_not : (test : Bool) (a b : Option Found) → test ≡ false → (if test then a else b) ≡ None → b ≡ None
none_if_not true a b e h = absurd (cc)
none_if_not false a b e h = h

none_if : (test : Bool) (a b : Option Found) → test ≡ true → (if test then a else b) ≡ None → a ≡ None
none_if true a b e h = h
none_if false a b e h = absurd (cc)

-- a slice without a fault is a thin file without one
plain : (test : Bool) (fault : Option MachFault) → (if test then Some archive else found_fault fault) ≡ None → fault ≡ None
plain true fault h = absurd (cc)
plain false fault h = no_fault fault h

plain_slice : (bytes : List ℕ) → slice_found bytes ≡ None → file_fault bytes ≡ None
unfolding slice_found
plain_slice bytes h = plain (bytes_eq (take 8 bytes) ARCHIVE) (file_fault bytes) h

-- the facts of slices as they are read
slices_at_read : (bytes : List ℕ) (archs : List FatArch) → AreBytes bytes → slices_found (map (slice_of bytes) archs) ≡ None → map told_slice (map (first_slice bytes) archs) ≡ map (slice_facts bytes) archs
slices_at_read bytes [] are none = refl
slices_at_read bytes (a ∷ archs) are none =
    let rest : List SliceFacts = map told_slice (map (first_slice bytes) archs) in
    let here : slice_found (slice_of bytes a) ≡ None = none_first (slice_found (slice_of bytes a)) (slices_found (map (slice_of bytes) archs)) none in
    let behind : slices_found (map (slice_of bytes) archs) ≡ None = none_behind (slice_found (slice_of bytes a)) (slices_found (map (slice_of bytes) archs)) none in
    let slice_bytes : AreBytes (slice_of bytes a) = AreBytes-take a.size (drop a.offset bytes) (AreBytes-drop a.offset bytes are) in
    let same : laid_bytes (first_state (slice_of bytes a)) ≡ slice_of bytes a = laid_at_read (slice_of bytes a) (plain_slice (slice_of bytes a) here) slice_bytes in
    let told : told_slice (first_slice bytes a) ≡ slice_facts bytes a = ap (λ (file : List ℕ). record { offset = a.offset; size = a.size; file = macho_facts file }) same in
    ap (λ (s : SliceFacts). s ∷ rest) told ∙ ap (λ (l : List SliceFacts). slice_facts bytes a ∷ l) (slices_at_read bytes archs are behind)

-- the facts of a file of either shape
thin_at_read : (bytes : List ℕ) → AreBytes bytes → container_found bytes ≡ None → begins_fat bytes ≡ false → AreMachoFacts bytes (container_facts (SingleArch (held_at_read bytes)))
unfolding container_found
thin_at_read bytes are none thin =
    let accepted : file_fault bytes ≡ None = no_fault (file_fault bytes) (none_if_not (begins_fat bytes) (fat_found bytes) (found_fault (file_fault bytes)) thin none) in
    (none, thin, ap macho_facts (laid_at_read bytes accepted are))

fat_at_read : (bytes : List ℕ) → AreBytes bytes → container_found bytes ≡ None → begins_fat bytes ≡ true → AreMachoFacts bytes (container_facts (Fat (fat_held_at_read bytes)))
unfolding container_found fat_found first_fat_state
fat_at_read bytes are none fat =
    let slices : slices_found (map (slice_of bytes) (archs_of bytes)) ≡ None =
    none_behind (found_fault (table_fault bytes)) (slices_found (map (slice_of bytes) (archs_of bytes))) (none_if (begins_fat bytes) (fat_found bytes) (found_fault (file_fault bytes)) fat none) in
    (none, fat, slices_at_read bytes (archs_of bytes) are slices)

pub facts_at_read : (bytes : List ℕ) → AreBytes bytes → container_found bytes ≡ None → AreMachoFacts bytes (container_facts (first_container bytes))
facts_at_read bytes are none = either (begins_fat bytes) refl
  where
    either : (test : Bool) → begins_fat bytes ≡ test → AreMachoFacts bytes (container_facts (if test then Fat (fat_held_at_read bytes) else SingleArch (held_at_read bytes)))
    either false thin = thin_at_read bytes are none thin
    either true fat = fat_at_read bytes are none fat
