-- What holds of every state of a fat file under edits, and what its bytes show.
use Rattle.std.proofs.Common.{◌≡◌, ◌≤◌, ◌<◌, ◌+◌, ◌-◌, ℕ, suc, Bool, true, false, if◌then◌else◌, List, [], ◌∷◌, length, take, drop, get_or, map, Option, Some, None, refl, sym, ap, ◌∙◌, subst, arith}
use Rattle.std.specs.List.{All}
use Rattle.std.specs.Str.{bytes_eq}
use Rattle.std.proofs.lemmas.List.{length-drop, length-take, length-take-le}
use Rattle.std.proofs.lemmas.List.Elements.{All-cons, All-head, All-nil, All-tail}
use Rattle.std.proofs.lemmas.Slice.Eq.{bytes_eq-Decides}
use Rattle.patch_bytes.specs.Number.{number_at}
use Rattle.patch_bytes.proofs.NumberLaws.{number_at-take}
use Rattle.macho_image.specs.declared.fat.FatArch.{FatArch}
use Rattle.macho_image.specs.declared.format.MachFault.{MachFault}
use Rattle.macho_image.specs.Checks.{file_fault}
use Rattle.macho_image.specs.Fat.{AreSlices, archs_of, nfat_arch_of, share_byte, slice_of, table_end, table_fault}
use Rattle.macho_image.specs.Form.{ctx_of, form_of}
use Rattle.macho_image.proofs.ForCallers.{file_passes, form_of-same, found, header_size-least, table_passes}
use Rattle.arwen_macho.specs.FatHeld.{IsSlice}
use Rattle.arwen_macho.specs.FatState.{FatState, Slice, fat_laid_bytes, bytes_laid_over}
use Rattle.arwen_macho.specs.Found.{ARCHIVE, Found, fat_found, found_fault, found_first, slice_found, slices_found}
use Rattle.arwen_macho.specs.Found.Found.{archive}
use Rattle.arwen_macho.specs.Shown.{Shows}
use Rattle.macho_edits.specs.State.{laid_bytes}
use Rattle.arwen_macho.proofs.StateLaws.{laid_shows}
use Rattle.arwen_macho.specs.FatHeld.{IsFatState}
use Rattle.arwen_macho.specs.FatShown.{FatShows, IsOutside}
use Rattle.arwen_macho.proofs.SliceLaws.{ApartFrom, AreBehind, AreLaid, AreShown, Lies, OutsideAll, apart_from_share, get_or-laid_over, length-laid_over, shown-laid_over, take-laid_over}
use Rattle.arwen_macho.proofs.TableLaws.{SameTable, archs_same, table_same}

-- a slice in the file, with as many bytes as the table says, and with some
lies_here : (old : List ℕ) (s : Slice) → IsSlice old s → s.arch.offset + s.arch.size ≤ length old → Lies (length old) s
lies_here old s is inside =
    let fits : length (slice_of old s.arch) ≡ s.arch.size = length-take-le s.arch.size (drop s.arch.offset old) (omega (arith, length-drop s.arch.offset old)) in
    record { inside = inside; long = (laid_shows s.state is.is_state).long ∙ ap length is.from ∙ fits }

some_here : (old : List ℕ) (s : Slice) → IsSlice old s → 0 < s.arch.size
some_here old s is =
    let file = found s.state.old is.is_state.accepted in
    let room = file.room in
    let least = header_size-least (ctx_of s.state.old).container in
    let size : length s.state.old ≡ length (slice_of old s.arch) = ap length is.from in
    omega (arith, length-take s.arch.size (drop s.arch.offset old))

-- the slices of a table that passes are apart
apart_from : (old : List ℕ) (a : FatArch) (slices : List Slice) → 0 < a.size → All (IsSlice old) slices → ((j : ℕ) (d : FatArch) → j < length (map (λ s. s.arch) slices) → share_byte a (get_or (map (λ s. s.arch) slices) j d) ≡ false) → ApartFrom a slices
apart_from old a [] some are none = tt
apart_from old a (s ∷ slices) some are none = (
  apart_from_share a s.arch some (some_here old s (All-head (IsSlice old) s slices are)) (none 0 a (omega arith)),
  apart_from old a slices some (All-tail (IsSlice old) s slices are) (λ j d h. none (suc j) d (omega arith)),
)

rest_are : (len end : ℕ) (a : FatArch) (archs : List FatArch) → AreSlices len end (a ∷ archs) → AreSlices len end archs
rest_are len end a archs are = record {
  inside = All-tail (λ a. a.offset + a.size ≤ len) a archs are.inside;
  behind = All-tail (λ a. end ≤ a.offset) a archs are.behind;
  apart = λ i j d below inside. are.apart (suc i) (suc j) d (omega arith) (omega arith);
}

pub laid_slices : (old : List ℕ) (end : ℕ) (slices : List Slice) → All (IsSlice old) slices → AreSlices (length old) end (map (λ s. s.arch) slices) → AreLaid (length old) slices
laid_slices old end [] are lie = tt
laid_slices old end (s ∷ slices) are lie =
    let is = All-head (IsSlice old) s slices are in
    let archs : List FatArch = map (λ s. s.arch) slices in
    let inside = All-head (λ (a : FatArch). a.offset + a.size ≤ length old) s.arch archs lie.inside in (
      lies_here old s is inside,
      (
        apart_from old s.arch slices (some_here old s is) (All-tail (IsSlice old) s slices are) (λ j d h. lie.apart 0 (suc j) d (omega arith) (omega arith)),
        laid_slices old end slices (All-tail (IsSlice old) s slices are) (rest_are (length old) end s.arch archs lie),
      ),
    )

pub behind_slices : (len end : ℕ) (slices : List Slice) → AreSlices len end (map (λ s. s.arch) slices) → AreBehind end slices
behind_slices len end [] lie = tt
behind_slices len end (s ∷ slices) lie =
    let archs : List FatArch = map (λ s. s.arch) slices in
    (All-head (λ (a : FatArch). end ≤ a.offset) s.arch archs lie.behind, behind_slices len end slices (rest_are len end s.arch archs lie))

-- nothing found in the first or in what follows
pub none_first : (here rest : Option Found) → found_first here rest ≡ None → (here ≡ None) × (rest ≡ None)
none_first None rest e = (refl, e)
none_first (Some found) rest e = absurd (cc)

pub none_fault : (check : Option MachFault) → found_fault check ≡ None → check ≡ None
none_fault None e = refl
none_fault (Some check) e = absurd (cc)

pub accepted_parts : (bytes : List ℕ) → fat_found bytes ≡ None → (table_fault bytes ≡ None) × (slices_found (map (slice_of bytes) (archs_of bytes)) ≡ None)
unfolding fat_found
accepted_parts bytes e =
    let parts = none_first (found_fault (table_fault bytes)) (slices_found (map (slice_of bytes) (archs_of bytes))) e in
    (none_fault (table_fault bytes) parts.0, parts.1)

pub accepted_whole : (bytes : List ℕ) → table_fault bytes ≡ None → slices_found (map (slice_of bytes) (archs_of bytes)) ≡ None → fat_found bytes ≡ None
unfolding fat_found
accepted_whole bytes table slices = rw (table, slices) refl

-- an accepted file is no archive
no_form : form_of ARCHIVE ≡ None
unfolding form_of number_at
no_form = refl

no_archive : (bytes : List ℕ) → file_fault bytes ≡ None → bytes_eq (take 8 bytes) ARCHIVE ≡ false
no_archive bytes accepted = decide (bytes_eq (take 8 bytes) ARCHIVE) refl
  where
    decide : (test : Bool) → bytes_eq (take 8 bytes) ARCHIVE ≡ test → test ≡ false
    decide false e = refl
    decide true e =
        let same : take 8 bytes ≡ ARCHIVE = (bytes_eq-Decides (take 8 bytes) ARCHIVE).0 e in
        let form : form_of bytes ≡ form_of ARCHIVE =
        form_of-same bytes ARCHIVE (λ order. sym (number_at-take order 4 8 0 bytes (omega arith)) ∙ ap (number_at order 4 0) same) in
        let some : form_of bytes ≡ Some (ctx_of bytes) = (file_passes bytes accepted).1 in
        let none : form_of bytes ≡ None = form ∙ no_form in
        absurd (cc)

pub accepted_slice : (bytes : List ℕ) → file_fault bytes ≡ None → slice_found bytes ≡ None
unfolding slice_found
accepted_slice bytes accepted = rw (no_archive bytes accepted, accepted) refl

pub slice_accepted : (bytes : List ℕ) → slice_found bytes ≡ None → file_fault bytes ≡ None
unfolding slice_found
slice_accepted bytes e = decide (bytes_eq (take 8 bytes) ARCHIVE) (file_fault bytes) e
  where
    decide : (test : Bool) (check : Option MachFault) → (if test then Some archive else found_fault check) ≡ None → check ≡ None
    decide true check e = absurd (cc)
    decide false check e = none_fault check e

-- the slices of a state's bytes are accepted
shown_found : (old bytes : List ℕ) (slices : List Slice) → All (IsSlice old) slices → AreShown bytes slices → slices_found (map (slice_of bytes) (map (λ s. s.arch) slices)) ≡ None
shown_found old bytes [] are shown = refl
shown_found old bytes (s ∷ slices) are shown =
    let is = All-head (IsSlice old) s slices are in
    let here : slice_found (slice_of bytes s.arch) ≡ None =
    ap slice_found shown.0 ∙ accepted_slice (laid_bytes s.state) (laid_shows s.state is.is_state).accepted in
    ap (λ (f : Option Found). found_first f (slices_found (map (slice_of bytes) (map (λ s. s.arch) slices)))) here
    ∙ shown_found old bytes slices (All-tail (IsSlice old) s slices are) shown.1

-- from facts by recursion to facts of each
all_shown : (bytes : List ℕ) (slices : List Slice) → AreShown bytes slices → All (λ s. slice_of bytes s.arch ≡ laid_bytes s.state) slices
all_shown bytes [] shown = All-nil (λ (s : Slice). slice_of bytes s.arch ≡ laid_bytes s.state)
all_shown bytes (s ∷ slices) shown =
    All-cons (λ (s : Slice). slice_of bytes s.arch ≡ laid_bytes s.state) s slices shown.0 (all_shown bytes slices shown.1)

all_shows : (old bytes : List ℕ) (slices : List Slice) → All (IsSlice old) slices → AreShown bytes slices → All (λ s. Shows s.state (slice_of bytes s.arch)) slices
all_shows old bytes [] are shown = All-nil (λ (s : Slice). Shows s.state (slice_of bytes s.arch))
all_shows old bytes (s ∷ slices) are shown =
    let P : List ℕ → Type 0 = Shows s.state in
    All-cons (λ (s : Slice). Shows s.state (slice_of bytes s.arch)) s slices
    (subst P (sym shown.0) (laid_shows s.state (All-head (IsSlice old) s slices are).is_state))
    (all_shows old bytes slices (All-tail (IsSlice old) s slices are) shown.1)

outside_all : (p : ℕ) (slices : List Slice) → All (λ s. IsOutside p s.arch) slices → OutsideAll p slices
outside_all p [] all = tt
outside_all p (s ∷ slices) all =
    (All-head (λ (s : Slice). IsOutside p s.arch) s slices all, outside_all p slices (All-tail (λ (s : Slice). IsOutside p s.arch) s slices all))

-- how the slices of a state lie
pub table_of : (s : FatState) → IsFatState s → AreSlices (length s.old) (table_end (nfat_arch_of s.old)) (map (λ s. s.arch) s.slices)
table_of s is =
    let P : List FatArch → Type 0 = AreSlices (length s.old) (table_end (nfat_arch_of s.old)) in
    subst P (sym is.archs) (table_passes s.old (accepted_parts s.old is.accepted).0).3

pub lie_of : (s : FatState) → IsFatState s → AreLaid (length s.old) s.slices
lie_of s is = laid_slices s.old (table_end (nfat_arch_of s.old)) s.slices is.slices (table_of s is)

same_table : (s : FatState) → IsFatState s → SameTable s.old (bytes_laid_over s.slices s.old)
same_table s is =
    let end : ℕ = table_end (nfat_arch_of s.old) in
    let lie = lie_of s is in
    record {
      long = length-laid_over (length s.old) s.slices s.old refl lie;
      front = take-laid_over end (length s.old) s.slices s.old refl (behind_slices (length s.old) end s.slices (table_of s is)) lie;
    }

pub fat_laid_shows : (s : FatState) → IsFatState s → FatShows s (fat_laid_bytes s)
unfolding fat_laid_bytes
fat_laid_shows s is =
    let bytes : List ℕ = bytes_laid_over s.slices s.old in
    let lie = lie_of s is in
    let same = same_table s is in
    let shown = shown-laid_over (length s.old) s.slices s.old refl lie in
    let archs : archs_of bytes ≡ archs_of s.old = archs_same s.old bytes same in
    let slices : slices_found (map (slice_of bytes) (archs_of bytes)) ≡ None =
    ap (λ (archs : List FatArch). slices_found (map (slice_of bytes) archs)) (archs ∙ sym is.archs) ∙ shown_found s.old bytes s.slices is.slices shown in
    record {
      accepted = accepted_whole bytes (table_same s.old bytes same ∙ (accepted_parts s.old is.accepted).0) slices;
      long = same.long;
      archs = archs;
      slices = all_shown bytes s.slices shown;
      shown = all_shows s.old bytes s.slices is.slices shown;
      outside = λ p all. get_or-laid_over p 0 (length s.old) s.slices s.old refl (outside_all p s.slices all) lie;
    }

-- what is found in one slice, by its first bytes
pub archive_found : (bytes : List ℕ) → bytes_eq (take 8 bytes) ARCHIVE ≡ true → slice_found bytes ≡ Some archive
unfolding slice_found
archive_found bytes is = rw is refl

pub plain_found : (bytes : List ℕ) → bytes_eq (take 8 bytes) ARCHIVE ≡ false → slice_found bytes ≡ found_fault (file_fault bytes)
unfolding slice_found
plain_found bytes is = rw is refl

-- a slice of a file, cut by its two ends
pub slice_between : (bytes : List ℕ) (a : FatArch) → take (a.offset + a.size - a.offset) (drop a.offset bytes) ≡ slice_of bytes a
slice_between bytes a =
    let size : a.offset + a.size - a.offset ≡ a.size = omega arith in
    ap (λ (n : ℕ). take n (drop a.offset bytes)) size
