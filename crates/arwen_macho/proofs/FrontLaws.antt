-- The fronts of changed slices, written over a fat file's bytes, give the bytes of the changed file.
use Rattle.std.proofs.Common.{◌≡◌, ◌≤◌, ℕ, List, [], ◌∷◌, length, take, drop, map, refl, sym, ap, ◌∙◌, arith}
use Rattle.std.specs.List.{AllZip}
use Rattle.macho_image.specs.Stored.{Fits}
use Rattle.macho_image.specs.declared.fat.FatArch.{FatArch}
use Rattle.macho_image.specs.Fat.{slice_of}
use Rattle.macho_image.specs.Form.{ctx_of}
use Rattle.macho_image.proofs.ForCallers.{drop-with_area_high}
use Rattle.arwen_macho.specs.declared.change.Change.{Change}
use Rattle.arwen_macho.specs.Change.{IsChangeOf, changed_file}
use Rattle.arwen_macho.specs.FatState.{Slice, bytes_laid_over, put_at}
use Rattle.macho_edits.specs.Held.{Held}
use Rattle.macho_edits.specs.State.{laid_bytes}
use Rattle.macho_edits.specs.Whole.{IsState}
use Rattle.arwen_macho.proofs.ChangeLaws.{change_bytes, change_inside, change_room, changed_is}
use Rattle.arwen_macho.proofs.StateLaws.{laid_shows}
use Rattle.arwen_macho.specs.FatSlice.{HeldSlice, IsReadyIn, changed_macho, changed_machos, front_of, fronts_over, slice_model}
use Rattle.arwen_macho.proofs.PutLaws.{length-put_at, put_at-put_at, put_front}
use Rattle.arwen_macho.proofs.SliceLaws.{ApartFrom, AreLaid, Lies, head-laid_over, length-laid_over, put-laid_over}

-- behind the furthest end of a changed file a change changes nothing
pub same_behind : (held : Held) (change : Change) → IsState held.state → IsChangeOf held change → drop change.high (laid_bytes (changed_file held change).state) ≡ drop change.high (laid_bytes held.state)
same_behind held change is of =
    let old : List ℕ = laid_bytes held.state in
    let fit : Fits (ctx_of old) old change.prepared.area change.high = record { room = change_room held change is of; inside = change_inside held change is of } in
    ap (drop change.high) (sym (change_bytes held change is of))
    ∙ drop-with_area_high (ctx_of old) old change.prepared.count change.prepared.area change.high change.high fit (omega arith)

-- a change doesn't change how many bytes there are
pub same_length : (held : Held) (change : Change) → IsState held.state → IsChangeOf held change → length (laid_bytes (changed_file held change).state) ≡ length (laid_bytes held.state)
same_length held change is of =
    (laid_shows (changed_file held change).state (changed_is held change is of)).long ∙ sym (laid_shows held.state is).long

-- changed slices lie as they did
pub apart_changed : (a : FatArch) (slices : List HeldSlice) (changes : List Change) → ApartFrom a (map slice_model slices) → ApartFrom a (map slice_model (changed_machos slices changes))
apart_changed a [] changes apart = tt
apart_changed a (m ∷ slices) [] apart = apart
apart_changed a (m ∷ slices) (change ∷ changes) apart = (apart.0, apart_changed a slices changes apart.1)

pub laid_changed : (len : ℕ) (slices : List HeldSlice) (changes : List Change) → AllZip (IsReadyIn len) slices changes → AreLaid len (map slice_model slices) → AreLaid len (map slice_model (changed_machos slices changes))
laid_changed len [] [] ready lie = tt
laid_changed len [] (change ∷ changes) ready lie = tt
laid_changed len (m ∷ slices) [] ready lie = lie
laid_changed len (m ∷ slices) (change ∷ changes) ready lie =
    let here : Lies len (slice_model (changed_macho m change)) =
    record { inside = lie.0.inside; long = same_length m.inner change ready.0.is_state ready.0.of ∙ lie.0.long } in
    (here, (apart_changed m.arch slices changes lie.1.0, laid_changed len slices changes ready.1 lie.1.1))

pub fronts_laid : (len : ℕ) (slices : List HeldSlice) (changes : List Change) (base : List ℕ) → length base ≡ len → AllZip (IsReadyIn len) slices changes → AreLaid len (map slice_model slices) → fronts_over slices changes (bytes_laid_over (map slice_model slices) base) ≡ bytes_laid_over (map slice_model (changed_machos slices changes)) base
fronts_laid len [] [] base long ready lie = refl
fronts_laid len [] (change ∷ changes) base long ready lie = refl
fronts_laid len (m ∷ slices) [] base long ready lie = absurd ready
fronts_laid len (m ∷ slices) (change ∷ changes) base long ready lie =
    let at : ℕ = m.arch.offset in
    let was : List ℕ = laid_bytes m.inner.state in
    let is : List ℕ = laid_bytes (changed_file m.inner change).state in
    let next : List Slice = map slice_model (changed_machos slices changes) in
    let base' : List ℕ = put_at at was base in
    let inside = lie.0.inside in
    let sized : length was ≡ m.arch.size = lie.0.long in
    let same : length is ≡ length was = same_length m.inner change ready.0.is_state ready.0.of in
    let long' : length base' ≡ len = length-put_at at was base (omega arith) ∙ long in
    let apart : ApartFrom m.arch next = apart_changed m.arch slices changes lie.1.0 in
    let lie' : AreLaid len next = laid_changed len slices changes ready.1 lie.1.1 in
    let over : List ℕ = bytes_laid_over next base' in
    let over_long : length over ≡ len = length-laid_over len next base' long' lie' in
    let shown : slice_of over m.arch ≡ was = head-laid_over len (slice_model m) next base long (lie.0, (apart, lie')) in
    let goes_on : drop change.high is ≡ drop change.high (take (length is) (drop at over)) =
    same_behind m.inner change ready.0.is_state ready.0.of
    ∙ ap (drop change.high) (sym shown)
    ∙ ap (λ (n : ℕ). drop change.high (take n (drop at over))) (sym (same ∙ sized)) in
    let short : change.high ≤ length is = let old_in = change_inside m.inner change ready.0.is_state ready.0.of in omega arith in
    ap (put_at at (front_of m change)) (fronts_laid len slices changes base' long' ready.1 lie.1.1)
    ∙ put_front at change.high is over (omega arith) short goes_on
    ∙ put-laid_over m.arch is len next base' (same ∙ sized) inside long' apart lie'
    ∙ ap (bytes_laid_over next) (put_at-put_at at is was base same (omega arith))
