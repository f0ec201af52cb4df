-- What an edited front and the signature tell of a thin file.
use Rattle.std.proofs.Common.{◌≡◌, ◌≤◌, ◌<◌, ◌^◌, ◌+◌, ◌-◌, ◌∙◌, ℕ, Bool, true, false, not, List, [], ◌∷◌, ◌++◌, length, take, drop, get_or, None, Option, Some, Ok, refl, sym, ap, subst, arith}
use Rattle.std.specs.List.{All}
use Rattle.std.specs.Str.{bytes_eq}
use Rattle.std.proofs.Math.Seq.{drop-append-add}
use Rattle.std.proofs.lemmas.Bool.{le-ltb}
use Rattle.std.proofs.lemmas.List.{drop-append-le, length-append, length-drop, length-take-le, take-append-le, take_all, take_more}
use Rattle.std.proofs.lemmas.List.Elements.{All-append, All-cons, All-nil}
use Rattle.std.proofs.lemmas.Slice.Eq.{bytes_eq-Decides}
use Rattle.macho_image.specs.Checks.{file_fault}
use Rattle.macho_image.specs.Form.{commands_end, ctx_of}
use Rattle.macho_image.proofs.ForCallers.{accepts, commands_end-longer, commands_within}
use Rattle.macho_signatures.specs.Pages.{hash_of, page_end, page_hash, page_of, page_start}
use Rattle.macho_signatures.specs.Renewed.{SlotLies, is_touched, renewed_slots}
use Rattle.macho_signatures.specs.Signature.{LiesIn, Tells}
use Rattle.macho_signatures.proofs.SignatureLaws.{fault_within_bytes}
use Rattle.macho_signatures.specs.declared.directory.Directory.{Directory}
use Rattle.macho_signatures.specs.declared.pages.PageHash.{PageHash}
use Rattle.macho_signatures.proofs.RenewedLaws.{slots_lie}
use Rattle.macho_signatures.specs.declared.renewal.Slot.{Slot}
use Rattle.macho_signatures.specs.declared.signature.Signature.{Signature}
use Rattle.macho_signing.specs.Front.{EndsWithin, HasSignature, IsReadAt, SignsThin}
use Rattle.macho_signing.specs.Place.{signature_place}
use Rattle.macho_signing.specs.Thin.{HoldsSignature, Pages, differences, has_identity, is_changed_from, renewal_fault, since, thin_fault, touch_fault}
use Rattle.macho_signing.specs.declared.fault.SigningFault.{SigningFault}
use Rattle.macho_signing.specs.declared.place.Place.{Place}
use Rattle.macho_signing.specs.declared.thin.ThinSlots.{ThinSlots}
use Rattle.macho_signing.proofs.DifferenceLaws.{touched_differs}
use Rattle.macho_signing.proofs.ThinLaws.{held_identity, held_placed, held_slots, held_touch, identity_directories, identity_touch, no_slots, no_slots_placed, none_directories, none_identity, none_touch}

-- ## Pages

both_long : (old new rest : List ℕ) → length old ≡ length new → length (old ++ rest) ≡ length (new ++ rest)
both_long old new rest long = omega (arith, long, length-append old rest, length-append new rest)

-- behind the front all is the same
pub drop-behind : (n : ℕ) (old new rest : List ℕ) → length old ≡ length new → length new ≤ n → drop n (old ++ rest) ≡ drop n (new ++ rest)
drop-behind n old new rest long past =
    let at : length old + (n - length old) ≡ n = omega (arith, long, past) in
    let there : length new + (n - length old) ≡ n = omega (arith, long, past) in
    ap (λ (k : ℕ). drop k (old ++ rest)) (sym at) ∙ drop-append-add old rest (n - length old)
    ∙ sym (ap (λ (k : ℕ). drop k (new ++ rest)) (sym there) ∙ drop-append-add new rest (n - length old))

-- a page in the front
pub page_within : (d : Directory) (page : ℕ) (front rest : List ℕ) → page_start d page ≤ length front → page_end d page ≤ length front → page_of d page (front ++ rest) ≡ take (page_end d page - page_start d page) (drop (page_start d page) front)
page_within d page front rest begins ends =
    let start : ℕ = page_start d page in
    let n : ℕ = page_end d page - start in
    let room : n ≤ length (drop start front) = omega (arith, begins, ends, length-drop start front) in
    ap (take n) (drop-append-le start front rest begins) ∙ take-append-le n (drop start front) rest room

-- the hash of a page in the front
pub hash_within : (d : Directory) (page start end : ℕ) (front rest : List ℕ) (hash : PageHash) → start ≡ page_start d page → end ≡ page_end d page → start ≤ length front → end ≤ length front → hash ≡ hash_of d.hash (take (end - start) (drop start front)) → hash ≡ page_hash d page (front ++ rest)
unfolding page_hash
hash_within d page start end front rest hash first last begins ends told =
    let Told : ℕ → ℕ → Type 0 = λ s e. hash ≡ hash_of d.hash (take (e - s) (drop s front)) in
    let Start : ℕ → Type 0 = λ s. Told s (page_end d page) in
    let End : ℕ → Type 0 = Told start in
    subst Start first (subst End last told) ∙ ap (hash_of d.hash) (sym (page_within d page front rest (omega (arith, first, begins)) (omega (arith, last, ends))))

-- a page behind it isn't touched
pub untouched : (d : Directory) (page : ℕ) (old new rest : List ℕ) → length old ≡ length new → length new ≤ page_start d page → false ≡ is_touched d (differences (old ++ rest) (new ++ rest)) page
untouched d page old new rest long past =
    let n : ℕ = page_end d page - page_start d page in
    let same : page_of d page (old ++ rest) ≡ page_of d page (new ++ rest) = ap (take n) (drop-behind (page_start d page) old new rest long past) in
    let is : bytes_eq (page_of d page (old ++ rest)) (page_of d page (new ++ rest)) ≡ true = (bytes_eq-Decides (page_of d page (old ++ rest)) (page_of d page (new ++ rest))).1 same in
    sym (ap (λ (b : Bool). not b) is) ∙ touched_differs d (old ++ rest) (new ++ rest) page (both_long old new rest long)

-- one in it is touched where the fronts differ
pub touched_here : (d : Directory) (page : ℕ) (old new rest : List ℕ) (answer : Bool) → length old ≡ length new → page_start d page ≤ length new → page_end d page ≤ length new → answer ≡ not (bytes_eq (take (page_end d page - page_start d page) (drop (page_start d page) old)) (take (page_end d page - page_start d page) (drop (page_start d page) new))) → answer ≡ is_touched d (differences (old ++ rest) (new ++ rest)) page
touched_here d page old new rest answer long begins ends told =
    let n : ℕ = page_end d page - page_start d page in
    let first = page_within d page old rest (omega (arith, long, begins)) (omega (arith, long, ends)) in
    let second = page_within d page new rest begins ends in
    told
    ∙ ap (λ (x : List ℕ). not (bytes_eq x (take n (drop (page_start d page) new)))) (sym first)
    ∙ ap (λ (x : List ℕ). not (bytes_eq (page_of d page (old ++ rest)) x)) (sym second)
    ∙ touched_differs d (old ++ rest) (new ++ rest) page (both_long old new rest long)

-- pages of one directory more
pub ends_more : (len : ℕ) (ds : List Directory) (i : ℕ) (d : Directory) → i < length ds → All (EndsWithin len) (take i ds) → EndsWithin len (get_or ds i d) → All (EndsWithin len) (take (i + 1) ds)
ends_more len ds i d inside before here =
    let P : List Directory → Type 0 = λ l. All (EndsWithin len) l in
    subst P (sym (take_more ds i d inside)) (All-append (EndsWithin len) (take i ds) (get_or ds i d ∷ []) before (All-cons (EndsWithin len) (get_or ds i d) [] here (All-nil (EndsWithin len))))

pub ends_all : (len : ℕ) (ds : List Directory) (i : ℕ) → length ds ≤ i → All (EndsWithin len) (take i ds) → All (EndsWithin len) ds
ends_all len ds i past ends =
    let P : List Directory → Type 0 = λ l. All (EndsWithin len) l in
    subst P (take_all i ds past) ends

-- ## The file

-- where directories lie that were read
pub lie_read : (start len : ℕ) (signature : List ℕ) (found : Signature) (seen : List Directory) → IsReadAt start signature found → start + length signature ≤ len → seen ≡ found.directories.items → All (LiesIn len) seen
lie_read start len signature found seen read room same =
    let P : List Directory → Type 0 = λ l. All (LiesIn len) l in
    subst P (sym same) (λ k d here. ((read.placed len room).each k d here).lies)

pub place_longer : (front rest : List ℕ) → length (front ++ rest) < 2 ^ 32 → file_fault front ≡ None → signature_place (front ++ rest) ≡ signature_place front
unfolding signature_place
place_longer front rest short ok =
    let same = accepts front rest short ok in
    rw (same.1, same.2) refl

-- where slots lie
pub none_lie : (len : ℕ) (slots : List Slot) → slots ≡ [] → All (SlotLies len) slots
none_lie len slots none =
    let P : List Slot → Type 0 = λ l. All (SlotLies len) l in
    subst P (sym none) (All-nil (SlotLies len))

pub edits_lie : (start : ℕ) (old new signature : List ℕ) (found : Signature) (slots : List Slot) → IsReadAt start signature found → slots ≡ renewed_slots found.directories.items (differences (old ++ []) (new ++ [])) (new ++ []) → All (SlotLies (start + length signature)) slots
edits_lie start old new signature found slots read are =
    let P : List Slot → Type 0 = λ l. All (SlotLies (start + length signature)) l in
    subst P (sym are) (slots_lie start (start + length signature) found.directories.items (differences (old ++ []) (new ++ [])) (new ++ []) (read.placed (start + length signature) (omega arith)))

-- what is held of a longer file
pub holds_longer : (front rest signature : List ℕ) (place : Place) (found : Signature) → file_fault front ≡ None → signature_place front ≡ Ok (Some place) → length front ≤ place.dataoff → IsReadAt place.dataoff signature found → HasSignature (front ++ rest) place signature → HoldsSignature (front ++ rest) found
holds_longer front rest signature place found ok told behind read has =
    let same = accepts front rest has.short ok in
    let form : commands_end (ctx_of (front ++ rest)) (front ++ rest) ≡ commands_end (ctx_of front) front = rw same.1 (commands_end-longer front rest ok) in
    let within = commands_within front ok in
    let long : length signature ≡ place.datasize = ap length has.is ∙ length-take-le place.datasize (drop place.dataoff (front ++ rest)) (omega (arith, length-drop place.dataoff (front ++ rest), has.within)) in
    let P : List ℕ → Type 0 = λ l. Tells place.dataoff l found in
    record {
      place = place;
      is = place_longer front rest has.short ok ∙ told;
      behind = omega (arith, form, within, behind);
      passes = fault_within_bytes place.dataoff place.datasize (front ++ rest) signature has.within has.is ∙ read.passes;
      tells = subst P has.is read.tells;
      placed = read.placed (length (front ++ rest)) (omega (arith, long, has.within));
    }

-- no check of it fails
pub held_passes : (bytes : List ℕ) (found : Signature) → file_fault bytes ≡ None → HoldsSignature bytes found → thin_fault bytes ≡ None
unfolding thin_fault
held_passes bytes found ok holds =
    let behind = le-ltb holds.place.dataoff (commands_end (ctx_of bytes) bytes) holds.behind in
    rw (ok, holds.is, behind, holds.passes) refl

pub plain_passes : (bytes : List ℕ) → file_fault bytes ≡ None → signature_place bytes ≡ Ok None → thin_fault bytes ≡ None
unfolding thin_fault
plain_passes bytes ok none = rw (ok, none) refl

renewal_is : (pages : Pages) (bytes : List ℕ) (found : Option SigningFault) → thin_fault bytes ≡ None → touch_fault pages bytes (signature_place bytes) ≡ found → renewal_fault pages bytes ≡ found
unfolding renewal_fault
renewal_is pages bytes found ok touch = rw ok touch

-- no byte of its signature differs
unchanged : (n : ℕ) (old new rest : List ℕ) → length old ≡ length new → length new ≤ n → false ≡ is_changed_from n (since (old ++ rest)) (new ++ rest)
unchanged n old new rest long past =
    sym (ap (λ (b : Bool). not b) ((bytes_eq-Decides (drop n (old ++ rest)) (drop n (new ++ rest))).1 (drop-behind n old new rest long past)))

-- slots of an ad-hoc signature
pub signs_adhoc : (old new rest signature : List ℕ) (place : Place) (found : Signature) (made : ThinSlots) → length old ≡ length new → file_fault new ≡ None → signature_place new ≡ Ok (Some place) → length new ≤ place.dataoff → IsReadAt place.dataoff signature found → found.is_signed ≡ false → made.is_left ≡ false → made.slots.items ≡ renewed_slots found.directories.items (differences (old ++ rest) (new ++ rest)) (new ++ rest) → HasSignature (new ++ rest) place signature → SignsThin (since (old ++ rest)) (new ++ rest) made
signs_adhoc old new rest signature place found made long ok told behind read adhoc left slots has =
    let pages : Pages = since (old ++ rest) in
    let bytes : List ℕ = new ++ rest in
    let holds = holds_longer new rest signature place found ok told behind read has in
    let pass = held_passes bytes found (accepts new rest has.short ok).0 holds in
    let plain : has_identity bytes ≡ false = held_identity bytes found holds ∙ adhoc in
    let same : false ≡ is_changed_from found.start pages bytes = unchanged found.start old new rest long (omega (arith, behind, read.tells.begins)) in
    record {
      passes = renewal_is pages bytes None pass (held_touch pages bytes found false holds plain same);
      slots = slots ∙ held_slots pages bytes found holds plain;
      left = left ∙ sym plain;
      placed = held_placed bytes found holds plain;
    }

-- there are no slots of a signature that an identity made
pub signs_none : (old new rest signature : List ℕ) (place : Place) (found : Signature) (made : ThinSlots) → file_fault new ≡ None → signature_place new ≡ Ok (Some place) → length new ≤ place.dataoff → IsReadAt place.dataoff signature found → found.is_signed ≡ true → made.is_left ≡ true → made.slots.items ≡ [] → HasSignature (new ++ rest) place signature → SignsThin (since (old ++ rest)) (new ++ rest) made
signs_none old new rest signature place found made ok told behind read signed left slots has =
    let pages : Pages = since (old ++ rest) in
    let bytes : List ℕ = new ++ rest in
    let holds = holds_longer new rest signature place found ok told behind read has in
    let pass = held_passes bytes found (accepts new rest has.short ok).0 holds in
    let identity : has_identity bytes ≡ true = held_identity bytes found holds ∙ signed in
    let none = identity_directories bytes identity in
    record {
      passes = renewal_is pages bytes None pass (identity_touch pages bytes found holds identity);
      slots = slots ∙ no_slots pages bytes none;
      left = left ∙ sym identity;
      placed = no_slots_placed bytes none;
    }

-- there are no slots without a signature
pub signs_plain : (old new rest : List ℕ) (made : ThinSlots) → length (new ++ rest) < 2 ^ 32 → file_fault new ≡ None → signature_place new ≡ Ok None → made.is_left ≡ false → made.slots.items ≡ [] → SignsThin (since (old ++ rest)) (new ++ rest) made
signs_plain old new rest made short ok told left slots =
    let pages : Pages = since (old ++ rest) in
    let bytes : List ℕ = new ++ rest in
    let is = place_longer new rest short ok ∙ told in
    let pass = plain_passes bytes (accepts new rest short ok).0 is in
    let none = none_directories bytes is in
    record {
      passes = renewal_is pages bytes None pass (none_touch pages bytes is);
      slots = slots ∙ no_slots pages bytes none;
      left = left ∙ sym (none_identity bytes is);
      placed = no_slots_placed bytes none;
    }
