-- The slots that are made anew behind edits of the fronts of slices.
use Rattle.std.proofs.Common.{◌≡◌, ◌≤◌, ◌<◌, ◌^◌, ◌+◌, ◌-◌, ◌∙◌, ◌||◌, ◌⊎◌, inl, inr, ℕ, Bool, true, false, List, [], ◌∷◌, ◌++◌, length, take, drop, map, get_or, Option, None, Some, Ok, refl, sym, ap, subst, arith}
use Rattle.std.specs.List.{All, list_any}
use Rattle.std.specs.Prelude.{IfSome}
use Rattle.std.proofs.lemmas.List.{drop-drop, drop-take, flat_map_more, get_or-map, length-append, length-drop, length-map, length-take-le, map-append, take-take, take_more}
use Rattle.std.proofs.lemmas.List.Elements.{All-append, All-cons, All-nil}
use Rattle.std.proofs.lemmas.List.Folds.{list_any-append}
use Rattle.byte_store.specs.Laid.{Patch}
use Rattle.byte_store.specs.Shown.{shifted}
use Rattle.macho_image.specs.Checks.{file_fault}
use Rattle.macho_signatures.specs.Renewed.{SlotLies}
use Rattle.macho_signatures.specs.declared.renewal.Slot.{Slot}
use Rattle.macho_signing.specs.Front.{HasSignature, SignsThin}
use Rattle.macho_signing.specs.Place.{signature_place}
use Rattle.macho_signing.specs.Thin.{since}
use Rattle.macho_signing.specs.declared.place.Place.{Place}
use Rattle.macho_signing.specs.declared.thin.ThinSlots.{ThinSlots}
use Rattle.macho_signing.proofs.FrontLaws.{drop-behind, signs_plain}
use Rattle.macho_commands_stores.specs.Renewing.{AreAsLong, IsSignedFront, SignedFront, SignsFront, SignsFronts, slot_patch, slots_of}
use Rattle.macho_commands_stores.specs.Slices.{IsAt}
use Rattle.macho_commands_stores.specs.declared.slices.SliceFront.{SliceFront}

-- ---- a slice

-- how long an edited slice is
long_slice : (offset size : ℕ) (file front rest new : List ℕ) → length new ≡ length front → offset + size ≤ length file → take size (drop offset file) ≡ front ++ rest → length (new ++ rest) ≡ size
long_slice offset size file front rest new long room joined =
    let many : length (take size (drop offset file)) ≡ size = length-take-le size (drop offset file) (omega (arith, length-drop offset file, room)) in
    omega (arith, many, ap length joined, length-append front rest, length-append new rest, long)

-- what was read at the place of a signature is its bytes
pub has_signature : (offset size : ℕ) (place : Place) (file front rest new signature : List ℕ) → length new ≡ length front → length new ≤ place.dataoff → place.dataoff + place.datasize ≤ size → size < 2 ^ 32 → offset + size ≤ length file → take size (drop offset file) ≡ front ++ rest → signature ≡ take (length signature) (drop (offset + place.dataoff) file) → length signature ≡ place.datasize → HasSignature (new ++ rest) place signature
has_signature offset size place file front rest new signature long behind within short room joined read all =
    let start : ℕ = place.dataoff in
    let n : ℕ = place.datasize in
    let many : length (new ++ rest) ≡ size = long_slice offset size file front rest new long room joined in
    let at : start + (size - start) ≡ size = omega (arith, within) in
    let there : drop start (new ++ rest) ≡ take (size - start) (drop (offset + start) file) =
    sym (drop-behind start front new rest (sym long) behind) ∙ ap (drop start) (sym joined)
    ∙ ap (λ (k : ℕ). drop start (take k (drop offset file))) (sym at)
    ∙ drop-take start (size - start) (drop offset file) ∙ ap (take (size - start)) (drop-drop start offset file) in
    record {
      short = omega (arith, many, short);
      within = omega (arith, many, within);
      is = read ∙ ap (λ (k : ℕ). take k (drop (offset + start) file)) all ∙ sym (take-take n (size - start) (drop (offset + start) file) (omega (arith, within))) ∙ ap (take n) (sym there);
    }

-- what the bytes that were read tell
pub signs_front : (known : Option (List ℕ)) (front : SliceFront) (new old signature : List ℕ) (place : Place) (found : Option ThinSlots) → IfSome found (λ made. (rest : List ℕ) → HasSignature (new ++ rest) place signature → SignsThin (since (old ++ rest)) (new ++ rest) made) → old ≡ front.bytes.items → length new ≡ length front.bytes.items → length new ≤ place.dataoff → place.dataoff + place.datasize ≤ front.size → front.size < 2 ^ 32 → IsAt known (front.offset + place.dataoff) signature → length signature ≡ place.datasize → IfSome found (SignsFront known front new)
signs_front known front new old signature place None told same long behind within short read all = tt
signs_front known front new old signature place (Some made) told same long behind within short read all = λ file rest knows room joined.
    let Old : List ℕ → Type 0 = λ l. SignsThin (since (l ++ rest)) (new ++ rest) made in
    subst Old same (told rest (has_signature front.offset front.size place file front.bytes.items rest new signature long behind within short room joined (read file knows) all))

-- a slice without a signature
pub plain_front : (known : Option (List ℕ)) (front : SliceFront) (new : List ℕ) (made : ThinSlots) → front.size < 2 ^ 32 → length new ≡ length front.bytes.items → file_fault new ≡ None → signature_place new ≡ Ok None → made.is_left ≡ false → made.slots.items ≡ [] → SignsFront known front new made
plain_front known front new made short long ok told left slots file rest is room joined =
    let many = long_slice front.offset front.size file front.bytes.items rest new long room joined in
    signs_plain front.bytes.items new rest made (omega (arith, many, short)) ok told left slots

-- slots lie further in
pub lie_within : (n m : ℕ) (slots : List Slot) → n ≤ m → All (SlotLies n) slots → All (SlotLies m) slots
lie_within n m slots more lie = λ k d here. let h = lie k d here in omega (arith, h, more)

-- ---- all of them

pub count_edited : (fronts : List SliceFront) (news : List (List ℕ)) → AreAsLong fronts news → length news ≡ length fronts
count_edited fronts news same = sym (length-map news (λ (l : List ℕ). length l)) ∙ ap length same ∙ length-map fronts (λ (x : SliceFront). length x.bytes.items)

-- how long an edited front is
pub long_at : (fronts : List SliceFront) (news : List (List ℕ)) (i : ℕ) (front : SliceFront) (new : List ℕ) → AreAsLong fronts news → i < length fronts → front ≡ get_or fronts i front → new ≡ get_or news i new → length new ≡ length front.bytes.items
long_at fronts news i front new long inside is told =
    let f : List ℕ → ℕ = λ l. length l in
    let g : SliceFront → ℕ = λ x. length x.bytes.items in
    ap f told ∙ sym (get_or-map f news i new 0 (omega (arith, inside, count_edited fronts news long))) ∙ ap (λ (l : List ℕ). get_or l i 0) long ∙ get_or-map g fronts i front 0 inside ∙ sym (ap g is)

-- whether one more page is left
pub left_more : (left more answer : Bool) → (left ≡ true) × (answer ≡ true) ⊎ ((left ≡ false) × (answer ≡ more)) → answer ≡ (left || more)
left_more left more answer (inl both) = rw both.0 both.1
left_more left more answer (inr both) = rw both.0 both.1

pub signs_none : (known : Option (List ℕ)) → SignsFronts known [] [] [] false
signs_none known = record {
  all = [];
  fronts_are = refl;
  news_are = refl;
  patches_are = refl;
  left_is = refl;
  each = All-nil (IsSignedFront known);
}

or_false : (b : Bool) → (b || false) ≡ b
or_false true = refl
or_false false = refl

signs_push : (known : Option (List ℕ)) (fronts : List SliceFront) (news : List (List ℕ)) (s : SignedFront) (old : List Patch) (left : Bool) → SignsFronts known fronts news old left → IsSignedFront known s → SignsFronts known (fronts ++ s.front ∷ []) (news ++ s.new ∷ []) (old ++ slots_of s) (left || s.made.is_left)
signs_push known fronts news s old left before here =
    let fronts_of : SignedFront → SliceFront = λ x. x.front in
    let news_of : SignedFront → List ℕ = λ x. x.new in
    let left_of : SignedFront → Bool = λ x. x.made.is_left in
    record {
      all = before.all ++ s ∷ [];
      fronts_are = map-append fronts_of before.all (s ∷ []) ∙ ap (λ (l : List SliceFront). l ++ s.front ∷ []) before.fronts_are;
      news_are = map-append news_of before.all (s ∷ []) ∙ ap (λ (l : List (List ℕ)). l ++ s.new ∷ []) before.news_are;
      patches_are = ap (λ (l : List Patch). l ++ slots_of s) before.patches_are ∙ flat_map_more slots_of [] before.all s;
      left_is =
          ap (λ (b : Bool). b || s.made.is_left) before.left_is
          ∙ ap (λ (b : Bool). list_any left_of before.all || b) (sym (or_false s.made.is_left))
          ∙ sym (list_any-append left_of before.all (s ∷ []));
      each = All-append (IsSignedFront known) before.all (s ∷ []) before.each (All-cons (IsSignedFront known) s [] here (All-nil (IsSignedFront known)));
    }

pub signs_more : (known mid : Option (List ℕ)) (fronts : List SliceFront) (news : List (List ℕ)) (i : ℕ) (front : SliceFront) (new : List ℕ) (made : ThinSlots) (old next : List Patch) (left answer : Bool) → i < length fronts → i < length news → mid ≡ known → front ≡ get_or fronts i front → new ≡ get_or news i new → SignsFronts known (take i fronts) (take i news) old left → SignsFront mid front new made → All (SlotLies front.size) made.slots.items → next ≡ old ++ map (shifted front.offset) (map slot_patch made.slots.items) → answer ≡ (left || made.is_left) → SignsFronts known (take (i + 1) fronts) (take (i + 1) news) next answer
signs_more known mid fronts news i front new made old next left answer inside within kept is told before here lie push answered =
    let s : SignedFront = record { front = front; new = new; made = made } in
    let Kept : Option (List ℕ) → Type 0 = λ k. SignsFront k front new made in
    let F : List SliceFront → Type 0 = λ l. SignsFronts known l (take (i + 1) news) next answer in
    let N : List (List ℕ) → Type 0 = λ l. SignsFronts known (take i fronts ++ front ∷ []) l next answer in
    let P : List Patch → Type 0 = λ l. SignsFronts known (take i fronts ++ front ∷ []) (take i news ++ new ∷ []) l answer in
    let B : Bool → Type 0 = λ b. SignsFronts known (take i fronts ++ front ∷ []) (take i news ++ new ∷ []) (old ++ slots_of s) b in
    let all = subst B (sym answered) (signs_push known (take i fronts) (take i news) s old left before (record { signs = subst Kept kept here; lie = lie })) in
    let fronts_next : take (i + 1) fronts ≡ take i fronts ++ front ∷ [] = take_more fronts i front inside ∙ ap (λ (f : SliceFront). take i fronts ++ f ∷ []) (sym is) in
    let news_next : take (i + 1) news ≡ take i news ++ new ∷ [] = take_more news i new within ∙ ap (λ (n : List ℕ). take i news ++ n ∷ []) (sym told) in
    subst F (sym fronts_next) (subst N (sym news_next) (subst P (sym push) all))
