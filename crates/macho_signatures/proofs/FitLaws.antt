-- Where all slots fitted, and those of touched pages are made anew, all fit.
use Rattle.std.proofs.Common.{◌≡◌, ◌≢◌, ◌≤◌, ◌<◌, ℕ, ◌+◌, true, false, min, max, List, length, get_or, sym, ap, ◌∙◌, subst, inl, inr, arith}
use Rattle.std.specs.List.{Any, list_any}
use Rattle.std.proofs.lemmas.Bool.{both_ways, cases_Bool, cases_eq, cases_lt, lt-ltb}
use Rattle.std.proofs.lemmas.List.{get_or_default}
use Rattle.std.proofs.lemmas.List.Folds.{list_any_at}
use Rattle.macho_signatures.specs.declared.directory.Directory.{Directory}
use Rattle.macho_signatures.specs.declared.renewal.ByteRange.{ByteRange}
use Rattle.macho_signatures.specs.Directory.{hash_size}
use Rattle.macho_signatures.specs.Laws.{RenewedFit}
use Rattle.macho_signatures.specs.Pages.{Fits, hash_bytes, page_end, page_hash, page_start, slot_of, slot_place}
use Rattle.macho_signatures.specs.Renewed.{DiffersWithin, EndBefore, IsRenewed, LiesInSlot, is_touched, meets_page}
use Rattle.macho_signatures.specs.Signature.{AreApart, ArePlaced}
use Rattle.macho_signatures.proofs.LaidLaws.{same_field}
use Rattle.macho_signatures.proofs.PageLaws.{slot-within, times_more}
use Rattle.macho_signatures.proofs.RenewedLaws.{before_slots, page_hash-same}

-- a byte of a page that isn't touched is in no range
not_in_range : (d : Directory) (touched : List ByteRange) (page i : ℕ) → is_touched d touched page ≡ false → page_start d page ≤ i → i < page_end d page → ¬ Any (λ range. (range.begin ≤ i) × (i < range.end)) touched
unfolding is_touched
not_in_range d touched page i untouched from to h =
    let k = h.0 in
    let range : ByteRange = h.1 in
    let within = h.2 in
    let same = h.3 in
    let lies = h.4 in
    let begins : range.begin ≤ i = lies.0 in
    let ends : i < range.end = lies.1 in
    let meets : meets_page d page range ≡ true = lt-ltb (max range.begin (page_start d page)) (min range.end (page_end d page)) (omega (arith, begins, ends, from, to)) in
    both_ways (list_any (meets_page d page) touched) untouched (list_any_at (meets_page d page) touched k range within (ap (meets_page d page) same ∙ meets))

-- a byte behind all ranges is in none
behind_ranges : (start : ℕ) (touched : List ByteRange) (i : ℕ) → EndBefore start touched → start ≤ i → ¬ Any (λ range. (range.begin ≤ i) × (i < range.end)) touched
behind_ranges start touched i before behind h =
    let k = h.0 in
    let range : ByteRange = h.1 in
    let within = h.2 in
    let same = h.3 in
    let lies = h.4 in
    let P : ByteRange → Type 0 = λ x. x.end ≤ start in
    let ends : range.end ≤ start = subst P same (before k range within) in
    let inside : i < range.end = lies.1 in
    absurd (omega (arith, ends, inside, behind))

-- slots of different pages, and of directories that stand apart, share no byte
pages_differ : (d : Directory) (a b i : ℕ) → a ≢ b → slot_place d a ≤ i → i < slot_place d a + hash_size d.hash → slot_place d b ≤ i → i < slot_place d b + hash_size d.hash → ⊥
pages_differ d a b i other from to from_b to_b =
    elim (cases_lt a b) [
      | inl before ↦ let step = times_more a b (hash_size d.hash) before in absurd (omega (arith, step, to, from_b))
      | inr behind ↦ let step = times_more b a (hash_size d.hash) (omega (arith, behind, other)) in absurd (omega (arith, step, from, to_b))
    ]

directories_differ : (d f : Directory) (a b i : ℕ) → AreApart d f → a < d.count → b < f.count → slot_place d a ≤ i → i < slot_place d a + hash_size d.hash → slot_place f b ≤ i → i < slot_place f b + hash_size f.hash → ⊥
directories_differ d f a b i apart inside inside_b from to from_b to_b =
    let first = slot-within d a inside in
    let second = slot-within f b inside_b in
    elim apart [
      | inl before ↦ absurd (omega (arith, before, first, to, from_b))
      | inr behind ↦ absurd (omega (arith, behind, second, from, to_b))
    ]

-- a byte of the slot of a page that isn't touched is in no slot of a touched page
not_in_slot : (start len : ℕ) (ds : List Directory) (touched : List ByteRange) (k page i : ℕ) (e : Directory) → ArePlaced start len ds → k < length ds → page < (get_or ds k e).count → is_touched (get_or ds k e) touched page ≡ false → slot_place (get_or ds k e) page ≤ i → i < slot_place (get_or ds k e) page + hash_size (get_or ds k e).hash → ¬ Any (LiesInSlot touched i) ds
not_in_slot start len ds touched k page i e placed here inside untouched from to h =
    let j = h.0 in
    let there : j < length ds = h.2 in
    let same : get_or ds j e ≡ h.1 = get_or_default ds j e h.1 there ∙ h.3 in
    let P : Directory → Type 0 = λ x. LiesInSlot touched i x in
    let lies : LiesInSlot touched i (get_or ds j e) = subst P (sym same) h.4 in
    elim (cases_eq j k) [
      | inl one ↦
          let Q : ℕ → Type 0 = λ n. LiesInSlot touched i (get_or ds n e) in
          let at : LiesInSlot touched i (get_or ds k e) = subst Q one lies in
          elim (cases_eq page at.page) [
            | inl equal ↦ both_ways (is_touched (get_or ds k e) touched page) untouched (ap (is_touched (get_or ds k e) touched) equal ∙ at.is_touched)
            | inr other ↦ pages_differ (get_or ds k e) page at.page i other from to at.behind at.before
          ]
      | inr two ↦
          elim (cases_lt k j) [
            | inl before ↦ directories_differ (get_or ds k e) (get_or ds j e) page lies.page i (placed.apart k j e before there) inside lies.inside from to lies.behind lies.before
            | inr behind ↦ directories_differ (get_or ds j e) (get_or ds k e) lies.page page i (placed.apart j k e (omega (arith, behind, two)) here) lies.inside inside lies.behind lies.before from to
          ]
    ]

-- the slot and the page of a page that isn't touched stay
fits_still : (start : ℕ) (ds : List Directory) (touched : List ByteRange) (old edited new : List ℕ) (k page : ℕ) (e : Directory) → ArePlaced start (length old) ds → k < length ds → page < (get_or ds k e).count → is_touched (get_or ds k e) touched page ≡ false → EndBefore start touched → DiffersWithin touched old edited → IsRenewed ds touched edited new → Fits (get_or ds k e) old page → Fits (get_or ds k e) new page
unfolding Fits
fits_still start ds touched old edited new k page e placed here inside untouched ends differs renewed fitted =
    let d : Directory = get_or ds k e in
    let size : ℕ = hash_size d.hash in
    let place : ℕ = slot_place d page in
    let slots = (placed.each k e here).behind in
    let limit = (placed.each k e here).before in
    let slot_new : slot_of d page new ≡ slot_of d page edited =
    same_field size place new edited renewed.long (λ i from to. renewed.kept i (not_in_slot start (length old) ds touched k page i e placed here inside untouched from to)) in
    let slot_old : slot_of d page edited ≡ slot_of d page old =
    same_field size place edited old differs.0 (λ i from to. differs.1 i (behind_ranges start touched i ends (omega (arith, from, slots)))) in
    let hash_new : page_hash d page new ≡ page_hash d page edited =
    page_hash-same d page edited new renewed.long (λ i from to. renewed.kept i (before_slots start (length old) ds touched i placed (omega (arith, to, limit)))) in
    let hash_old : page_hash d page edited ≡ page_hash d page old =
    page_hash-same d page old edited differs.0 (λ i from to. differs.1 i (not_in_range d touched page i untouched from to)) in
    slot_new ∙ slot_old ∙ fitted ∙ sym (ap hash_bytes (hash_new ∙ hash_old))

pub renewed_fit : RenewedFit
renewed_fit start ds touched old edited new placed fitted ends differs renewed =
    λ k e here page inside.
    elim (cases_Bool (is_touched (get_or ds k e) touched page)) [
      | inl touches ↦ renewed.fits k e here page inside touches
      | inr untouched ↦ fits_still start ds touched old edited new k page e placed here inside untouched ends differs renewed (fitted k e here page inside)
    ]
