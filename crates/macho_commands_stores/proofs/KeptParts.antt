-- What an edit, and slots that are made anew behind it, keep in each part of a file.
use Rattle.std.proofs.Common.{◌≡◌, ℕ, List, [], ◌∷◌, length, map, get_or, None, refl, sym, ap, ◌∙◌, subst, inl, inr}
use Rattle.std.specs.List.{All}
use Rattle.std.proofs.lemmas.Bool.{cases_Bool}
use Rattle.std.proofs.lemmas.List.Elements.{All-cons, All-head, All-map, All-nil, All-tail}
use Rattle.macho_signatures.specs.Pages.{AllFit}
use Rattle.macho_signing.specs.Check.{Found, checking_fault, part_checked, parts_checked}
use Rattle.macho_signing.specs.File.{IsSigned, begins_fat, pages_in, part_bytes, parts_of, signing_fault, slice_part}
use Rattle.macho_signing.specs.Laws.{FitIn}
use Rattle.macho_signing.specs.Shown.{FileShowsSame}
use Rattle.macho_signing.specs.Thin.{Pages, adhoc_directories, touched_by}
use Rattle.macho_signing.specs.Thin.Pages.{all, since}
use Rattle.macho_signing.specs.declared.file.Part.{Part}
use Rattle.macho_signing.proofs.FitLaws.{signed_fit}
use Rattle.macho_commands_stores.specs.Kept.{DoAdhocFit, InEachPart, IsAdhocFit, IsSignatureBehind, KeepsSignature, TellsSame, TellsSameLayout, layout_of}
use Rattle.macho_commands_stores.proofs.KeptSignature.{edited_signature, ends_before, fit_told, kept_before, parts_read, signed_part, signing_reads, told_fit, whole_at}
use Rattle.macho_commands_stores.proofs.StepSignature.{EndsBeforeSignature, IsKept, fat_parts, thin_parts}

-- ## Relations of parts

abbrev AtPart : (List ℕ → List ℕ → Type 0) → List ℕ → List ℕ → Part → Type 0
AtPart Same old new p = Same (part_bytes old p) (part_bytes new p)

-- one that follows from another
pub each_weaker : (Same Other : List ℕ → List ℕ → Type 0) (old new : List ℕ) → ((a b : List ℕ) → Same a b → Other a b) → InEachPart Same old new → InEachPart Other old new
each_weaker Same Other old new weaker is = record {
  parts = is.parts;
  each = λ k e here. let p : Part = get_or (parts_of old) k e in weaker (part_bytes old p) (part_bytes new p) (is.each k e here);
}

-- one upon another
pub each_after : (First Then Both : List ℕ → List ℕ → Type 0) (old mid new : List ℕ) → ((a b c : List ℕ) → First a b → Then b c → Both a c) → InEachPart First old mid → InEachPart Then mid new → InEachPart Both old new
each_after First Then Both old mid new join first next =
    let P : List Part → Type 0 = λ l. All (AtPart Then mid new) l in
    let second : All (AtPart Then mid new) (parts_of old) = subst P first.parts next.each in
    record {
      parts = next.parts ∙ first.parts;
      each = λ k e here.
          let p : Part = get_or (parts_of old) k e in
          join (part_bytes old p) (part_bytes mid p) (part_bytes new p) (first.each k e here) (second k e here);
    }

-- the same layouts, where first the same directories are told and then the same layouts
pub layouts_after : (a b c : List ℕ) → TellsSame a b → TellsSameLayout b c → TellsSameLayout a c
layouts_after a b c first next = record {
  place = next.place ∙ first.place;
  directories = next.directories ∙ ap (map layout_of) first.directories;
  identity = next.identity ∙ first.identity;
}

-- ## A file that is edited

pub edited_keeps : (old new : List ℕ) → InEachPart IsKept old new → checking_fault old ≡ None → All (λ p. EndsBeforeSignature (part_bytes new p)) (parts_of new) → InEachPart KeepsSignature old new
edited_keeps old new kept none ends =
    let P : List Part → Type 0 = λ l. All (λ p. EndsBeforeSignature (part_bytes new p)) l in
    let before = subst P kept.parts ends in
    let reads = parts_read old none in
    record {
      parts = kept.parts;
      each = λ k e here.
          let p : Part = get_or (parts_of old) k e in
          edited_signature (part_bytes old p) (part_bytes new p) (kept.each k e here) (reads k e here) (before k e here);
    }

pub edited_tells : (old new : List ℕ) → InEachPart IsKept old new → checking_fault old ≡ None → All (λ p. EndsBeforeSignature (part_bytes new p)) (parts_of new) → InEachPart TellsSame old new
edited_tells old new kept none ends = each_weaker KeepsSignature TellsSame old new (λ a b keeps. keeps.tells) (edited_keeps old new kept none ends)

pub behind_ends : (old new : List ℕ) → InEachPart IsKept old new → checking_fault old ≡ None → All (λ p. IsSignatureBehind (part_bytes old p)) (parts_of old) → All (λ p. EndsBeforeSignature (part_bytes new p)) (parts_of new)
behind_ends old new kept none behind =
    let P : List Part → Type 0 = λ l. All (λ p. EndsBeforeSignature (part_bytes new p)) l in
    let reads = parts_read old none in
    subst P (sym kept.parts)
    (λ k e here.
    let p : Part = get_or (parts_of old) k e in
    kept_before (part_bytes old p) (part_bytes new p) (kept.each k e here) (reads k e here) (behind k e here))

pub read_ends : (bytes : List ℕ) → checking_fault bytes ≡ None → All (λ p. EndsBeforeSignature (part_bytes bytes p)) (parts_of bytes)
read_ends bytes none = λ k e here. ends_before (part_bytes bytes (get_or (parts_of bytes) k e)) (parts_read bytes none k e here)

pub signing_ends : (pages : Pages) (bytes : List ℕ) → signing_fault pages bytes ≡ None → All (λ p. EndsBeforeSignature (part_bytes bytes p)) (parts_of bytes)
signing_ends pages bytes none = λ k e here. ends_before (part_bytes bytes (get_or (parts_of bytes) k e)) (signing_reads pages bytes none k e here)

-- ## A file whose slots are made anew

pub same_parts : (old new : List ℕ) → FileShowsSame old new → parts_of new ≡ parts_of old
same_parts old new same =
    elim (cases_Bool (begins_fat old)) [
      | inl fat ↦ fat_parts new (same.shape ∙ fat) ∙ ap (map slice_part) (same.table fat).1 ∙ sym (fat_parts old fat)
      | inr thin ↦ thin_parts new (same.shape ∙ thin) ∙ ap (λ (n : ℕ). record { offset = 0; size = n } ∷ []) same.long ∙ sym (thin_parts old thin)
    ]

pub signed_tells : (pages : Pages) (old new : List ℕ) → signing_fault pages old ≡ None → IsSigned pages old new → FileShowsSame old new → InEachPart TellsSameLayout old new
signed_tells pages old new none is same =
    let reads = signing_reads pages old none in
    record {
      parts = same_parts old new same;
      each = λ k e here.
          let p : Part = get_or (parts_of old) k e in
          signed_part (touched_by (pages_in pages p) (part_bytes old p)) (part_bytes old p) (part_bytes new p) (same.parts k e here) (reads k e here) (is.parts k e here);
    }

-- ## What is told of pages

all_of_map : (f : Part → Found) (parts : List Part) → All IsAdhocFit (map f parts) → All (λ p. IsAdhocFit (f p)) parts
all_of_map f [] told = All-nil (λ p. IsAdhocFit (f p))
all_of_map f (p ∷ parts) told =
    All-cons (λ q. IsAdhocFit (f q)) p parts
    (All-head IsAdhocFit (f p) (map f parts) told)
    (all_of_map f parts (All-tail IsAdhocFit (f p) (map f parts) told))

-- the slots of edited bytes that are to be made anew held the hashes of the old pages
old_fit : (old edited : List ℕ) → InEachPart TellsSame old edited → DoAdhocFit old → FitIn edited old
unfolding parts_checked
old_fit old edited same told =
    let P : List Part → Type 0 = λ l. All (λ p. AllFit (adhoc_directories (part_bytes edited p)) (part_bytes old p)) l in
    let each = all_of_map (part_checked old) (parts_of old) told in
    subst P (sym same.parts)
    (λ k e here.
    let p : Part = get_or (parts_of old) k e in
    fit_told (part_bytes old p) (part_bytes edited p) (same.each k e here) (each k e here))

-- where the slots hold the hashes of the new pages, these are told to fit
new_fit : (edited new : List ℕ) → InEachPart TellsSameLayout edited new → FitIn edited new → DoAdhocFit new
unfolding parts_checked
new_fit edited new same fits =
    let P : List Part → Type 0 = λ l. All (λ p. IsAdhocFit (part_checked new p)) l in
    All-map IsAdhocFit (part_checked new) (parts_of new)
    (subst P (sym same.parts)
    (λ k e here.
    let p : Part = get_or (parts_of edited) k e in
    told_fit (part_bytes edited p) (part_bytes new p) (same.each k e here) (fits k e here)))

-- where all pages fitted, all fit again
pub touched_fit : (old edited new : List ℕ) → length edited ≡ length old → InEachPart TellsSame old edited → signing_fault (since old) edited ≡ None → IsSigned (since old) edited new → FileShowsSame edited new → DoAdhocFit old → DoAdhocFit new
touched_fit old edited new long same none is shows told =
    new_fit edited new (signed_tells (since old) edited new none is shows)
    (signed_fit old edited new (sym long) none is (old_fit old edited same told))

-- where all slots are made anew, all fit
pub whole_fit : (edited new : List ℕ) → signing_fault all edited ≡ None → IsSigned all edited new → FileShowsSame edited new → DoAdhocFit new
whole_fit edited new none is shows =
    let reads = signing_reads all edited none in
    new_fit edited new (signed_tells all edited new none is shows)
    (λ k e here.
    let p : Part = get_or (parts_of edited) k e in
    whole_at (part_bytes edited p) (part_bytes new p) _ refl (reads k e here) (is.parts k e here))
