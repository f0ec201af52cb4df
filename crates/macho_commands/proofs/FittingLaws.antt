-- What commands leave of code signatures.
use Rattle.std.proofs.Common.{◌≡◌, ◌≢◌, ◌==◌, ℕ, true, false, List, [], ◌∷◌, length, map, None, refl, sym, ap, ◌∙◌, subst, arith}
use Rattle.std.specs.List.{All, list_all}
use Rattle.std.proofs.lemmas.Bool.{and_from, and_parts, eqb-true}
use Rattle.std.proofs.lemmas.List.Elements.{All-cons, All-head, All-map, All-nil, All-tail}
use Rattle.macho_signatures.specs.declared.pages.UnfitPage.{UnfitPage}
use Rattle.macho_signing.specs.Check.{Found, checking_fault, part_checked, parts_checked}
use Rattle.macho_signing.specs.File.{part_bytes, parts_of}
use Rattle.macho_signing.specs.Thin.{Pages, all, has_identity, since}
use Rattle.macho_signing.specs.declared.file.Part.{Part}
use Rattle.macho_commands_stores.specs.Kept.{DoAdhocFit, InEachPart, IsAdhocNamedApart, TellsSame, TellsSameLayout, TellsSamePlace}
use Rattle.macho_commands_stores.specs.Verdicts.{has_none}
use Rattle.macho_commands_stores.proofs.ForCallers.{IsKept, behind_ends, each_after, each_weaker, edit_keeps, edit_long, edit_reads, edited_keeps, edited_tells, layouts_after, named_apart, read_ends, signed_tells, signing_ends, slots_read, tells_after, touched_fit, whole_fit}
use Rattle.macho_commands.specs.Engine.{Asked, ShowsBy, ShowsEdited, ShowsSigned, asked, signs_of}
use Rattle.macho_commands.specs.Fitting.{EditTellsPlace, EditKeepsSignatures, ReadEditKeepsSignatures, SigningFits, SigningReads, SigningTellsSame, SigningVerifies, WholeFits}
use Rattle.macho_commands.specs.Verifying.{do_pages_fit}
use Rattle.macho_commands.specs.declared.signing.Signs.{Signs}
use Rattle.macho_commands.specs.declared.signing.Signs.TheVariants.{Nothing, Touched, Whole}

-- ## Edits

kept_of : (a : Asked) (file new : List ℕ) → ShowsEdited a file new → InEachPart IsKept file new
kept_of a file new shows = edit_keeps shows.calls file new shows.made shows.step shows.bytes shows.shows

long_of : (a : Asked) (file new : List ℕ) → ShowsEdited a file new → length new ≡ length file
long_of a file new shows = edit_long shows.calls file new shows.made shows.step shows.shows

-- ## Slots that are made anew behind them

module _ (pages : Pages) (a : Asked) (file new : List ℕ) (shows : ShowsSigned pages a file new) where
  kept_signed : InEachPart IsKept file shows.edited
  kept_signed = kept_of a file shows.edited shows.shows

  layouts_signed : InEachPart TellsSameLayout shows.edited new
  layouts_signed = signed_tells pages shows.edited new shows.passes shows.signed shows.same

  tells_edited : checking_fault file ≡ None → InEachPart TellsSame file shows.edited
  tells_edited none = edited_tells file shows.edited kept_signed none (signing_ends pages shows.edited shows.passes)

  tells_signed : checking_fault file ≡ None → InEachPart TellsSameLayout file new
  tells_signed none =
      each_after TellsSame TellsSameLayout TellsSameLayout file shows.edited new layouts_after (tells_edited none) layouts_signed

  reads_signed : checking_fault file ≡ None → All IsAdhocNamedApart (parts_checked file) → (checking_fault new ≡ None) × InEachPart TellsSame file new
  reads_signed none apart =
      let first : InEachPart TellsSame file shows.edited = tells_edited none in
      let next = slots_read pages shows.edited new shows.passes shows.signed shows.same (named_apart file shows.edited first apart) in
      (next.0, each_after TellsSame TellsSame TellsSame file shows.edited new tells_after first next.1)

  place_signed : InEachPart TellsSamePlace file new
  place_signed =
      each_after IsKept TellsSameLayout TellsSamePlace file shows.edited new (λ x y z first next. next.place ∙ first.place) kept_signed layouts_signed

place_by : (signs : Signs) (a : Asked) (file new : List ℕ) → ShowsBy signs a file new → InEachPart TellsSamePlace file new
place_by Nothing a file new shows = each_weaker IsKept TellsSamePlace file new (λ x y kept. kept.place) (kept_of a file new shows)
place_by Touched a file new shows = place_signed (since file) a file new shows
place_by Whole a file new shows = place_signed all a file new shows

tells_by : (signs : Signs) (a : Asked) (file new : List ℕ) → signs ≢ Nothing → ShowsBy signs a file new → checking_fault file ≡ None → InEachPart TellsSameLayout file new
tells_by Nothing a file new signing shows none = absurd (signing refl)
tells_by Touched a file new signing shows none = tells_signed (since file) a file new shows none
tells_by Whole a file new signing shows none = tells_signed all a file new shows none

reads_by : (signs : Signs) (a : Asked) (file new : List ℕ) → signs ≢ Nothing → ShowsBy signs a file new → checking_fault file ≡ None → All IsAdhocNamedApart (parts_checked file) → (checking_fault new ≡ None) × InEachPart TellsSame file new
reads_by Nothing a file new signing shows none apart = absurd (signing refl)
reads_by Touched a file new signing shows none apart = reads_signed (since file) a file new shows none apart
reads_by Whole a file new signing shows none apart = reads_signed all a file new shows none apart

fits_by : (signs : Signs) (a : Asked) (file new : List ℕ) → signs ≢ Nothing → ShowsBy signs a file new → checking_fault file ≡ None → DoAdhocFit file → DoAdhocFit new
fits_by Nothing a file new signing shows none told = absurd (signing refl)
fits_by Touched a file new signing shows none told =
    touched_fit file shows.edited new (long_of a file shows.edited shows.shows) (tells_edited (since file) a file new shows none)
    shows.passes shows.signed shows.same told
fits_by Whole a file new signing shows none told = whole_fit shows.edited new shows.passes shows.signed shows.same

-- ## Whether all pages fit

empty : (l : List UnfitPage) → length l ≡ 0 → l ≡ []
empty [] none = refl
empty (page ∷ l) none = absurd (omega (arith, none))

all_none : (founds : List Found) → list_all has_none founds ≡ true → All (λ f. f.unfit ≡ []) founds
all_none [] fit = All-nil (λ f. f.unfit ≡ [])
all_none (f ∷ founds) fit =
    let both = and_parts (has_none f) (list_all has_none founds) fit in
    All-cons (λ g. g.unfit ≡ []) f founds (empty f.unfit (eqb-true (length f.unfit) 0 both.0)) (all_none founds both.1)

none_all : (founds : List Found) → All (λ f. f.unfit ≡ []) founds → list_all has_none founds ≡ true
none_all [] fit = refl
none_all (f ∷ founds) fit =
    let here : f.unfit ≡ [] = All-head (λ g. g.unfit ≡ []) f founds fit in
    let is : has_none f ≡ true = ap (λ (l : List UnfitPage). length l == 0) here in
    and_from (has_none f) (list_all has_none founds) is (none_all founds (All-tail (λ g. g.unfit ≡ []) f founds fit))

all_of_map : (P : Found → Type 0) (f : Part → Found) (parts : List Part) → All P (map f parts) → All (λ p. P (f p)) parts
all_of_map P f [] told = All-nil (λ p. P (f p))
all_of_map P f (p ∷ parts) told =
    All-cons (λ q. P (f q)) p parts (All-head P (f p) (map f parts) told) (all_of_map P f parts (All-tail P (f p) (map f parts) told))

-- no identity signed a part of a file that tells the same
identities : (file new : List ℕ) → InEachPart TellsSameLayout file new → All (λ f. f.has_identity ≡ false) (parts_checked file) → All (λ f. f.has_identity ≡ false) (parts_checked new)
unfolding parts_checked
identities file new same adhoc =
    let P : List Part → Type 0 = λ l. All (λ p. has_identity (part_bytes new p) ≡ false) l in
    let each = all_of_map (λ f. f.has_identity ≡ false) (part_checked file) (parts_of file) adhoc in
    All-map (λ f. f.has_identity ≡ false) (part_checked new) (parts_of new)
    (subst P (sym same.parts) (λ k e here. (same.each k e here).identity ∙ each k e here))

verifies : (file new : List ℕ) → InEachPart TellsSameLayout file new → (DoAdhocFit file → DoAdhocFit new) → All (λ f. f.has_identity ≡ false) (parts_checked file) → do_pages_fit file ≡ true → do_pages_fit new ≡ true
unfolding do_pages_fit
verifies file new same fits adhoc fit =
    let old_none = all_none (parts_checked file) fit in
    let told = fits (λ k e here _. old_none k e here) in
    let still = identities file new same adhoc in
    none_all (parts_checked new) (λ k e here. told k e here (still k e here))

-- ## The laws

pub signing_fits : SigningFits
signing_fits choice meaning file new signing shows none told = fits_by (signs_of choice meaning) (asked meaning) file new signing shows none told

pub signing_tells_same : SigningTellsSame
signing_tells_same choice meaning file new signing shows none = tells_by (signs_of choice meaning) (asked meaning) file new signing shows none

pub signing_verifies : SigningVerifies
signing_verifies choice meaning file new signing shows none adhoc fit =
    verifies file new (signing_tells_same choice meaning file new signing shows none) (signing_fits choice meaning file new signing shows none) adhoc fit

pub signing_reads : SigningReads
signing_reads choice meaning file new signing shows none apart = reads_by (signs_of choice meaning) (asked meaning) file new signing shows none apart

pub whole_fits : WholeFits
whole_fits choice path file new shows = whole_fit shows.edited new shows.passes shows.signed shows.same

pub edit_tells_place : EditTellsPlace
edit_tells_place choice meaning file new shows = place_by (signs_of choice meaning) (asked meaning) file new shows

plain_of : (signs : Signs) (a : Asked) (file new : List ℕ) → signs ≡ Nothing → ShowsBy signs a file new → ShowsEdited a file new
plain_of signs a file new is shows = let P : Signs → Type 0 = λ s. ShowsBy s a file new in subst P is shows

pub edit_keeps_signatures : EditKeepsSignatures
edit_keeps_signatures choice meaning file new plain shows none behind =
    let edited = plain_of (signs_of choice meaning) (asked meaning) file new plain shows in
    let kept = kept_of (asked meaning) file new edited in
    let ends = behind_ends file new kept none behind in
    (edit_reads file new edited.shows.accepted kept none ends, edited_keeps file new kept none ends)

pub read_edit_keeps_signatures : ReadEditKeepsSignatures
read_edit_keeps_signatures choice meaning file new plain shows none read =
    let kept = kept_of (asked meaning) file new (plain_of (signs_of choice meaning) (asked meaning) file new plain shows) in
    edited_keeps file new kept none (read_ends new read)
