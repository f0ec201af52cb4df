-- What signing makes of edits.
use Rattle.std.proofs.Common.{◌≡◌, ◌≢◌, ◌∙◌, ℕ, List, [], ◌∷◌, length, None, ap, arith, refl, subst, sym}
use Rattle.std.specs.List.{All}
use Rattle.macho_commands_stores.proofs.PieceLaws.{length-put_at}
use Rattle.std.proofs.lemmas.List.Elements.{All-head, All-tail}
use Rattle.arwen_macho.specs.declared.front.Front.{Front}
use Rattle.arwen_macho.specs.Fronts.{LiesIn, fronts_on}
use Rattle.macho_signatures.specs.Renewed.{SlotLies, laid}
use Rattle.macho_signatures.specs.declared.renewal.Slot.{Slot}
use Rattle.macho_signing.specs.File.{signed_slots, signing_fault}
use Rattle.macho_signing.specs.Thin.{Pages, all, since}
use Rattle.macho_signing.specs.declared.file.NewSlots.{NewSlots}
use Rattle.macho_commands.specs.Engine.{Asked, IsSigningError, Outcome, SignsBy, Tells, WritesBy, WritesEdits, outcome_by, outcome_of, pages_by, sign_on, signed_or}
use Rattle.macho_commands.specs.Engine.Outcome.{bytes, no_edits, no_file, not_signed, refused, refused_batch}
use Rattle.macho_commands.specs.declared.error.MachoCommandError.{MachoCommandError}
use Rattle.macho_commands.specs.declared.error.MachoCommandError.TheVariants.{Edits, Io, Macho, MachoBatch, Memory, Signing as signing, Unfit}
use Rattle.macho_commands.specs.declared.signing.Signs.{Signs}
use Rattle.macho_commands.specs.declared.signing.Signs.TheVariants.{Nothing, Touched, Whole}

-- ## Errors

tells_on : (pages : Pages) (o : Outcome) (e : MachoCommandError) → Tells o e → Tells (sign_on pages o) e
tells_on pages (bytes new) Memory tells = tt
tells_on pages (bytes new) (Macho e) tells = absurd tells
tells_on pages (bytes new) (MachoBatch e) tells = absurd tells
tells_on pages (bytes new) (Edits wrong) tells = absurd (let is : bytes new ≡ no_edits wrong = tells in cc)
tells_on pages (bytes new) (signing fault) tells = absurd (let is : bytes new ≡ not_signed fault = tells in cc)
tells_on pages (bytes new) Unfit tells = absurd tells
tells_on pages (bytes new) (Io e) tells = absurd tells
tells_on pages (no_edits wrong) e tells = tells
tells_on pages (no_file found) e tells = tells
tells_on pages (refused refusal) e tells = tells
tells_on pages (refused_batch refusal) e tells = tells
tells_on pages (not_signed fault) e tells = tells

-- an error of the edits is one of what is signed
pub tells_signed : (signs : Signs) (a : Asked) (file : List ℕ) (e : MachoCommandError) → Tells (outcome_of a file) e → Tells (outcome_by signs a file) e
tells_signed Nothing a file e tells = tells
tells_signed Touched a file e tells = tells_on (since file) (outcome_of a file) e tells
tells_signed Whole a file e tells = tells_on all (outcome_of a file) e tells

fault_is : (pages : Pages) (o : Outcome) (edited : List ℕ) (e : MachoCommandError) → o ≡ bytes edited → IsSigningError pages edited e → Tells (sign_on pages o) e
fault_is pages o edited Memory is wrong = tt
fault_is pages o edited (Macho e) is wrong = absurd wrong
fault_is pages o edited (MachoBatch e) is wrong = absurd wrong
fault_is pages o edited (Edits e) is wrong = absurd wrong
fault_is pages o edited (signing fault) is wrong = ap (sign_on pages) is ∙ ap (λ f. signed_or f (laid (signed_slots pages edited) edited)) wrong
fault_is pages o edited Unfit is wrong = absurd wrong
fault_is pages o edited (Io e) is wrong = absurd wrong

-- ## What is written

pub length-fronts_on : (fronts : List Front) (file : List ℕ) → All (LiesIn (length file)) fronts → length (fronts_on fronts file) ≡ length file
length-fronts_on [] file inside = refl
length-fronts_on (front ∷ fronts) file inside =
    let rest = length-fronts_on fronts file (All-tail (LiesIn (length file)) front fronts inside) in
    let here = All-head (LiesIn (length file)) front fronts inside in
    length-put_at front.offset front.bytes.items (fronts_on fronts file) (omega (arith, rest, here)) ∙ rest

pub made_is : (pages : Pages) (o : Outcome) (edited : List ℕ) (slots : List Slot) → o ≡ bytes edited → signing_fault pages edited ≡ None → slots ≡ signed_slots pages edited → sign_on pages o ≡ bytes (laid slots edited)
made_is pages o edited slots is none made =
    ap (sign_on pages) is ∙ ap (λ f. signed_or f (laid (signed_slots pages edited) edited)) none
    ∙ ap (λ (l : List Slot). bytes (laid l edited)) (sym made)

pub writes_signed : (signs : Signs) (a : Asked) (file : List ℕ) (fronts : List Front) (new : NewSlots) → signs ≢ Nothing → WritesEdits a file fronts → SignsBy (pages_by signs file) (fronts_on fronts file) new → WritesBy signs a file fronts new.slots.items
writes_signed Nothing a file fronts new other writes by = absurd (other refl)
writes_signed Touched a file fronts new other writes by =
    let P : ℕ → Type 0 = λ n. All (SlotLies n) new.slots.items in
    record {
      inside = writes.inside;
      slots_inside = subst P (length-fronts_on fronts file writes.inside) by.inside;
      is = made_is (since file) (outcome_of a file) (fronts_on fronts file) new.slots.items writes.is by.passes by.is;
      shows = record { edited = fronts_on fronts file; shows = writes.shows; passes = by.passes; signed = by.signed; same = by.same };
    }
writes_signed Whole a file fronts new other writes by =
    let P : ℕ → Type 0 = λ n. All (SlotLies n) new.slots.items in
    record {
      inside = writes.inside;
      slots_inside = subst P (length-fronts_on fronts file writes.inside) by.inside;
      is = made_is all (outcome_of a file) (fronts_on fronts file) new.slots.items writes.is by.passes by.is;
      shows = record { edited = fronts_on fronts file; shows = writes.shows; passes = by.passes; signed = by.signed; same = by.same };
    }
