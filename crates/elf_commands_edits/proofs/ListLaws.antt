-- What holds of lists of edits.
use Rattle.std.proofs.Common.{◌≡◌, ◌∙◌, ◌+◌, [], ◌∷◌, Bool, ℕ, List, Option, Some, None, Result, Ok, Err, false, arith, map, refl, sym, ap, subst, inl, inr}
use Rattle.arwen_elf.specs.Told.{IsRefusedAt, IsRefusedFor, Refuses, RefusesAt, cause_told}
use Rattle.arwen_elf.specs.ElfError.{ElfError}
use Rattle.arwen_elf.specs.ElfError.TheVariants.{Memory, Modify}
use Rattle.arwen_elf.specs.Taken.{edits_model}
use Rattle.elf_edits.specs.declared.edit.ElfEdit.{ElfEdit}
use Rattle.elf_edits.specs.Batch.{Refusal, answer_at, run, run_from, then_on}
use Rattle.elf_edits.specs.Cause.{Cause}
use Rattle.elf_edits.specs.Edit.{Edit}
use Rattle.elf_edits.specs.Edited.{step}
use Rattle.elf_edits.specs.Laws.{BatchesAreTheirEdits, EditsShow, viewed}
use Rattle.elf_format.specs.declared.header.Header.{Header}
use Rattle.elf_image.specs.Image.{Image, shown}
use Rattle.elf_symbol_edits.specs.Laws.{SymbolEditsKeep}
use Rattle.elf_commands_edits.specs.Groups.{GroupEdit, ListsAreTheirEdits, MakeInTurn, MakesNext, RefuseInTurn, RefuseOrWant, group_model, has_symbols, plain, plain_of, symbols}
use Rattle.elf_commands_lines.specs.declared.groups.GroupEdit.{GroupEdit as GroupHeld}

-- ## What edits keep

record KeepsFile (old new : Image) : Type 0 where
  source : new.source ≡ old.source
  machine : new.header.e_machine ≡ old.header.e_machine

next_keeps : EditsShow → SymbolEditsKeep → (edit : GroupEdit) (old new : Image) → MakesNext edit old new → KeepsFile old new
next_keeps shows keep (plain edit) old new makes =
    let kept = shows.keeps edit old new makes in
    record { source = kept.source; machine = ap (λ (h : Header). h.e_machine) kept.header }
next_keeps shows keep (symbols edit) old new makes =
    let kept = keep.keeps edit old new makes in
    record { source = kept.source; machine = ap (λ (h : Header). h.e_machine) kept.header }

keeps : EditsShow → SymbolEditsKeep → (edits : List GroupEdit) (old new : Image) → MakeInTurn edits old new → KeepsFile old new
keeps shows keep [] old new same = record { source = ap (λ (i : Image). i.source) same; machine = ap (λ (i : Image). i.header.e_machine) same }
keeps shows keep (edit ∷ edits) old new (mid, makes, showed, rest) =
    let first = next_keeps shows keep edit old mid makes in
    let last = keeps shows keep edits mid new rest in
    record { source = last.source ∙ first.source; machine = last.machine ∙ first.machine }

-- ## One image

next_same : (edit : GroupEdit) (old new other : Image) → MakesNext edit old new → MakesNext edit old other → new ≡ other
next_same (plain edit) old new other makes too = let e : Ok new ≡ Ok other = sym makes ∙ too in cc
next_same (symbols edit) old new other makes too = let e : Ok new ≡ Ok other = sym makes ∙ too in cc

same : (edits : List GroupEdit) (old new other : Image) → MakeInTurn edits old new → MakeInTurn edits old other → new ≡ other
same [] old new other is too = is ∙ sym too
same (edit ∷ edits) old new other (mid, makes, showed, rest) (mid', makes', showed', rest') =
    same edits mid new other rest (subst (λ (i : Image). MakeInTurn edits i other) (sym (next_same edit old mid mid' makes makes')) rest')

-- ## A batch

module _ (edit : Edit) (edits : List Edit) (done : ℕ) (old : Image) where
  -- what follows upon the answer to its first edit
  on_first : (answer : Result Image Cause) → step edit old ≡ answer → run_from done (edit ∷ edits) old ≡ then_on (answer_at done answer) (run_from (done + 1) edits)
  unfolding run_from
  on_first answer is = ap (λ (r : Result Image Cause). then_on (answer_at done r) (run_from (done + 1) edits)) is

runs_from : (done : ℕ) (edits : List GroupEdit) (old new : Image) → has_symbols edits ≡ false → MakeInTurn edits old new → run_from done (plain_of edits) old ≡ Ok new
unfolding run_from
runs_from done [] old new none same = ap (λ (i : Image). Ok i) (sym same)
runs_from done (plain edit ∷ edits) old new none (mid, makes, showed, rest) =
    on_first edit (plain_of edits) done old (Ok mid) makes ∙ runs_from (done + 1) edits mid new none rest
runs_from done (symbols edit ∷ edits) old new none made = absurd (cc)

then_made : EditsShow → (done : ℕ) (edit : Edit) (edits : List GroupEdit) (old new : Image) (answer : Result Image Cause) → step edit old ≡ answer
    → ((mid : Image) → run_from (done + 1) (plain_of edits) mid ≡ Ok new → MakeInTurn edits mid new) → then_on (answer_at done answer) (run_from (done + 1) (plain_of edits)) ≡ Ok new → MakeInTurn (plain edit ∷ edits) old new
then_made shows done edit edits old new (Ok mid) is others runs = (mid, is, shows.shows edit old mid is, others mid runs)
then_made shows done edit edits old new (Err cause) is others runs = absurd (cc)

made_from : EditsShow → (done : ℕ) (edits : List GroupEdit) (old new : Image) → has_symbols edits ≡ false → run_from done (plain_of edits) old ≡ Ok new → MakeInTurn edits old new
unfolding run_from
made_from shows done [] old new none runs = let e : Ok old ≡ Ok new = runs in cc
made_from shows done (plain edit ∷ edits) old new none runs =
    then_made shows done edit edits old new (step edit old) refl (λ mid more. made_from shows (done + 1) edits mid new none more) runs
made_from shows done (symbols edit ∷ edits) old new none runs = absurd (cc)

-- ## A refused edit

refused_here : (o : Option Cause) (answer : Result Image Cause) (index done : ℕ) (rest : Image → Result Image Refusal) → index ≡ done → IsRefusedFor o answer → IsRefusedAt index o (then_on (answer_at done answer) rest)
refused_here None answer index done rest is refuses = refuses
refused_here (Some cause) answer index done rest is refuses =
    ap (λ (r : Result Image Cause). then_on (answer_at done r) rest) refuses ∙ ap (λ (n : ℕ). Err (record { index = n; cause = cause })) (sym is)

refused_first : (e : ElfError) (answer : Result Image Cause) (index done : ℕ) (rest : Image → Result Image Refusal) → index ≡ done → Refuses e answer → RefusesAt index e (then_on (answer_at done answer) rest)
refused_first Memory answer index done rest is refuses = tt
refused_first (Modify cause) answer index done rest is refuses = refused_here (cause_told cause) answer index done rest is refuses
refused_first e answer index done rest is refuses = absurd refuses

refused_from : (done : ℕ) (edits : List GroupEdit) (old : Image) (index : ℕ) (e : ElfError) → has_symbols edits ≡ false → RefuseInTurn edits old index e → RefusesAt (index + done) e (run_from done (plain_of edits) old)
refused_from done [] old index e none refuse = absurd refuse
refused_from done (plain edit ∷ edits) old index e none (inl (first, refuses)) =
    let Told : Result Image Refusal → Type 0 = RefusesAt (index + done) e in
    let is : index + done ≡ done = omega arith in
    subst Told (sym (on_first edit (plain_of edits) done old (step edit old) refl)) (refused_first e (step edit old) (index + done) done (run_from (done + 1) (plain_of edits)) is refuses)
refused_from done (plain edit ∷ edits) old index e none (inr (mid, before, behind, makes, refuse)) =
    let Told : Result Image Refusal → Type 0 = RefusesAt (index + done) e in
    let At : ℕ → Type 0 = λ i. RefusesAt i e (run_from (done + 1) (plain_of edits) mid) in
    let is : before + (done + 1) ≡ index + done = omega arith in
    subst Told (sym (on_first edit (plain_of edits) done old (Ok mid) makes)) (subst At is (refused_from (done + 1) edits mid before e none refuse))
refused_from done (symbols edit ∷ edits) old index e none refuse = absurd (cc)

-- the refused edit of a batch, from one edit on
module _ (e : ElfError) (cause : Cause) (tells : (answer : Result Image Cause) → answer ≡ Err cause → Refuses e answer) where
  then_found : (done number : ℕ) (edit : Edit) (edits : List GroupEdit) (old : Image) (answer : Result Image Cause) → step edit old ≡ answer
      → ((mid : Image) → run_from (done + 1) (plain_of edits) mid ≡ Err (record { index = number; cause = cause }) → (index : ℕ) × (number ≡ index + (done + 1)) × RefuseInTurn edits mid index e)
      → then_on (answer_at done answer) (run_from (done + 1) (plain_of edits)) ≡ Err (record { index = number; cause = cause }) → (index : ℕ) × (number ≡ index + done) × RefuseInTurn (plain edit ∷ edits) old index e
  then_found done number edit edits old (Ok mid) is others runs =
      let (before, behind, refuse) = others mid runs in
      (before + 1, omega (arith, behind), inr (mid, before, refl, is, refuse))
  then_found done number edit edits old (Err other) is others runs =
      let first : Refusal = record { index = done; cause = other } in
      let told : Refusal = record { index = number; cause = cause } in
      let same : first ≡ told = cc in
      let here : done ≡ number = ap (λ (r : Refusal). r.index) same in
      (0, omega (arith, here), inl (refl, tells (step edit old) (is ∙ ap (λ (r : Refusal). Err r.cause) same)))

  found_from : (done : ℕ) (edits : List GroupEdit) (old : Image) (number : ℕ) → has_symbols edits ≡ false → run_from done (plain_of edits) old ≡ Err (record { index = number; cause = cause })
      → (index : ℕ) × (number ≡ index + done) × RefuseInTurn edits old index e
  unfolding run_from
  found_from done [] old number none runs = absurd (cc)
  found_from done (plain edit ∷ edits) old number none runs =
      then_found done number edit edits old (step edit old) refl (λ mid more. found_from (done + 1) edits mid number none more) runs
  found_from done (symbols edit ∷ edits) old number none runs = absurd (cc)

  pub found : (edits : List GroupEdit) (old : Image) (index : ℕ) → has_symbols edits ≡ false → run (plain_of edits) old ≡ Err (record { index = index; cause = cause }) → RefuseInTurn edits old index e
  found edits old index none runs =
      let (place, is, refuse) = found_from 0 edits old index none runs in
      let back : place ≡ index = omega (arith, is) in
      subst (λ (i : ℕ). RefuseInTurn edits old i e) back refuse

told_cause : (o : Option Cause) (edits : List GroupEdit) (old : Image) (index : ℕ) (e : ElfError) → ((answer : Result Image Cause) → IsRefusedFor o answer → Refuses e answer)
    → has_symbols edits ≡ false → IsRefusedAt index o (run (plain_of edits) old) → RefuseInTurn edits old index e
told_cause None edits old index e tells none refuses = absurd refuses
told_cause (Some cause) edits old index e tells none refuses = found e cause tells edits old index none refuses

-- an error of a batch is one of its list
pub told_of_batch : (edits : List GroupEdit) (old : Image) (index : ℕ) (e : ElfError) → has_symbols edits ≡ false → RefusesAt index e (run (plain_of edits) old) → RefuseOrWant edits old index e
told_of_batch edits old index Memory none refuses = tt
told_of_batch edits old index (Modify cause) none refuses = told_cause (cause_told cause) edits old index (Modify cause) (λ answer is. is) none refuses
told_of_batch edits old index e none refuses = absurd refuses

-- an edit that is refused is told
pub or_want : (edits : List GroupEdit) (old : Image) (index : ℕ) (e : ElfError) → RefuseInTurn edits old index e → RefuseOrWant edits old index e
or_want edits old index Memory refuse = tt
or_want edits old index e refuse = refuse

-- ## Lists of plain edits

pub no_symbols : (edits : List Edit) → has_symbols (map plain edits) ≡ false
no_symbols [] = refl
no_symbols (edit ∷ edits) = no_symbols edits

pub plain_back : (edits : List Edit) → plain_of (map plain edits) ≡ edits
plain_back [] = refl
plain_back (edit ∷ edits) = ap (λ (l : List Edit). edit ∷ l) (plain_back edits)

all_plain : (edits : List GroupEdit) → has_symbols edits ≡ false → map plain (plain_of edits) ≡ edits
all_plain [] none = refl
all_plain (plain edit ∷ edits) none = ap (λ (l : List GroupEdit). plain edit ∷ l) (all_plain edits none)
all_plain (symbols edit ∷ edits) none = absurd (cc)

-- a list that was looked at, and the batch that it is
pub is_batch : (edits seen : List GroupHeld) (batch lent : List ElfEdit) (b : Bool) → seen ≡ edits → b ≡ has_symbols (map group_model seen) → b ≡ false → lent ≡ batch → edits_model batch ≡ plain_of (map group_model edits)
    → map plain (edits_model lent) ≡ map group_model edits
is_batch edits seen batch lent b look has none same are =
    ap (λ (l : List ElfEdit). map plain (edits_model l)) same
    ∙ ap (λ (l : List Edit). map plain l) are
    ∙ all_plain (map group_model edits) (ap (λ (l : List GroupHeld). has_symbols (map group_model l)) (sym look) ∙ sym has ∙ none)

-- ## The law

pub lists_are_their_edits : EditsShow → BatchesAreTheirEdits → SymbolEditsKeep → ListsAreTheirEdits
lists_are_their_edits shows batches keep = record {
  source = λ edits old new make. (keeps shows keep edits old new make).source;
  same = same;
  one = λ edit old new is. (new, is, shows.shows edit old new is, refl);
  runs = runs_from 0;
  made = made_from shows 0;
  shows = λ edits old new none make.
      let seen = batches.shows (plain_of edits) old new (runs_from 0 edits old new none make) in
      seen ∙ ap (λ (m : ℕ). viewed m (plain_of edits) (shown old)) (sym (keeps shows keep edits old new make).machine);
  refused = λ edits old index e none refuse.
      let is : index + 0 ≡ index = omega arith in
      subst (λ (i : ℕ). RefusesAt i e (run (plain_of edits) old)) is (refused_from 0 edits old index e none refuse);
}
