-- What edits of an ELF file make and show, and which answers tell why there are no bytes.
use Rattle.std.proofs.Common.{◌≡◌, ◌∙◌, [], ◌∷◌, ℕ, List, Option, Some, Result, Ok, Err, false, refl, sym, ap, subst, inl, inr}
use Rattle.std.proofs.lemmas.Option.{none-some, same_Some}
use Rattle.std.specs.Prelude.{IfOk, IsOkAnd}
use Rattle.std.specs.declared.alloc.Global.{Global}
use Rattle.std.specs.declared.vec.Vec.{Vec}
use Rattle.elf_image.specs.Image.{Image, image_of, shown}
use Rattle.elf_image.specs.ReadImage.{ReadImagesHoldParts}
use Rattle.elf_edits.specs.Edit.{Edit}
use Rattle.elf_edits.specs.Edited.{step}
use Rattle.elf_commands_edits.specs.Groups.{GroupEdit, ListsAreTheirEdits, MakeInTurn, RefuseOrWant, TellsInTurn, plain, symbols}
use Rattle.elf_commands_edits.specs.Prints.{FailsPrint}
use Rattle.elf_commands_edits.specs.Told.{Refuses}
use Rattle.elf_commands_edits.specs.WriterModel.{ShowsBothViews}
use Rattle.elf_commands_edits.specs.Written.{IsImageWritten, IsNoImage}
use Rattle.elf_commands_edits.specs.WrittenFile.{IsWrittenOf}
use Rattle.elf_commands_edits.specs.ElfBatchError.{ElfBatchError}
use Rattle.elf_commands_edits.specs.ElfError.{ElfError}
use Rattle.elf_commands_edits.specs.ElfError.TheVariants as elf
use Rattle.elf_commands_lines.specs.ElfAsked.{ElfAsked, edits_asked, elf_asked, one, printing, several, shrinking}
use Rattle.elf_commands.specs.ElfStores.{ChangesNothing}
use Rattle.elf_commands_lines.specs.ElfWords.{group_edit_asked}
use Rattle.byte_store.specs.Composed.{made_of}
use Rattle.byte_store.specs.declared.composed.Difference.{Difference}
use Rattle.command_words.specs.Rows.{Text}
use Rattle.elf_commands_edits.specs.Images.{AreChanged, TellsNoImage}
use Rattle.elf_commands.specs.ElfEngine.{IsEditedBy, IsEditedTo, Makes, MayFailAs, ShowsEdits, TellsEachFile, TellsEdit, TellsElfOf, TellsRefusedAt, TellsRun, as_asked, with_no_number}
use Rattle.elf_commands_edits.specs.ElfErrors.{answer_to_elf, answer_to_elf_batch, answer_to_elf_fault}
use Rattle.elf_commands_lines.specs.Meaning.{ElfMeaning, edit_elf, symbols_elf}
use Rattle.elf_commands.specs.Prints.{PrintMayFail, TellsElf, printed}
use Rattle.elf_commands_edits.specs.declared.error.ElfCommandError.{ElfCommandError}
use Rattle.elf_commands_edits.specs.declared.error.ElfCommandError.TheVariants.{Edits, Elf, ElfBatch, Io, Memory}

-- what holds of an answer that is there holds of any
pub if_ok_and : {A E : Type 0} (P : A → Type 0) (r : Result A E) → IsOkAnd r P → IfOk r P
if_ok_and P (Ok a) holds = holds
if_ok_and P (Err e) holds = tt

-- a command that names one edit asks for it
pub asks_one : (meaning : ElfMeaning) (edit : GroupEdit) → Some edit ≡ group_edit_asked meaning → elf_asked meaning ≡ one edit
asks_one (edit_elf asked path) edit h = ap one (same_Some (plain asked) edit (sym h))
asks_one (symbols_elf asked path) edit h = ap one (same_Some (symbols asked) edit (sym h))
asks_one _ edit h = absurd (none-some edit (sym h))

-- ## What they make

module _ (lists : ListsAreTheirEdits) (edits : List GroupEdit) (file : List ℕ) (read made : Image) (is : image_of file ≡ Ok read) (make : MakeInTurn edits read made) where
  -- an image that was read, and then edited, has the file as its source
  pub source_is : ReadImagesHoldParts → made.source ≡ file
  source_is hold_parts =
      let (p, accepted, parts, rules, holds) = hold_parts file read is in
      lists.source edits read made make ∙ holds.source ∙ parts.same_file

  pub made_of_edits : Makes edits file made
  made_of_edits = record { read = read; is_read = is; make = make }

  shows_edits : (new : List ℕ) → ShowsBothViews file read → IsWrittenOf made new → ShowsEdits edits file new made
  shows_edits new views written = record {
    read = read;
    is_read = is;
    was_shown = views.0;
    make = make;
    is_viewed = λ none. lists.shows edits read made none make;
    at_read = written.read;
    was_read = written.was_read;
    by_sections = written.by_sections;
    by_loader = written.by_loader;
  }

  -- what the edited image is written to
  edited_to : (new : List ℕ) → ShowsBothViews file read → IsImageWritten made new → IsEditedTo edits file new
  edited_to new views written = record {
    made = made;
    makes = made_of_edits;
    written = written;
    shows = λ other. shows_edits new views (written.edited other);
  }

  -- the answer for an edited image is that for its file
  pub edited_by : (answer : Option (Vec ℕ Global)) → ShowsBothViews file read → AreChanged made answer → IsEditedBy edits file answer
  edited_by answer views changed = record {
    made = made;
    makes = made_of_edits;
    unchanged = changed.same;
    changed = λ other.
        let (new, is_new, written) = changed.other other in
        (new, is_new, written, shows_edits new.items views written);
  }

  -- a difference that makes the bytes of the edited image
  pub pieces_made : (d : Difference) → ShowsBothViews file read → made.source ≡ file → IsImageWritten made (made_of made.source d) → IsEditedTo edits file (made_of file d)
  pieces_made d views source written =
      let P : List ℕ → Type 0 = λ l. IsImageWritten made (made_of l d) in
      edited_to (made_of file d) views (subst P source written)

  -- where the edits find nothing to change, no image that they make is marked
  pub stays_unmarked : ChangesNothing (several (Ok edits)) file → made.changed ≡ false
  stays_unmarked nothing =
      let first = same_Some edits nothing.edits nothing.are in
      let started : Ok read ≡ Ok nothing.makes.read = sym is ∙ nothing.makes.is_read in
      let at : read ≡ nothing.makes.read = cc in
      let Other : List GroupEdit → Type 0 = λ l. MakeInTurn l read nothing.made in
      let other = subst Other (sym first) (subst (λ (i : Image). MakeInTurn nothing.edits i nothing.made) (sym at) nothing.makes.make) in
      ap (λ (i : Image). i.changed) (lists.same edits read made nothing.made make other) ∙ nothing.same

-- ## Why there are no bytes

several_refused : (edits : List GroupEdit) (file : List ℕ) (read : Image) (e : ElfBatchError) (fault : ElfError) → e.fault ≡ fault → image_of file ≡ Ok read → RefuseOrWant edits read e.index fault
    → TellsEdit (several (Ok edits)) file (answer_to_elf_fault e fault)
several_refused edits file read e elf.Memory same is refuse = tt
several_refused edits file read e fault same is refuse =
    let Told : ElfError → Type 0 = TellsRefusedAt edits file e.index in
    subst Told (sym same) (record { read = read; is_read = is; refused = refuse })

-- an edit is refused
pub tells_refused : (edits : List GroupEdit) (file : List ℕ) (read : Image) (e : ElfBatchError) → image_of file ≡ Ok read → TellsInTurn edits read e → TellsEdit (several (Ok edits)) file (answer_to_elf_batch e)
tells_refused edits file read e is refuse = several_refused edits file read e e.fault refl is refuse

pub one_refused : (edit : Edit) (file : List ℕ) (read : Image) (e : ElfError) → image_of file ≡ Ok read → Refuses e (step edit read) → TellsEdit (one (plain edit)) file (answer_to_elf e)
one_refused edit file read elf.Memory is refuses = tt
one_refused edit file read e is refuses = inr (inl (0, record { read = read; is_read = is; refused = inl (refl, refuses) }))

-- the edited image has no bytes
pub one_unwritten : (edit : GroupEdit) (file : List ℕ) (made : Image) (e : ElfError) → Makes (edit ∷ []) file made → IsNoImage made e → TellsEdit (one edit) file (answer_to_elf e)
one_unwritten edit file made elf.Memory makes none = tt
one_unwritten edit file made e makes none = inr (inr (record { made = made; makes = makes; none = none }))

several_unwritten : (edits : List GroupEdit) (file : List ℕ) (made : Image) (e : ElfError) → Makes edits file made → IsNoImage made e → TellsEdit (several (Ok edits)) file (answer_to_elf e)
several_unwritten edits file made elf.Memory makes none = tt
several_unwritten edits file made e makes none = inr (record { made = made; makes = makes; none = none })

pub tells_no_bytes : (edits : List GroupEdit) (file : List ℕ) (made : Image) (e : ElfCommandError) → Makes edits file made → TellsNoImage made e → TellsEdit (several (Ok edits)) file e
tells_no_bytes edits file made e makes told =
    let P : ElfCommandError → Type 0 = λ x. TellsEdit (several (Ok edits)) file x in subst P (sym told.2) (several_unwritten edits file made told.0 makes told.1)

-- ## What an error of several edits tells of the one that was asked for

fault_of_one : (edit : GroupEdit) (file : List ℕ) (e : ElfError) → TellsElfOf (several (Ok (edit ∷ []))) file e → TellsElfOf (one edit) file e
fault_of_one edit file elf.Memory tells = tells
fault_of_one edit file e tells = elim tells [ inl unread ↦ inl unread | inr none ↦ inr (inr none) ]

refused_at_one : (edit : GroupEdit) (file : List ℕ) (index : ℕ) (e : ElfError) → TellsRefusedAt (edit ∷ []) file index e → TellsEdit (one edit) file (answer_to_elf e)
refused_at_one edit file index elf.Memory tells = tt
refused_at_one edit file index e tells = inr (inl (index, tells))

told_of_one : (edit : GroupEdit) (file : List ℕ) (e : ElfCommandError) → TellsEdit (several (Ok (edit ∷ []))) file e → TellsEdit (one edit) file (with_no_number e)
told_of_one edit file Memory tells = tt
told_of_one edit file (Edits wrong) tells = absurd (cc)
told_of_one edit file (Elf e) tells = fault_of_one edit file e tells
told_of_one edit file (ElfBatch e) tells = refused_at_one edit file e.index e.fault tells
told_of_one edit file (Io e) tells = absurd tells

-- an error of the edits is one of the command that asks for them
pub told_as_asked : (a : ElfAsked) (edits : List GroupEdit) (file : List ℕ) (e : ElfCommandError) → edits_asked a ≡ Some edits → TellsEdit (several (Ok edits)) file e → TellsEdit a file (as_asked a e)
told_as_asked (one edit) edits file e are tells =
    told_of_one edit file e (subst (λ (l : List GroupEdit). TellsEdit (several (Ok l)) file e) (sym (same_Some (edit ∷ []) edits are)) tells)
told_as_asked (several (Ok asked)) edits file e are tells = subst (λ (l : List GroupEdit). TellsEdit (several (Ok l)) file e) (sym (same_Some asked edits are)) tells
told_as_asked _ edits file e are tells = absurd (none-some edits are)

-- ## A run

-- an accepted file isn't printed
module _ {W : Type 0} (contents : W → Option (List ℕ)) (meaning : ElfMeaning) (file : List ℕ) where
  pub tells_unprinted : (read : Image) (old new : W) (e : ElfError) → image_of file ≡ Ok read → FailsPrint contents (printed meaning (shown read)) old new e → TellsElf contents meaning (image_of file) old new (answer_to_elf e)
  tells_unprinted read old new elf.Memory is fails = fails
  tells_unprinted read old new (elf.Io e) is fails = (read, is, fails)
  tells_unprinted read old new e is fails = absurd fails

-- a command that prints has no edit that could fail
no_fault : (file : List ℕ) (e : ElfError) → TellsElfOf printing file e → ⊥
no_fault file elf.Memory tells = tells
no_fault file e tells = tells

-- nor has one that asks first what is found
no_fault_yet : (prefixes : List Text) (file : List ℕ) (e : ElfError) → TellsElfOf (shrinking prefixes) file e → ⊥
no_fault_yet prefixes file elf.Memory tells = tells
no_fault_yet prefixes file e tells = tells

-- so it tells a want of memory alone
pub only_memory : (prefixes : List Text) (file : List ℕ) (e : ElfCommandError) → TellsEdit (shrinking prefixes) file e → e ≡ Memory
only_memory prefixes file Memory tells = refl
only_memory prefixes file (Edits wrong) tells = absurd (cc)
only_memory prefixes file (Elf e) tells = absurd (no_fault_yet prefixes file e tells)
only_memory prefixes file (ElfBatch e) tells = absurd tells
only_memory prefixes file (Io e) tells = absurd tells

prints_memory : (file : List ℕ) (e : ElfCommandError) → TellsEdit printing file e → e ≡ Memory
prints_memory file Memory tells = refl
prints_memory file (Edits wrong) tells = absurd (cc)
prints_memory file (Elf e) tells = absurd (no_fault file e tells)
prints_memory file (ElfBatch e) tells = absurd tells
prints_memory file (Io e) tells = absurd tells

-- an error of reading edits
module _ {W : Type 0} (contents : W → Option (List ℕ)) (meaning : ElfMeaning) (file : List ℕ) where
  pub tells_words : (a : ElfAsked) (old new : W) (e : ElfCommandError) → new ≡ old → TellsEachFile a e → TellsRun contents meaning a file old new e
  tells_words (one edit) old new e same tells = (same, tells file)
  tells_words (several read) old new e same tells = (same, tells file)
  tells_words (shrinking prefixes) old new e same tells =
      let P : ElfCommandError → Type 0 = λ x. TellsElf contents meaning (image_of file) old new x in subst P (sym (only_memory prefixes file e (tells file))) same
  tells_words printing old new e same tells =
      let P : ElfCommandError → Type 0 = λ x. TellsElf contents meaning (image_of file) old new x in subst P (sym (prints_memory file e (tells file))) same

-- ## Why a command may fail

-- an error that tells of some file
pub may_fail : (a : ElfAsked) (file : List ℕ) (e : ElfCommandError) → TellsEdit a file e → MayFailAs a e
may_fail printing file e tells = subst PrintMayFail (sym (prints_memory file e tells)) tt
may_fail (shrinking prefixes) file e tells =
    let P : ElfCommandError → Type 0 = λ x. MayFailAs (shrinking prefixes) x in subst P (sym (only_memory prefixes file e tells)) tt
may_fail a file Memory tells = tt
may_fail a file (Io e) tells = tt
may_fail a file e tells = (file, ([], tells))
