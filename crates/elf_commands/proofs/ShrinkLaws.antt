-- What comes of run paths that shrink.
use Rattle.std.proofs.Common.{◌≡◌, ◌≤◌, [], ◌∷◌, ◌∙◌, ℕ, List, Option, Some, Ok, arith, length, map, refl, sym, ap, subst, take, inl, inr}
use Rattle.std.proofs.lemmas.List.{take_all}
use Rattle.std.specs.Io.KnownBytes.{Appends}
use Rattle.std.specs.declared.alloc.Global.{Global}
use Rattle.std.specs.declared.io.Error.{Error}
use Rattle.std.specs.declared.vec.Vec.{Vec}
use Rattle.byte_store.proofs.CauseLaws.{ended_later}
use Rattle.byte_store.specs.Causes.{IsNotWritten}
use Rattle.byte_store.specs.Composed.{IsDifference, IsNotMade, made_of}
use Rattle.byte_store.specs.Known.{Becomes, IsAll}
use Rattle.byte_store.specs.declared.composed.Difference.{Difference}
use Rattle.byte_store.specs.declared.difference.ReplaceError.{ReplaceError}
use Rattle.byte_store.specs.declared.difference.ReplaceError.TheVariants as replace
use Rattle.elf_edits.specs.Edit.{Answer, Edit, ShrinkRpath}
use Rattle.elf_edits.specs.Edited.{step}
use Rattle.elf_commands_edits.specs.ShrinkModel.{removal_model}
use Rattle.elf_commands_edits.specs.Removed.{Removed}
use Rattle.elf_commands_edits.specs.Groups.{ListsAreTheirEdits, plain}
use Rattle.elf_image.specs.Image.{Image, image_of, shown}
use Rattle.elf_image.specs.ReadImage.{ReadImagesHoldParts}
use Rattle.elf_commands_edits.specs.WriterModel.{ShowsBothViews}
use Rattle.elf_commands_edits.specs.Written.{IsImageWritten, IsNoImage}
use Rattle.elf_commands_edits.specs.ElfError.{ElfError}
use Rattle.elf_commands_edits.specs.ElfError.TheVariants as elf
use Rattle.elf_commands_lines.specs.ElfAsked.{one, shrinking}
use Rattle.elf_commands_edits.specs.Images.{AreChanged, TellsNoImage}
use Rattle.elf_commands.specs.ElfEngine.{IsElfEdited, LeavesElf, MayFailAs, TellsEdit}
use Rattle.elf_commands.specs.ElfStores.{WritesEnd}
use Rattle.elf_commands_edits.specs.ElfErrors.{answer_to_elf, answer_to_replaced}
use Rattle.command_words.specs.Rows.{Text}
use Rattle.elf_commands_edits.specs.ShrunkImages.{IsRemovalTold, IsShrunkImage, Steps, TellsUnshrunk, TellsUntold}
use Rattle.elf_commands.specs.ShrinkRuns.{AreFoundIn, FailsShrink, GetsFirst, IsQuiet, IsShrunkBy, RunsShrink, ShrinksStore, TellsShrink, TellsShrunk}
use Rattle.elf_commands_edits.specs.Shrinking.{AreFound, Finding, removal_lines}
use Rattle.elf_commands_edits.specs.declared.error.ElfCommandError.{ElfCommandError}
use Rattle.elf_commands_edits.specs.declared.error.ElfCommandError.TheVariants.{Io, Memory}
use Rattle.elf_commands.proofs.ElfOutcomes.{edited_by, made_of_edits, one_refused, one_unwritten, pieces_made, source_is}

-- ## What errors tell

pub tells_unmade : (edit : Edit) (file : List ℕ) (read made : Image) (e : ElfError) → ListsAreTheirEdits → image_of file ≡ Ok read → step edit read ≡ Ok made → IsNoImage made e → TellsEdit (one (plain edit)) file (answer_to_elf e)
tells_unmade edit file read made e lists is makes none =
    one_unwritten (plain edit) file made e (made_of_edits lists (plain edit ∷ []) file read made is (lists.one edit read made makes)) none

-- ## Over bytes

pub quiet_shrink : {W : Type 0} (contents : W → Option (List ℕ)) (edit : Edit) (file : List ℕ) (w : W) (e : ElfError) → TellsEdit (one (plain edit)) file (answer_to_elf e) → TellsShrink contents edit file w w (answer_to_elf e)
quiet_shrink contents edit file w elf.Memory tells = (refl, tells)
quiet_shrink contents edit file w e tells = (refl, tells)

-- the answer for an image with shrunk run paths is that for its file
pub shrunk_bytes : ListsAreTheirEdits → (edit : Edit) (file : List ℕ) (read made : Image) (answer : Option (Vec ℕ Global)) → image_of file ≡ Ok read → ShowsBothViews file read
    → step edit read ≡ Ok made → AreChanged made answer → IsElfEdited (one (plain edit)) file answer
shrunk_bytes lists edit file read made answer is views makes changed =
    record { edits = plain edit ∷ []; are = refl; edited = edited_by lists (plain edit ∷ []) file read made is (lists.one edit read made makes) answer views changed }

-- what is told of the image is told of the file
pub runs_shrink : ListsAreTheirEdits → (edit : Edit) (file : List ℕ) (read made : Image) (removed : Vec Removed Global) (answer : Option (Vec ℕ Global)) (old new : Option (List ℕ)) → image_of file ≡ Ok read
    → ShowsBothViews file read → Steps edit read made removed → IsRemovalTold made (map removal_model removed.items) answer old new → RunsShrink edit file answer old new
runs_shrink lists edit file read made removed answer old new is views steps told = (
  shrunk_bytes lists edit file read made answer is views steps.makes told.0,
  (removal_lines (map removal_model removed.items), (read, is, ap removal_lines steps.are), told.1),
)

unmade : ListsAreTheirEdits → (edit : Edit) (file : List ℕ) (read made : Image) (e : ElfCommandError) → image_of file ≡ Ok read → step edit read ≡ Ok made → TellsNoImage made e → TellsEdit (one (plain edit)) file e
unmade lists edit file read made e is makes none =
    let P : ElfCommandError → Type 0 = λ x. TellsEdit (one (plain edit)) file x in subst P (sym none.2) (tells_unmade edit file read made none.0 lists is makes none.1)

pub tells_shrink : {W : Type 0} (contents : W → Option (List ℕ)) → ListsAreTheirEdits → (edit : Edit) (file : List ℕ) (read made : Image) (removed : Vec Removed Global) (old new : W) (e : ElfCommandError) → image_of file ≡ Ok read → ShowsBothViews file read
    → Steps edit read made removed → TellsUntold contents made (map removal_model removed.items) old new e → TellsShrink contents edit file old new e
tells_shrink contents lists edit file read made removed old new (Io e) is views steps told = (
  (told.0.0, shrunk_bytes lists edit file read made told.0.0 is views steps.makes told.0.1),
  (removal_lines (map removal_model removed.items), (read, is, ap removal_lines steps.are), told.1),
)
tells_shrink contents lists edit file read made removed old new Memory is views steps told = (told.0, tt)
tells_shrink contents lists edit file read made removed old new e is views steps told = (told.0, unmade lists edit file read made e is steps.makes told.1)

-- ## Over a store

pub leaves_shrunk : ListsAreTheirEdits → ReadImagesHoldParts → (edit : Edit) (file : List ℕ) (read made : Image) (d : Difference) → image_of file ≡ Ok read
    → ShowsBothViews file read → step edit read ≡ Ok made → IsImageWritten made (made_of made.source d) → LeavesElf (one (plain edit)) file (made_of file d)
leaves_shrunk lists hold_parts edit file read made d is views makes written =
    let make = lists.one edit read made makes in
    record { edits = plain edit ∷ []; are = refl; left = pieces_made lists (plain edit ∷ []) file read made is make d views (source_is lists (plain edit ∷ []) file read made is make hold_parts) written }

pub source_of_shrunk : ListsAreTheirEdits → ReadImagesHoldParts → (edit : Edit) (file : List ℕ) (read made : Image) → image_of file ≡ Ok read → step edit read ≡ Ok made → made.source ≡ file
source_of_shrunk lists hold_parts edit file read made is makes = source_is lists (plain edit ∷ []) file read made is (lists.one edit read made makes) hold_parts

-- answers for the image that a file has
pub found_in : (finds : Finding) (file : List ℕ) (read : Image) (answers : List Answer) → image_of file ≡ Ok read → AreFound finds (shown read) answers → AreFoundIn finds file answers
found_in finds file read answers is found image other =
    let same : read ≡ image = let e : Ok read ≡ Ok image = sym is ∙ other in cc in
    let P : Image → Type 0 = λ i. AreFound finds (shown i) answers in
    subst P same found

-- an error of the edit by the answers that were found
pub told_shrunk : (finds : Finding) (prefixes : List Text) (file : List ℕ) (answers : List Answer) (e : ElfError) → AreFoundIn finds file answers
    → TellsEdit (one (plain (ShrinkRpath prefixes answers))) file (answer_to_elf e) → TellsShrunk finds prefixes file (answer_to_elf e)
told_shrunk finds prefixes file answers elf.Memory found tells = tt
told_shrunk finds prefixes file answers e found tells = (answers, found, tells)

-- what an error of an image that was read tells of its file
pub unshrunk_file : ListsAreTheirEdits → (finds : Finding) (prefixes : List Text) (file : List ℕ) (read : Image) (answers : List Answer) (e : ElfCommandError) → image_of file ≡ Ok read → AreFoundIn finds file answers
    → TellsUnshrunk (ShrinkRpath prefixes answers) read e → TellsShrunk finds prefixes file e
unshrunk_file lists finds prefixes file read answers e is found (cause, why, told) =
    let edit : Edit = ShrinkRpath prefixes answers in
    let tells : TellsEdit (one (plain edit)) file (answer_to_elf cause) = elim why [
      | inl refuses ↦ one_refused edit file read cause is refuses
      | inr none ↦ tells_unmade edit file read none.0 cause lists is none.1 none.2
    ] in
    let P : ElfCommandError → Type 0 = λ x. TellsShrunk finds prefixes file x in
    subst P (sym told) (told_shrunk finds prefixes file answers cause found tells)

-- what differs from the bytes of a file that was read, by answers that are found
pub shrunk_file : ListsAreTheirEdits → ReadImagesHoldParts → (finds : Finding) (prefixes : List Text) (file : List ℕ) (read : Image) (answers : List Answer) (d : Difference) (text : Text) → image_of file ≡ Ok read
    → ShowsBothViews file read → AreFoundIn finds file answers → IsShrunkImage (ShrinkRpath prefixes answers) read d text → IsShrunkBy finds prefixes file d text
shrunk_file lists hold_parts finds prefixes file read answers d text is views found shrunk = record {
  answers = answers;
  found = found;
  leaves = leaves_shrunk lists hold_parts (ShrinkRpath prefixes answers) file read shrunk.made d is views shrunk.makes shrunk.written;
  told = (read, is, shrunk.told);
}

pub shrunk_makeable : ListsAreTheirEdits → ReadImagesHoldParts → (edit : Edit) (file : List ℕ) (read : Image) (d : Difference) (text : Text) → image_of file ≡ Ok read → IsShrunkImage edit read d text → IsDifference file d
shrunk_makeable lists hold_parts edit file read d text is shrunk =
    let P : List ℕ → Type 0 = λ l. IsDifference l d in
    subst P (source_of_shrunk lists hold_parts edit file read shrunk.made is shrunk.makes) shrunk.makeable

-- the difference was made, and the lines were told
pub shrinks_store : (finds : Finding) (prefixes : List Text) (old new said told : Option (List ℕ)) (loaded : List ℕ) (d : Difference) (text : Text) → IsAll old loaded
    → IsShrunkBy finds prefixes loaded d text → Becomes (λ source. made_of source d) old new → Appends said told text → ShrinksStore finds prefixes old new said told
shrinks_store finds prefixes old new said told loaded d text all shrunk becomes gets file known =
    let P : List ℕ → Type 0 = λ l. IsShrunkBy finds prefixes l d text in
    record { difference = d; text = text; shrunk = subst P (all file known) shrunk; made = becomes file known; gets = gets }

-- nothing was written
pub shrink_refused : (ended : Error → Type 0) (finds : Finding) (prefixes : List Text) (old : Option (List ℕ)) (loaded : List ℕ) (e : ElfCommandError) → IsAll old loaded → TellsShrunk finds prefixes loaded e
    → FailsShrink ended finds prefixes old old e
shrink_refused ended finds prefixes old loaded (Io e) all tells = inl refl
shrink_refused ended finds prefixes old loaded e all tells =
    let P : List ℕ → Type 0 = λ l. TellsShrunk finds prefixes l e in (refl, λ file known. subst P (all file known) tells)

-- the difference was not made: where there was memory, writes ended
pub shrink_failed : {S : Type 0} (writes : Error → Type 0) (none : Type 0) (m n : ℕ) (finds : Finding) (prefixes : List Text) (contents : S → Option (List ℕ)) (old new : S) (loaded : List ℕ) (d : Difference) (text : Text) (e : ReplaceError)
    → IsAll (contents old) loaded → IsDifference loaded d → IsShrunkBy finds prefixes loaded d text → IsNotMade contents d old new e → IsNotWritten writes none m n e
    → FailsShrink (WritesEnd writes none m n) finds prefixes (contents old) (contents new) (answer_to_replaced e)
shrink_failed writes none m n finds prefixes contents old new loaded d text replace.Memory all makeable shrunk same why = (ap contents same, λ file known. tt)
shrink_failed writes none m n finds prefixes contents old new loaded d text (replace.Write e) all makeable shrunk part why = inr (
  why,
  λ file known.
      let P : List ℕ → Type 0 = λ l. IsShrunkBy finds prefixes l d text in
      let M : List ℕ → Type 0 = λ l. IsDifference l d in
      record { difference = d; text = text; makeable = subst M (all file known) makeable; shrunk = subst P (all file known) shrunk; left = e.left; part = part },
)

-- writes that come after reads and failed
pub shrink_fails_after : (writes : Error → Type 0) (none : Type 0) (k m n : ℕ) (finds : Finding) (prefixes : List Text) (old new : Option (List ℕ)) (e : ElfCommandError) → k ≤ m
    → FailsShrink (WritesEnd writes none m n) finds prefixes old new e → FailsShrink (WritesEnd writes none k n) finds prefixes old new e
shrink_fails_after writes none k m n finds prefixes old new (Io e) later fails = elim fails [
  | inl kept ↦ inl kept
  | inr (ends, torn) ↦ inr (ended_later writes none e k m n later ends, torn)
]
shrink_fails_after writes none k m n finds prefixes old new e later fails = fails

-- such an error is one that the command may have
pub shrink_may_fail : (finds : Finding) (prefixes : List Text) (file : List ℕ) (e : ElfCommandError) → TellsShrunk finds prefixes file e → MayFailAs (shrinking prefixes) e
shrink_may_fail finds prefixes file Memory tells = tt
shrink_may_fail finds prefixes file (Io e) tells = tt
shrink_may_fail finds prefixes file e tells = let (answers, found, tells) = tells in (file, (answers, tells))

pub replaced_may_fail : (prefixes : List Text) (e : ReplaceError) → MayFailAs (shrinking prefixes) (answer_to_replaced e)
replaced_may_fail prefixes replace.Memory = tt
replaced_may_fail prefixes (replace.Write e) = tt

-- first bytes of the lines were told, or all of them
pub gets_first : (finds : Finding) (prefixes : List Text) (known said told : Option (List ℕ)) (loaded : List ℕ) (d : Difference) (text : Text) (n : ℕ)
    → IsAll known loaded → IsShrunkBy finds prefixes loaded d text → Appends said told (take n text) → (file : List ℕ) → known ≡ Some file → GetsFirst finds prefixes file said told
gets_first finds prefixes known said told loaded d text n all shrunk gets file is =
    let P : List ℕ → Type 0 = λ l. IsShrunkBy finds prefixes l d text in
    (d, text, subst P (all file is) shrunk, (n, gets))

pub gets_all : (finds : Finding) (prefixes : List Text) (known said told : Option (List ℕ)) (loaded : List ℕ) (d : Difference) (text : Text)
    → IsAll known loaded → IsShrunkBy finds prefixes loaded d text → Appends said told text → (file : List ℕ) → known ≡ Some file → GetsFirst finds prefixes file said told
gets_all finds prefixes known said told loaded d text all shrunk gets =
    let P : List ℕ → Type 0 = λ l. Appends said told l in
    gets_first finds prefixes known said told loaded d text (length text) all shrunk (subst P (sym (take_all (length text) text (omega arith))) gets)

pub replaced_is_quiet : {W : Type 0} (finds : Finding) (prefixes : List Text) (contents : W → Option (List ℕ)) (known : Option (List ℕ)) (old new : W) (loaded : List ℕ) (d : Difference) (text : Text) (e : ReplaceError)
    → IsAll known loaded → IsShrunkBy finds prefixes loaded d text → Appends (contents old) (contents new) text → IsQuiet finds prefixes contents known old new (answer_to_replaced e)
replaced_is_quiet finds prefixes contents known old new loaded d text replace.Memory all shrunk gets = inr (gets_all finds prefixes known (contents old) (contents new) loaded d text all shrunk gets)
replaced_is_quiet finds prefixes contents known old new loaded d text (replace.Write e) all shrunk gets = inr (gets_all finds prefixes known (contents old) (contents new) loaded d text all shrunk gets)

pub refused_is_quiet : {W : Type 0} (finds : Finding) (prefixes : List Text) (contents : W → Option (List ℕ)) (known : Option (List ℕ)) (w : W) (e : ElfCommandError) → IsQuiet finds prefixes contents known w w e
refused_is_quiet finds prefixes contents known w Memory = inl refl
refused_is_quiet finds prefixes contents known w (Io e) = inl refl
refused_is_quiet finds prefixes contents known w e = refl
