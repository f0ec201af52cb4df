-- Plans whose bytes are to be in another file.
use Rattle.std.proofs.Common.{◌≡◌, [], ◌∷◌, ℕ, List, Option, None, Some, inl, inr, subst}
use Rattle.std.specs.declared.io.Error.{Error}
use Rattle.byte_store.specs.declared.reading.ReadError.{ReadError}
use Rattle.byte_store.specs.declared.reading.ReadError.TheVariants as read
use Rattle.elf_commands.specs.ElfErrors.{answer_to_read}
use Rattle.elf_commands.specs.Groups.{GroupEdit}
use Rattle.command_words.specs.Loading.{IsNotLoaded}
use Rattle.elf_commands.specs.Failures.{HasReadCause}
use Rattle.elf_commands.specs.ElfCommandError.{ElfCommandError}
use Rattle.elf_commands.specs.ElfCommandError.TheVariants.{Edits, Elf, ElfBatch, Io, Memory}
use Rattle.elf_commands.specs.Shrinking.{Finding}
use Rattle.arwen_cli_options.specs.Options.{Text}
use Rattle.arwen_cli_patchelf.specs.Plans.{PlanMeant}
use Rattle.arwen_cli_patchelf.specs.Made.{TellsUnedited, TellsUnmade, TellsUnshrunk}
use Rattle.arwen_cli_patchelf.specs.Output.{HasOutputCause, IsCutOff, IsMadeAndCutOff}
use Rattle.arwen_cli_patchelf.specs.Patched.{HoldsBytes, HoldsKnown, IsMadeKnown, TellsPlanPath}

-- ## Plans that are not made

-- a plan is refused for what it is and what the file is
never_unshrunk : (finds : Finding) (shrinks : Option (List Text)) (file : List ℕ) (e : Error) → TellsUnshrunk finds shrinks file (Io e) → ⊥
never_unshrunk finds None file e tells = tells
never_unshrunk finds (Some prefixes) file e tells = tells.3

never_unedited : (edits : List GroupEdit) (file : List ℕ) (e : Error) → TellsUnedited edits file (Io e) → ⊥
never_unedited [] file e tells = tells
never_unedited (edit ∷ edits) file e tells = tells

never_unmade : (finds : Finding) (plan : PlanMeant) (file : List ℕ) (e : Error) → TellsUnmade finds plan file (Io e) → ⊥
never_unmade finds plan file e (inl tells) = never_unshrunk finds plan.shrinks file e tells
never_unmade finds plan file e (inr refused) = never_unedited plan.edits refused.between e refused.refused

pub unmade_cause : (reads : Error → Type 0) (known : Option (List ℕ)) (a b : ℕ) (finds : Finding) (plan : PlanMeant) (file : List ℕ) (e : ElfCommandError) → TellsUnmade finds plan file e → HasReadCause reads known a b e
unmade_cause reads known a b finds plan file (Io e) tells = absurd (never_unmade finds plan file e tells)
unmade_cause reads known a b finds plan file Memory tells = tt
unmade_cause reads known a b finds plan file (Edits e) tells = tt
unmade_cause reads known a b finds plan file (Elf e) tells = tt
unmade_cause reads known a b finds plan file (ElfBatch e) tells = tt

-- the store isn't read
pub unread_cause : (reads : Error → Type 0) (known : Option (List ℕ)) (a b : ℕ) (e : ReadError) → IsNotLoaded reads known a b e → HasReadCause reads known a b (answer_to_read e)
unread_cause reads known a b read.Memory why = tt
unread_cause reads known a b (read.Io e) why = why

-- the store was opened at a path
pub opened_cause : (reads : Error → Type 0) (known old : Option (List ℕ)) (a b : ℕ) (e : ElfCommandError) → old ≡ known → a ≡ 0 → HasReadCause reads old a b e → HasReadCause reads known 0 b e
opened_cause reads known old a b e same fresh why =
    let Of : Option (List ℕ) → Type 0 = λ o. HasReadCause reads o a b e in
    let From : ℕ → Type 0 = λ n. HasReadCause reads known n b e in
    subst From fresh (subst Of same why)

-- ## A new file

pub holds_made : (is_new : Option (List ℕ) → Type 0) (finds : Finding) (plan : PlanMeant) (known new : Option (List ℕ)) (made bytes : List ℕ) → bytes ≡ made → IsMadeKnown finds plan known made → HoldsBytes is_new bytes new
    → HoldsKnown is_new finds plan known new
holds_made is_new finds plan known new made bytes same is holds =
    let Of : List ℕ → Type 0 = λ l. HoldsBytes is_new l new in
    λ file knows. record { made = made; is_made = is file knows; held = subst Of same holds }

-- an error of it is one of creating or writing
pub cut_off_tells : {W X : Type 0} (creates : Error → Type 0) (is_new : Option (List ℕ) → Type 0) (contents : W → Option (List ℕ)) (inner : X → W) (failed : X → ℕ) (bytes : List ℕ) (e : ElfCommandError) (file : Option X)
    → IsCutOff creates is_new contents inner failed bytes e file → (finds : Finding) (plan : PlanMeant) (known : Option (List ℕ)) → TellsPlanPath finds plan known e
cut_off_tells creates is_new contents inner failed bytes (Io e) file cut finds plan known = tt
cut_off_tells creates is_new contents inner failed bytes Memory file cut finds plan known = absurd cut
cut_off_tells creates is_new contents inner failed bytes (Edits e) file cut finds plan known = absurd cut
cut_off_tells creates is_new contents inner failed bytes (Elf e) file cut finds plan known = absurd cut
cut_off_tells creates is_new contents inner failed bytes (ElfBatch e) file cut finds plan known = absurd cut

pub cut_off_cause : {W X : Type 0} (unread : ElfCommandError → Type 0) (creates : Error → Type 0) (is_new : Option (List ℕ) → Type 0) (contents : W → Option (List ℕ)) (inner : X → W) (failed : X → ℕ) (finds : Finding) (plan : PlanMeant) (known : Option (List ℕ))
    (made bytes : List ℕ) (e : ElfCommandError) (file : Option X) → bytes ≡ made → IsMadeKnown finds plan known made → IsCutOff creates is_new contents inner failed bytes e file
    → HasOutputCause unread creates is_new contents inner failed finds plan known e file
cut_off_cause {W} {X} unread creates is_new contents inner failed finds plan known made bytes e None same is cut =
    let none : Option X = None in
    let Of : List ℕ → Type 0 = λ l. IsCutOff creates is_new contents inner failed l e none in
    inr (made, is, subst Of same cut)
cut_off_cause {W} {X} unread creates is_new contents inner failed finds plan known made bytes e (Some file) same is cut =
    let Of : List ℕ → Type 0 = λ l. IsCutOff creates is_new contents inner failed l e (Some file) in
    (made, is, subst Of same cut)

-- of a store that was opened at a path
pub output_cause_at : {W X : Type 0} (reads creates : Error → Type 0) (is_new : Option (List ℕ) → Type 0) (contents : W → Option (List ℕ)) (inner : X → W) (failed : X → ℕ) (finds : Finding) (plan : PlanMeant)
    (known old : Option (List ℕ)) (a b : ℕ) (e : ElfCommandError) (file : Option X) → old ≡ known → a ≡ 0
    → HasOutputCause (HasReadCause reads old a b) creates is_new contents inner failed finds plan old e file
    → HasOutputCause (HasReadCause reads known 0 b) creates is_new contents inner failed finds plan known e file
output_cause_at {W} {X} reads creates is_new contents inner failed finds plan known old a b e None same fresh (inl why) =
    inl (opened_cause reads known old a b e same fresh why)
output_cause_at {W} {X} reads creates is_new contents inner failed finds plan known old a b e None same fresh (inr cut) =
    let none : Option X = None in
    let Of : Option (List ℕ) → Type 0 = λ o. IsMadeAndCutOff creates is_new contents inner failed finds plan o e none in
    inr (subst Of same cut)
output_cause_at {W} {X} reads creates is_new contents inner failed finds plan known old a b e (Some file) same fresh cut =
    let Of : Option (List ℕ) → Type 0 = λ o. IsMadeAndCutOff creates is_new contents inner failed finds plan o e (Some file) in
    subst Of same cut
