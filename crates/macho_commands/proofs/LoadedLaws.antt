-- What comes of a file, told by its front.
use Rattle.std.proofs.Common.{◌≡◌, ◌≤◌, ◌<◌, ◌^◌, ◌+◌, ◌∙◌, ℕ, List, [], ◌∷◌, ◌++◌, length, take, drop, get_or, refl, sym, ap, subst, arith}
use Rattle.std.specs.List.{All}
use Rattle.std.proofs.lemmas.List.{append_assoc, drop-append-le, take-append-le}
use Rattle.std.proofs.lemmas.List.Elements.{All-head}
use Rattle.byte_store.proofs.LaidLaws.{length-laid, tail_lies}
use Rattle.byte_store.proofs.StandLaws.{stands_append}
use Rattle.byte_store.specs.Composed.{Stands}
use Rattle.byte_store.specs.Known.{put_at}
use Rattle.byte_store.specs.Laid.{LiesIn, Patch, laid}
use Rattle.command_words.specs.Rows.{Text}
use Rattle.command_words.specs.declared.noting.Notes.{Notes}
use Rattle.command_words.specs.declared.noting.Notes.TheVariants.{LeftOut, Wanted}
use Rattle.macho_commands_stores.specs.Loading.{IsFrontOf}
use Rattle.macho_commands.specs.Engine.{Asked, Outcome, ShowsBy, Tells, outcome_by, outcome_of}
use Rattle.macho_commands.specs.Engine.Outcome.{bytes, no_edits, no_file, not_signed, refused, refused_batch}
use Rattle.macho_commands.specs.Loading.{with_rest}
use Rattle.macho_commands.specs.Notes.{TellsBy, note_line}
use Rattle.macho_commands.specs.declared.error.MachoCommandError.{MachoCommandError}
use Rattle.macho_commands.specs.declared.error.MachoCommandError.TheVariants.{Edits, Io, Macho, MachoBatch, Memory, Signing as signing, Unfit}
use Rattle.macho_commands.specs.declared.signing.Signs.{Signs}
use Rattle.macho_commands.specs.declared.signing.Signs.TheVariants.{Nothing, Touched, Whole}
use Rattle.macho_commands.proofs.FrontLaws.{found_longer, front_decides, shows_longer, signed_longer}

-- ---- patches that lie in first bytes leave the rest

pub put_at-append : (at : ℕ) (part first rest : List ℕ) → at + length part ≤ length first → put_at at part (first ++ rest) ≡ put_at at part first ++ rest
put_at-append at part first rest inside =
    let before : take at (first ++ rest) ≡ take at first = take-append-le at first rest (omega (arith, inside)) in
    let behind : drop (at + length part) (first ++ rest) ≡ drop (at + length part) first ++ rest = drop-append-le (at + length part) first rest inside in
    rw (before, behind) (simp append_assoc)

pub laid-append : (patches : List Patch) (first rest : List ℕ) → All (LiesIn (length first)) patches → laid patches (first ++ rest) ≡ laid patches first ++ rest
laid-append [] first rest inside = refl
laid-append (patch ∷ patches) first rest inside =
    ap (laid patches) (put_at-append patch.offset patch.bytes first rest (All-head (LiesIn (length first)) patch patches inside))
    ∙ laid-append patches (put_at patch.offset patch.bytes first) rest (tail_lies patch patches first inside)

-- what stands in a front that patches make stands in it with the rest behind it
pub stand_longer : (patches : List Patch) (front rest : List ℕ) → All (LiesIn (length front)) patches → All (Stands (laid patches front)) patches → All (Stands (laid patches front ++ rest)) patches
stand_longer patches front rest inside stand = λ i d below.
    let lies = inside i d below in
    stands_append (laid patches front) rest (get_or patches i d) (omega (arith, lies, length-laid patches front inside)) (stand i d below)

-- ---- where no slot of a signature is made anew

pub short_joined : (front file : List ℕ) (is : IsFrontOf front file) → length (front ++ is.rest) < 2 ^ 32
short_joined front file is =
    let P : List ℕ → Type 0 = λ l. length l < 2 ^ 32 in
    subst P (sym is.joined) is.short

pub front_outcome : (signs : Signs) (a : Asked) (front file : List ℕ) (is : IsFrontOf front file) → signs ≡ Nothing → outcome_by signs a file ≡ with_rest is.rest (outcome_by signs a front)
front_outcome Nothing a front file is leaves =
    ap (outcome_of a) (sym is.joined) ∙ front_decides a front is.rest is.thin (short_joined front file is)
front_outcome Touched a front file is leaves = absurd (cc)
front_outcome Whole a front file is leaves = absurd (cc)

pub front_shows : (signs : Signs) (a : Asked) (front file new : List ℕ) (is : IsFrontOf front file) → signs ≡ Nothing → ShowsBy signs a front new → ShowsBy signs a file (new ++ is.rest)
front_shows Nothing a front file new is leaves shows =
    let P : List ℕ → Type 0 = λ l. ShowsBy Nothing a l (new ++ is.rest) in
    subst P is.joined (shows_longer a front is.rest new is.thin (short_joined front file is) shows)
front_shows Touched a front file new is leaves shows = absurd (cc)
front_shows Whole a front file new is leaves shows = absurd (cc)

pub tells_with_rest : (rest : List ℕ) (o : Outcome) (e : MachoCommandError) → Tells o e → Tells (with_rest rest o) e
tells_with_rest rest (bytes new) Memory tells = tt
tells_with_rest rest (bytes new) (Macho e) tells = absurd tells
tells_with_rest rest (bytes new) (MachoBatch e) tells = absurd tells
tells_with_rest rest (bytes new) (Edits wrong) tells = absurd (let is : bytes new ≡ no_edits wrong = tells in cc)
tells_with_rest rest (bytes new) (signing fault) tells = absurd (let is : bytes new ≡ not_signed fault = tells in cc)
tells_with_rest rest (bytes new) Unfit tells = absurd tells
tells_with_rest rest (bytes new) (Io e) tells = absurd tells
tells_with_rest rest (no_edits wrong) e tells = tells
tells_with_rest rest (no_file found) e tells = tells
tells_with_rest rest (refused refusal) e tells = tells
tells_with_rest rest (refused_batch refusal) e tells = tells
tells_with_rest rest (not_signed fault) e tells = tells

-- what is told of the front is told of the file
pub front_told : (signs : Signs) (n : Notes) (a : Asked) (path : Text) (front file : List ℕ) (told : Text) → IsFrontOf front file → signs ≡ Nothing → TellsBy signs n a path front told → TellsBy signs n a path file told
front_told Nothing LeftOut a path front file told is leaves tells = tells
front_told Nothing Wanted a path front file told is leaves tells =
    let P : List ℕ → Type 0 = λ l. TellsBy Nothing Wanted a path l told in
    let short = short_joined front file is in
    let found = found_longer front is.rest short is.thin.accepted is.thin.thin in
    subst P is.joined (found.1, tells.1 ∙ ap (λ b. note_line b path) (sym (signed_longer front is.rest is.thin short)))
front_told Touched n a path front file told is leaves tells = absurd (cc)
front_told Whole n a path front file told is leaves tells = absurd (cc)
