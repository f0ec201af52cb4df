-- Answers by which, of the directories that hold a needed library, the first alone is kept for it.
use Rattle.std.specs.Prelude.{ℕ, ◌≡◌, ◌==◌, ◌&&◌, Bool, true, false, not, List, Option, Some, None, Ok, Err, map, option_map, take, slice_get, unwrap_or, [], ⊤}
use Rattle.std.specs.List.{list_any}
use Rattle.std.specs.declared.alloc.Global.{Global}
use Rattle.std.specs.declared.vec.Vec.{Vec}
use Rattle.std.specs.Str.{bytes_eq}
use Rattle.elf_edits.specs.Cause.{facts_of}
use Rattle.elf_edits.specs.Edit.{Answer, ShrinkRpath}
use Rattle.elf_edits.specs.Shrunk.{is_allowed}
use Rattle.elf_edits_shrink.specs.Questions.{shrink_questions}
use Rattle.elf_edits_shrink.specs.ShrinkModel.{answer_model}
use Rattle.elf_edits_shrink.specs.declared.probe.ProbeAnswer.{ProbeAnswer}
use Rattle.elf_image.specs.Image.{Image, image_of, shown}
use Rattle.elf_image.specs.Options.{is_some_and}
use Rattle.elf_commands.specs.ElfAsked.{one}
use Rattle.elf_commands.specs.Groups.{plain}
use Rattle.elf_commands.specs.ElfEngine.{TellsEdit}
use Rattle.elf_commands.specs.ElfCommandError.{ElfCommandError}
use Rattle.elf_commands.specs.ElfCommandError.TheVariants.{Memory}
use Rattle.elf_commands.specs.Shrinking.{Finding, asked_of}
use Rattle.arwen_cli_options.specs.Options.{Text}

-- the answer's library was found for a machine, in a directory that the prefixes allow
abbrev pub is_found_for : List Text → ℕ → Answer → Bool
is_found_for prefixes machine a = is_some_and (λ m. m == machine) a.machine && is_allowed prefixes a.directory

-- some of these answers found a library so
abbrev pub is_settled : List Text → ℕ → List Answer → Text → Bool
is_settled prefixes machine answers needed = list_any (λ a. is_found_for prefixes machine a && bytes_eq needed a.needed) answers

-- which machine may be answered: none for a library that is settled, else one that may be found
abbrev pub finds_unless : Bool → Finding → Text → Text → Option ℕ → Type 0
finds_unless true finds directory needed machine = machine ≡ None
finds_unless false finds directory needed machine = finds directory needed machine

-- what may be answered behind other answers
abbrev pub IsFirstFound : Finding → List Text → ℕ → List Answer → Answer → Type 0
IsFirstFound finds prefixes machine before a =
    finds_unless (is_settled prefixes machine before a.needed) finds a.directory a.needed a.machine

-- The answers are for just these pairs, in their order, and each is one that may be given behind those before it.
pub record AreFirstFound (finds : Finding) (prefixes : List Text) (machine : ℕ) (questions : List (Text × Text)) (answers : List Answer) : Type 0 where
  pub asked : map asked_of answers ≡ questions
  pub found : (i : ℕ) (a : Answer) → slice_get answers i ≡ Some a → IsFirstFound finds prefixes machine (take i answers) a

-- the answers are for just the pairs that have to be looked for before the run paths of an image shrink
abbrev pub AreFirstFoundOf : Finding → List Text → Image → List Answer → Type 0
AreFirstFoundOf finds prefixes image answers =
    AreFirstFound finds prefixes image.header.e_machine (shrink_questions (unwrap_or (shown image).entries [])) answers

-- of a file that is accepted
abbrev pub AreFirstFoundIn : Finding → List Text → List ℕ → List Answer → Type 0
AreFirstFoundIn finds prefixes file answers = (image : Image) → image_of file ≡ Ok image → AreFirstFoundOf finds prefixes image answers

-- ## Nothing to shrink

-- an image has a dynamic list without a run path
abbrev pub lists_no_run_path : Image → Bool
lists_no_run_path image = (facts_of image).has_list && not (facts_of image).has_run_path

-- a file is accepted, and its image is such a one
abbrev pub has_nothing_to_shrink : List ℕ → Bool
has_nothing_to_shrink file = elim (image_of file) [ Ok image ↦ lists_no_run_path image | Err _ ↦ false ]

-- the answers that are handed on, where there are some
abbrev pub answers_model : Option (Vec ProbeAnswer Global) → Option (List Answer)
answers_model found = option_map (λ answers. map answer_model answers.items) found

-- no answers just where there is nothing to shrink, else those of an image
abbrev pub AreFirstFoundIf : Finding → List Text → Image → Option (List Answer) → Type 0
AreFirstFoundIf finds prefixes image None = lists_no_run_path image ≡ true
AreFirstFoundIf finds prefixes image (Some answers) = (lists_no_run_path image ≡ false) × AreFirstFoundOf finds prefixes image answers

-- of a file that is accepted
abbrev pub AreFirstFoundWhere : Finding → List Text → List ℕ → Option (List Answer) → Type 0
AreFirstFoundWhere finds prefixes file None = has_nothing_to_shrink file ≡ true
AreFirstFoundWhere finds prefixes file (Some answers) = (has_nothing_to_shrink file ≡ false) × AreFirstFoundIn finds prefixes file answers

-- ## Errors

-- Why run paths don't shrink by such answers: there is something to shrink, or the file isn't accepted. Want of memory may come
-- in any case.
abbrev pub TellsFirstShrunk : Finding → List Text → List ℕ → ElfCommandError → Type 0
TellsFirstShrunk finds prefixes file Memory = ⊤
TellsFirstShrunk finds prefixes file e = (has_nothing_to_shrink file ≡ false) × (answers : List Answer) × AreFirstFoundIn finds prefixes file answers
    × TellsEdit (one (plain (ShrinkRpath prefixes answers))) file e
