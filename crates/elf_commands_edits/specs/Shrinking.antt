-- Run paths that shrink: what is looked for, and the lines that tell which directories went.
use Rattle.std.specs.Prelude.{ℕ, ◌≡◌, ◌⊎◌, List, [], ◌∷◌, ◌++◌, map, take, All, Option, Some, None, codes}
use Rattle.std.specs.Prelude.{if◌then◌else◌, nat_eq}
use Rattle.std.specs.List.{ends_with, flat_map, starts_with}
use Rattle.std.specs.Str.Lossy.{utf8_lossy}
use Rattle.arwen_elf.specs.Reads.{entries_shown}
use Rattle.elf_edits.specs.Edit.{Answer}
use Rattle.elf_edits_shrink.specs.Questions.{shrink_questions}
use Rattle.elf_edits.specs.Shrunk.{NoLibrary, Prefix, Reason, Removal}
use Rattle.elf_format.specs.Machine.{machine_of}
use Rattle.elf_image.specs.Views.{View}
use Rattle.command_words.specs.Rows.{Text}

-- ---- what is looked for

-- a directory with a slash behind it
abbrev pub folder_of : Text → Text
folder_of directory = if ends_with nat_eq directory (47 ∷ []) then directory else directory ++ 47 ∷ []

-- the path of the file that a directory may have for a library: its name there, but a name that begins with a slash is a path
abbrev pub path_of : Text → Text → Text
path_of directory needed = if starts_with nat_eq needed (47 ∷ []) then needed else folder_of directory ++ needed

-- which machine may be found for a directory and a library; none where there is no such file
abbrev pub Finding : Type 1
Finding = Text → Text → Option ℕ → Type 0

-- an answer is one that may be found
abbrev pub IsFound : Finding → Answer → Type 0
IsFound finds a = finds a.directory a.needed a.machine

-- what an answer is for
abbrev pub asked_of : Answer → Text × Text
asked_of a = (a.directory, a.needed)

-- the answers are for just these pairs, in their order, and each is one that may be found
abbrev pub AreAnswers : Finding → List (Text × Text) → List Answer → Type 0
AreAnswers finds questions answers = (map asked_of answers ≡ questions) × All (IsFound finds) answers

-- the answers are for just the pairs that have to be looked for
abbrev pub AreFound : Finding → View → List Answer → Type 0
AreFound finds view answers = AreAnswers finds (shrink_questions (entries_shown view)) answers

-- an answer for this directory and this library
abbrev pub Answers : Finding → Text → Text → Answer → Type 0
Answers finds directory needed a = (asked_of a ≡ (directory, needed)) × IsFound finds a

-- the machine that the first bytes of a file tell, where they are known; none may be told of any, since a file that is there may
-- not be one that can be read
abbrev pub IsMachineAt : Option (List ℕ) → Option ℕ → Type 0
IsMachineAt known machine =
    (machine ≡ None) ⊎ ((file : List ℕ) → known ≡ Some file → machine ≡ machine_of (take 20 file))

-- ---- what is told

-- the line of a directory that went, lossily, by the reason
abbrev pub line_by : Reason → Text → Text
line_by Prefix directory =
    codes "Removing " ++ utf8_lossy directory ++ codes " from RPATH due to non-allowed prefix\n"
line_by NoLibrary directory = codes "Removing directory " ++ utf8_lossy directory ++ codes "\n"

abbrev pub removal_line : Removal → Text
removal_line r = line_by r.reason r.directory

abbrev pub removal_lines : List Removal → Text
removal_lines removed = flat_map removal_line removed
