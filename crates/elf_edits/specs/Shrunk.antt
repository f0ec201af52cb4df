-- A run path without the directories in which no needed library is found.
use Rattle.std.specs.Prelude.{ℕ, List, [], ◌∷◌, filter, find, Bool, true, not, ◌&&◌, ◌||◌, Option, Some, None, nat_eq, ◌==◌, if◌then◌else◌}
use Rattle.std.specs.List.{filter_map, list_any, starts_with}
use Rattle.std.specs.Str.{bytes_eq}
use Rattle.patch_bytes.specs.Memory.{◌>>=◌}
use Rattle.elf_image.specs.Options.{is_some_and}
use Rattle.elf_edits.specs.declared.constants.TheConstants.{SLASH}
use Rattle.elf_edits.specs.Texts.{directories_in, joined_by_colons}

-- What was found for a directory of a run path and a needed library: the machine of the file of that name there.
pub record Answer : Type 0 where
  pub directory : List ℕ
  pub needed : List ℕ
  pub machine : Option ℕ

-- What directories are judged by: the prefixes that are allowed, none for all; the needed libraries; the machine
-- that they have to be for; and the machine that was found for a directory and a library.
pub record Search : Type 0 where
  pub prefixes : List (List ℕ)
  pub needed : List (List ℕ)
  pub machine : ℕ
  pub found : List ℕ → List ℕ → Option ℕ

abbrev pub is_absolute : List ℕ → Bool
is_absolute directory = starts_with nat_eq directory (SLASH ∷ [])

-- no prefixes are given, or one begins the directory
abbrev pub is_allowed : List (List ℕ) → List ℕ → Bool
is_allowed [] directory = true
is_allowed (prefix ∷ prefixes) directory = list_any (λ p. starts_with nat_eq directory p) (prefix ∷ prefixes)

-- the answer is for this directory and this library
abbrev pub is_answer_for : List ℕ → List ℕ → Answer → Bool
is_answer_for directory name a = bytes_eq directory a.directory && bytes_eq name a.needed

-- the machine that was found for a directory and a needed library; the first answer for the two counts
abbrev pub machine_found : List Answer → List ℕ → List ℕ → Option ℕ
machine_found answers directory name = find (is_answer_for directory name) answers >>= (λ a. a.machine)

-- some needed library was found there for the machine
abbrev pub is_found_in : Search → List ℕ → Bool
is_found_in s directory = list_any (λ name. is_some_and (λ machine. machine == s.machine) (s.found directory name)) s.needed

-- a directory stays where it isn't absolute, or where it is allowed and a needed library was found there
abbrev pub stays : Search → List ℕ → Bool
stays s directory = not (is_absolute directory) || (is_allowed s.prefixes directory && is_found_in s directory)

-- the text with the directories that stay
abbrev pub shrunk_text : Search → List ℕ → List ℕ
shrunk_text s text = joined_by_colons (filter (stays s) (directories_in text))

-- Why a directory goes: no prefix begins it, or no needed library was found there.
pub data Reason : Type 0 where
  Prefix : Reason
  NoLibrary : Reason

pub record Removal : Type 0 where
  pub directory : List ℕ
  pub reason : Reason

-- why a directory that doesn't stay goes
abbrev pub reason_of : Search → List ℕ → Reason
reason_of s directory = if is_allowed s.prefixes directory then NoLibrary else Prefix

-- the directories that go from a text, in order, with their reasons
abbrev pub removed_from : Search → List ℕ → List Removal
removed_from s text = filter_map (λ directory. if stays s directory then None else Some (record { directory = directory; reason = reason_of s directory })) (directories_in text)
