-- What a line of patchelf asks for.
use Rattle.std.specs.Prelude.{ℕ, ◌≡◌, List, map, Option, Some, None, Ok, codes, option_map, string_bytes, ⊤}
use Rattle.byte_store.specs.declared.reading.ReadError.{ReadError}
use Rattle.arwen_cli_options.specs.Asked.{asked_model, last_of}
use Rattle.arwen_cli_options.specs.Options.{Asked, TellsWrong, Text, line_of, values_of}
use Rattle.arwen_cli_options.specs.Tables.{patchelf_known}
use Rattle.arwen_cli_patchelf_lines.specs.Refusals.{is_asked, line_refused, refused_model}
use Rattle.arwen_cli_patchelf_lines.specs.Values.{AreResolved, IsRefusedAmong}
use Rattle.arwen_cli_patchelf_lines.specs.declared.line.Line.{Line}
use Rattle.arwen_cli_patchelf_lines.specs.declared.line.LineError.{LineError}
use Rattle.arwen_cli_patchelf_lines.specs.declared.line.LineError.TheVariants as error
use Rattle.arwen_cli_patchelf_lines.specs.declared.refusals.Refused.{Refused}
use Rattle.arwen_cli_patchelf_lines.specs.declared.values.ValueCause.TheVariants.{Memory}
use Rattle.arwen_cli_patchelf_lines.specs.declared.values.ValueRefused.{ValueRefused}

-- the files of a line that gives this
abbrev pub files_of : List Asked → List Text
files_of given = values_of (codes "FILE") given

-- the options of a line, as they are asked for of these files
pub record IsLineOf (files : List Text) (asked : List Asked) (line : Line) : Type 0 where
  pub options : map asked_model line.asked.items ≡ asked
  pub paths : map string_bytes line.paths.items ≡ files
  pub output : option_map string_bytes line.output ≡ last_of (codes "--output") asked

-- What options ask for with their values, of which some stand in files; of the bytes at paths this is known.
pub record ReadsGiven (known : Text → Option (List ℕ)) (given : List Asked) (files : List Text) (line : Line) : Type 0 where
  pub asked : List Asked
  pub are_asked : AreResolved known (is_asked (codes "--shrink-rpath") given) given asked
  pub is : IsLineOf files asked line

-- What a line's words ask for: they give options and files that go together, and each value can be read.
pub record ReadsLine (known : Text → Option (List ℕ)) (words : List Text) (line : Line) : Type 0 where
  pub given : List Asked
  pub are_given : line_of patchelf_known words ≡ Ok given
  pub taken : line_refused given (files_of given) ≡ None
  pub values : ReadsGiven known given (files_of given) line

-- ## Why a line isn't done

-- a refusal of what words give
pub record RefusesGiven (words : List Text) (refused : Refused) : Type 0 where
  pub given : List Asked
  pub are_given : line_of patchelf_known words ≡ Ok given
  pub refusal : line_refused given (files_of given) ≡ Some (refused_model refused)

-- A refusal of the first option whose value isn't read from its file, though there was memory.
pub record RefusesValue (known : Text → Option (List ℕ)) (fails : Text → ReadError → Type 0) (given : List Asked) (refused : ValueRefused) : Type 0 where
  pub among : IsRefusedAmong known fails (is_asked (codes "--shrink-rpath") given) given refused
  pub had_memory : refused.cause ≡ Memory → ⊥

-- the words give a line that isn't refused before values are looked at, and this holds of what they give
pub record IsTaken (words : List Text) (P : List Asked → Type 0) : Type 0 where
  pub given : List Asked
  pub are_given : line_of patchelf_known words ≡ Ok given
  pub taken : line_refused given (files_of given) ≡ None
  pub holds : P given

-- an error of words, of values, and of a line: the first cause, or want of memory
abbrev pub TellsGiven : List Text → LineError → Type 0
TellsGiven words (error.Words fault) = TellsWrong (line_of patchelf_known words) fault
TellsGiven words error.Memory = ⊤
TellsGiven words e = ⊥

abbrev pub TellsValues : (Text → Option (List ℕ)) → (Text → ReadError → Type 0) → List Asked → LineError → Type 0
TellsValues known fails given (error.Value refused) = RefusesValue known fails given refused
TellsValues known fails given error.Memory = ⊤
TellsValues known fails given e = ⊥

abbrev pub TellsLine : (Text → Option (List ℕ)) → (Text → ReadError → Type 0) → List Text → LineError → Type 0
TellsLine known fails words (error.Words fault) = TellsWrong (line_of patchelf_known words) fault
TellsLine known fails words (error.Refused refused) = RefusesGiven words refused
TellsLine known fails words (error.Value refused) = IsTaken words (λ given. RefusesValue known fails given refused)
TellsLine known fails words error.Memory = ⊤

-- the error of a refusal, which is want of memory where that is its cause
abbrev pub IsErrorOf : ValueRefused → LineError → Type 0
IsErrorOf refused (error.Value same) = (same ≡ refused) × (refused.cause ≡ Memory → ⊥)
IsErrorOf refused error.Memory = refused.cause ≡ Memory
IsErrorOf refused e = ⊥
