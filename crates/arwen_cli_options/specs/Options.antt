-- What the words of a peer's line give: options with their values, and files.
use Rattle.std.specs.Prelude.{ℕ, ◌≡◌, ◌==◌, ◌&&◌, ◌++◌, Bool, List, [], ◌∷◌, length, nat_lt, slice_index, Option, Some, None, Result, Ok, Err, codes, if◌then◌else◌, ⊤}
use Rattle.std.specs.Str.{bytes_eq}
use Rattle.arwen_cli_options.specs.declared.options.Form.{Form}
use Rattle.arwen_cli_options.specs.declared.options.Form.TheVariants.{Flag, Help, One, Two, Version}
use Rattle.arwen_cli_options.specs.declared.options.Given.{Given}
use Rattle.arwen_cli_options.specs.declared.options.LineFault.{LineFault}
use Rattle.arwen_cli_options.specs.declared.options.LineFault.TheVariants as fault
use Rattle.arwen_cli_options.specs.declared.options.OptionRow.{OptionRow}
use Rattle.arwen_cli_options.specs.declared.options.Step.{Step}
use Rattle.arwen_cli_options.specs.declared.options.Wants.{Wants}
use Rattle.arwen_cli_options.specs.declared.options.Wants.TheVariants as wants

abbrev pub Text : Type 0
Text = List ℕ

-- ## Options

-- an option of a program: the word that gives it, its name, and what stands behind it
pub record Known : Type 0 where
  pub word : Text
  pub name : Text
  pub form : Form

abbrev pub row_model : OptionRow → Known
row_model row = record { word = row.word.now; name = row.name.now; form = row.form }

-- an option that a line gives, by its name, with its values: none is an empty text
pub record Asked : Type 0 where
  pub name : Text
  pub first : Text
  pub second : Text

abbrev pub given_model : Given → Asked
given_model given = record { name = given.name.now; first = given.first.now; second = given.second.now }

-- a file, as what a line gives
abbrev pub file_given : Text → Asked
file_given path = record { name = codes "FILE"; first = path; second = [] }

-- ## A line, word by word

-- what the next word is: an option or a file, or a value of an option of this name
pub data Wanted : Type 0 where
  any : Wanted
  one : Text → Wanted
  first_of : Text → Wanted
  second_of : Text → Text → Wanted

abbrev pub wants_model : Wants → Wanted
wants_model wants.Any = any
wants_model (wants.One name) = one name.now
wants_model (wants.FirstOf name) = first_of name.now
wants_model (wants.SecondOf name first) = second_of name.now first.now

-- why a line asks for nothing that is done: it asks for help or the version, or a word is wrong
pub data Wrong : Type 0 where
  help : Wrong
  version : Wrong
  -- an option that isn't known
  unknown : Text → Wrong
  -- a value of the option of this name is missing
  missing : Text → Wrong

-- what a word gives, if anything, and what the next one is
abbrev pub Stepped : Type 0
Stepped = Result (Option Asked × Wanted) Wrong

abbrev pub step_model : Step → Option Asked × Wanted
step_model step = (given_if step.given, wants_model step.wants)
  where
    given_if : Option Given → Option Asked
    given_if None = None
    given_if (Some given) = Some (given_model given)

-- the option that a word gives
abbrev pub option_of : List Known → Text → Option Known
option_of [] word = None
option_of (row ∷ rows) word = if bytes_eq row.word word then Some row else option_of rows word

-- a hyphen, and more
abbrev pub is_option : Text → Bool
is_option word = nat_lt 1 (length word) && slice_index word 0 == 45

abbrev pub by_form : Text → Form → Stepped
by_form name Flag = Ok (Some (record { name = name; first = []; second = [] }), any)
by_form name One = Ok (None, one name)
by_form name Two = Ok (None, first_of name)
by_form name Help = Err help
by_form name Version = Err version

abbrev pub by_option : Text → Option Known → Stepped
by_option word (Some row) = by_form row.name row.form
by_option word None =
    if is_option word then Err (unknown word) else Ok (Some (file_given word), any)

abbrev pub stepped : List Known → Wanted → Text → Stepped
stepped rows any word = by_option word (option_of rows word)
stepped rows (one name) word = Ok (Some (record { name = name; first = word; second = [] }), any)
stepped rows (first_of name) word = Ok (None, second_of name word)
stepped rows (second_of name first) word =
    Ok (Some (record { name = name; first = first; second = word }), any)

-- what the end of a line means, where this was still wanted
abbrev pub at_end : Wanted → Result (List Asked) Wrong
at_end any = Ok []
at_end (one name) = Err (missing name)
at_end (first_of name) = Err (missing name)
at_end (second_of name first) = Err (missing name)

abbrev pub onto : Option Asked → Result (List Asked) Wrong → Result (List Asked) Wrong
onto None rest = rest
onto (Some asked) (Ok rest) = Ok (asked ∷ rest)
onto (Some asked) (Err wrong) = Err wrong

abbrev pub then_line : Stepped → (Wanted → Result (List Asked) Wrong) → Result (List Asked) Wrong
then_line (Err wrong) rest = Err wrong
then_line (Ok step) rest = onto step.0 (rest step.1)

-- what words give, in order, of which the first is this
abbrev pub line_from : List Known → Wanted → List Text → Result (List Asked) Wrong
line_from rows wanted [] = at_end wanted
line_from rows wanted (word ∷ words) =
    then_line (stepped rows wanted word) (λ next. line_from rows next words)

abbrev pub line_of : List Known → List Text → Result (List Asked) Wrong
line_of rows words = line_from rows any words

-- what was given before, and what the words behind it give
abbrev pub ahead : List Asked → Result (List Asked) Wrong → Result (List Asked) Wrong
ahead given (Ok rest) = Ok (given ++ rest)
ahead given (Err wrong) = Err wrong

-- what was given before a word, with what it and the words behind it give, is what was given up to it, with what these give
abbrev pub IsTaken : List Known → Wanted → Text → List Asked → Wanted → List Asked → Type 0
IsTaken rows wanted word before next given =
    (words : List Text) → ahead before (line_from rows wanted (word ∷ words)) ≡ ahead given (line_from rows next words)

-- ## Answers

-- the fault of words, or want of memory
abbrev pub TellsWrong : {X : Type 0} → Result X Wrong → LineFault → Type 0
TellsWrong meant fault.Help = meant ≡ Err help
TellsWrong meant fault.Version = meant ≡ Err version
TellsWrong meant (fault.Unknown word) = meant ≡ Err (unknown word.now)
TellsWrong meant (fault.Missing name) = meant ≡ Err (missing name.now)
TellsWrong meant fault.Memory = ⊤

-- ## Of what a line gives

-- the first values of the options of a name, in order
abbrev pub values_of : Text → List Asked → List Text
values_of name [] = []
values_of name (asked ∷ rest) =
    if bytes_eq asked.name name then asked.first ∷ values_of name rest else values_of name rest
