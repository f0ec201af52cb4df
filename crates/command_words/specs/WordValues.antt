-- Values of commands that not every word is: numbers, and pairs of a key and a value.
use Rattle.std.specs.Prelude.{ℕ, ◌+◌, ◌-◌, ◌≡◌, List, [], ◌∷◌, Option, Some, None, Result, Ok, Err}
use Rattle.std.specs.Prelude.{String, slice_get, string_bytes, ⊤}
use Rattle.std.specs.declared.alloc.Global.{Global}
use Rattle.command_words.specs.Groups.{Wrong, fault_at}
use Rattle.command_words.specs.KeyValue.{decimal_number, key_value}
use Rattle.command_words.specs.Rows.{Text}
use Rattle.command_words.specs.declared.edits.EditKind.TheVariants.{KeyValue, Number}
use Rattle.command_words.specs.declared.edits.EditsError.{EditsError}
use Rattle.command_words.specs.declared.edits.EditsError.TheVariants as edits
use Rattle.command_words.specs.declared.word_values.ValueError.{ValueError}
use Rattle.command_words.specs.declared.word_values.ValueError.TheVariants.{Memory, NoNumber, NoPair}

-- ---- what is wrong

-- the one word behind the command's name is no number
abbrev pub no_number : Wrong
no_number = record { kind = Number; word = 1; takes = 1 }

-- the word at this place is no pair of a key and a value
abbrev pub no_pair : ℕ → Wrong
no_pair place = record { kind = KeyValue; word = place; takes = 0 }

-- ---- pairs

-- a pair of texts
abbrev pub text_pair_model : String Global × String Global → Text × Text
text_pair_model pair = (string_bytes pair.0, string_bytes pair.1)

-- a pair before others; the first word that is none counts
abbrev pub then_pairs : ℕ → Option (Text × Text) → Result (List (Text × Text)) Wrong
    → Result (List (Text × Text)) Wrong
then_pairs place None rest = Err (no_pair place)
then_pairs place (Some pair) (Ok pairs) = Ok (pair ∷ pairs)
then_pairs place (Some pair) (Err wrong) = Err wrong

-- the pairs of words, of which the first has this place
unfoldable pub pairs_from : ℕ → List Text → Result (List (Text × Text)) Wrong
pairs_from place [] = Ok []
pairs_from place (word ∷ words) =
    then_pairs place (key_value word) (pairs_from (place + 1) words)

-- ---- what a call answers; want of memory may be answered in any case

-- the error is that of a word that is no number, which it holds
abbrev pub TellsNoNumber : Text → ValueError → Type 0
TellsNoNumber word (NoNumber told) = (decimal_number word ≡ None) × (string_bytes told ≡ word)
TellsNoNumber word _ = ⊥

-- the error is that of a word that is no pair, with the word and its place
abbrev pub TellsNoPair : ℕ → Text → ValueError → Type 0
TellsNoPair place word (NoPair told at) =
    (key_value word ≡ None) × (string_bytes told ≡ word) × (at ≡ place)
TellsNoPair place word Memory = ⊤
TellsNoPair place word _ = ⊥

-- the error is that of the first of the words that is no pair, with the word and its place
abbrev pub TellsNoPairs : List Text → ValueError → Type 0
TellsNoPairs words (NoPair told place) = (pairs_from 1 words ≡ Err (no_pair place))
    × (slice_get words (place - 1) ≡ Some (string_bytes told))
TellsNoPairs words Memory = ⊤
TellsNoPairs words _ = ⊥

-- the error is that of values that are not what a command takes
abbrev pub TellsNoValue : {M : Type 0} → Option (Result M Wrong) → ValueError → Type 0
TellsNoValue read (NoNumber word) = read ≡ Some (Err no_number)
TellsNoValue read (NoPair word place) = read ≡ Some (Err (no_pair place))
TellsNoValue read Memory = ⊤

-- the answer for the group of this number with such values
abbrev pub value_answer : ℕ → ValueError → EditsError
value_answer group (NoNumber word) = edits.Fault (fault_at group no_number)
value_answer group (NoPair word place) = edits.Fault (fault_at group (no_pair place))
value_answer group Memory = edits.Memory

-- the error is what is wrong with the values of this group, or want of memory
abbrev pub TellsValues : {M : Type 0} → ℕ → Option (Result M Wrong) → EditsError → Type 0
TellsValues group read (edits.Fault fault) = (wrong : Wrong) × (read ≡ Some (Err wrong))
    × (fault ≡ fault_at group wrong)
TellsValues group read edits.Memory = ⊤
