-- The commands of a first word: the word that names each, and what it asks for with its values.
use Rattle.std.specs.Prelude.{ℕ, Bool, List, [], ◌∷◌, ◌++◌, Option, Some, None}
use Rattle.std.specs.Prelude.{if◌then◌else◌, map, option_and_then, string_bytes}
use Rattle.std.specs.Str.{bytes_eq}
use Rattle.command_words.specs.declared.rows.ValueForm.{ValueForm}
use Rattle.command_words.specs.declared.rows.ValueForm.TheVariants as form
use Rattle.command_words.specs.declared.rows.Row.{Row}
use Rattle.command_words.specs.declared.rows.Values.{Values}
use Rattle.command_words.specs.declared.rows.Values.TheVariants as values

-- the bytes of a word
abbrev pub Text : Type 0
Text = List ℕ

-- ---- which values a command takes

-- the path alone, a text and the path, two texts and the path, the path and any number of words, or the path and any
-- number of values of an option with this long and this short name
pub data Kind : Type 0 where
  path_alone : Kind
  text_and_path : Kind
  texts_and_path : Kind
  path_and_words : Kind
  path_and_options : Text → ℕ → Kind

-- the values of a command, by their kind, each in the order of its words
pub data Given : Type 0 where
  path : Text → Given
  text : Text → Text → Given
  texts : Text → Text → Text → Given
  words : Text → List Text → Given
  options : Text → List Text → Given

-- words as such values, of which none is an option
abbrev pub given_by : Kind → List Text → Option Given
given_by path_alone (file ∷ []) = Some (path file)
given_by text_and_path (value ∷ file ∷ []) = Some (text value file)
given_by texts_and_path (first ∷ second ∷ file ∷ []) = Some (texts first second file)
given_by path_and_words (file ∷ list) = Some (words file list)
given_by (path_and_options long short) (file ∷ []) = Some (options file [])
given_by _ _ = None

-- the words of values of a kind, with an empty path where the path stands
abbrev pub with_empty_path : Kind → List Text → List Text
with_empty_path path_and_words list = [] ∷ list
with_empty_path _ list = list ++ [] ∷ []

-- words without the path as such values, where the path is empty
abbrev pub given_without_path : Kind → List Text → Option Given
given_without_path kind list = given_by kind (with_empty_path kind list)

-- how many words there are but for the path, where that is fixed
abbrev pub count_of : Kind → ℕ
count_of text_and_path = 1
count_of texts_and_path = 2
count_of _ = 0

-- ---- what a command asks for

-- what is asked for, by the values
pub data Asks (M : Type 0) : Type 0 where
  by_path : (Text → M) → Asks M
  by_text : (Text → Text → M) → Asks M
  by_texts : (Text → Text → Text → M) → Asks M
  by_words : (Text → List Text → M) → Asks M
  by_options : Text → ℕ → (Text → List Text → M) → Asks M

module _ {M : Type 0} where
  abbrev pub kind_of : Asks M → Kind
  kind_of (by_path meaning) = path_alone
  kind_of (by_text meaning) = text_and_path
  kind_of (by_texts meaning) = texts_and_path
  kind_of (by_words meaning) = path_and_words
  kind_of (by_options long short meaning) = path_and_options long short

  abbrev pub asked_with : Asks M → Given → Option M
  asked_with (by_path meaning) (path file) = Some (meaning file)
  asked_with (by_text meaning) (text value file) = Some (meaning value file)
  asked_with (by_texts meaning) (texts first second file) = Some (meaning first second file)
  asked_with (by_words meaning) (words file list) = Some (meaning file list)
  asked_with (by_options long short meaning) (options file list) = Some (meaning file list)
  asked_with _ _ = None

  abbrev pub asked_by_words : Asks M → List Text → Option M
  asked_by_words asks list = option_and_then (asked_with asks) (given_by (kind_of asks) list)

-- a command: its name, whether it is an edit that `apply` takes, and what it asks for
pub record Line (M : Type 0) : Type 0 where
  pub name : Text
  pub is_edit : Bool
  pub asks : Asks M

module _ {M : Type 0} where
  abbrev pub line_named : List (Line M) → Text → Option (Line M)
  line_named [] name = None
  line_named (line ∷ lines) name =
      if bytes_eq name line.name then Some line else line_named lines name

  -- what a name asks for, with the words behind it
  abbrev pub meant_by : List (Line M) → Text → List Text → Option M
  meant_by lines name list =
      option_and_then (λ line. asked_by_words line.asks list) (line_named lines name)

  -- what a name asks for, with values
  abbrev pub meant_with : List (Line M) → Text → Given → Option M
  meant_with [] name given = None
  meant_with (line ∷ lines) name given =
      if bytes_eq name line.name then asked_with line.asks given else meant_with lines name given

-- ---- what a command line's reader knows of a command

-- a command's name, its values, and whether it is an edit
pub record Named : Type 0 where
  pub name : Text
  pub kind : Kind
  pub is_edit : Bool

abbrev pub named_of : {M : Type 0} → Line M → Named
named_of line = record { name = line.name; kind = kind_of line.asks; is_edit = line.is_edit }

abbrev pub named : List Named → Text → Option Named
named [] name = None
named (row ∷ rows) name = if bytes_eq name row.name then Some row else named rows name

-- ---- what the program's tables and values show

abbrev pub kind_model : ValueForm → Kind
kind_model form.Path = path_alone
kind_model (form.Text value) = text_and_path
kind_model (form.Texts first second) = texts_and_path
kind_model (form.Words value) = path_and_words
kind_model (form.Options option) = path_and_options option.long.now option.short

abbrev pub row_model : Row → Named
row_model row = record { name = row.name.now; kind = kind_model row.form; is_edit = row.is_edit }

abbrev pub given_model : Values → Given
given_model (values.Path file) = path (string_bytes file)
given_model (values.Text value file) = text (string_bytes value) (string_bytes file)
given_model (values.Texts first second file) =
    texts (string_bytes first) (string_bytes second) (string_bytes file)
given_model (values.Words file list) = words (string_bytes file) (map string_bytes list.items)
given_model (values.Options file list) = options (string_bytes file) (map string_bytes list.items)
