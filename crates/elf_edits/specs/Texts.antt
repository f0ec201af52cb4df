-- Texts: lists of bytes that are compared whole, byte by byte.
use Rattle.std.specs.Prelude.{ℕ, List, [], ◌∷◌, ◌++◌, Bool, true, false, Option, Some, None, ◌==◌, if◌then◌else◌}
use Rattle.std.specs.List.{list_any, slice_split, join_with_byte}
use Rattle.std.specs.Str.{bytes_eq}
pub use Rattle.elf_image.specs.DynamicList.{holds_nul}
use Rattle.elf_image.specs.Options.{first_there}
use Rattle.elf_edits.specs.declared.constants.TheConstants.{COLON}

-- the text is one of these texts
abbrev pub is_among : List (List ℕ) → List ℕ → Bool
is_among texts text = list_any (λ other. bytes_eq text other) texts

-- the value of a key among pairs of a key and a value; of a repeated key the last pair counts
abbrev pub value_of : List (List ℕ × List ℕ) → List ℕ → Option (List ℕ)
value_of [] text = None
value_of (pair ∷ pairs) text = first_there (value_of pairs text) (if bytes_eq text pair.0 then Some pair.1 else None)

-- the directories of a run path: its parts between colons; the empty text has one, which is empty
abbrev pub directories_in : List ℕ → List (List ℕ)
directories_in text = slice_split (λ byte. byte == COLON) text

-- directories with a colon between each two
abbrev pub joined_by_colons : List (List ℕ) → List ℕ
joined_by_colons directories = join_with_byte COLON directories

-- each text behind a colon
abbrev pub behind_colons : List (List ℕ) → List ℕ
behind_colons [] = []
behind_colons (text ∷ texts) = COLON ∷ text ++ behind_colons texts

-- the list has an element
abbrev pub has_some : {A : Type 0} → List A → Bool
has_some [] = false
has_some (x ∷ xs) = true

abbrev pub first_in : {A : Type 0} → List A → Option A
first_in [] = None
first_in (x ∷ xs) = Some x
