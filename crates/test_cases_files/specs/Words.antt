-- Words of lines.
use Rattle.std.specs.Prelude.{ℕ, ◌==◌, ◌≡◌, ◌⊎◌, List, [], ◌∷◌, ◌++◌, Ok, Err, codes, if◌then◌else◌, length, map, nat_lt, ⊤}
use Rattle.std.specs.List.{after_first, before_first, position_or_len, slice_split}
use Rattle.std.specs.Str.{IsUtf8, bytes_eq}
use Rattle.command_words.specs.Parts.{without_empty}
use Rattle.command_words.specs.declared.edits.EditsError.{EditsError}
use Rattle.command_words.specs.declared.edits.EditsError.TheVariants.{Fault, Memory}
use Rattle.elf_commands.specs.ElfWords.{elf_edits_of}
use Rattle.elf_commands.specs.Groups.{GroupEdit}

-- what stands before the first of these marks and what behind it; the whole line where it has none
abbrev pub cut_at : ℕ → List ℕ → List ℕ × List ℕ
cut_at mark line =
    if nat_lt (position_or_len (λ byte. byte == mark) line) (length line)
    then (before_first (λ byte. byte == mark) line, after_first (λ byte. byte == mark) line)
    else (line, [])

-- what a word is: two quotes are the empty word
abbrev pub unquoted : List ℕ → List ℕ
unquoted word = if bytes_eq word (codes "''") then [] else word

-- the words of a text between these marks; an empty part is none
abbrev pub words_between : ℕ → List ℕ → List (List ℕ)
words_between mark text = map unquoted (without_empty (slice_split (λ byte. byte == mark) text))

-- the byte that a byte of a word stands for: `^` for a blank, `~` for a NUL
abbrev pub unmarked : ℕ → ℕ
unmarked byte = if byte == 94 then 32 else (if byte == 126 then 0 else byte)

-- the words of a line by their marks
abbrev pub marked_words : List ℕ → List (List ℕ)
marked_words line = map (map unmarked) (words_between 32 line)

-- the last line of a text is ended
abbrev pub EndsLine : List ℕ → Type 0
EndsLine text = (front : List ℕ) × (text ≡ front ++ 10 ∷ [])

-- ## Bytes as texts

-- a text has the same bytes as these where they are UTF-8, and none where they are not
abbrev pub IsTextOf : List ℕ → List ℕ → Type 0
IsTextOf bytes text = (IsUtf8 bytes × (text ≡ bytes)) ⊎ ((IsUtf8 bytes → ⊥) × (text ≡ []))

-- texts are those of so many lists of bytes, in their order
abbrev pub AreTextsOf : List (List ℕ) → List (List ℕ) → Type 0
AreTextsOf [] [] = ⊤
AreTextsOf [] (text ∷ texts) = ⊥
AreTextsOf (bytes ∷ rest) [] = ⊥
AreTextsOf (bytes ∷ rest) (text ∷ texts) = IsTextOf bytes text × AreTextsOf rest texts

-- ## Edits

-- the texts of words name edits of which this is true
abbrev pub NameEdits : List (List ℕ) → (List GroupEdit → Type 0) → Type 0
NameEdits words P = (texts : List (List ℕ)) × (edits : List GroupEdit) × AreTextsOf words texts
    × (elf_edits_of texts ≡ Ok edits) × P edits

-- the error is the fault that the texts of words have, or want of memory
abbrev pub TellsNoEdits : List (List ℕ) → EditsError → Type 0
TellsNoEdits words (Fault fault) = (texts : List (List ℕ)) × AreTextsOf words texts × (elf_edits_of texts ≡ Err fault)
TellsNoEdits words Memory = Unit {0}
