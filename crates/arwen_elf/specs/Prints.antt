-- What is printed: each text lossily, with a line feed; and what a writer got where that fails. And the run path, cut into directories.
use Rattle.std.specs.Prelude.{ℕ, ◌≡◌, ◌<◌, List, [], ◌∷◌, ◌++◌, Option, Some, None, ◌==◌, if◌then◌else◌, bit_and, encode_utf8_all, length, take}
use Rattle.std.specs.List.{flat_map, slice_split}
use Rattle.std.specs.Fmt.{decimal}
use Rattle.std.specs.Io.KnownBytes.{Appends}
use Rattle.bstr.specs.Utf8.{lossy_chars}
use Rattle.elf_image.specs.Views.{View}
use Rattle.arwen_elf_writer.specs.Reads.{needed_shown, runpath_shown, searched_shown, soname_shown}
use Rattle.arwen_elf_writer.specs.ElfError.{ElfError}
use Rattle.arwen_elf_writer.specs.ElfError.TheVariants.{Io, Memory}

-- the UTF-8 text of bytes, with U+FFFD for what is no character
abbrev pub lossily : List ℕ → List ℕ
lossily text = encode_utf8_all (lossy_chars text)

abbrev pub line_of : List ℕ → List ℕ
line_of text = lossily text ++ 10 ∷ []

-- a text's line, or nothing
abbrev pub line_if : Option (List ℕ) → List ℕ
line_if None = []
line_if (Some text) = line_of text

-- the bytes before the first NUL, all where there is none
unfoldable pub before_nul : List ℕ → List ℕ
before_nul [] = []
before_nul (b ∷ bs) = if b == 0 then [] else b ∷ before_nul bs

-- a text cut at its colons; the empty text has no parts
unfoldable pub cut_at_colons : List ℕ → List (List ℕ)
cut_at_colons [] = []
cut_at_colons (b ∷ bs) = slice_split (λ c. c == 58) (b ∷ bs)

-- the directories in which a loader looks for needed libraries
abbrev pub directories_of : Option (List ℕ) → List (List ℕ)
directories_of None = []
directories_of (Some text) = cut_at_colons (lossily text)

abbrev pub directories_shown : View → List (List ℕ)
directories_shown view = directories_of (searched_shown view)

abbrev pub printed_runpath : View → List ℕ
printed_runpath view = line_if (runpath_shown view)

abbrev pub printed_soname : View → List ℕ
printed_soname view = line_if (soname_shown view)

abbrev pub printed_needed : View → List ℕ
printed_needed view = flat_map line_of (needed_shown view)

abbrev pub interpreter_line : Option (List ℕ) → List ℕ
interpreter_line None = []
interpreter_line (Some bytes) = line_of (before_nul bytes)

abbrev pub printed_interpreter : View → List ℕ
printed_interpreter view = interpreter_line view.interpreter

abbrev pub printed_os_abi : View → List ℕ
printed_os_abi view = decimal view.os_abi ++ 10 ∷ []

-- `X` where the stack may be run (PF_X, gABI, Program Header, p_flags), else `-`
abbrev pub stack_line : Option ℕ → List ℕ
stack_line None = []
stack_line (Some flags) = (if bit_and flags 1 == 0 then 45 else 88) ∷ 10 ∷ []

abbrev pub printed_exec_stack : View → List ℕ
printed_exec_stack view = stack_line view.stack_flags

-- ---- what a writer got where printing fails

-- the first bytes of a text were appended, but not all
abbrev pub IsCutShort : List ℕ → Option (List ℕ) → Option (List ℕ) → Type 0
IsCutShort text old new = (n : ℕ) × (n < length text) × Appends old new (take n text)

-- an error of printing a text: there was no memory, and the writer is as it was; or the writer failed, and got the first bytes
abbrev pub FailsPrint : {W : Type 0} → (W → Option (List ℕ)) → List ℕ → W → W → ElfError → Type 0
FailsPrint contents text old new Memory = new ≡ old
FailsPrint contents text old new (Io e) = IsCutShort text (contents old) (contents new)
FailsPrint contents text old new e = ⊥

-- an error of printing a text without memory: the writer failed, and got the first bytes
abbrev pub FailsWrite : {W : Type 0} → (W → Option (List ℕ)) → List ℕ → W → W → ElfError → Type 0
FailsWrite contents text old new (Io e) = IsCutShort text (contents old) (contents new)
FailsWrite contents text old new e = ⊥
