-- What an error leaves open, by the bytes of its file.
use Rattle.std.specs.Prelude.{ℕ, ◌≡◌, ◌++◌, List, [], Option, Some, None, codes, ⊤}
use Rattle.arwen_elf.specs.ElfError.{ElfError}
use Rattle.arwen_elf.specs.ElfError.TheVariants.{Parse}
use Rattle.elf_image_reasons.specs.Told.{reason_of}
use Rattle.file_kinds.specs.Kinds.{kind_of}
use Rattle.file_kinds.specs.Reasons.{Words, elf_reason, macho_reason}
use Rattle.file_kinds.specs.declared.kinds.FileKind.{FileKind}
use Rattle.file_kinds.specs.declared.kinds.FileKind.TheVariants as kinds
use Rattle.macho_edits.specs.declared.error.MachoError.{MachoError}
use Rattle.macho_edits.specs.declared.error.MachoError.TheVariants.{Parsing}
use Rattle.arwen_cli_facts.specs.Refusals.{Refuses}
use Rattle.arwen_cli_facts.specs.declared.error.ShowError.{ShowError}
use Rattle.arwen_cli_facts.specs.declared.error.ShowError.TheVariants.{Elf, Macho, UnknownFormat}
use Rattle.arwen_cli_facts.specs.declared.refusal.Refusal.{Refusal}
use Rattle.arwen_cli_facts.specs.declared.refusal.Told.{Told}
use Rattle.arwen_cli_facts.specs.declared.refusal.Told.TheVariants as told

-- what a file is that is neither an ELF file nor a Mach-O file
abbrev pub kind_words : FileKind → Option Words
kind_words kinds.Empty = Some (codes "an empty file")
kind_words kinds.FatMachO = Some (codes "a fat file with offsets of 64 bits")
kind_words kinds.WindowsProgram = Some (codes "a Windows program")
kind_words kinds.Archive = Some (codes "an archive")
kind_words kinds.ThinArchive = Some (codes "a thin archive")
kind_words kinds.Zip = Some (codes "a zip archive")
kind_words kinds.Compressed = Some (codes "a compressed file")
kind_words kinds.Script = Some (codes "a script")
kind_words kinds.Text = Some (codes "text")
kind_words kinds.Elf = None
kind_words kinds.MachO = None
kind_words kinds.JavaClass = None
kind_words kinds.Other = None

abbrev pub elf_words : ElfError → List ℕ → Option Words
elf_words (Parse fault) file = elf_reason fault file
elf_words _ file = None

abbrev pub macho_words : MachoError → List ℕ → Option Words
macho_words (Parsing fault) file = macho_reason fault file
macho_words _ file = None

-- what the file is, where that says why
abbrev pub words_of : ShowError → List ℕ → Option Words
words_of UnknownFormat file = kind_words (kind_of file)
words_of (Elf e) file = elf_words e file
words_of (Macho e) file = macho_words e file
words_of _ file = None

-- the read rule that a file breaks first
abbrev pub IsRule : List ℕ → Option Told → Type 0
IsRule file None = ⊤
IsRule file (Some (told.Rule reason)) = reason_of file ≡ Some reason
IsRule file (Some (told.Words words)) = ⊥

-- what is told of the bytes of a file where these words say what it is: the words, or else the rule that it breaks, or
-- nothing
abbrev pub TellsWords : Option Words → List ℕ → Option Told → Type 0
TellsWords words file None = words ≡ None
TellsWords words file (Some (told.Words text)) = words ≡ Some text.now
TellsWords words file (Some (told.Rule reason)) = (words ≡ None) × (reason_of file ≡ Some reason)

abbrev pub TellsBytes : ShowError → List ℕ → Option Told → Type 0
TellsBytes error file reason = TellsWords (words_of error file) file reason

-- an error tells why bytes are refused, with what it leaves open
abbrev pub IsRefusalOf : List ℕ → Refusal → Type 0
IsRefusalOf file refusal = Refuses file refusal.error × TellsBytes refusal.error file refusal.reason

-- ## The line

-- what stands in brackets for what an error leaves open: the words, or a text that tells the rule
abbrev pub IsToldText : Told → List ℕ → Type 0
IsToldText (told.Words words) text = text ≡ words.now
IsToldText (told.Rule reason) text = ⊤

abbrev pub IsBracketOf : Option Told → Option (List ℕ) → Type 0
IsBracketOf None bracket = bracket ≡ None
IsBracketOf (Some reason) bracket = (text : List ℕ) × (bracket ≡ Some text) × IsToldText reason text

-- a text in brackets behind a line, where there is one
abbrev pub bracket_text : Option (List ℕ) → List ℕ
bracket_text None = []
bracket_text (Some text) = codes " (" ++ (text ++ codes ")")

-- the line of a file: its path, the causes, and what they leave open
abbrev pub file_line : (path causes : List ℕ) → Option (List ℕ) → List ℕ
file_line path causes bracket = path ++ (codes ": " ++ (causes ++ bracket_text bracket))
