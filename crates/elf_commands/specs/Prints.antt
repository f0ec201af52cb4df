-- What a command prints of an ELF file.
use Rattle.std.specs.Prelude.{◌≡◌, ℕ, List, [], Option, Some, Ok, Err, Result, ⊤}
use Rattle.std.specs.Io.KnownBytes.{Appends}
use Rattle.elf_commands_edits.specs.Prints.{IsCutShort, printed_exec_stack, printed_interpreter, printed_needed}
use Rattle.elf_commands_edits.specs.Prints.{printed_os_abi, printed_runpath, printed_soname}
use Rattle.elf_commands_edits.specs.ElfError.{ElfError}
use Rattle.elf_commands_edits.specs.ElfError.TheVariants as elf
use Rattle.elf_image.specs.Image.{Image, image_of, shown}
use Rattle.elf_image.specs.Views.{View}
use Rattle.elf_format.specs.declared.fault.ElfFault.{ElfFault}
use Rattle.elf_commands_edits.specs.Counted.{Stops}
use Rattle.elf_commands_edits.specs.declared.error.ElfCommandError.{ElfCommandError}
use Rattle.elf_commands_edits.specs.declared.error.ElfCommandError.TheVariants.{Elf, Io, Memory}
use Rattle.elf_commands_lines.specs.Meaning.{ElfMeaning, apply_elf, apply_moving_elf, edit_elf, print_exec_stack, print_interpreter, print_needed}
use Rattle.elf_commands_lines.specs.Meaning.{print_os_abi, print_rpath, print_soname, shrink_elf, symbols_elf}

-- the bytes that a command prints of what a file shows; an edit prints nothing
abbrev pub printed : ElfMeaning → View → List ℕ
printed (edit_elf edit path) view = []
printed (apply_elf path words) view = []
printed (apply_moving_elf path words) view = []
printed (shrink_elf path prefixes) view = []
printed (symbols_elf edit path) view = []
printed (print_rpath path) view = printed_runpath view
printed (print_needed path) view = printed_needed view
printed (print_soname path) view = printed_soname view
printed (print_interpreter path) view = printed_interpreter view
printed (print_os_abi path) view = printed_os_abi view
printed (print_exec_stack path) view = printed_exec_stack view

-- the file is accepted, and what the command prints of it is added to what was written before
abbrev pub Prints : ElfMeaning → Result Image ElfFault → Option (List ℕ) → Option (List ℕ) → Type 0
Prints meaning read old new =
    (image : Image) × (read ≡ Ok image) × Appends old new (printed meaning (shown image))

-- ---- which answer tells what; want of memory may be answered in any case, and only a writer that
-- fails may have got something: the first bytes of what the command prints

abbrev pub TellsElfFault : {W : Type 0} → (W → Option (List ℕ)) → ElfMeaning → Result Image ElfFault → W → W → ElfError → Type 0
TellsElfFault contents meaning read old new (elf.Parse fault) = (read ≡ Err fault) × (new ≡ old)
TellsElfFault contents meaning read old new (elf.Io e) =
    (image : Image) × (read ≡ Ok image) × IsCutShort (printed meaning (shown image)) (contents old) (contents new)
TellsElfFault contents meaning read old new _ = ⊥

abbrev pub TellsElf : {W : Type 0} → (W → Option (List ℕ)) → ElfMeaning → Result Image ElfFault → W → W → ElfCommandError → Type 0
TellsElf contents meaning read old new Memory = new ≡ old
TellsElf contents meaning read old new (Elf e) = TellsElfFault contents meaning read old new e
TellsElf contents meaning read old new _ = ⊥

-- the error of a command that prints: a file's or the output's, want of memory, or the first rule that some
-- file breaks
abbrev pub PrintMayFailBy : ElfError → Type 0
PrintMayFailBy (elf.Parse fault) = (file : List ℕ) × (image_of file ≡ Err fault)
PrintMayFailBy (elf.Io e) = ⊤
PrintMayFailBy _ = ⊥

abbrev pub PrintMayFail : ElfCommandError → Type 0
PrintMayFail Memory = ⊤
PrintMayFail (Io e) = ⊤
PrintMayFail (Elf e) = PrintMayFailBy e
PrintMayFail _ = ⊥

-- ---- to a writer that counts its failures

-- an error of writing bytes: the writer failed, and got the first of them
abbrev pub StopsWriting : {W : Type 0} → (W → Option (List ℕ)) → (W → ℕ) → List ℕ → W → W → ElfError → Type 0
StopsWriting contents failed bytes old new (elf.Io e) = Stops bytes (contents old) (contents new) (failed old) (failed new)
StopsWriting contents failed bytes old new _ = ⊥

-- an error of printing: the first rule that the file breaks, and the writer is as it was; or the writer failed, and
-- got the first bytes of what the command prints
abbrev pub TellsPrintFault : {W : Type 0} → (W → Option (List ℕ)) → (W → ℕ) → ElfMeaning → Result Image ElfFault → W → W → ElfError → Type 0
TellsPrintFault contents failed meaning read old new (elf.Parse fault) = (read ≡ Err fault) × (new ≡ old)
TellsPrintFault contents failed meaning read old new (elf.Io e) =
    (image : Image) × (read ≡ Ok image) × StopsWriting contents failed (printed meaning (shown image)) old new (elf.Io e)
TellsPrintFault contents failed meaning read old new _ = ⊥

abbrev pub TellsPrint : {W : Type 0} → (W → Option (List ℕ)) → (W → ℕ) → ElfMeaning → Result Image ElfFault → W → W → ElfCommandError → Type 0
TellsPrint contents failed meaning read old new Memory = new ≡ old
TellsPrint contents failed meaning read old new (Elf e) = TellsPrintFault contents failed meaning read old new e
TellsPrint contents failed meaning read old new _ = ⊥

-- ---- of a store

-- what a command prints of known bytes
abbrev pub PrintsStored : ElfMeaning → Option (List ℕ) → Option (List ℕ) → Option (List ℕ) → Type 0
PrintsStored meaning known old new =
    (file : List ℕ) → known ≡ Some file → Prints meaning (image_of file) old new

-- what an error tells of known bytes; only a writer that fails may have got something
abbrev pub TellsStored : {W : Type 0} → (W → Option (List ℕ)) → (W → ℕ) → ElfMeaning → Option (List ℕ) → W → W → ElfCommandError → Type 0
TellsStored contents failed meaning known old new Memory = new ≡ old
TellsStored contents failed meaning known old new (Io e) = new ≡ old
TellsStored contents failed meaning known old new (Elf e) =
    (file : List ℕ) → known ≡ Some file → TellsPrintFault contents failed meaning (image_of file) old new e
TellsStored contents failed meaning known old new _ = ⊥
