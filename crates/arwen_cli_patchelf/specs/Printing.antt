-- What lines of patchelf print of a file, and in which order.
use Rattle.std.specs.Prelude.{ℕ, ◌≡◌, ◌⊎◌, true, false, List, [], ◌∷◌, Option, Some, None, Result, Ok, Err, codes, if◌then◌else◌, ⊤}
use Rattle.std.specs.Io.KnownBytes.{Appends}
use Rattle.std.specs.declared.io.Error.{Error}
use Rattle.byte_store.specs.Known.{Stays}
use Rattle.elf_commands.specs.ElfError.{ElfError}
use Rattle.elf_commands.specs.ElfError.TheVariants as elf
use Rattle.elf_image.specs.Image.{Image, image_of, shown}
use Rattle.elf_image.specs.Views.{View}
use Rattle.elf_format.specs.declared.fault.ElfFault.{ElfFault}
use Rattle.elf_commands.specs.ElfStores.{IsKeptAt}
use Rattle.elf_commands.specs.Prints.{StopsWriting}
use Rattle.elf_commands.specs.ElfCommandError.{ElfCommandError}
use Rattle.elf_commands.specs.ElfCommandError.TheVariants.{Elf, Io, Memory}
use Rattle.arwen_cli_options.specs.Asked.{is_given}
use Rattle.arwen_cli_options.specs.Options.{Asked, Text}
use Rattle.arwen_cli_patchelf.specs.PrintTexts.{is_absent, print_text}
use Rattle.arwen_cli_patchelf.specs.declared.error.PatchelfError.{PatchelfError}
use Rattle.arwen_cli_patchelf.specs.declared.error.PatchelfError.TheVariants.{Absent, Command}
use Rattle.arwen_cli_patchelf.specs.declared.printing.Print.{Print}
use Rattle.arwen_cli_patchelf.specs.declared.printing.Print.TheVariants.{ExecStack, Interpreter, Needed, OsAbi, RunPath, Soname}

-- ## What is printed

-- the option that asks for a print
abbrev pub option_for : Print → Text
option_for Interpreter = codes "--print-interpreter"
option_for OsAbi = codes "--print-os-abi"
option_for Soname = codes "--print-soname"
option_for RunPath = codes "--print-rpath"
option_for ExecStack = codes "--print-execstack"
option_for Needed = codes "--print-needed"

-- all that may be printed, in patchelf's order
abbrev pub all_prints : List Print
all_prints = Interpreter ∷ OsAbi ∷ Soname ∷ RunPath ∷ ExecStack ∷ Needed ∷ []

-- those of these prints that options ask for
abbrev pub prints_among : List Asked → List Print → List Print
prints_among asked [] = []
prints_among asked (print ∷ rest) =
    if is_given (option_for print) asked then print ∷ prints_among asked rest else prints_among asked rest

-- what options ask to be printed, whatever their order
abbrev pub prints_asked : List Asked → List Print
prints_asked asked = prints_among asked all_prints

-- ## What comes of it

-- the text of a print of what a file shows, which has a place for it
pub record IsTextOf (print : Print) (view : View) (text : Text) : Type 0 where
  pub there : is_absent print view ≡ false
  pub is : text ≡ print_text print view

-- why there is none, besides want of memory: the file has no place for it
abbrev pub TellsNoText : Print → View → PatchelfError → Type 0
TellsNoText print view (Command Memory) = ⊤
TellsNoText print view (Command e) = ⊥
TellsNoText print view (Absent other) = (other ≡ print) × (is_absent print view ≡ true)

-- the file is accepted and has a place for a print, and what is printed of it is added to what was written before
abbrev pub IsPrintedOf : Print → Result Image ElfFault → Option (List ℕ) → Option (List ℕ) → Type 0
IsPrintedOf print read old new =
    (image : Image) × (read ≡ Ok image) × (text : Text) × IsTextOf print (shown image) text × Appends old new text

-- of known bytes
abbrev pub IsPrinted : Print → Option (List ℕ) → Option (List ℕ) → Option (List ℕ) → Type 0
IsPrinted print known old new = (file : List ℕ) → known ≡ Some file → IsPrintedOf print (image_of file) old new

-- why it is not printed: the first rule that the file breaks, and the writer is as it was; or the writer failed, and got the
-- first bytes of what is printed
abbrev pub TellsUnprinted : {W : Type 0} → (W → Option (List ℕ)) → (W → ℕ) → Print → Result Image ElfFault → W → W → ElfError → Type 0
TellsUnprinted contents failed print read old new (elf.Parse fault) = (read ≡ Err fault) × (new ≡ old)
TellsUnprinted contents failed print read old new (elf.Io e) =
    (image : Image) × (read ≡ Ok image) × (text : Text) × IsTextOf print (shown image) text × StopsWriting contents failed text old new (elf.Io e)
TellsUnprinted contents failed print read old new _ = ⊥

-- the file is accepted, and has no place for a print
abbrev pub LacksPrint : Print → Result Image ElfFault → Type 0
LacksPrint print read = (image : Image) × (read ≡ Ok image) × (is_absent print (shown image) ≡ true)

-- what an error of printing tells of a file's bytes, and where these are known
abbrev pub TellsPrintOf : {W : Type 0} → (W → Option (List ℕ)) → (W → ℕ) → Print → Result Image ElfFault → W → W → PatchelfError → Type 0
TellsPrintOf contents failed print read old new (Command Memory) = new ≡ old
TellsPrintOf contents failed print read old new (Command (Elf e)) = TellsUnprinted contents failed print read old new e
TellsPrintOf contents failed print read old new (Command _) = ⊥
TellsPrintOf contents failed print read old new (Absent other) = (new ≡ old) × (other ≡ print) × LacksPrint print read

abbrev pub TellsPrint : {W : Type 0} → (W → Option (List ℕ)) → (W → ℕ) → Print → Option (List ℕ) → W → W → PatchelfError → Type 0
TellsPrint contents failed print known old new (Command Memory) = new ≡ old
TellsPrint contents failed print known old new (Command (Io e)) = new ≡ old
TellsPrint contents failed print known old new (Command (Elf e)) =
    (file : List ℕ) → known ≡ Some file → TellsUnprinted contents failed print (image_of file) old new e
TellsPrint contents failed print known old new (Command _) = ⊥
TellsPrint contents failed print known old new (Absent other) =
    (new ≡ old) × (other ≡ print) × ((file : List ℕ) → known ≡ Some file → LacksPrint print (image_of file))

-- each of these is printed of known bytes, one behind the other, and nothing else
abbrev pub PrintsAll : List Print → Option (List ℕ) → Option (List ℕ) → Option (List ℕ) → Type 0
PrintsAll [] known old new = new ≡ old
PrintsAll (print ∷ rest) known old new =
    (mid : Option (List ℕ)) × IsPrinted print known old mid × PrintsAll rest known mid new

-- what is there after so many prints of a store at a path: it has the bytes that were known there; for none it isn't opened
abbrev pub IsReadFor : {S : Type 0} → (S → Option (List ℕ)) → ℕ → Option (List ℕ) → Option S → Type 0
IsReadFor contents count known None = count ≡ 0
IsReadFor contents count known (Some store) = Stays known (contents store)

-- an error of printing these: of one of them, once those before it were printed
abbrev pub TellsPrints : {W : Type 0} → (W → Option (List ℕ)) → (W → ℕ) → List Print → Option (List ℕ) → W → W → PatchelfError → Type 0
TellsPrints contents failed [] known old new e = ⊥
TellsPrints {W} contents failed (print ∷ rest) known old new e = TellsPrint contents failed print known old new e
    ⊎ ((mid : W) × IsPrinted print known (contents old) (contents mid) × TellsPrints contents failed rest known mid new e)

-- ## The cause of an error

-- what is said of the error of a command for ELF files; nothing of what a file lacks
abbrev pub IfCommand : (ElfCommandError → Type 0) → PatchelfError → Type 0
IfCommand Says (Command e) = Says e
IfCommand Says (Absent print) = ⊤

-- nothing was opened, for this error, or what was opened comes back with the bytes that were known of the path
abbrev pub IsKeptFor : {S : Type 0} → (Error → Type 0) → (S → Option (List ℕ)) → Option (List ℕ) → PatchelfError → Option S → Type 0
IsKeptFor opens contents known (Command e) store = IsKeptAt opens contents known e store
IsKeptFor opens contents known (Absent print) None = ⊥
IsKeptFor opens contents known (Absent print) (Some store) = Stays known (contents store)
