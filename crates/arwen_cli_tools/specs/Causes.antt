-- Why files aren't edited, in words.
use Rattle.std.specs.Prelude.{ℕ, ◌≡◌, ◌++◌, List, [], Option, None, codes}
use Rattle.arwen_cli_faults.specs.Reasons.{file_line}
use Rattle.arwen_cli_faults.specs.Causes.{AreCauses}
use Rattle.arwen_cli_faults.specs.Fault.{answer_to_elf_command, answer_to_macho_command}
use Rattle.arwen_cli_faults.specs.Telling.{IsFileFault}
use Rattle.arwen_cli_install_names.specs.declared.editing.NamesError.{NamesError}
use Rattle.arwen_cli_install_names.specs.declared.editing.NamesError.TheVariants as names
use Rattle.arwen_cli_patchelf.specs.ElfCommandError.{ElfCommandError}
use Rattle.arwen_cli_patchelf.specs.ElfCommandError.TheVariants.{Elf, ElfBatch}
use Rattle.arwen_cli_patchelf.specs.ElfError.{ElfError}
use Rattle.arwen_cli_patchelf.specs.declared.error.PatchelfError.{PatchelfError}
use Rattle.arwen_cli_patchelf.specs.declared.error.PatchelfError.TheVariants.{Absent, Command}
use Rattle.arwen_cli_patchelf.specs.declared.printing.Print.{Print}
use Rattle.arwen_cli_patchelf.specs.declared.printing.Print.TheVariants.{ExecStack, Interpreter, Needed, OsAbi, RunPath, Soname}
use Rattle.arwen_cli_patchelf.specs.Plans.{PlanMeant, option_of}
use Rattle.arwen_cli_options.specs.Options.{Text}

-- what a file has no place for that lacks a print
abbrev pub absent_words : Print → Text
absent_words Interpreter = codes "no interpreter"
absent_words OsAbi = codes "no dynamic section"
absent_words Soname = codes "no dynamic section"
absent_words RunPath = codes "no dynamic section"
absent_words ExecStack = codes "no dynamic section"
absent_words Needed = codes "no dynamic section"

-- what is told of the file at a path, whose bytes may be known, for an error of the edits of a plan: what the program tells of its own
-- commands, of these edits
abbrev pub TellsEdits : PlanMeant → Option (List ℕ) → Text → ElfCommandError → Text → Type 0
TellsEdits plan known path e told = IsFileFault known plan.edits path (answer_to_elf_command e) told

-- of an edit that is refused, by its number, the option that asks for it, and why
abbrev pub TellsRefused : PlanMeant → Text → ℕ → ElfError → Text → Type 0
TellsRefused plan path index fault told = (why : Text) × AreCauses (answer_to_elf_command (Elf fault)) why
    × (told ≡ file_line path (option_of plan index ++ (codes ": " ++ why)) None)

abbrev pub TellsCommand : PlanMeant → Option (List ℕ) → Text → ElfCommandError → Text → Type 0
TellsCommand plan known path (ElfBatch refused) told = TellsRefused plan path refused.index refused.fault told
TellsCommand plan known path e told = TellsEdits plan known path e told

-- a file may lack what a line prints, or its edits aren't made
abbrev pub TellsElf : PlanMeant → Option (List ℕ) → Text → PatchelfError → Text → Type 0
TellsElf plan known path (Absent print) told = told ≡ file_line path (absent_words print) None
TellsElf plan known path (Command e) told = TellsCommand plan known path e told

-- the same of a Mach-O file
abbrev pub TellsNames : Option (List ℕ) → Text → NamesError → Text → Type 0
TellsNames known path names.Unlike told = told ≡ file_line path (codes "its slices need unlike edits") None
TellsNames known path (names.Command e) told = IsFileFault known [] path (answer_to_macho_command e) told

-- the line of a tool, behind its name
abbrev pub IsElfFaultLine : PlanMeant → Option (List ℕ) → Text → PatchelfError → Text → Type 0
IsElfFaultLine plan known path e line = (told : Text) × TellsElf plan known path e told × (line ≡ codes "patchelf: " ++ told)

abbrev pub IsNamesFaultLine : Option (List ℕ) → Text → NamesError → Text → Type 0
IsNamesFaultLine known path e line = (told : Text) × TellsNames known path e told × (line ≡ codes "install_name_tool: " ++ told)
