-- The causes of a fault as text.
use Rattle.std.specs.Prelude.{◌≡◌, ◌++◌, codes, decimal, string_bytes}
use Rattle.command_words.specs.Rows.{Text}
use Rattle.arwen_cli_faults.specs.Fault.{words_told}
use Rattle.arwen_cli_faults.specs.declared.error.ArwenError.{ArwenError}
use Rattle.arwen_cli_faults.specs.declared.error.ArwenError.TheVariants.{ElfBatch, Line, MachoBatch, Memory, NotAllFit, NotAllShown}

-- what stands before the last cause: the fault's words, and of a refused list which edit it is
abbrev pub head_words : ArwenError → Text
head_words (Line text status) = string_bytes text
head_words Memory = words_told Memory
head_words NotAllShown = words_told NotAllShown
head_words NotAllFit = words_told NotAllFit
head_words (ElfBatch e) = words_told (ElfBatch e) ++ (codes ": edit " ++ (decimal e.index ++ codes ": "))
head_words (MachoBatch e) = words_told (MachoBatch e) ++ (codes ": edit " ++ (decimal e.index ++ codes ": "))
head_words e = words_told e ++ codes ": "

-- with the last cause behind it, where there is one
abbrev pub AreCauses : ArwenError → Text → Type 0
AreCauses (Line text status) causes = causes ≡ string_bytes text
AreCauses Memory causes = causes ≡ words_told Memory
AreCauses NotAllShown causes = causes ≡ words_told NotAllShown
AreCauses NotAllFit causes = causes ≡ words_told NotAllFit
AreCauses e causes = (last : Text) × (causes ≡ head_words e ++ last)
