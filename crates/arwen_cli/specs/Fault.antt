-- What the program answers for lines that mean no command, and for files that are read.
use Rattle.std.specs.Prelude.{⊤}
use Rattle.arwen_cli_faults.specs.declared.error.ArwenError.{ArwenError}
use Rattle.arwen_cli_faults.specs.declared.error.ArwenError.TheVariants.{Io, Line, Memory}
use Rattle.arwen_cli_parser.specs.declared.line_error.LineError.{LineError}
use Rattle.arwen_cli_parser.specs.declared.line_error.LineError.TheVariants as line

-- the error of a line that means no command, or want of memory
abbrev pub IsOfLine : ArwenError → Type 0
IsOfLine (Line text status) = ⊤
IsOfLine Memory = ⊤
IsOfLine _ = ⊥

-- the program's answer for a line that means no command
abbrev pub answer_to_line : LineError → ArwenError
answer_to_line (line.Text text status) = Line text status
answer_to_line line.Memory = Memory

-- the error of reading or writing a file, or want of memory
abbrev pub IsOfFile : ArwenError → Type 0
IsOfFile (Io e) = ⊤
IsOfFile Memory = ⊤
IsOfFile _ = ⊥
