-- What the command `show` writes of files at paths.
use Rattle.std.specs.Prelude.{ℕ, ◌≡◌, ◌<◌, ◌⊎◌, ◌++◌, Bool, true, false, List, [], ◌∷◌, length, take, Option, None, codes, ⊤}
use Rattle.std.specs.List.{flat_map, list_all}
use Rattle.std.specs.Io.KnownBytes.{Appends}
use Rattle.byte_store.specs.Known.{IsAll}
use Rattle.byte_store.specs.declared.reading.ReadError.{ReadError}
use Rattle.byte_store.specs.declared.reading.ReadError.TheVariants as read
use Rattle.arwen_cli_facts.specs.Reasons.{IsBracketOf, IsRefusalOf, file_line}
use Rattle.arwen_cli_facts.specs.declared.error.ShowError.TheVariants as show
use Rattle.arwen_cli_facts.specs.declared.refusal.Refusal.{Refusal}
use Rattle.arwen_cli_show.specs.Shown.{TellsFile}
use Rattle.arwen_cli_show.specs.declared.command.ShowCommandError.{ShowCommandError}
use Rattle.arwen_cli_show.specs.declared.command.ShowCommandError.TheVariants.{Io, Memory, NotAll}
use Rattle.arwen_cli_show.specs.declared.show.Style.{Style}

-- ## Why nothing is told of a file

-- the refusal of a file that couldn't be read: nothing more is known of it
abbrev pub unread_refusal : ReadError → Refusal
unread_refusal read.Memory = record { error = show.Memory; reason = None }
unread_refusal (read.Io e) = record { error = show.Io e; reason = None }

-- why nothing is told of the file at a path: it couldn't be read, or its bytes are refused
abbrev pub IsFileRefusal : (ReadError → Type 0) → Option (List ℕ) → Refusal → Type 0
IsFileRefusal may_fail known refusal =
    ((e : ReadError) × may_fail e × (refusal ≡ unread_refusal e))
    ⊎ ((bytes : List ℕ) × IsAll known bytes × IsRefusalOf bytes refusal)

-- the line of a refusal: the path, the causes, and what they leave open
pub record IsRefusalLine (path : List ℕ) (refusal : Refusal) (line : List ℕ) : Type 0 where
  pub causes : List ℕ
  pub bracket : Option (List ℕ)
  pub bracket_is : IsBracketOf refusal.reason bracket
  pub line_is : line ≡ file_line path causes bracket ++ codes "\n"

-- a writer got that line
abbrev pub GetsLine : List ℕ → Refusal → Option (List ℕ) → Option (List ℕ) → Type 0
GetsLine path refusal old new = (line : List ℕ) × IsRefusalLine path refusal line × Appends old new line

-- ## What is told

-- what is told of a file: a text, or a line that says why nothing is
pub data Telling : Type 0 where
  told : List ℕ → Telling
  refused : List ℕ → Telling

-- what each of the two writers gets of what is told of a file
abbrev pub text_part : Telling → List ℕ
text_part (told text) = text
text_part (refused line) = []

abbrev pub line_part : Telling → List ℕ
line_part (told text) = []
line_part (refused line) = line

abbrev pub is_told : Telling → Bool
is_told (told text) = true
is_told (refused line) = false

-- a telling is of the file at a path: of all its bytes where they are known, or of an error that reading it may answer
abbrev pub TellingAt : (List ℕ → ReadError → Type 0) → (List ℕ → Option (List ℕ)) → Style → List ℕ → Telling → Type 0
TellingAt may_fail contents style path (told text) = TellsFile style path (contents path) text
TellingAt may_fail contents style path (refused line) =
    (refusal : Refusal) × IsFileRefusal (may_fail path) (contents path) refusal × IsRefusalLine path refusal line

-- one for each path, in order
abbrev pub AreTellings : (List ℕ → Telling → Type 0) → List (List ℕ) → List Telling → Type 0
AreTellings IsAt [] [] = ⊤
AreTellings IsAt (path ∷ paths) (t ∷ ts) = IsAt path t × AreTellings IsAt paths ts
AreTellings IsAt _ _ = ⊥

-- the writers got what is told of the files at paths, and whether it was told of all
pub record AreShown (IsAt : List ℕ → Telling → Type 0) (paths : List (List ℕ)) (are_all : Bool) (out_old out_new err_old err_new : Option (List ℕ)) : Type 0 where
  pub tellings : List Telling
  pub are : AreTellings IsAt paths tellings
  pub texts : Appends out_old out_new (flat_map text_part tellings)
  pub lines : Appends err_old err_new (flat_map line_part tellings)
  pub all : are_all ≡ list_all is_told tellings

-- ## Errors

-- a text was not written: the writer failed
abbrev pub IsIo : ShowCommandError → Type 0
IsIo NotAll = ⊥
IsIo Memory = ⊥
IsIo (Io e) = ⊤

-- a line was not written: there was no memory for it, or the writer failed
abbrev pub StopsLine : Option (List ℕ) → Option (List ℕ) → ShowCommandError → Type 0
StopsLine old new NotAll = ⊥
StopsLine old new Memory = new ≡ old
StopsLine old new (Io e) = ⊤

-- a path was not gone through: nothing was written for it, unless a writer failed
abbrev pub StopsPath : (out_old out_new err_old err_new : Option (List ℕ)) → ShowCommandError → Type 0
StopsPath out_old out_new err_old err_new NotAll = ⊥
StopsPath out_old out_new err_old err_new Memory = (out_new ≡ out_old) × (err_new ≡ err_old)
StopsPath out_old out_new err_old err_new (Io e) = ⊤

-- not all files were told of: all paths were gone through, or there was no memory behind so many, or a writer failed
abbrev pub StopsShow : (List ℕ → Telling → Type 0) → List (List ℕ) → (out_old out_new err_old err_new : Option (List ℕ)) → ShowCommandError → Type 0
StopsShow IsAt paths out_old out_new err_old err_new NotAll = AreShown IsAt paths false out_old out_new err_old err_new
StopsShow IsAt paths out_old out_new err_old err_new Memory =
    (count : ℕ) × (count < length paths) × (are_all : Bool) × AreShown IsAt (take count paths) are_all out_old out_new err_old err_new
StopsShow IsAt paths out_old out_new err_old err_new (Io e) = ⊤
