-- What is written of a file.
use Rattle.std.specs.Prelude.{ℕ, ◌≡◌, ◌∷◌, [], ◌++◌, List, Option}
use Rattle.std.specs.Io.KnownBytes.{Appends}
use Rattle.byte_store.specs.Known.{IsAll}
use Rattle.arwen_cli_facts.specs.FileFacts.{AreFactsOf, FileFacts}
use Rattle.arwen_cli_facts.specs.Refusals.{Refuses}
use Rattle.arwen_cli_facts.specs.declared.error.ShowError.{ShowError}
use Rattle.arwen_cli_facts.specs.declared.error.ShowError.TheVariants.{Io}
use Rattle.arwen_cli_show.specs.Json.{IsJsonOf, file_data}
use Rattle.arwen_cli_show.specs.Lines.{file_lines}
use Rattle.arwen_cli_show.specs.declared.show.Style.{Style}
use Rattle.arwen_cli_show.specs.declared.show.Style.TheVariants.{Json, Lines}

-- a text that tells facts of a file: its lines, or one line of JSON
abbrev pub Tells : Style → List ℕ → FileFacts → List ℕ → Type 0
Tells Lines name facts text = text ≡ file_lines name facts
Tells Json name facts text = (json : List ℕ) × (text ≡ json ++ 10 ∷ []) × IsJsonOf (file_data name facts) json

-- a text that tells of the bytes of a file: their facts
pub record TellsOf (style : Style) (name bytes text : List ℕ) : Type 0 where
  pub facts : FileFacts
  pub are : AreFactsOf bytes facts
  pub tells : Tells style name facts text

-- a text that tells of a file: of all its bytes, where they are known
abbrev pub TellsFile : Style → List ℕ → Option (List ℕ) → List ℕ → Type 0
TellsFile style name known text = (bytes : List ℕ) × IsAll known bytes × TellsOf style name bytes text

-- what a writer got that told of a file
abbrev pub Shows : Style → List ℕ → List ℕ → Option (List ℕ) → Option (List ℕ) → Type 0
Shows style name bytes old new = (text : List ℕ) × TellsOf style name bytes text × Appends old new text

-- an error of showing a file: what was written before is there, and no more, unless the writer failed
abbrev pub FailsShow : {W : Type 0} → List ℕ → W → W → ShowError → Type 0
FailsShow bytes old new (Io fault) = Unit {0}
FailsShow bytes old new other = (new ≡ old) × Refuses bytes other
