-- Which errors of reading and writing files end a line of patchelf: those that a call answered.
use Rattle.std.specs.Prelude.{ℕ, List, Option, Some, None}
use Rattle.std.specs.declared.io.Error.{Error}
use Rattle.arwen_cli_patchelf.specs.Failures.{HasCauseAt, HasReadCauseAt}
use Rattle.arwen_cli_patchelf.specs.ElfCommandError.{ElfCommandError}
use Rattle.arwen_cli_patchelf.specs.Output.{HasOutputCause}
use Rattle.arwen_cli_patchelf.specs.Shrinking.{Finding}
use Rattle.arwen_cli_patchelf.specs.Plans.{PlanMeant}
use Rattle.arwen_cli_options.specs.Options.{Text}

-- What is known of files that are opened: their bytes, which errors an opening, a read and a write may answer, and how many calls
-- of what was opened failed.
pub record Opening (S : Type 0) : Type 1 where
  pub contents : Text → Option (List ℕ)
  pub opens : Text → Error → Type 0
  pub reads : Error → Type 0
  pub writes : Error → Type 0
  pub takes_none : Type 0
  pub failed : S → ℕ

-- What is known of files that are created: which errors a creation may answer, their bytes, and how many writes to them failed.
pub record Creating (W X : Type 0) : Type 1 where
  pub creates : Text → Error → Type 0
  pub is_new : Option (List ℕ) → Type 0
  pub written : W → Option (List ℕ)
  pub inner : X → W
  pub failed : X → ℕ

abbrev pub known_files : {S : Type 0} → (Text → Option (List ℕ)) → (Text → Error → Type 0) → (Error → Type 0) → (Error → Type 0) → Type 0 → (S → ℕ) → Opening S
known_files contents opens reads writes takes_none failed =
    record { contents = contents; opens = opens; reads = reads; writes = writes; takes_none = takes_none; failed = failed }

abbrev pub known_outputs : {W X : Type 0} → (Text → Error → Type 0) → (Option (List ℕ) → Type 0) → (W → Option (List ℕ)) → (X → W) → (X → ℕ) → Creating W X
known_outputs creates is_new written inner failed =
    record { creates = creates; is_new = is_new; written = written; inner = inner; failed = failed }

-- an error of printing a file has its cause: the opening answered it, or a read of what was opened
abbrev pub IsPrintAnswered : {S : Type 0} → Opening S → Text → ElfCommandError → Type 0
IsPrintAnswered {S} files path e = (store : Option S) × HasReadCauseAt (files.opens path) files.reads files.failed (files.contents path) e store

-- the same of an edit in its place, where a write may have failed too
abbrev pub IsEditAnswered : {S : Type 0} → Opening S → Text → ElfCommandError → Type 0
IsEditAnswered {S} files path e =
    (store : Option S) × HasCauseAt (files.opens path) files.reads files.writes files.takes_none files.failed (files.contents path) e store

-- of what a plan makes of a file, which is written to another: it may be the creation that answered it, or a write to what was created
abbrev pub IsOutputAnswered : {S W X : Type 0} → Opening S → Creating W X → Finding → PlanMeant → Text → Text → ElfCommandError → Type 0
IsOutputAnswered {S} {W} {X} files outputs finds plan output path e = (store : Option S) × (file : Option X)
    × HasOutputCause (λ read. HasReadCauseAt (files.opens path) files.reads files.failed (files.contents path) read store)
    (outputs.creates output) outputs.is_new outputs.written outputs.inner outputs.failed finds plan (files.contents path) e file

-- an error of a plan for the file at a path, which is made in its place where there is no output
abbrev pub IsAnswered : {S W X : Type 0} → Opening S → Creating W X → Finding → PlanMeant → Option Text → Text → ElfCommandError → Type 0
IsAnswered files outputs finds plan None path e = IsEditAnswered files path e
IsAnswered files outputs finds plan (Some output) path e = IsOutputAnswered files outputs finds plan output path e
