-- Files of a line, one after the other.
use Rattle.std.proofs.Common.{◌≡◌, ◌<◌, ◌≤◌, ◌+◌, ℕ, List, Option, Some, None, Result, Ok, Err, drop, get_or, length, map, refl, subst, sym, inl, inr}
use Rattle.std.specs.Prelude.{IfOk, String, string_bytes}
use Rattle.std.specs.declared.alloc.Global.{Global}
use Rattle.std.proofs.lemmas.List.{drop_all, drop_more}
use Rattle.arwen_cli_patchelf.specs.ElfCommandError.{ElfCommandError}
use Rattle.arwen_cli_patchelf.specs.Shrinking.{Finding}
use Rattle.arwen_cli_options.specs.Options.{Text}
use Rattle.arwen_cli_patchelf.proofs.StepLaws.{nothing_made}
use Rattle.arwen_cli_patchelf.specs.Made.{AsksNothing}
use Rattle.arwen_cli_patchelf.specs.Patched.{HoldsKnown, IsPatchedAt}
use Rattle.arwen_cli_patchelf.specs.declared.error.PatchelfError.{PatchelfError}
use Rattle.arwen_cli_patchelf.specs.declared.printing.Print.{Print}
use Rattle.arwen_cli_patchelf.specs.Plans.{PlanMeant}
use Rattle.arwen_cli_tools.specs.Endings.{EndsReadLine}
use Rattle.arwen_cli_tools.specs.Runs.{AreDone, CanBeMade, EndsFiles, IsDone, IsFaultEnding, Stops, StopsAt}
use Rattle.arwen_cli_tools.specs.declared.ending.Ending.{Ending}
use Rattle.arwen_cli_tools.specs.declared.ending.Ending.TheVariants.{Done, Failed, Told}

-- ## What can be made

pub idle_made : (finds : Finding) (plan : PlanMeant) (known : Option (List ℕ)) → AsksNothing plan → CanBeMade finds plan known
idle_made finds plan known nothing = λ file is. (file, nothing_made finds plan file nothing)

pub patched_made : {S : Type 0} (contents : S → Option (List ℕ)) (finds : Finding) (plan : PlanMeant) (known : Option (List ℕ)) (store : Option S) → IsPatchedAt contents finds plan known store → CanBeMade finds plan known
patched_made contents finds plan known None nothing = idle_made finds plan known nothing
patched_made contents finds plan known (Some store) patched = λ file is. ((patched file is).0, (patched file is).1)

pub held_made : (is_new : Option (List ℕ) → Type 0) (finds : Finding) (plan : PlanMeant) (known new : Option (List ℕ)) → HoldsKnown is_new finds plan known new → CanBeMade finds plan known
held_made is_new finds plan known new holds = λ file is. ((holds file is).made, (holds file is).is_made)

-- ## One file after the other

-- what is done of the files that are left, and where they stop, is so of all
abbrev pub Leads : {W : Type 0} → (W → Option (List ℕ)) → (W → ℕ) → Finding → List Print → PlanMeant → (Text → Option (List ℕ)) → (Text → ElfCommandError → Type 0) → List (String Global) → W → List (String Global) → W → Type 0
Leads {W} written failed finds prints plan contents answered paths first left now =
    ((new : Option (List ℕ)) → AreDone finds prints plan contents (map string_bytes left) (written now) new → AreDone finds prints plan contents (map string_bytes paths) (written first) new)
    × ((new : W) (at : Text) (e : PatchelfError) → StopsAt written failed finds prints plan contents answered (map string_bytes left) now new at e → StopsAt written failed finds prints plan contents answered (map string_bytes paths) first new at e)

module _ {W : Type 0} (written : W → Option (List ℕ)) (failed : W → ℕ) (finds : Finding) (prints : List Print) (plan : PlanMeant) (contents : Text → Option (List ℕ)) (answered : Text → ElfCommandError → Type 0) (paths : List (String Global)) (first : W) where
  pub one_more : (i : ℕ) (d : String Global) (path : Text) (old now : W) → i < length paths → path ≡ string_bytes (get_or paths i d)
      → Leads written failed finds prints plan contents answered paths first (drop i paths) old → IsDone finds prints plan contents path (written old) (written now)
      → Leads written failed finds prints plan contents answered paths first (drop (i + 1) paths) now
  one_more i d path old now inside is before done =
      let here = subst (λ (p : Text). IsDone finds prints plan contents p (written old) (written now)) is done in (
        (λ new more. before.0 new (subst (λ (left : List (String Global)). AreDone finds prints plan contents (map string_bytes left) (written old) new) (sym (drop_more paths i d inside)) (written now, here, more))),
        (λ new at e more. before.1 new at e (subst (λ (left : List (String Global)). StopsAt written failed finds prints plan contents answered (map string_bytes left) old new at e) (sym (drop_more paths i d inside)) (inr (now, here, more)))),
      )

  pub stops_here : (i : ℕ) (d : String Global) (path : Text) (old now : W) (e : PatchelfError) → i < length paths → path ≡ string_bytes (get_or paths i d)
      → Leads written failed finds prints plan contents answered paths first (drop i paths) old → Stops written failed finds prints plan contents answered path old now e
      → StopsAt written failed finds prints plan contents answered (map string_bytes paths) first now path e
  stops_here i d path old now e inside is before stops =
      before.1 now path e (subst (λ (left : List (String Global)). StopsAt written failed finds prints plan contents answered (map string_bytes left) old now path e) (sym (drop_more paths i d inside))
      (inl (is, subst (λ (p : Text). Stops written failed finds prints plan contents answered p old now e) is stops)))

  pub all_done : (i : ℕ) (now : W) → length paths ≤ i → Leads written failed finds prints plan contents answered paths first (drop i paths) now
      → AreDone finds prints plan contents (map string_bytes paths) (written first) (written now)
  all_done i now past before =
      before.0 (written now) (subst (λ (left : List (String Global)). AreDone finds prints plan contents (map string_bytes left) (written now) (written now)) (sym (drop_all i paths past)) refl)

  -- the ending that tells a fault is that of all files
  pub ends_by : {E : Type 0} (again : Text → Option (List ℕ)) (r : Result Ending E) (path : Text) (now : W) (e : PatchelfError) → IfOk r (IsFaultEnding plan (again path) path e)
      → StopsAt written failed finds prints plan contents answered (map string_bytes paths) first now path e
      → IfOk r (EndsFiles written failed finds prints plan contents answered again (map string_bytes paths) first now)
  ends_by again (Ok (Failed line)) path now e is stops = (path, e, stops, is)
  ends_by again (Ok Done) path now e is stops = absurd is
  ends_by again (Ok (Told text)) path now e is stops = absurd is
  ends_by again (Err x) path now e is stops = tt

-- what an ending of files says of any line
pub read_ends : {W : Type 0} {E : Type 0} (written : W → Option (List ℕ)) (failed : W → ℕ) (finds : Finding) (prints : List Print) (plan : PlanMeant) (contents : Text → Option (List ℕ)) (answered : Text → ElfCommandError → Type 0) (again : Text → Option (List ℕ)) (paths : List Text) (first now : W) (r : Result Ending E)
    → IfOk r (EndsFiles written failed finds prints plan contents answered again paths first now) → IfOk r EndsReadLine
read_ends written failed finds prints plan contents answered again paths first now (Ok Done) ends = tt
read_ends written failed finds prints plan contents answered again paths first now (Ok (Failed line)) ends = (plan, again ends.0, ends.0, ends.1, ends.3)
read_ends written failed finds prints plan contents answered again paths first now (Ok (Told text)) ends = absurd ends
read_ends written failed finds prints plan contents answered again paths first now (Err x) ends = tt
