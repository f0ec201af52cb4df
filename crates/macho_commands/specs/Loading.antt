-- The first bytes of a file from which a command makes what it makes of the whole.
use Rattle.std.specs.Prelude.{ℕ, ◌≡◌, ◌<◌, ◌^◌, ◌++◌, List, length}
use Rattle.arwen_macho.specs.Container.{first_container}
use Rattle.macho_commands.specs.Engine.{Asked, Outcome, ShowsEdited, outcome_of}
use Rattle.macho_commands.specs.Engine.Outcome.{bytes, no_edits, no_file, refused, refused_batch, not_signed}
use Rattle.macho_commands_stores.specs.Loading.{IsThinFront}
use Rattle.macho_commands_stores.specs.Signed.{is_signed_file}

-- the outcome of a file, by that of its front: new bytes have the rest of the file behind them
abbrev pub with_rest : List ℕ → Outcome → Outcome
with_rest rest (bytes new) = bytes (new ++ rest)
with_rest rest (no_edits wrong) = no_edits wrong
with_rest rest (no_file found) = no_file found
with_rest rest (refused refusal) = refused refusal
with_rest rest (refused_batch refusal) = refused_batch refusal
with_rest rest (not_signed why) = not_signed why

-- what edits make of a file that is not too long depends on such a front alone
abbrev pub FrontDecides : Type 0
FrontDecides =
    (a : Asked) (front rest : List ℕ) → IsThinFront front → length (front ++ rest) < 2 ^ 32
    → outcome_of a (front ++ rest) ≡ with_rest rest (outcome_of a front)

-- what new bytes show of edits depends on such a front alone
abbrev pub FrontShows : Type 0
FrontShows =
    (a : Asked) (front rest new : List ℕ) → IsThinFront front → length (front ++ rest) < 2 ^ 32 → ShowsEdited a front new
    → ShowsEdited a (front ++ rest) (new ++ rest)

-- whether a file is signed depends on such a front alone
abbrev pub FrontTellsSigned : Type 0
FrontTellsSigned =
    (front rest : List ℕ) → IsThinFront front → length (front ++ rest) < 2 ^ 32
    → is_signed_file (first_container (front ++ rest)) ≡ is_signed_file (first_container front)
