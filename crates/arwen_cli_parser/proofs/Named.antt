-- A line whose first word behind the program's own names a command, or names none.
use Rattle.std.proofs.Common.{◌≡◌, ◌∷◌, [], ◌⊎◌, inl, inr, List, Option, Some, None, Bool, true, false, refl, sym, ap, ap₂, ◌∙◌}
use Rattle.std.specs.Prelude.{is_some, option_and_then}
use Rattle.std.specs.List.{fold}
use Rattle.std.specs.Str.{bytes_eq}
use Rattle.std.proofs.lemmas.Slice.Eq.{bytes_eq-Decides}
use Rattle.clap.specs.Walk.{Held, Row, Step, Text, Walk, finished, idle, nothing_held, rows_after, settled, stop_after, subcommand, subcommand_met, subcommand_or_other, value, walk, walked, word_met, after_step}
use Rattle.clap.specs.Simple.{App, Shape, entered, names_of}
use Rattle.clap.specs.Kinds.{Kinds, or_else}
use Rattle.clap.specs.Faults.{built_fault, check_fault, defaults_fault, entered_fault, level_fault, settle_fault, step_fault, turn_fault, walk_fault, word_fault}
use Rattle.clap.proofs.WalkLemmas.{walk_stopped}
use Rattle.clap.proofs.FaultLemmas.{stopped_fault}
use Rattle.arwen_cli_parser.proofs.Words.{IsValue, at, no_first, no_second, value_at_idle}

-- the command and its rows that are found at words, and what fails there
abbrev pub found_at : App → List Text → Option (Text × List Row)
found_at line words = entered line (stop_after line.top.rules (names_of line) words)

abbrev pub fault_at : App → List Text → Kinds
fault_at line words = built_fault line nothing_held words

-- ---- a first word that names a subcommand

-- the walk that was stopped by a subcommand
abbrev pub stopped_at : Text → List Text → Walk
stopped_at name words = record (at idle 1 nothing_held) { stopped = Some (name, words) }

module _ (line : App) (name : Text) (is : subcommand_met (names_of line) idle name ≡ Some name) where
  met_name : word_met line.top.rules (names_of line) false idle 1 name nothing_held ≡ (nothing_held, subcommand name)
  met_name = ap (λ o. subcommand_or_other line.top.rules o idle 1 name nothing_held) is

  walked_name : walked line.top.rules (names_of line) (at idle 1 nothing_held) name ≡ stopped_at name []
  unfolding walked
  walked_name = ap (λ (p : Held × Step). after_step line.top.rules name (at idle 1 nothing_held) p.0 p.1) met_name

  walk_name : (words : List Text) → walk line.top.rules (names_of line) nothing_held (name ∷ words) ≡ stopped_at name words
  walk_name words =
      ap (λ w. fold (walked line.top.rules (names_of line)) w words) walked_name
      ∙ sym (walk_stopped line.top.rules (names_of line) (at idle 1 nothing_held) name [] words)

  pub found_by_name : (words : List Text) → found_at line (name ∷ words) ≡ entered line (Some (name, words))
  found_by_name words = ap (λ (w : Walk). entered line w.stopped) (walk_name words)

  pub fault_by_name : (words : List Text) → fault_at line (name ∷ words) ≡ [] → entered_fault line (Some (name, words)) ≡ []
  fault_by_name words none =
      let below = no_first _ _ (no_second (walk_fault line.top (names_of line) (at idle 1 nothing_held) (name ∷ words)) _ none) in
      ap (λ (w : Walk). entered_fault line w.stopped) (sym (walk_name words)) ∙ below

-- ---- a first word that names none

module _ (line : App) (name : Text) (plain : IsValue name) (none : subcommand_met (names_of line) idle name ≡ None) where
  met_stranger : word_met line.top.rules (names_of line) false idle 1 name nothing_held ≡ (nothing_held, value)
  met_stranger = ap (λ o. subcommand_or_other line.top.rules o idle 1 name nothing_held) none ∙ value_at_idle line.top.rules nothing_held 1 name plain

  turn_of_stranger : turn_fault line.top (names_of line) (at idle 1 nothing_held) name ≡ [] → step_fault line.top 1 nothing_held value ≡ []
  turn_of_stranger turn =
      let step = no_second (word_fault line.top (names_of line) false idle name nothing_held) _ turn in
      ap (λ (p : Held × Step). step_fault line.top 1 p.0 p.1) (sym met_stranger) ∙ step

  -- it passes only where the line takes a value of its own
  pub fault_of_stranger : (words : List Text) → fault_at line (name ∷ words) ≡ [] → step_fault line.top 1 nothing_held value ≡ []
  unfolding walk_fault
  fault_of_stranger words faults =
      let walk_none = no_first (walk_fault line.top (names_of line) (at idle 1 nothing_held) (name ∷ words)) _ faults in
      turn_of_stranger (no_first (turn_fault line.top (names_of line) (at idle 1 nothing_held) name) _ walk_none)

-- ---- behind a name

-- what is looked at behind the words of a line
abbrev pub rest_fault : App → Held → Option (Text × List Row) → Kinds
rest_fault line h found =
    or_else (settle_fault line.top.rules line.top.args_override_self h)
    (or_else (defaults_fault (settled line.top.rules h).rows line.top.rules) (check_fault line.top (finished line.top.rules h) (is_some found)))

abbrev line_fault : App → Walk → Kinds
line_fault line w = or_else (entered_fault line w.stopped) (rest_fault line w.held (entered line w.stopped))

module _ (line : App) (name : Text) (is : subcommand_met (names_of line) idle name ≡ Some name) (turn : turn_fault line.top (names_of line) (at idle 1 nothing_held) name ≡ []) where
  name_walk : (words : List Text) → walk_fault line.top (names_of line) (at idle 1 nothing_held) (name ∷ words) ≡ []
  unfolding walk_fault
  name_walk words =
      ap₂ or_else turn (ap (λ w. walk_fault line.top (names_of line) w words) (walked_name line name is)
      ∙ stopped_fault line.top (names_of line) (at idle 1 nothing_held) (name, []) words)

  name_passes : (words : List Text) → entered_fault line (Some (name, words)) ≡ [] → rest_fault line nothing_held (entered line (Some (name, words))) ≡ []
      → fault_at line (name ∷ words) ≡ []
  name_passes words below rest = ap₂ or_else (name_walk words) (ap (line_fault line) (walk_name line name is words) ∙ ap₂ or_else below rest)

-- what is made of the command and its rows that are found
abbrev pub meaning_by : {M : Type 0} → (Text → List Row → Option M) → Option (Text × List Row) → Option M
meaning_by reading = option_and_then (λ p. reading p.0 p.1)

-- what is known of a command by computing with its name
pub record IsNamed {M : Type 0} (line : App) (reading : Text → List Row → Option M) (name : Text) (leaf : Shape) : Type 0 where
  pub met : subcommand_met (names_of line) idle name ≡ Some name
  pub turn : turn_fault line.top (names_of line) (at idle 1 nothing_held) name ≡ []
  pub below : (words : List Text) → entered_fault line (Some (name, words)) ≡ level_fault leaf [] nothing_held words false []
  pub rest : (words : List Text) → rest_fault line nothing_held (entered line (Some (name, words))) ≡ []
  pub found : (words : List Text) → meaning_by reading (entered line (Some (name, words))) ≡ reading name (rows_after leaf.rules [] words)

-- a line is taken, and this is made of what is found
abbrev pub IsTakenAt : {M : Type 0} → App → (Text → List Row → Option M) → List Text → M → Type 0
IsTakenAt line reading words m = (fault_at line words ≡ []) × (meaning_by reading (found_at line words) ≡ Some m)

module _ {M : Type 0} (line : App) (reading : Text → List Row → Option M) (name : Text) (leaf : Shape) (n : IsNamed line reading name leaf) (words : List Text) (m : M) where
  pub named_taken : level_fault leaf [] nothing_held words false [] ≡ [] → reading name (rows_after leaf.rules [] words) ≡ Some m → IsTakenAt line reading (name ∷ words) m
  named_taken faults found = (
    name_passes line name n.met n.turn words (n.below words ∙ faults) (n.rest words),
    ap (meaning_by reading) (found_by_name line name n.met words) ∙ n.found words ∙ found,
  )

  pub named_fault : IsTakenAt line reading (name ∷ words) m → level_fault leaf [] nothing_held words false [] ≡ []
  named_fault t = sym (n.below words) ∙ fault_by_name line name n.met words t.0

  pub named_found : IsTakenAt line reading (name ∷ words) m → reading name (rows_after leaf.rules [] words) ≡ Some m
  named_found t = sym (n.found words) ∙ ap (meaning_by reading) (sym (found_by_name line name n.met words)) ∙ t.1

-- ---- two names

pub differs : (known name : Text) → (known ≡ name) ⊎ (bytes_eq known name ≡ false)
differs known name = go (bytes_eq known name) refl
  where
    go : (b : Bool) → bytes_eq known name ≡ b → (known ≡ name) ⊎ (bytes_eq known name ≡ false)
    go true e = inl ((bytes_eq-Decides known name).0 e)
    go false e = inr e
