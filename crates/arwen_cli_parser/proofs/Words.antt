-- What the parser of lines makes of words that begin with no hyphen.
use Rattle.std.proofs.Common.{◌≡◌, ◌∷◌, [], List, None, false, ℕ, refl, sym, ap, ap₂, ◌∙◌, subst}
use Rattle.clap.specs.Walk.{Held, Rule, Step, Text, Waiting, Walk, after_step, arg_by_index, finished, idle, positional, settled, to_positional, value, walked, word_met}
use Rattle.clap.specs.Simple.{Shape}
use Rattle.clap.specs.Kinds.{Kinds, or_else}
use Rattle.clap.specs.Faults.{check_fault, defaults_fault, settle_fault, step_fault, turn_fault, walk_fault, word_fault}
use Rattle.arwen_cli_parser.specs.Asked.{begins_with_hyphen}

abbrev pub IsValue : Text → Type 0
IsValue word = begins_with_hyphen word ≡ false

-- such a word is a value where no subcommand can be named
pub value_at_idle : (c : List Rule) (h : Held) (position : ℕ) (word : Text) → IsValue word → word_met c [] false idle position word h ≡ (h, value)
value_at_idle c h position [] is = refl
value_at_idle c h position (x ∷ xs) is = simp is

pub value_at_positional : (c : List Rule) (h : Held) (position : ℕ) (word : Text) → IsValue word → word_met c [] false positional position word h ≡ (h, value)
value_at_positional c h position [] is = refl
value_at_positional c h position (x ∷ xs) is = simp is

-- a walk between two words
abbrev pub at : Waiting → ℕ → Held → Walk
at waiting position h = record { held = h; waiting = waiting; position = position; is_trailing = false; stopped = None }

pub walked_idle : (c : List Rule) (h : Held) (position : ℕ) (word : Text) → IsValue word
    → walked c [] (at idle position h) word ≡ to_positional c (arg_by_index c position) word (at idle position h) h
unfolding walked
walked_idle c h position word is = ap (λ (p : Held × Step). after_step c word (at idle position h) p.0 p.1) (value_at_idle c h position word is)

pub walked_positional : (c : List Rule) (h : Held) (position : ℕ) (word : Text) → IsValue word
    → walked c [] (at positional position h) word ≡ to_positional c (arg_by_index c position) word (at positional position h) h
unfolding walked
walked_positional c h position word is = ap (λ (p : Held × Step). after_step c word (at positional position h) p.0 p.1) (value_at_positional c h position word is)

-- ---- where nothing fails, no part fails

pub no_first : (a b : Kinds) → or_else a b ≡ [] → a ≡ []
no_first [] b e = refl
no_first (k ∷ ks) b e = e

pub no_second : (a b : Kinds) → or_else a b ≡ [] → b ≡ []
no_second [] b e = e
no_second (k ∷ ks) b e = absurd (cc)

-- the walk behind a word that is a value
pub no_fault_after : (s : Shape) (h : Held) (position : ℕ) (word : Text) (rest : List Text) → IsValue word → walk_fault s [] (at idle position h) (word ∷ rest) ≡ []
    → walk_fault s [] (to_positional s.rules (arg_by_index s.rules position) word (at idle position h) h) rest ≡ []
unfolding walk_fault
no_fault_after s h position word rest is none =
    let at_rest : Walk → Type 0 = λ w. walk_fault s [] w rest ≡ [] in
    subst at_rest (walked_idle s.rules h position word is) (no_second (turn_fault s [] (at idle position h) word) _ none)

-- a value has a place to go to
pub no_fault_here : (s : Shape) (h : Held) (position : ℕ) (word : Text) (rest : List Text) → IsValue word → walk_fault s [] (at idle position h) (word ∷ rest) ≡ []
    → step_fault s position h value ≡ []
unfolding walk_fault
no_fault_here s h position word rest is none =
    let turn = no_first (turn_fault s [] (at idle position h) word) _ none in
    let step = no_second (word_fault s [] false idle word h) _ turn in
    ap (λ (p : Held × Step). step_fault s position p.0 p.1) (sym (value_at_idle s.rules h position word is)) ∙ step

-- ---- words that pass

word_passes : (s : Shape) (h : Held) (word : Text) → IsValue word → word_fault s [] false idle word h ≡ []
word_passes s h [] is = refl
word_passes s h (x ∷ xs) is = simp is

turn_passes : (s : Shape) (h : Held) (position : ℕ) (word : Text) → IsValue word → step_fault s position h value ≡ [] → turn_fault s [] (at idle position h) word ≡ []
turn_passes s h position word is step =
    ap₂ or_else (word_passes s h word is) (ap (λ (p : Held × Step). step_fault s position p.0 p.1) (value_at_idle s.rules h position word is) ∙ step)

pub no_words : (s : Shape) (w : Walk) → walk_fault s [] w [] ≡ []
unfolding walk_fault
no_words s w = refl

pub one_word : (s : Shape) (h : Held) (position : ℕ) (word : Text) (rest : List Text) → IsValue word → step_fault s position h value ≡ []
    → walk_fault s [] (to_positional s.rules (arg_by_index s.rules position) word (at idle position h) h) rest ≡ [] → walk_fault s [] (at idle position h) (word ∷ rest) ≡ []
unfolding walk_fault
one_word s h position word rest is step after =
    ap₂ or_else (turn_passes s h position word is step) (ap (λ w. walk_fault s [] w rest) (walked_idle s.rules h position word is) ∙ after)

-- what is looked at behind the words of a command
abbrev pub end_fault : Shape → Held → Kinds
end_fault s h =
    or_else (settle_fault s.rules s.args_override_self h) (or_else (defaults_fault (settled s.rules h).rows s.rules) (check_fault s (finished s.rules h) false))
