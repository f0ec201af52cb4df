-- The values that a command of the line finds are its words.
use Rattle.std.proofs.Common.{◌≡◌, ◌≢◌, ◌∷◌, [], ◌++◌, ◌||◌, ◌≤◌, List, Option, Some, None, Bool, true, false, ℕ, arith, length, refl, sym, ap, ap₂, ◌∙◌, subst, append_assoc, append-nil}
use Rattle.std.proofs.lemmas.Bool.Decides.{nat_tests}
use Rattle.std.specs.List.{fold}
use Rattle.clap.specs.Lexer.{usize_max}
use Rattle.clap.specs.Walk.{Held, Step, Text, Walk, arg_by_index, finished, first_of, idle, nothing_held, positional, rows_after, to_positional, value, walked}
use Rattle.clap.specs.Simple.{Shape, built_leaf}
use Rattle.clap.specs.Kinds.{or_else, range_kinds, values_kinds}
use Rattle.clap.specs.Faults.{level_fault, step_fault, turn_fault, walk_fault, word_fault}
use Rattle.clap.specs.declared.builder.value_parser.ValueParser.TheVariants as vp
use Rattle.clap.proofs.OnLiterals.{clap_on_literals}
use Rattle.command_words.specs.Rows.{Given, Kind, given_by, options, path, path_alone, path_and_options, path_and_words, text, text_and_path, texts, texts_and_path, words as words_given}
use Rattle.arwen_cli_parser.specs.Asked.{has_option}
use Rattle.arwen_cli_parser.specs.Parser.{first_id, found_values, leaf_app, path_id, second_id, with_text, with_texts, words_id}
use Rattle.arwen_cli_parser.proofs.Words.{IsValue, at, end_fault, no_fault_after, no_fault_here, no_words, one_word, value_at_positional, walked_idle, walked_positional}

-- a command with its values, as the parser builds it
abbrev pub leaf : Text → Kind → Shape
leaf name kind = built_leaf (leaf_app name kind).top

or-false : (a b : Bool) → (a || b) ≡ false → (a ≡ false) × (b ≡ false)
or-false false b e = (refl, e)
or-false true b e = absurd (cc)

pub first_value : (word : Text) (rest : List Text) → has_option (word ∷ rest) ≡ false → IsValue word × (has_option rest ≡ false)
first_value word rest e = or-false _ _ e

-- the walk that has met the value at a position
abbrev pub after : Shape → ℕ → Held → Text → Walk
after s position h word = to_positional s.rules (arg_by_index s.rules position) word (at idle position h) h

abbrev pub held_after : Shape → ℕ → Held → Text → Held
held_after s position h word = (after s position h word).held

abbrev pub one_held : Shape → Text → Held
one_held s x = held_after s 1 nothing_held x

abbrev pub two_held : Shape → Text → Text → Held
two_held s x y = held_after s 2 (one_held s x) y

abbrev pub three_held : Shape → Text → Text → Text → Held
three_held s x y z = held_after s 3 (two_held s x y) z

some≢none : {X : Type 0} (x : X) → None ≡ Some x → ⊥
some≢none x e = cc

-- ---- the path alone

-- what holds of a command that takes one value, its path
pub record TakesPath (s : Shape) (kind : Kind) (given : Text → Given) : Type 0 where
  met : (file : Text) → after s 1 nothing_held file ≡ at idle 2 (one_held s file)
  no_more : (h : Held) → step_fault s 2 h value ≢ []
  none : found_values kind (finished s.rules nothing_held) ≡ None
  path_is : (file : Text) → found_values kind (finished s.rules (one_held s file)) ≡ Some (given file)
  given_is : (file : Text) → given_by kind (file ∷ []) ≡ Some (given file)
  step : step_fault s 1 nothing_held value ≡ []
  end : (file : Text) → end_fault s (one_held s file) ≡ []

module _ (s : Shape) (kind : Kind) (given : Text → Given) (t : TakesPath s kind given) where
  abbrev found_path : Walk → Option Given
  found_path w = found_values kind (finished s.rules w.held)

  path_walked : (file : Text) → IsValue file → walked s.rules [] (at idle 1 nothing_held) file ≡ at idle 2 (one_held s file)
  path_walked file plain = walked_idle s.rules nothing_held 1 file plain ∙ t.met file

  pub path_found : (file : Text) → IsValue file → found_values kind (rows_after s.rules [] (file ∷ [])) ≡ Some (given file)
  path_found file plain = ap found_path (path_walked file plain) ∙ t.path_is file

  pub path_word : (list : List Text) (m : Given) → has_option list ≡ false → walk_fault s [] (at idle 1 nothing_held) list ≡ []
      → found_values kind (rows_after s.rules [] list) ≡ Some m → given_by kind list ≡ Some m
  path_word [] m plain none found = absurd (some≢none m (sym t.none ∙ found))
  path_word (file ∷ []) m plain none found = t.given_is file ∙ sym (path_found file (first_value file [] plain).0) ∙ found
  path_word (file ∷ word ∷ rest) m plain none found =
      let p = first_value file (word ∷ rest) plain in
      let q = first_value word rest p.1 in
      let from : Walk → List Text → Type 0 = λ w ws. walk_fault s [] w ws ≡ [] in
      let one = subst (λ w. from w (word ∷ rest)) (t.met file) (no_fault_after s nothing_held 1 file (word ∷ rest) p.0 none) in
      absurd (t.no_more (one_held s file) (no_fault_here s (one_held s file) 2 word rest q.0 one))

  pub path_passes : (file : Text) → IsValue file → level_fault s [] nothing_held (file ∷ []) false [] ≡ []
  path_passes file plain =
      let from : Walk → Type 0 = λ w. walk_fault s [] w [] ≡ [] in
      let two = subst from (sym (t.met file)) (no_words s (at idle 2 (one_held s file))) in
      ap₂ or_else (one_word s nothing_held 1 file [] plain t.step two) (ap (λ (w : Walk). end_fault s w.held) (path_walked file plain) ∙ t.end file)

-- ---- a text and the path

pub record TakesTwo (s : Shape) : Type 0 where
  pub first : (x : Text) → after s 1 nothing_held x ≡ at idle 2 (one_held s x)
  pub second : (x y : Text) → after s 2 (one_held s x) y ≡ at idle 3 (two_held s x y)
  no_third : (h : Held) → step_fault s 3 h value ≢ []
  none : first_of first_id (finished s.rules nothing_held) ≡ None
  path_none : (x : Text) → first_of path_id (finished s.rules (one_held s x)) ≡ None
  pub value_is : (x y : Text) → first_of first_id (finished s.rules (two_held s x y)) ≡ Some x
  pub path_is : (x y : Text) → first_of path_id (finished s.rules (two_held s x y)) ≡ Some y

abbrev found_two : Shape → Walk → Option Given
found_two s w = with_text (first_of first_id (finished s.rules w.held)) (first_of path_id (finished s.rules w.held))

with_text-path : (given : Option Text) → with_text given None ≡ None
with_text-path None = refl
with_text-path (Some given) = refl

module _ (s : Shape) (t : TakesTwo s) where
  walk_one : (x : Text) → IsValue x → walked s.rules [] (at idle 1 nothing_held) x ≡ at idle 2 (one_held s x)
  walk_one x p = walked_idle s.rules nothing_held 1 x p ∙ t.first x

  pub walk_two : (x y : Text) → IsValue x → IsValue y → walked s.rules [] (walked s.rules [] (at idle 1 nothing_held) x) y ≡ at idle 3 (two_held s x y)
  walk_two x y p q = ap (λ w. walked s.rules [] w y) (walk_one x p) ∙ walked_idle s.rules (one_held s x) 2 y q ∙ t.second x y

module _ (s : Shape) (t : TakesTwo s) where
  pub two_words : (list : List Text) (m : Given) → has_option list ≡ false → walk_fault s [] (at idle 1 nothing_held) list ≡ []
      → with_text (first_of first_id (rows_after s.rules [] list)) (first_of path_id (rows_after s.rules [] list)) ≡ Some m → given_by text_and_path list ≡ Some m
  two_words [] m plain none found =
      let missing : found_two s (at idle 1 nothing_held) ≡ None = ap (λ v. with_text v (first_of path_id (finished s.rules nothing_held))) t.none in
      absurd (some≢none m (sym missing ∙ found))
  two_words (x ∷ []) m plain none found =
      let p = first_value x [] plain in
      let missing : found_two s (at idle 2 (one_held s x)) ≡ None =
      ap (λ v. with_text (first_of first_id (finished s.rules (one_held s x))) v) (t.path_none x) ∙ with_text-path _ in
      absurd (some≢none m (sym missing ∙ ap (found_two s) (sym (walk_one s t x p.0)) ∙ found))
  two_words (x ∷ y ∷ []) m plain none found =
      let p = first_value x (y ∷ []) plain in
      let q = first_value y [] p.1 in
      let values : found_two s (at idle 3 (two_held s x y)) ≡ Some (text x y) = ap₂ (with_text) (t.value_is x y) (t.path_is x y) in
      sym values ∙ ap (found_two s) (sym (walk_two s t x y p.0 q.0)) ∙ found
  two_words (x ∷ y ∷ z ∷ rest) m plain none found =
      let p = first_value x (y ∷ z ∷ rest) plain in
      let q = first_value y (z ∷ rest) p.1 in
      let r = first_value z rest q.1 in
      let from : Walk → List Text → Type 0 = λ w ws. walk_fault s [] w ws ≡ [] in
      let one = subst (λ w. from w (y ∷ z ∷ rest)) (t.first x) (no_fault_after s nothing_held 1 x (y ∷ z ∷ rest) p.0 none) in
      let two = subst (λ w. from w (z ∷ rest)) (t.second x y) (no_fault_after s (one_held s x) 2 y (z ∷ rest) q.0 one) in
      absurd (t.no_third (two_held s x y) (no_fault_here s (two_held s x y) 3 z rest r.0 two))

-- ---- two texts and the path

pub record TakesThree (s : Shape) : Type 0 where
  pub first : (x : Text) → after s 1 nothing_held x ≡ at idle 2 (one_held s x)
  pub second : (x y : Text) → after s 2 (one_held s x) y ≡ at idle 3 (two_held s x y)
  pub third : (x y z : Text) → after s 3 (two_held s x y) z ≡ at idle 4 (three_held s x y z)
  no_fourth : (h : Held) → step_fault s 4 h value ≢ []
  none : first_of first_id (finished s.rules nothing_held) ≡ None
  new_none : (x : Text) → first_of second_id (finished s.rules (one_held s x)) ≡ None
  path_none : (x y : Text) → first_of path_id (finished s.rules (two_held s x y)) ≡ None
  pub old_is : (x y z : Text) → first_of first_id (finished s.rules (three_held s x y z)) ≡ Some x
  pub new_is : (x y z : Text) → first_of second_id (finished s.rules (three_held s x y z)) ≡ Some y
  pub path_is : (x y z : Text) → first_of path_id (finished s.rules (three_held s x y z)) ≡ Some z

abbrev found_three : Shape → Walk → Option Given
found_three s w =
    with_texts (first_of first_id (finished s.rules w.held)) (first_of second_id (finished s.rules w.held)) (first_of path_id (finished s.rules w.held))

with_texts-second : (old file : Option Text) → with_texts old None file ≡ None
with_texts-second None file = refl
with_texts-second (Some old) file = refl

with_texts-path : (old new : Option Text) → with_texts old new None ≡ None
with_texts-path None new = refl
with_texts-path (Some old) None = refl
with_texts-path (Some old) (Some new) = refl

module _ (s : Shape) (t : TakesThree s) where
  step_one : (x : Text) → IsValue x → walked s.rules [] (at idle 1 nothing_held) x ≡ at idle 2 (one_held s x)
  step_one x p = walked_idle s.rules nothing_held 1 x p ∙ t.first x

  step_two : (x y : Text) → IsValue x → IsValue y → walked s.rules [] (walked s.rules [] (at idle 1 nothing_held) x) y ≡ at idle 3 (two_held s x y)
  step_two x y p q = ap (λ w. walked s.rules [] w y) (step_one x p) ∙ walked_idle s.rules (one_held s x) 2 y q ∙ t.second x y

  pub step_three : (x y z : Text) → IsValue x → IsValue y → IsValue z
      → walked s.rules [] (walked s.rules [] (walked s.rules [] (at idle 1 nothing_held) x) y) z ≡ at idle 4 (three_held s x y z)
  step_three x y z p q r = ap (λ w. walked s.rules [] w z) (step_two x y p q) ∙ walked_idle s.rules (two_held s x y) 3 z r ∙ t.third x y z

module _ (s : Shape) (t : TakesThree s) where
  pub three_words : (list : List Text) (m : Given) → has_option list ≡ false → walk_fault s [] (at idle 1 nothing_held) list ≡ []
      → with_texts (first_of first_id (rows_after s.rules [] list)) (first_of second_id (rows_after s.rules [] list)) (first_of path_id (rows_after s.rules [] list)) ≡ Some m
      → given_by texts_and_path list ≡ Some m
  three_words [] m plain none found =
      let missing : found_three s (at idle 1 nothing_held) ≡ None =
      ap (λ v. with_texts v (first_of second_id (finished s.rules nothing_held)) (first_of path_id (finished s.rules nothing_held))) t.none in
      absurd (some≢none m (sym missing ∙ found))
  three_words (x ∷ []) m plain none found =
      let p = first_value x [] plain in
      let rows = finished s.rules (one_held s x) in
      let missing : found_three s (at idle 2 (one_held s x)) ≡ None =
      ap (λ v. with_texts (first_of first_id rows) v (first_of path_id rows)) (t.new_none x) ∙ with_texts-second _ _ in
      absurd (some≢none m (sym missing ∙ ap (found_three s) (sym (step_one s t x p.0)) ∙ found))
  three_words (x ∷ y ∷ []) m plain none found =
      let p = first_value x (y ∷ []) plain in
      let q = first_value y [] p.1 in
      let rows = finished s.rules (two_held s x y) in
      let missing : found_three s (at idle 3 (two_held s x y)) ≡ None =
      ap (λ v. with_texts (first_of first_id rows) (first_of second_id rows) v) (t.path_none x y) ∙ with_texts-path _ _ in
      absurd (some≢none m (sym missing ∙ ap (found_three s) (sym (step_two s t x y p.0 q.0)) ∙ found))
  three_words (x ∷ y ∷ z ∷ []) m plain none found =
      let p = first_value x (y ∷ z ∷ []) plain in
      let q = first_value y (z ∷ []) p.1 in
      let r = first_value z [] q.1 in
      let values : found_three s (at idle 4 (three_held s x y z)) ≡ Some (texts x y z) =
      λ i. with_texts (t.old_is x y z i) (t.new_is x y z i) (t.path_is x y z i) in
      sym values ∙ ap (found_three s) (sym (step_three s t x y z p.0 q.0 r.0)) ∙ found
  three_words (x ∷ y ∷ z ∷ u ∷ rest) m plain none found =
      let p = first_value x (y ∷ z ∷ u ∷ rest) plain in
      let q = first_value y (z ∷ u ∷ rest) p.1 in
      let r = first_value z (u ∷ rest) q.1 in
      let v = first_value u rest r.1 in
      let from : Walk → List Text → Type 0 = λ w ws. walk_fault s [] w ws ≡ [] in
      let one = subst (λ w. from w (y ∷ z ∷ u ∷ rest)) (t.first x) (no_fault_after s nothing_held 1 x (y ∷ z ∷ u ∷ rest) p.0 none) in
      let two = subst (λ w. from w (z ∷ u ∷ rest)) (t.second x y) (no_fault_after s (one_held s x) 2 y (z ∷ u ∷ rest) q.0 one) in
      let three = subst (λ w. from w (u ∷ rest)) (t.third x y z) (no_fault_after s (two_held s x y) 3 z (u ∷ rest) r.0 two) in
      absurd (t.no_fourth (three_held s x y z) (no_fault_here s (three_held s x y z) 4 u rest v.0 three))

-- ---- words that pass

pub record PassesTwo (s : Shape) : Type 0 where
  first : step_fault s 1 nothing_held value ≡ []
  second : (x : Text) → step_fault s 2 (one_held s x) value ≡ []
  end : (x y : Text) → end_fault s (two_held s x y) ≡ []

pub record PassesThree (s : Shape) : Type 0 where
  first : step_fault s 1 nothing_held value ≡ []
  second : (x : Text) → step_fault s 2 (one_held s x) value ≡ []
  third : (x y : Text) → step_fault s 3 (two_held s x y) value ≡ []
  end : (x y z : Text) → end_fault s (three_held s x y z) ≡ []

module _ (s : Shape) (t : TakesTwo s) (p : PassesTwo s) (x y : Text) (is_x : IsValue x) (is_y : IsValue y) where
  two_walk : walk_fault s [] (at idle 1 nothing_held) (x ∷ y ∷ []) ≡ []
  two_walk =
      let from : List Text → Walk → Type 0 = λ ws w. walk_fault s [] w ws ≡ [] in
      let three = subst (from []) (sym (t.second x y)) (no_words s (at idle 3 (two_held s x y))) in
      let two = subst (from (y ∷ [])) (sym (t.first x)) (one_word s (one_held s x) 2 y [] is_y (p.second x) three) in
      one_word s nothing_held 1 x (y ∷ []) is_x p.first two

  pub two_pass : level_fault s [] nothing_held (x ∷ y ∷ []) false [] ≡ []
  two_pass = ap₂ or_else two_walk (ap (λ (w : Walk). end_fault s w.held) (walk_two s t x y is_x is_y) ∙ p.end x y)

  pub two_found : with_text (first_of first_id (rows_after s.rules [] (x ∷ y ∷ []))) (first_of path_id (rows_after s.rules [] (x ∷ y ∷ []))) ≡ Some (text x y)
  two_found = ap (found_two s) (walk_two s t x y is_x is_y) ∙ ap₂ with_text (t.value_is x y) (t.path_is x y)

module _ (s : Shape) (t : TakesThree s) (p : PassesThree s) (x y z : Text) (is_x : IsValue x) (is_y : IsValue y) (is_z : IsValue z) where
  three_walk : walk_fault s [] (at idle 1 nothing_held) (x ∷ y ∷ z ∷ []) ≡ []
  three_walk =
      let from : List Text → Walk → Type 0 = λ ws w. walk_fault s [] w ws ≡ [] in
      let four = subst (from []) (sym (t.third x y z)) (no_words s (at idle 4 (three_held s x y z))) in
      let three = subst (from (z ∷ [])) (sym (t.second x y)) (one_word s (two_held s x y) 3 z [] is_z (p.third x y) four) in
      let two = subst (from (y ∷ z ∷ [])) (sym (t.first x)) (one_word s (one_held s x) 2 y (z ∷ []) is_y (p.second x) three) in
      one_word s nothing_held 1 x (y ∷ z ∷ []) is_x p.first two

  pub three_pass : level_fault s [] nothing_held (x ∷ y ∷ z ∷ []) false [] ≡ []
  three_pass = ap₂ or_else three_walk (ap (λ (w : Walk). end_fault s w.held) (step_three s t x y z is_x is_y is_z) ∙ p.end x y z)

  pub three_found : with_texts (first_of first_id (rows_after s.rules [] (x ∷ y ∷ z ∷ []))) (first_of second_id (rows_after s.rules [] (x ∷ y ∷ z ∷ []))) (first_of path_id (rows_after s.rules [] (x ∷ y ∷ z ∷ []))) ≡ Some (texts x y z)
  three_found = ap (found_three s) (step_three s t x y z is_x is_y is_z) ∙ (λ i. with_texts (t.old_is x y z i) (t.new_is x y z i) (t.path_is x y z i))

-- ---- the path and any number of words

module _ (name : Text) where
  abbrev pub words_leaf : Shape
  words_leaf = leaf name path_and_words

  -- the walk that has met the file and these words
  abbrev pub gathered : Text → List Text → Walk
  gathered file words =
      at positional 2 (record (held_after words_leaf 2 (one_held words_leaf file) []) { pending = Some (words_id, words) })

  pub met_path : (file : Text) → IsValue file → walked words_leaf.rules [] (at idle 1 nothing_held) file ≡ at idle 2 (one_held words_leaf file)
  unfolding clap_on_literals
  met_path file p = walked_idle words_leaf.rules nothing_held 1 file p

  pub met_first : (file word : Text) → IsValue word → walked words_leaf.rules [] (at idle 2 (one_held words_leaf file)) word ≡ gathered file (word ∷ [])
  unfolding clap_on_literals
  met_first file word p = walked_idle words_leaf.rules (one_held words_leaf file) 2 word p

  pub met_more : (file word : Text) (words : List Text) → IsValue word → walked words_leaf.rules [] (gathered file words) word ≡ gathered file (words ++ word ∷ [])
  unfolding clap_on_literals
  met_more file word words p = walked_positional words_leaf.rules (gathered file words).held 2 word p

  pub met_all : (file : Text) (met words : List Text) → has_option words ≡ false → fold (walked words_leaf.rules []) (gathered file met) words ≡ gathered file (met ++ words)
  met_all file met [] plain = ap (gathered file) (sym (append-nil met))
  met_all file met (word ∷ words) plain =
      let p = first_value word words plain in
      ap (λ w. fold (walked words_leaf.rules []) w words) (met_more file word met p.0) ∙ met_all file (met ++ word ∷ []) words p.1
      ∙ ap (gathered file) (append_assoc met (word ∷ []) words)

  abbrev pub found_many : Walk → Option Given
  found_many w = found_values path_and_words (finished words_leaf.rules w.held)

  no_path_yet : found_many (at idle 1 nothing_held) ≡ None
  unfolding clap_on_literals
  no_path_yet = refl

  pub file_alone : (file : Text) → found_many (at idle 2 (one_held words_leaf file)) ≡ Some (words_given file [])
  unfolding clap_on_literals
  file_alone file = refl

  pub file_and_words : (file word : Text) (words : List Text) → found_many (gathered file (word ∷ words)) ≡ Some (words_given file (word ∷ words))
  unfolding clap_on_literals
  file_and_words file word words = refl

  pub many_words : (words : List Text) (m : Given) → has_option words ≡ false → found_values path_and_words (rows_after words_leaf.rules [] words) ≡ Some m
      → given_by path_and_words words ≡ Some m
  many_words [] m plain found = absurd (some≢none m (sym no_path_yet ∙ found))
  many_words (file ∷ []) m plain found =
      let p = first_value file [] plain in
      sym (file_alone file) ∙ ap (found_many) (sym (met_path file p.0)) ∙ found
  many_words (file ∷ word ∷ words) m plain found =
      let p = first_value file (word ∷ words) plain in
      let q = first_value word words p.1 in
      let two = ap (λ w. walked words_leaf.rules [] w word) (met_path file p.0) ∙ met_first file word q.0 in
      let all = ap (λ w. fold (walked words_leaf.rules []) w words) two ∙ met_all file (word ∷ []) words q.1 in
      sym (file_and_words file word words) ∙ ap (found_many) (sym all) ∙ found

  more_passes : (h : Held) (word : Text) → IsValue word → word_fault words_leaf [] false positional word h ≡ []
  more_passes h [] is = refl
  more_passes h (x ∷ xs) is = simp is

  gathered_step : (file : Text) (met : List Text) → step_fault words_leaf 2 (gathered file met).held value ≡ []
  unfolding clap_on_literals
  gathered_step file met = refl

  turn_more : (file word : Text) (met : List Text) → IsValue word → turn_fault words_leaf [] (gathered file met) word ≡ []
  turn_more file word met is =
      ap₂ or_else (more_passes (gathered file met).held word is)
      (ap (λ (p : Held × Step). step_fault words_leaf 2 p.0 p.1) (value_at_positional words_leaf.rules (gathered file met).held 2 word is) ∙ gathered_step file met)

  more_walk : (file : Text) (met words : List Text) → has_option words ≡ false → walk_fault words_leaf [] (gathered file met) words ≡ []
  unfolding walk_fault
  more_walk file met [] plain = refl
  more_walk file met (word ∷ words) plain =
      let p = first_value word words plain in
      ap₂ or_else (turn_more file word met p.0) (ap (λ w. walk_fault words_leaf [] w words) (met_more file word met p.0) ∙ more_walk file (met ++ word ∷ []) words p.1)

  file_step : step_fault words_leaf 1 nothing_held value ≡ []
  unfolding clap_on_literals
  file_step = refl

  first_step : (file : Text) → step_fault words_leaf 2 (one_held words_leaf file) value ≡ []
  unfolding clap_on_literals
  first_step file = refl

  path_after : (file : Text) → to_positional words_leaf.rules (arg_by_index words_leaf.rules 1) file (at idle 1 nothing_held) nothing_held ≡ at idle 2 (one_held words_leaf file)
  unfolding clap_on_literals
  path_after file = refl

  first_after : (file word : Text)
      → to_positional words_leaf.rules (arg_by_index words_leaf.rules 2) word (at idle 2 (one_held words_leaf file)) (one_held words_leaf file) ≡ gathered file (word ∷ [])
  unfolding clap_on_literals
  first_after file word = refl

  file_end : (file : Text) → end_fault words_leaf (one_held words_leaf file) ≡ []
  unfolding clap_on_literals
  file_end file = refl

  -- every text is a text
  texts_pass : (ignore_case : Bool) (words : List Text) → values_kinds ignore_case vp.String words ≡ []
  texts_pass ignore_case [] = refl
  texts_pass ignore_case (word ∷ words) = texts_pass ignore_case words

  in_range : (n : ℕ) → n ≤ usize_max → range_kinds 0 usize_max n ≡ []
  in_range n fits = grind (arith, nat_tests)

  words_end : (file word : Text) (words : List Text) → length (word ∷ words) ≤ usize_max → end_fault words_leaf (gathered file (word ∷ words)).held ≡ []
  unfolding clap_on_literals
  words_end file word words fits = simp (in_range (length (word ∷ words)) fits, texts_pass false (word ∷ words))

  module _ (file : Text) (words : List Text) (is_path : IsValue file) (plain : has_option words ≡ false) where
    met_two : (word : Text) (rest : List Text) → words ≡ word ∷ rest → walk_fault words_leaf [] (at idle 2 (one_held words_leaf file)) (word ∷ rest) ≡ []
    met_two word rest is =
        let p = first_value word rest (ap has_option (sym is) ∙ plain) in
        one_word words_leaf (one_held words_leaf file) 2 word rest p.0 (first_step file)
        (subst (λ w. walk_fault words_leaf [] w rest ≡ []) (sym (first_after file word)) (more_walk file (word ∷ []) rest p.1))

    rest_walk : (ws : List Text) → words ≡ ws → walk_fault words_leaf [] (at idle 2 (one_held words_leaf file)) ws ≡ []
    rest_walk [] is = no_words words_leaf (at idle 2 (one_held words_leaf file))
    rest_walk (word ∷ rest) is = met_two word rest is

    many_walk : walk_fault words_leaf [] (at idle 1 nothing_held) (file ∷ words) ≡ []
    many_walk =
        one_word words_leaf nothing_held 1 file words is_path file_step
        (subst (λ w. walk_fault words_leaf [] w words ≡ []) (sym (path_after file)) (rest_walk words refl))

  walk_path_words : (file word : Text) (words : List Text) → IsValue file → IsValue word → has_option words ≡ false
      → fold (walked words_leaf.rules []) (at idle 1 nothing_held) (file ∷ word ∷ words) ≡ gathered file (word ∷ words)
  walk_path_words file word words is_path is_word plain =
      ap (λ w. fold (walked words_leaf.rules []) w words) (ap (λ w. walked words_leaf.rules [] w word) (met_path file is_path) ∙ met_first file word is_word)
      ∙ met_all file (word ∷ []) words plain

  pub many_pass : (file : Text) (words : List Text) → has_option (file ∷ words) ≡ false → length words ≤ usize_max → level_fault words_leaf [] nothing_held (file ∷ words) false [] ≡ []
  many_pass file [] plain fits =
      let p = first_value file [] plain in
      ap₂ or_else (many_walk file [] p.0 p.1) (ap (λ (w : Walk). end_fault words_leaf w.held) (met_path file p.0) ∙ file_end file)
  many_pass file (word ∷ words) plain fits =
      let p = first_value file (word ∷ words) plain in
      let q = first_value word words p.1 in
      ap₂ or_else (many_walk file (word ∷ words) p.0 p.1) (ap (λ (w : Walk). end_fault words_leaf w.held) (walk_path_words file word words p.0 q.0 q.1) ∙ words_end file word words fits)

  pub many_found : (file : Text) (words : List Text) → has_option (file ∷ words) ≡ false
      → found_many (fold (walked words_leaf.rules []) (at idle 1 nothing_held) (file ∷ words)) ≡ Some (words_given file words)
  many_found file [] plain = ap (found_many) (met_path file (first_value file [] plain).0) ∙ file_alone file
  many_found file (word ∷ words) plain =
      let p = first_value file (word ∷ words) plain in
      let q = first_value word words p.1 in
      ap (found_many) (walk_path_words file word words p.0 q.0 q.1) ∙ file_and_words file word words

-- ---- each kind

path_takes : (name : Text) → TakesPath (leaf name path_alone) path_alone path
unfolding clap_on_literals
path_takes name = record {
  met = λ file. refl;
  no_more = λ h e. cc;
  none = refl;
  path_is = λ file. refl;
  given_is = λ file. refl;
  step = refl;
  end = λ file. refl;
}

-- without the option, it has no values
abbrev no_options : Text → Given
no_options file = options file []

options_take : (name long : Text) (short : ℕ) → TakesPath (leaf name (path_and_options long short)) (path_and_options long short) no_options
unfolding clap_on_literals
options_take name long short = record {
  met = λ file. refl;
  no_more = λ h e. cc;
  none = refl;
  path_is = λ file. refl;
  given_is = λ file. refl;
  step = refl;
  end = λ file. refl;
}

two_takes : (name : Text) → TakesTwo (leaf name text_and_path)
unfolding clap_on_literals
two_takes name = record {
  first = λ x. refl;
  second = λ x y. refl;
  no_third = λ h e. cc;
  none = refl;
  path_none = λ x. refl;
  value_is = λ x y. refl;
  path_is = λ x y. refl;
}

two_passes : (name : Text) → PassesTwo (leaf name text_and_path)
unfolding clap_on_literals
two_passes name = record { first = refl; second = λ x. refl; end = λ x y. refl }

three_takes : (name : Text) → TakesThree (leaf name texts_and_path)
unfolding clap_on_literals
three_takes name = record {
  first = λ x. refl;
  second = λ x y. refl;
  third = λ x y z. refl;
  no_fourth = λ h e. cc;
  none = refl;
  new_none = λ x. refl;
  path_none = λ x y. refl;
  old_is = λ x y z. refl;
  new_is = λ x y z. refl;
  path_is = λ x y z. refl;
}

three_passes : (name : Text) → PassesThree (leaf name texts_and_path)
unfolding clap_on_literals
three_passes name = record { first = refl; second = λ x. refl; third = λ x y. refl; end = λ x y z. refl }

-- what a command finds in words that it takes are their values
pub found_given : (name : Text) (kind : Kind) (list : List Text) (given : Given) → has_option list ≡ false → walk_fault (leaf name kind) [] (at idle 1 nothing_held) list ≡ []
    → found_values kind (rows_after (leaf name kind).rules [] list) ≡ Some given → given_by kind list ≡ Some given
found_given name path_alone list given plain none found = path_word (leaf name path_alone) path_alone path (path_takes name) list given plain none found
found_given name text_and_path list given plain none found = two_words (leaf name text_and_path) (two_takes name) list given plain none found
found_given name texts_and_path list given plain none found = three_words (leaf name texts_and_path) (three_takes name) list given plain none found
found_given name path_and_words list given plain none found = many_words name list given plain found
found_given name (path_and_options long short) list given plain none found =
    path_word (leaf name (path_and_options long short)) (path_and_options long short) no_options (options_take name long short) list given plain none found

-- it takes the words of its values, and finds these
pub record TakesGiven (name : Text) (kind : Kind) (list : List Text) (given : Given) : Type 0 where
  pub passes : level_fault (leaf name kind) [] nothing_held list false [] ≡ []
  pub found : found_values kind (rows_after (leaf name kind).rules [] list) ≡ Some given

pub takes_given : (name : Text) (kind : Kind) (list : List Text) (given : Given) → has_option list ≡ false → length list ≤ usize_max → given_by kind list ≡ Some given
    → TakesGiven name kind list given
takes_given name path_alone [] given plain fits is = absurd (cc)
takes_given name path_alone (file ∷ []) given plain fits is =
    let p = (first_value file [] plain).0 in
    let s : Shape = leaf name path_alone in
    let t = path_takes name in
    record { passes = path_passes s path_alone path t file p; found = path_found s path_alone path t file p ∙ is }
takes_given name path_alone (file ∷ word ∷ rest) given plain fits is = absurd (cc)
takes_given name text_and_path [] given plain fits is = absurd (cc)
takes_given name text_and_path (x ∷ []) given plain fits is = absurd (cc)
takes_given name text_and_path (x ∷ y ∷ []) given plain fits is =
    let a = first_value x (y ∷ []) plain in
    let b = first_value y [] a.1 in
    let s : Shape = leaf name text_and_path in
    record { passes = two_pass s (two_takes name) (two_passes name) x y a.0 b.0; found = two_found s (two_takes name) (two_passes name) x y a.0 b.0 ∙ is }
takes_given name text_and_path (x ∷ y ∷ z ∷ rest) given plain fits is = absurd (cc)
takes_given name texts_and_path [] given plain fits is = absurd (cc)
takes_given name texts_and_path (x ∷ []) given plain fits is = absurd (cc)
takes_given name texts_and_path (x ∷ y ∷ []) given plain fits is = absurd (cc)
takes_given name texts_and_path (x ∷ y ∷ z ∷ []) given plain fits is =
    let a = first_value x (y ∷ z ∷ []) plain in
    let b = first_value y (z ∷ []) a.1 in
    let c = first_value z [] b.1 in
    let s : Shape = leaf name texts_and_path in
    record { passes = three_pass s (three_takes name) (three_passes name) x y z a.0 b.0 c.0; found = three_found s (three_takes name) (three_passes name) x y z a.0 b.0 c.0 ∙ is }
takes_given name texts_and_path (x ∷ y ∷ z ∷ u ∷ rest) given plain fits is = absurd (cc)
takes_given name path_and_words [] given plain fits is = absurd (cc)
takes_given name path_and_words (file ∷ list) given plain fits is =
    record { passes = many_pass name file list plain (omega arith); found = many_found name file list plain ∙ is }
takes_given name (path_and_options long short) [] given plain fits is = absurd (cc)
takes_given name (path_and_options long short) (file ∷ []) given plain fits is =
    let p = (first_value file [] plain).0 in
    let kind : Kind = path_and_options long short in
    let s : Shape = leaf name kind in
    let t = options_take name long short in
    record { passes = path_passes s kind no_options t file p; found = path_found s kind no_options t file p ∙ is }
takes_given name (path_and_options long short) (file ∷ word ∷ rest) given plain fits is = absurd (cc)
