-- A name finds the same command in each form of the table, and a group of words its edit.
use Rattle.std.proofs.Common.{◌≡◌, ◌∷◌, [], List, Option, Some, None, Result, Ok, Err, Bool, cond, true, false, map, ℕ, refl, sym, ap, ◌∙◌, subst}
use Rattle.std.specs.Prelude.{option_and_then, option_map}
use Rattle.std.specs.Str.{bytes_eq}
use Rattle.std.proofs.lemmas.Slice.Eq.{bytes_eq-Decides}
use Rattle.command_words.specs.Groups.{TellsWrong, Wrong, edit_named, fault_at, given_edit, group_edit, line_edit, no_edit, row_asked}
use Rattle.command_words.specs.Rows.{Given, Kind, Line, Named, Text, asked_with, given_without_path, kind_of, line_named, meant_with, named, named_of, row_model}
use Rattle.command_words.specs.declared.edits.EditsError.{EditsError}
use Rattle.command_words.specs.declared.edits.EditsError.TheVariants.{Fault, Memory as edits_memory}
use Rattle.command_words.specs.declared.word_values.ValueError.{ValueError}
use Rattle.command_words.specs.declared.word_values.ValueError.TheVariants.{Memory, NoNumber, NoPair}
use Rattle.command_words.specs.WordValues.{TellsNoValue, TellsValues, no_number, no_pair, value_answer}
use Rattle.command_words.specs.declared.rows.Row.{Row}

module _ {M : Type 0} where
  choice-named : (b : Bool) (line : Line M) (rest : Option (Line M)) → cond b (Some (named_of line)) (option_map named_of rest) ≡ option_map named_of (cond b (Some line) rest)
  choice-named true line rest = refl
  choice-named false line rest = refl

  pub named-map : (lines : List (Line M)) (name : Text) → named (map named_of lines) name ≡ option_map named_of (line_named lines name)
  named-map [] name = refl
  named-map (line ∷ lines) name =
      ap (cond (bytes_eq name line.name) (Some (named_of line))) (named-map lines name) ∙ choice-named (bytes_eq name line.name) line (line_named lines name)

  choice-asked : (b : Bool) (line : Line M) (rest : Option (Line M)) (given : Given)
      → cond b (asked_with line.asks given) (option_and_then (λ l. asked_with l.asks given) rest) ≡ option_and_then (λ l. asked_with l.asks given) (cond b (Some line) rest)
  choice-asked true line rest given = refl
  choice-asked false line rest given = refl

  pub meant_with-named : (lines : List (Line M)) (name : Text) (given : Given) → meant_with lines name given ≡ option_and_then (λ line. asked_with line.asks given) (line_named lines name)
  meant_with-named [] name given = refl
  meant_with-named (line ∷ lines) name given =
      ap (cond (bytes_eq name line.name) (asked_with line.asks given)) (meant_with-named lines name given) ∙ choice-asked (bytes_eq name line.name) line (line_named lines name) given

  -- what a table's row of a name is
  pub row_line : (lines : List (Line M)) (rows : List Row) (name : Text) (row : Option Named) → map row_model rows ≡ map named_of lines → row ≡ named (map row_model rows) name
      → row ≡ option_map named_of (line_named lines name)
  row_line lines rows name row table found = found ∙ ap (λ (l : List Named). named l name) table ∙ named-map lines name

-- ---- the edit of a group

-- a row that is found has the name that it is found by
pub named_is : (rows : List Named) (name : Text) (row : Named) → named rows name ≡ Some row → row.name ≡ name
named_is [] name row e = absurd (cc)
named_is (r ∷ rows) name row e = by_test (bytes_eq name r.name) refl (named_is rows name row) e
  where
    by_test : (b : Bool) → bytes_eq name r.name ≡ b → (named rows name ≡ Some row → row.name ≡ name) → cond b (Some r) (named rows name) ≡ Some row → row.name ≡ name
    by_test true same rest found =
        let is : r ≡ row = cc in
        ap (λ (n : Named). n.name) (sym is) ∙ sym ((bytes_eq-Decides name r.name).0 same)
    by_test false other rest found = rest found

-- the row of an edit, and the words behind its name
abbrev Asked : Type 0
Asked = Result (Named × List Text) Wrong

-- the row of an edit is the row that was found
edit_parts : (o : Option Named) (words : List Text) (row : Named) (rest : List Text) → edit_named o words ≡ Ok (row, rest) → (o ≡ Some row) × (row.is_edit ≡ true) × (words ≡ rest)
edit_parts None words row rest e = absurd (cc)
edit_parts (Some found) words row rest e = by_flag found.is_edit refl e
  where
    by_flag : (b : Bool) → found.is_edit ≡ b → cond {A = Asked} b (Ok (found, words)) (Err no_edit) ≡ Ok (row, rest) → (Some found ≡ Some row) × (row.is_edit ≡ true) × (words ≡ rest)
    by_flag true fixed is =
        let same : ◌≡◌ {A = Named × List Text} (found, words) (row, rest) = cc in
        let first = ap (λ (p : Named × List Text). p.0) same in
        (ap (λ n. Some n) first, ap (λ (n : Named). n.is_edit) (sym first) ∙ fixed, ap (λ (p : Named × List Text). p.1) same)
    by_flag false fixed is = absurd (cc)

module _ {E : Type 0} where
  pub fault_told : (group : ℕ) (meant : Result E Wrong) (wrong : Wrong) (e : EditsError) → meant ≡ Err wrong → e ≡ Fault (fault_at group wrong) → TellsWrong group meant e
  fault_told group meant wrong e m is = subst (λ x. TellsWrong group meant x) (sym is) (wrong, m, refl)

module _ {M E : Type 0} (edit_by : M → Result E Wrong) (lines : List (Line M)) where
  abbrev asked_for : Text → Kind → List Text → Option M
  asked_for name kind words = option_and_then (meant_with lines name) (given_without_path kind words)

  asked_same : (name : Text) (line : Line M) → line_named lines name ≡ Some line → (given : Option Given) → option_and_then (asked_with line.asks) given ≡ option_and_then (meant_with lines name) given
  asked_same name line is None = refl
  asked_same name line is (Some given) = sym (meant_with-named lines name given ∙ ap (option_and_then (λ l. asked_with l.asks given)) is)

  known_line : (name : Text) (o : Option (Line M)) → line_named lines name ≡ o → (row : Named) (words : List Text) → Some row ≡ option_map named_of o → row.is_edit ≡ true
      → line_edit edit_by o words ≡ given_edit edit_by row.kind words (asked_for name row.kind words)
  known_line name None is row words e fixed = absurd (cc)
  known_line name (Some line) is row words e fixed =
      let same : row ≡ named_of line = cc in
      let plain : line.is_edit ≡ true = ap (λ (n : Named). n.is_edit) (sym same) ∙ fixed in
      let kind : kind_of line.asks ≡ row.kind = ap (λ (n : Named). n.kind) (sym same) in
      let asked : Kind → Result E Wrong = λ k. given_edit edit_by k words (asked_for name k words) in
      rw plain (ap (given_edit edit_by (kind_of line.asks) words) (asked_same name line is (given_without_path (kind_of line.asks) words)) ∙ ap asked kind)

  by_none : (words : List Text) (o : Option (Line M)) (wrong : Wrong) → edit_named (option_map named_of o) words ≡ Err wrong → line_edit edit_by o words ≡ Err wrong
  by_none words None wrong e = cc
  by_none words (Some line) wrong e = by_flag line.is_edit refl e
    where
      by_flag : (b : Bool) → line.is_edit ≡ b → cond {A = Asked} b (Ok (named_of line, words)) (Err no_edit) ≡ Err wrong → line_edit edit_by (Some line) words ≡ Err wrong
      by_flag true fixed found = absurd (cc)
      by_flag false fixed found = rw fixed (cc)

  by_named : (words : List Text) (row : Named) (rest : List Text) → row_asked (map named_of lines) words ≡ Ok (row, rest)
      → group_edit edit_by lines words ≡ given_edit edit_by row.kind rest (asked_for row.name row.kind rest)
  by_named [] row rest e = absurd (cc)
  by_named (name ∷ words) row rest e =
      let p = edit_parts (named (map named_of lines) name) words row rest e in
      let known = known_line name (line_named lines name) refl row words (sym p.0 ∙ named-map lines name) p.1 in
      let asked : Text → Result E Wrong = λ n. given_edit edit_by row.kind rest (asked_for n row.kind rest) in
      known ∙ ap (λ ws. given_edit edit_by row.kind ws (asked_for name row.kind ws)) p.2 ∙ ap asked (sym (named_is (map named_of lines) name row p.0))

  none_named : (words : List Text) (wrong : Wrong) → row_asked (map named_of lines) words ≡ Err wrong → group_edit edit_by lines words ≡ Err wrong
  none_named [] wrong e = cc
  none_named (name ∷ words) wrong e = by_none words (line_named lines name) wrong (ap (λ o. edit_named o words) (sym (named-map lines name)) ∙ e)

  -- a group means what the command asks for that the row has which the group names in a table of the lines
  pub by_row : (table : List Named) (words : List Text) (row : Named) (rest : List Text) (asked : Option M) → table ≡ map named_of lines → row_asked table words ≡ Ok (row, rest)
      → asked ≡ option_and_then (meant_with lines row.name) (given_without_path row.kind rest) → group_edit edit_by lines words ≡ given_edit edit_by row.kind rest asked
  by_row table words row rest asked is names asks =
      by_named words row rest (ap (λ t. row_asked t words) (sym is) ∙ names) ∙ ap (given_edit edit_by row.kind rest) (sym asks)

  pub no_row : (table : List Named) (words : List Text) (wrong : Wrong) → table ≡ map named_of lines → row_asked table words ≡ Err wrong → group_edit edit_by lines words ≡ Err wrong
  no_row table words wrong is names = none_named words wrong (ap (λ t. row_asked t words) (sym is) ∙ names)

-- ---- values

-- what is wrong with values is wrong with their group
pub values_told : {M : Type 0} (group : ℕ) (read : Option (Result M Wrong)) (e : ValueError) → TellsNoValue read e → TellsValues group read (value_answer group e)
values_told group read (NoNumber word) told = (no_number, told, refl)
values_told group read (NoPair word place) told = (no_pair place, told, refl)
values_told group read Memory told = tt

pub told_by_values : {M E : Type 0} (edit_by : Result M Wrong → Result E Wrong) → ((wrong : Wrong) → edit_by (Err wrong) ≡ Err wrong) → (group : ℕ) (kind : Kind) (words : List Text) (read : Option (Result M Wrong)) (e : EditsError)
    → TellsValues group read e → TellsWrong group (given_edit edit_by kind words read) e
told_by_values edit_by wrong_stays group kind words read edits_memory told = tt
told_by_values edit_by wrong_stays group kind words read (Fault fault) told =
    (told.0, ap (given_edit edit_by kind words) told.1 ∙ wrong_stays told.0, told.2)
