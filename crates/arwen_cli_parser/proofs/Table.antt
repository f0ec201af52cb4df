-- The parser that is told a table of commands takes a line where its words name one of them, with its values.
use Rattle.std.proofs.Common.{◌≡◌, ◌∷◌, [], ◌++◌, ◌⊎◌, ◌&&◌, ◌||◌, ◌≤◌, inl, inr, List, Option, Some, None, Bool, cond, true, false, length, map, not, refl, sym, ap, ap₂, ◌∙◌, codes, find, append-nil}
use Rattle.std.specs.Prelude.{option_and_then, option_map}
use Rattle.std.specs.List.{list_all}
use Rattle.std.specs.Option.{option_map_or}
use Rattle.std.specs.Str.{bytes_eq}
use Rattle.std.proofs.lemmas.List.{map_push}
use Rattle.std.proofs.lemmas.Slice.Eq.{bytes_eq-Decides}
use Rattle.clap.specs.Lexer.{usize_max}
use Rattle.clap.specs.Walk.{Held, Row, Step, Text, answers_to, idle, nothing_held, rows_after, subcommand, subcommand_met, subcommand_or_other, value, word_met}
use Rattle.clap.specs.Simple.{App, Shape, built, built_leaf, entered, help_shape, has_simple_rules, inherited, is_ready, is_ready_leaf, is_simple_leaf, label_of, marked_built, names_of, rows_at, with_leaf_noted, with_subcommand}
use Rattle.clap.specs.Words.{is_simple_and_free}
use Rattle.clap.specs.Kinds.{or_else}
use Rattle.clap.specs.Faults.{has_free_rules, level_fault, other_fault, step_fault, turn_fault}
use Rattle.clap.proofs.OnLiterals.{clap_on_literals}
use Rattle.command_words.specs.Rows.{Given, Kind, Named, given_by, named, path_alone, path_and_options, path_and_words, text_and_path, texts_and_path}
use Rattle.arwen_cli_parser.specs.Asked.{has_option}
use Rattle.arwen_cli_parser.specs.Parser.{found_by, found_values, has_no_help, is_table, leaf_app, leaf_of, line_app, top_app}
use Rattle.arwen_cli_parser.proofs.Named.{IsNamed, IsTakenAt, differs, fault_of_stranger, found_at, found_by_name, meaning_by, named_fault, named_found, named_taken, rest_fault}
use Rattle.arwen_cli_parser.proofs.Values.{first_value, found_given, leaf, takes_given}
use Rattle.arwen_cli_parser.proofs.Words.{at, no_first}

-- ---- a table with one more command

pub line_app-push : (first : Text) (rows : List Named) (row : Named) → with_subcommand (line_app first rows) (leaf_of row) ≡ line_app first (rows ++ row ∷ [])
line_app-push first [] row = refl
line_app-push first (r ∷ rows) row =
    let line : List Shape → App = λ subs. record (top_app first) { top = record (top_app first).top { is_leaf = false }; subs = subs } in
    ap line (sym (map_push leaf_of (r ∷ rows) row))

-- ---- the commands that the parser builds

abbrev pub leaf_at : Named → Shape
leaf_at row = leaf row.name row.kind

abbrev help_leaf : Shape
help_leaf = built_leaf help_shape

abbrev above : Text → Shape
above first = with_leaf_noted (marked_built (record (top_app first).top { is_leaf = false }))

built_sub : (first name : Text) (kind : Kind) → built_leaf (inherited (above first) (leaf_app name kind).top) ≡ leaf name kind
built_sub first name path_alone = refl
built_sub first name text_and_path = refl
built_sub first name texts_and_path = refl
built_sub first name path_and_words = refl
built_sub first name (path_and_options long short) = refl

built_subs : (first : Text) (rows : List Named) → map built_leaf (map (inherited (above first)) (map leaf_of rows) ++ help_shape ∷ []) ≡ map leaf_at rows ++ help_leaf ∷ []
built_subs first [] = refl
built_subs first (row ∷ rows) = ap₂ (λ (s : Shape) (ss : List Shape). s ∷ ss) (built_sub first row.name row.kind) (built_subs first rows)

abbrev pub line : Text → List Named → App
line first table = built (line_app first table)

subs_are : (first : Text) (row : Named) (rows : List Named) → (line first (row ∷ rows)).subs ≡ map leaf_at (row ∷ rows) ++ help_leaf ∷ []
subs_are first row rows = built_subs first (row ∷ rows)

label_leaf : (name : Text) (kind : Kind) → label_of (leaf name kind) ≡ (name, [])
label_leaf name path_alone = refl
label_leaf name text_and_path = refl
label_leaf name texts_and_path = refl
label_leaf name path_and_words = refl
label_leaf name (path_and_options long short) = refl

-- ---- the command of a name

-- the command that the parser finds by a name, its own for help behind the table's
abbrev sub_named : List Named → Text → Option Shape
sub_named [] name = cond (bytes_eq (codes "help") name) (Some help_leaf) None
sub_named (row ∷ rows) name = cond (bytes_eq row.name name) (Some (leaf_at row)) (sub_named rows name)

answers : (name : Text) (row : Named) → answers_to name (label_of (leaf_at row)) ≡ bytes_eq row.name name
answers name row = ap (answers_to name) (label_leaf row.name row.kind) ∙ or_false (bytes_eq row.name name)
  where
    or_false : (b : Bool) → (b || false) ≡ b
    or_false true = refl
    or_false false = refl

abbrev finds : Text → Shape → Bool
finds name s = answers_to name (label_of s)

find_sub : (rows : List Named) (name : Text) → find (finds name) (map leaf_at rows ++ help_leaf ∷ []) ≡ sub_named rows name
find_sub [] name = at_end (bytes_eq (codes "help") name)
  where
    at_end : (b : Bool) → cond (b || false) (Some help_leaf) None ≡ cond b (Some help_leaf) None
    at_end true = refl
    at_end false = refl
find_sub (row ∷ rows) name = ap₂ (λ (b : Bool) (o : Option Shape). cond b (Some (leaf_at row)) o) (answers name row) (find_sub rows name)

find_label : (name : Text) (subs : List Shape) → find (answers_to name) (map label_of subs) ≡ option_map label_of (find (finds name) subs)
find_label name [] = refl
find_label name (s ∷ subs) = ap (cond (finds name s) (Some (label_of s))) (find_label name subs) ∙ choice (finds name s) (find (finds name) subs)
  where
    choice : (b : Bool) (rest : Option Shape) → cond b (Some (label_of s)) (option_map label_of rest) ≡ option_map label_of (cond b (Some s) rest)
    choice true rest = refl
    choice false rest = refl

some≢none : {X : Type 0} (x : X) → None ≡ Some x → ⊥
some≢none x e = cc

-- what a name is for the parser and for the table
data NameKind (table : List Named) (name : Text) : Type 0 where
  known : (row : Named) → named table name ≡ Some row → row.name ≡ name → bytes_eq name (codes "help") ≡ false → sub_named table name ≡ Some (leaf_at row) → NameKind table name
  help : codes "help" ≡ name → named table name ≡ None → sub_named table name ≡ Some help_leaf → NameKind table name
  stranger : named table name ≡ None → sub_named table name ≡ None → NameKind table name

true_of : (a b : Text) → a ≡ b → bytes_eq a b ≡ true
true_of a b e = (bytes_eq-Decides a b).1 e

true≢false : true ≡ false → ⊥
true≢false e = cc

and_parts : (a b : Bool) → (a && b) ≡ true → (a ≡ true) × (b ≡ true)
and_parts true b e = (refl, e)
and_parts false b e = absurd (cc)

not_true : (b : Bool) → not b ≡ true → b ≡ false
not_true true e = absurd (cc)
not_true false e = refl

-- neither text is the other, or they are one
apart : (a b : Text) → (a ≡ b) ⊎ ((bytes_eq a b ≡ false) × (bytes_eq b a ≡ false))
apart a b = elim (differs a b) [
  | inl same ↦ inl same
  | inr one ↦ elim (differs b a) [
    | inl same ↦ inl (sym same)
    | inr other ↦ inr (one, other)
  ]
]

module _ (row : Named) (rows : List Named) (name : Text) where
  here : row.name ≡ name → bytes_eq name (codes "help") ≡ false → NameKind (row ∷ rows) name
  here same no_help =
      known row (ap (λ b. cond b (Some row) (named rows name)) (true_of name row.name (sym same))) same no_help
      (ap (λ b. cond b (Some (leaf_at row)) (sub_named rows name)) (true_of row.name name same))

  behind : bytes_eq row.name name ≡ false → bytes_eq name row.name ≡ false → NameKind rows name → NameKind (row ∷ rows) name
  behind one other (known r is same no_help sub) =
      known r (ap (λ b. cond b (Some row) (named rows name)) other ∙ is) same no_help (ap (λ b. cond b (Some (leaf_at row)) (sub_named rows name)) one ∙ sub)
  behind one other (help same none sub) =
      help same (ap (λ b. cond b (Some row) (named rows name)) other ∙ none) (ap (λ b. cond b (Some (leaf_at row)) (sub_named rows name)) one ∙ sub)
  behind one other (stranger none sub) =
      stranger (ap (λ b. cond b (Some row) (named rows name)) other ∙ none) (ap (λ b. cond b (Some (leaf_at row)) (sub_named rows name)) one ∙ sub)

  not_help : has_no_help (row ∷ rows) ≡ true → row.name ≡ name → bytes_eq name (codes "help") ≡ false
  not_help has same = elim (apart (codes "help") name) [
    | inl is ↦
        let off : bytes_eq (codes "help") row.name ≡ false = not_true _ (and_parts _ _ has).0 in
        let on = true_of (codes "help") row.name (is ∙ sym same) in
        absurd (true≢false (sym on ∙ off))
    | inr both ↦ both.1
  ]

kind_of : (table : List Named) (name : Text) → has_no_help table ≡ true → NameKind table name
kind_of [] name has = elim (differs (codes "help") name) [
  | inl is ↦ help is refl (ap (λ b. cond b (Some help_leaf) None) (true_of (codes "help") name is))
  | inr no_help ↦ stranger refl (ap (λ b. cond b (Some help_leaf) None) no_help)
]
kind_of (row ∷ rows) name has =
    let rest = kind_of rows name (and_parts _ _ has).1 in
    elim (apart row.name name) [
      | inl same ↦ here row rows name same (not_help row rows name has same)
      | inr both ↦ behind row rows name both.0 both.1 rest
    ]

-- ---- what is known of a command by its name

module _ (first : Text) (head : Named) (rows : List Named) where
  abbrev table : List Named
  table = head ∷ rows

  abbrev app : App
  app = line first (head ∷ rows)

  found_sub : (name : Text) → find (finds name) app.subs ≡ sub_named table name
  found_sub name = ap (find (finds name)) (subs_are first head rows) ∙ find_sub table name

  met_name : (name : Text) → subcommand_met (names_of app) idle name ≡ option_map (λ (s : Shape). s.name) (sub_named table name)
  met_name name =
      ap (option_map (λ (l : Text × List Text). l.0)) (find_label name app.subs ∙ ap (option_map label_of) (found_sub name)) ∙ fused (sub_named table name)
    where
      fused : (o : Option Shape) → option_map (λ (l : Text × List Text). l.0) (option_map label_of o) ≡ option_map (λ (s : Shape). s.name) o
      fused None = refl
      fused (Some s) = refl

  rest_passes : (found : Text × List Row) → rest_fault app nothing_held (Some found) ≡ []
  unfolding clap_on_literals
  rest_passes found = refl

  module _ (name : Text) (row : Named) (same : row.name ≡ name) (no_help : bytes_eq name (codes "help") ≡ false) (sub : sub_named table name ≡ Some (leaf_at row)) where
    name_is : (leaf_at row).name ≡ name
    name_is = ap (λ (l : Text × List Text). l.0) (label_leaf row.name row.kind) ∙ same

    met_is : subcommand_met (names_of app) idle name ≡ Some name
    met_is = met_name name ∙ ap (option_map (λ (s : Shape). s.name)) sub ∙ ap (λ n. Some n) name_is

    word_is : word_met app.top.rules (names_of app) false idle 1 name nothing_held ≡ (nothing_held, subcommand name)
    word_is = ap (λ o. subcommand_or_other app.top.rules o idle 1 name nothing_held) met_is

    no_request : other_fault app.top (Some name) name nothing_held ≡ []
    no_request = rw no_help refl

    turn_is : turn_fault app.top (names_of app) (at idle 1 nothing_held) name ≡ []
    turn_is =
        ap₂ or_else (ap (λ o. other_fault app.top o name nothing_held) met_is ∙ no_request) (ap (λ (p : Held × Step). step_fault app.top 1 p.0 p.1) word_is)

    entered_is : (words : List Text) → entered app (Some (name, words)) ≡ Some (rows_at (leaf_at row) words)
    entered_is words = ap (option_map (λ (s : Shape). rows_at s words)) (found_sub name ∙ sub)

    pub is_named : IsNamed app (found_by table) name (leaf_at row)
    is_named = record {
      met = met_is;
      turn = turn_is;
      below = λ words. ap (λ (o : Option Shape). option_map_or (λ s. level_fault s [] nothing_held words false []) o []) (found_sub name ∙ sub);
      rest = λ words. ap (rest_fault app nothing_held) (entered_is words) ∙ rest_passes (rows_at (leaf_at row) words);
      found = λ words. ap (meaning_by (found_by table)) (entered_is words) ∙ ap (λ n. found_by table n (rows_after (leaf_at row).rules [] words)) name_is;
    }

  -- the line takes no value of its own
  no_value : step_fault app.top 1 nothing_held value ≡ [] → ⊥
  no_value none = cc

  no_word : (taken : Text × Given) → meaning_by (found_by table) (found_at app []) ≡ Some taken → ⊥
  no_word taken found = cc

-- ---- a line that is taken, and one whose words name a command

-- the words are the name of a command of the table and its values
pub record NamesValues (table : List Named) (words : List Text) (taken : Text × Given) : Type 0 where
  pub name : Text
  pub rest : List Text
  pub row : Named
  pub words_are : words ≡ name ∷ rest
  pub row_is : named table name ≡ Some row
  pub given_is : given_by row.kind rest ≡ Some taken.1
  pub name_is : taken.0 ≡ name

pair_parts : (o : Option Given) (name : Text) (taken : Text × Given) → option_map (λ (g : Given). (name, g)) o ≡ Some taken → (o ≡ Some taken.1) × (taken.0 ≡ name)
pair_parts None name taken e = absurd (cc)
pair_parts (Some given) name taken e =
    let same : ◌≡◌ {A = Text × Given} (name, given) taken = cc in
    (ap (λ (t : Text × Given). Some t.1) same, ap (λ (t : Text × Given). t.0) (sym same))

module _ (first : Text) (head : Named) (rows : List Named) (has : has_no_help (head ∷ rows) ≡ true) where
  abbrev values_in : Text → Option Named → List Row → Option (Text × Given)
  values_in name found list = option_and_then (λ (r : Named). option_map (λ (g : Given). (r.name, g)) (found_values r.kind list)) found

  taken_by : (name : Text) (rest : List Text) (taken : Text × Given) → has_option (name ∷ rest) ≡ false → IsTakenAt (app first head rows) (found_by (table first head rows)) (name ∷ rest) taken
      → NameKind (table first head rows) name → NamesValues (table first head rows) (name ∷ rest) taken
  taken_by name rest taken plain t (known row is same no_help sub) =
      let n = is_named first head rows name row same no_help sub in
      let found = named_found (app first head rows) (found_by (table first head rows)) name (leaf_at row) n rest taken t in
      let none = named_fault (app first head rows) (found_by (table first head rows)) name (leaf_at row) n rest taken t in
      let values = ap (λ o. values_in name o (rows_after (leaf_at row).rules [] rest)) (sym is) ∙ found in
      let parts = pair_parts _ row.name taken values in
      record {
        name = name;
        rest = rest;
        row = row;
        words_are = refl;
        row_is = is;
        given_is = found_given row.name row.kind rest taken.1 (first_value name rest plain).1 (no_first _ _ none) parts.0;
        name_is = parts.1 ∙ same;
      }
  taken_by name rest taken plain t (help same none sub) =
      let met : subcommand_met (names_of (app first head rows)) idle name ≡ Some name = met_name first head rows name ∙ ap (option_map (λ (s : Shape). s.name)) sub ∙ ap (λ (n : Text). Some n) same in
      let entered_is : entered (app first head rows) (Some (name, rest)) ≡ Some (rows_at help_leaf rest) = ap (option_map (λ (s : Shape). rows_at s rest)) (found_sub first head rows name ∙ sub) in
      let nothing : meaning_by (found_by (table first head rows)) (found_at (app first head rows) (name ∷ rest)) ≡ None =
      ap (meaning_by (found_by (table first head rows))) (found_by_name (app first head rows) name met rest ∙ entered_is)
      ∙ ap (λ o. values_in name o (rows_after help_leaf.rules [] rest)) (ap (named (table first head rows)) same ∙ none) in
      absurd (some≢none taken (sym nothing ∙ t.1))
  taken_by name rest taken plain t (stranger none sub) =
      let unmet : subcommand_met (names_of (app first head rows)) idle name ≡ None = met_name first head rows name ∙ ap (option_map (λ (s : Shape). s.name)) sub in
      absurd (no_value first head rows (fault_of_stranger (app first head rows) name (first_value name rest plain).0 unmet rest t.0))

  pub line_taken : (words : List Text) (taken : Text × Given) → IsTakenAt (app first head rows) (found_by (table first head rows)) words taken → has_option words ≡ false
      → NamesValues (table first head rows) words taken
  line_taken [] taken t plain = absurd (no_word first head rows taken t.1)
  line_taken (name ∷ rest) taken t plain = taken_by name rest taken plain t (kind_of (table first head rows) name has)

  passes_by : (name : Text) (rest : List Text) (row : Named) (given : Given) → has_option (name ∷ rest) ≡ false → length rest ≤ usize_max → named (table first head rows) name ≡ Some row
      → given_by row.kind rest ≡ Some given → NameKind (table first head rows) name → IsTakenAt (app first head rows) (found_by (table first head rows)) (name ∷ rest) (name, given)
  passes_by name rest row given plain fits is given_is (known other other_is same no_help sub) =
      let one : other ≡ row = cc (is, other_is) in
      let given_other = ap (λ (r : Named). given_by r.kind rest) one ∙ given_is in
      let n = is_named first head rows name other same no_help sub in
      let takes = takes_given other.name other.kind rest given (first_value name rest plain).1 fits given_other in
      let found = ap (λ o. values_in name o (rows_after (leaf_at other).rules [] rest)) other_is ∙ ap (option_map (λ (g : Given). (other.name, g))) takes.found
      ∙ ap (λ (n : Text). Some (n, given)) same in
      named_taken (app first head rows) (found_by (table first head rows)) name (leaf_at other) n rest (name, given) takes.passes found
  passes_by name rest row given plain fits is given_is (help same none sub) = absurd (some≢none row (sym none ∙ is))
  passes_by name rest row given plain fits is given_is (stranger none sub) = absurd (some≢none row (sym none ∙ is))

  pub line_passes : (name : Text) (rest : List Text) (row : Named) (given : Given) → has_option (name ∷ rest) ≡ false → length rest ≤ usize_max → named (table first head rows) name ≡ Some row
      → given_by row.kind rest ≡ Some given → IsTakenAt (app first head rows) (found_by (table first head rows)) (name ∷ rest) (name, given)
  line_passes name rest row given plain fits is given_is = passes_by name rest row given plain fits is given_is (kind_of (table first head rows) name has)

-- ---- each table is one that the parser's clauses speak of

all_of_map : (test : Shape → Bool) (f : Named → Shape) → ((row : Named) → test (f row) ≡ true) → (last : List Shape) → list_all test last ≡ true → (rows : List Named)
    → list_all test (map f rows ++ last) ≡ true
all_of_map test f each last end [] = end
all_of_map test f each last end (row ∷ rows) = ap₂ (λ a b. a && b) (each row) (all_of_map test f each last end rows)

simple_sub : (name : Text) (kind : Kind) → is_simple_leaf (leaf_app name kind).top ≡ true
simple_sub name path_alone = refl
simple_sub name text_and_path = refl
simple_sub name texts_and_path = refl
simple_sub name path_and_words = refl
simple_sub name (path_and_options long short) = refl

ready_sub : (name : Text) (kind : Kind) → is_ready_leaf (leaf name kind) ≡ true
ready_sub name path_alone = refl
ready_sub name text_and_path = refl
ready_sub name texts_and_path = refl
ready_sub name path_and_words = refl
ready_sub name (path_and_options long short) = refl

free_sub : (name : Text) (kind : Kind) → has_free_rules (leaf name kind) ≡ true
free_sub name path_alone = refl
free_sub name text_and_path = refl
free_sub name texts_and_path = refl
free_sub name path_and_words = refl
free_sub name (path_and_options long short) = refl

pub simple_and_free : (first : Text) (head : Named) (rows : List Named) → is_simple_and_free (line_app first (head ∷ rows)) ≡ true
simple_and_free first head rows =
    let a : App = line_app first (head ∷ rows) in
    let simple : list_all is_simple_leaf a.subs ≡ true = ap (list_all is_simple_leaf) (sym (append-nil a.subs)) ∙ all_of_map is_simple_leaf leaf_of (λ row. simple_sub row.name row.kind) [] refl (head ∷ rows) in
    let ready : list_all is_ready_leaf (built a).subs ≡ true = ap (list_all is_ready_leaf) (subs_are first head rows) ∙ all_of_map is_ready_leaf leaf_at (λ row. ready_sub row.name row.kind) (help_leaf ∷ []) refl (head ∷ rows) in
    let free : list_all has_free_rules (built a).subs ≡ true = ap (list_all has_free_rules) (subs_are first head rows) ∙ all_of_map has_free_rules leaf_at (λ row. free_sub row.name row.kind) (help_leaf ∷ []) refl (head ∷ rows) in
    λ i. ((has_simple_rules a.top && simple i) && (is_ready (built a).top && ready i)) && (has_free_rules (built a).top && free i)

pub table_simple : (first : Text) (table : List Named) → is_table table ≡ true → is_simple_and_free (line_app first table) ≡ true
table_simple first [] is = absurd (cc)
table_simple first (head ∷ rows) is = simple_and_free first head rows
