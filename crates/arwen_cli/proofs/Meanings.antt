-- What a name and the words behind it mean is what its command asks for with its values.
use Rattle.std.proofs.Common.{◌≡◌, ◌≢◌, ◌∷◌, [], ◌≤◌, List, Option, Some, None, Ok, Err, Bor, true, false, length, map, drop, rules, arith, inl, inr, refl, sym, ap, ◌∙◌, subst, codes}
use Rattle.std.specs.Prelude.{option_and_then, option_map, slice_get}
use Rattle.std.proofs.lemmas.List.{length-map}
use Rattle.arwen_cli_parser.specs.Parser.{usize_max}
use Rattle.command_words.proofs.ForCallers.{meant_with-named, named-map}
use Rattle.arwen_cli_faults.specs.Meaning.{ElfMeaning, Reading, elf_lines}
use Rattle.macho_commands.specs.Meaning.{MachoMeaning, macho_lines}
use Rattle.arwen_cli_faults.specs.ElfEngine.{ElfMayFail as ElfCommandMayFail}
use Rattle.arwen_cli_faults.specs.ElfCommandError.TheVariants as elf_error
use Rattle.macho_commands.specs.declared.error.MachoCommandError.TheVariants as macho_error
use Rattle.arwen_cli_faults.specs.Args.{ShowMeaning, meaning_of_args}
use Rattle.arwen_cli_faults.specs.ShowCommandError.TheVariants as show_error
use Rattle.arwen_cli.specs.Fault.{IsOfLine}
use Rattle.arwen_cli_faults.specs.declared.error.ArwenError.{ArwenError}
use Rattle.arwen_cli_faults.specs.declared.error.ArwenError.TheVariants.{Memory}
use Rattle.arwen_cli.specs.Meaning.{Meaning, of_elf, of_macho, of_show}
use Rattle.command_words.specs.Rows.{Given, Line, Named, Text, asked_by_words, asked_with, given_by, kind_of, line_named, meant_by, meant_with, named, named_of}
use Rattle.command_words.specs.WordValues.{TellsNoValue}
use Rattle.command_words.specs.declared.word_values.ValueError.{ValueError}
use Rattle.command_words.specs.declared.word_values.ValueError.TheVariants as value
use Rattle.arwen_cli.specs.Line.{LineMayFail, MeaningMayFail, if_taken, meaning_of}
use Rattle.arwen_cli_parser.specs.Asked.{has_option}
use Rattle.arwen_cli_parser.specs.Parser.{IsTaken, MeansBy, MeansTaken, is_table}
use Rattle.arwen_cli_parser.proofs.Named.{differs}
use Rattle.arwen_cli_parser.proofs.Table.{NamesValues, line_passes, line_taken}
use Rattle.arwen_cli_parser.proofs.Values.{first_value}

abbrev pub texts : List (Bor Text) → List Text
texts = map (λ w. w.now)

some≢none : {X : Type 0} (x : X) → None ≡ Some x → ⊥
some≢none x e = cc

-- ---- a table of any kind

table_taken : (first : Text) (table : List Named) → is_table table ≡ true → (words : List Text) (taken : Text × Given) → IsTaken first table (first ∷ words) taken → has_option words ≡ false
    → NamesValues table words taken
table_taken first [] is words taken t plain = absurd (cc)
table_taken first (head ∷ rows) is words taken t plain = line_taken first head rows is words taken t plain

table_passes : (first : Text) (table : List Named) → is_table table ≡ true → (name : Text) (rest : List Text) (row : Named) (given : Given) → has_option (name ∷ rest) ≡ false → length rest ≤ usize_max
    → named table name ≡ Some row → given_by row.kind rest ≡ Some given → IsTaken first table (first ∷ name ∷ rest) (name, given)
table_passes first [] is name rest row given plain fits row_is given_is = absurd (cc)
table_passes first (head ∷ rows) is name rest row given plain fits row_is given_is = line_passes first head rows is name rest row given plain fits row_is given_is

module _ {M : Type 0} where
  -- the same values ask for the same
  by_line : (o : Option (Line M)) (row : Named) (rest : List Text) (given : Given) → option_map named_of o ≡ Some row → given_by row.kind rest ≡ Some given
      → option_and_then (λ l. asked_by_words l.asks rest) o ≡ option_and_then (λ l. asked_with l.asks given) o
  by_line None row rest given is given_is = refl
  by_line (Some l) row rest given is given_is =
      let same : named_of l ≡ row = cc in
      let kind : kind_of l.asks ≡ row.kind = ap (λ (n : Named). n.kind) same in
      ap (option_and_then (asked_with l.asks)) (ap (λ k. given_by k rest) kind ∙ given_is)

  words_mean : (lines : List (Line M)) (name : Text) (rest : List Text) (row : Named) (given : Given) → named (map named_of lines) name ≡ Some row → given_by row.kind rest ≡ Some given
      → meant_by lines name rest ≡ meant_with lines name given
  words_mean lines name rest row given is given_is =
      by_line (line_named lines name) row rest given (sym (named-map lines name) ∙ is) given_is ∙ sym (meant_with-named lines name given)

  -- words that mean something are values of a command
  pub record HasValues (lines : List (Line M)) (name : Text) (rest : List Text) : Type 0 where
    pub row : Named
    pub given : Given
    pub row_is : named (map named_of lines) name ≡ Some row
    pub given_is : given_by row.kind rest ≡ Some given

  given_of : (o : Option Given) (f : Given → Option M) (m : M) → option_and_then f o ≡ Some m → (g : Given) × (o ≡ Some g)
  given_of None f m e = absurd (some≢none m e)
  given_of (Some g) f m e = (g, refl)

  values_at : (lines : List (Line M)) (name : Text) (rest : List Text) (m : M) (o : Option (Line M)) → line_named lines name ≡ o → option_and_then (λ l. asked_by_words l.asks rest) o ≡ Some m
      → HasValues lines name rest
  values_at lines name rest m None is e = absurd (some≢none m e)
  values_at lines name rest m (Some l) is e =
      let given = given_of (given_by (kind_of l.asks) rest) (asked_with l.asks) m e in
      record { row = named_of l; given = given.0; row_is = named-map lines name ∙ ap (option_map named_of) is; given_is = given.1 }

  -- ---- the words behind a first word

  module _ (first : Text) (lines : List (Line M)) (is : is_table (map named_of lines) ≡ true) where
    pub means_of : (words : List Text) (m : M) → MeansBy first lines (first ∷ words) m → has_option words ≡ false → (name : Text) × (rest : List Text) × (words ≡ name ∷ rest) × (meant_by lines name rest ≡ Some m)
    means_of words m by plain =
        let names = table_taken first (map named_of lines) is words by.0 by.1 plain in
        let given = ap (λ n. meant_with lines n by.0.1) (sym names.name_is) ∙ by.2 in
        (names.name, names.rest, names.words_are, words_mean lines names.name names.rest names.row by.0.1 names.row_is names.given_is ∙ given)

    pub means_by : (name : Text) (rest : List Text) (m : M) → has_option (name ∷ rest) ≡ false → length rest ≤ usize_max → meant_by lines name rest ≡ Some m → MeansBy first lines (first ∷ name ∷ rest) m
    means_by name rest m plain fits meant =
        let v = values_at lines name rest m (line_named lines name) refl meant in
        ((name, v.given), table_passes first (map named_of lines) is name rest v.row v.given plain fits v.row_is v.given_is, sym (words_mean lines name rest v.row v.given v.row_is v.given_is) ∙ meant)

-- what the values that were found ask for is what the words mean
pub found_meaning : {M : Type 0} (first : Text) (lines : List (Line M)) (words : List Text) (taken : Text × Given) (m : M) → IsTaken first (map named_of lines) words taken → MeansBy first lines words m
    → meant_with lines taken.0 taken.1 ≡ Some m
found_meaning first lines words taken m is by =
    let found = is.1 in
    let other = by.1.1 in
    let same : by.0 ≡ taken = cc in
    ap (λ (p : Text × Given). meant_with lines p.0 p.1) (sym same) ∙ by.2

pub no_meaning : {M : Type 0} (first : Text) (lines : List (Line M)) (words : List Text) (taken : Text × Given) (m : M) → IsTaken first (map named_of lines) words taken → MeansBy first lines words m
    → None ≡ meant_with lines taken.0 taken.1 → ⊥
no_meaning first lines words taken m is by none = some≢none m (none ∙ found_meaning first lines words taken m is by)

-- ---- values that are not what a command takes

-- where the command takes the values, it is want of memory
pub of_memory : (read : Option Reading) (m : ElfMeaning) (e : ValueError) → TellsNoValue read e → read ≡ Some (Ok m) → e ≡ value.Memory
of_memory read m value.Memory told is = refl
of_memory read m (value.NoNumber word) told is = absurd (cc)
of_memory read m (value.NoPair word place) told is = absurd (cc)

-- ---- a whole line

module _ {A B : Type 0} (f : A → B) where
  -- what is made of a value was made of one
  pub made_of : (o : Option A) (b : B) → option_map f o ≡ Some b → (a : A) × (o ≡ Some a)
  made_of None b e = absurd (cc)
  made_of (Some a) b e = (a, refl)

-- a command that takes its values was named
taken_of : (o : Option Reading) (m : ElfMeaning) → if_taken o ≡ Some m → o ≡ Some (Ok m)
taken_of None m e = absurd (some≢none m e)
taken_of (Some (Ok taken)) m e = cc
taken_of (Some (Err wrong)) m e = absurd (some≢none m e)

-- the words behind the first
first_word : (words : List (Bor Text)) (first : Bor Text) (known : Text) → Some first ≡ slice_get words 0 → first.now ≡ known
    → (rest : List (Bor Text)) × (texts words ≡ known ∷ texts rest) × (length rest ≤ length words) × (drop 1 words ≡ rest)
first_word [] first known is named = absurd (cc)
first_word (word ∷ words) first known is named =
    let same : first ≡ word = cc in
    (words, ap (λ (n : Text). n ∷ texts words) (ap (λ (w : Bor Text). w.now) (sym same) ∙ named), omega arith, refl)

-- words behind `show` that ask for files to be shown, and a line that does
show_line : (rest : List Text) (m : ShowMeaning) → meaning_of_args rest ≡ Some m → meaning_of (codes "show" ∷ rest) ≡ Some (of_show m)
show_line [] m meant = absurd (some≢none m meant)
show_line (name ∷ rest) m meant = ap (option_map of_show) meant

show_asked : (rest : List Text) (m : Meaning) → meaning_of (codes "show" ∷ rest) ≡ Some m → (s : ShowMeaning) × (meaning_of_args rest ≡ Some s)
show_asked [] m meant = absurd (some≢none m meant)
show_asked (name ∷ rest) m meant = made_of of_show (meaning_of_args (name ∷ rest)) m meant

module _ (words : List (Bor Text)) (first : Bor Text) (is : Some first ≡ slice_get words 0) (plain : has_option (texts words) ≡ false) where
  behind : (known : Text) → (rest : List (Bor Text)) → texts words ≡ known ∷ texts rest → has_option (texts rest) ≡ false
  behind known rest parts = (first_value known (texts rest) (ap has_option (sym parts) ∙ plain)).1

  pub macho_means : (m : MachoMeaning) → first.now ≡ codes "macho" → MeansBy (codes "macho") macho_lines (texts words) m → meaning_of (texts words) ≡ Some (of_macho m)
  macho_means m named by =
      let w = first_word words first (codes "macho") is named in
      let at = subst (λ ws. MeansBy (codes "macho") macho_lines ws m) w.1 by in
      let n = means_of (codes "macho") macho_lines refl (texts w.0) m at (behind (codes "macho") w.0 w.1) in
      ap meaning_of (w.1 ∙ ap (λ ws. codes "macho" ∷ ws) n.2) ∙ ap (option_map of_macho) n.3

  pub elf_means : (m : ElfMeaning) → first.now ≡ codes "elf" → MeansTaken (codes "elf") elf_lines (texts words) m → meaning_of (texts words) ≡ Some (of_elf m)
  elf_means m named by =
      let w = first_word words first (codes "elf") is named in
      let at = subst (λ ws. MeansTaken (codes "elf") elf_lines ws m) w.1 by in
      let n = means_of (codes "elf") elf_lines refl (texts w.0) (Ok m) at (behind (codes "elf") w.0 w.1) in
      ap meaning_of (w.1 ∙ ap (λ ws. codes "elf" ∷ ws) n.2) ∙ ap (λ asked. option_map of_elf (if_taken asked)) n.3

  pub show_means : (m : ShowMeaning) → first.now ≡ codes "show" → meaning_of_args (texts (drop 1 words)) ≡ Some m → meaning_of (texts words) ≡ Some (of_show m)
  show_means m named meant =
      let w = first_word words first (codes "show") is named in
      ap meaning_of w.1 ∙ show_line (texts w.0) m (ap (λ ws. meaning_of_args (texts ws)) (sym w.3) ∙ meant)

  pub show_passes : (m : Meaning) → first.now ≡ codes "show" → meaning_of (texts words) ≡ Some m → (s : ShowMeaning) × (meaning_of_args (texts (drop 1 words)) ≡ Some s)
  show_passes m named meant =
      let w = first_word words first (codes "show") is named in
      let asked = show_asked (texts w.0) m (ap meaning_of (sym w.1) ∙ meant) in
      (asked.0, ap (λ ws. meaning_of_args (texts ws)) w.3 ∙ asked.1)

  macho_by : (m : Meaning) (rest : List Text) → has_option rest ≡ false → length rest ≤ usize_max → meaning_of (codes "macho" ∷ rest) ≡ Some m → (taken : MachoMeaning) × MeansBy (codes "macho") macho_lines (codes "macho" ∷ rest) taken
  macho_by m [] p fits meant = absurd (some≢none m meant)
  macho_by m (name ∷ rest) p fits meant =
      let made = made_of of_macho (meant_by macho_lines name rest) m meant in
      (made.0, means_by (codes "macho") macho_lines refl name rest made.0 p (omega arith) made.1)

  elf_by : (m : Meaning) (rest : List Text) → has_option rest ≡ false → length rest ≤ usize_max → meaning_of (codes "elf" ∷ rest) ≡ Some m → (taken : ElfMeaning) × MeansTaken (codes "elf") elf_lines (codes "elf" ∷ rest) taken
  elf_by m [] p fits meant = absurd (some≢none m meant)
  elf_by m (name ∷ rest) p fits meant =
      let made = made_of of_elf (if_taken (meant_by elf_lines name rest)) m meant in
      let taken = taken_of (meant_by elf_lines name rest) made.0 made.1 in
      (made.0, means_by (codes "elf") elf_lines refl name rest (Ok made.0) p (omega arith) taken)

  pub macho_passes : (m : Meaning) → first.now ≡ codes "macho" → length words ≤ usize_max → meaning_of (texts words) ≡ Some m → (taken : MachoMeaning) × MeansBy (codes "macho") macho_lines (texts words) taken
  macho_passes m named fits meant =
      let w = first_word words first (codes "macho") is named in
      let counted : length (texts w.0) ≡ length w.0 = length-map w.0 (λ w. w.now) in
      let by = macho_by m (texts w.0) (behind (codes "macho") w.0 w.1) (omega (arith, w.2, counted)) (ap meaning_of (sym w.1) ∙ meant) in
      (by.0, subst (λ ws. MeansBy (codes "macho") macho_lines ws by.0) (sym w.1) by.1)

  pub elf_passes : (m : Meaning) → first.now ≡ codes "elf" → length words ≤ usize_max → meaning_of (texts words) ≡ Some m → (taken : ElfMeaning) × MeansTaken (codes "elf") elf_lines (texts words) taken
  elf_passes m named fits meant =
      let w = first_word words first (codes "elf") is named in
      let counted : length (texts w.0) ≡ length w.0 = length-map w.0 (λ w. w.now) in
      let by = elf_by m (texts w.0) (behind (codes "elf") w.0 w.1) (omega (arith, w.2, counted)) (ap meaning_of (sym w.1) ∙ meant) in
      (by.0, subst (λ ws. MeansTaken (codes "elf") elf_lines ws by.0) (sym w.1) by.1)

-- a line with another first word means nothing
pub other_line : (words : List (Bor Text)) (m : Meaning) → ((first : Bor Text) → Some first ≡ slice_get words 0 → first.now ≢ codes "macho")
    → ((first : Bor Text) → Some first ≡ slice_get words 0 → first.now ≢ codes "elf") → ((first : Bor Text) → Some first ≡ slice_get words 0 → first.now ≢ codes "show")
    → meaning_of (texts words) ≢ Some m
other_line [] m macho elf show e = cc
other_line (word ∷ []) m macho elf show e = cc
other_line (word ∷ name ∷ words) m macho elf show e = elim (differs word.now (codes "macho")) [
  | inl same ↦ macho word refl same
  | inr not_macho ↦ elim (differs word.now (codes "elf")) [
    | inl same ↦ elf word refl same
    | inr not_elf ↦ elim (differs word.now (codes "show")) [
      | inl same ↦ show word refl same
      | inr not_show ↦
          let none : meaning_of (texts (word ∷ name ∷ words)) ≡ None = simp (not_macho, not_elf, not_show) in
          cc
    ]
  ]
]

-- ---- the errors of a line

memory_fails : (m : Meaning) → MeaningMayFail m Memory
memory_fails (of_macho m) = (macho_error.Memory, tt, refl)
memory_fails (of_elf m) = (elf_error.Memory, no_memory m, refl)
  where
    no_memory : (m : ElfMeaning) → ElfCommandMayFail m elf_error.Memory
    no_memory m = search rules
memory_fails (of_show m) = (show_error.Memory, refl)

-- the error of a line that wasn't read is one that the line may have
pub line_fails : (meaning : Option Meaning) (e : ArwenError) → IsOfLine e → ((m : Meaning) → meaning ≡ Some m → e ≡ Memory) → LineMayFail meaning e
line_fails None e of_line refused = of_line
line_fails (Some m) e of_line refused = let P : ArwenError → Type 0 = MeaningMayFail m in subst P (sym (refused m refl)) (memory_fails m)
