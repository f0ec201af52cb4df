-- The parser's clauses give what its words say.
use Rattle.std.proofs.Common.{◌≡◌, ◌∙◌, ◌≤◌, ◌-◌, Bor, List, Option, Some, ap, arith, codes, drop, length, length-drop, rules, sym, take}
use Rattle.std.proofs.lemmas.List.{take_all}
use Rattle.arwen_cli_faults.specs.Args.{ShowMeaning, meaning_of_args, args_model}
use Rattle.std.specs.Prelude.{slice_get}
use Rattle.std.proofs.lemmas.Result.{err_from_is_err_and}
use Rattle.arwen_cli_parser.specs.Parser.{usize_max}
use Rattle.command_words.specs.Rows.{Text}
use Rattle.arwen_cli.specs.Meaning.{Meaning}
use Rattle.arwen_cli.specs.Line.{meaning_of}
use Rattle.arwen_cli.proofs.Meanings.{elf_means, elf_passes, macho_means, macho_passes, other_line, show_means, show_passes, texts}
use Rattle.arwen_cli.proofs.cli.line.parse_heard.Goals as goal

-- a line with another first word means nothing
other_first : (words : List (Bor Text)) (known : Bor Text) (m : Meaning) → Some known ≡ slice_get words 0 → (known.now ≡ codes "macho" → ⊥) → (known.now ≡ codes "elf" → ⊥)
    → (known.now ≡ codes "show" → ⊥) → meaning_of (texts words) ≡ Some m → ⊥
other_first words known m at not_macho not_elf not_show meant =
    let Other : Text → Type 0 = λ name. (first : Bor Text) → Some first ≡ slice_get words 0 → first.now ≡ name → ⊥ in
    let other : (name : Text) → (known.now ≡ name → ⊥) → Other name =
    λ name not first is named. let same : known ≡ first = cc in not (ap (λ (w : Bor Text). w.now) same ∙ named) in
    other_line words m (other (codes "macho") not_macho) (other (codes "elf") not_elf) (other (codes "show") not_show) meant

-- the words behind the first
behind_first : (words : List (Bor Text)) → take (length words - 1) (drop 1 words) ≡ drop 1 words
behind_first words = take_all (length words - 1) (drop 1 words) (omega (arith, length-drop 1 words))

abbrev asked : List (Bor Text) → Option ShowMeaning
asked words = meaning_of_args (texts words)

pub returns-in_err-parse_macho-in-macho-clause-refused :
    goal.returns-in_err-parse_macho-in-macho-clause-refused
returns-in_err-parse_macho-in-macho-clause-refused c =
    let step = c.from_residual-in_err-parse_macho-in-macho in
    let p = err_from_is_err_and step.result step.ensures.1 in
    let fits : length c.args.words.now ≤ usize_max = search rules in
    rw p.1 (λ plain meaning meant.
    let taken = macho_passes c.args.words.now c.in-Some.first.now c.in-Some.ensures.value plain meaning c.in-macho.is fits meant in
    p.2 ∙ c.in_err-parse_macho-in-macho.ensures.refused taken.0 taken.1)

pub returns-in_ok-parse_macho-in-macho-clause-means :
    goal.returns-in_ok-parse_macho-in-macho-clause-means
returns-in_ok-parse_macho-in-macho-clause-means c plain =
    macho_means c.args.words.now c.in-Some.first.now c.in-Some.ensures.value plain _ c.in-macho.is c.in_ok-parse_macho-in-macho.ensures.means

pub returns-in_err-parse_elf-in-elf-clause-refused :
    goal.returns-in_err-parse_elf-in-elf-clause-refused
returns-in_err-parse_elf-in-elf-clause-refused c =
    let step = c.from_residual-in_err-parse_elf-in-elf in
    let p = err_from_is_err_and step.result step.ensures.1 in
    let fits : length c.args.words.now ≤ usize_max = search rules in
    rw p.1 (λ plain meaning meant.
    let taken = elf_passes c.args.words.now c.in-Some.first.now c.in-Some.ensures.value plain meaning c.in-elf.is fits meant in
    p.2 ∙ c.in_err-parse_elf-in-elf.ensures.refused taken.0 taken.1)

pub returns-in_ok-parse_elf-in-elf-clause-means :
    goal.returns-in_ok-parse_elf-in-elf-clause-means
returns-in_ok-parse_elf-in-elf-clause-means c plain =
    elf_means c.args.words.now c.in-Some.first.now c.in-Some.ensures.value plain _ c.in-elf.is c.in_ok-parse_elf-in-elf.ensures.means

pub returns-in_err-parse_show-in-show-clause-refused :
    goal.returns-in_err-parse_show-in-show-clause-refused
returns-in_err-parse_show-in-show-clause-refused c =
    let step = c.from_residual-in_err-parse_show-in-show in
    let p = err_from_is_err_and step.result step.ensures.1 in
    rw p.1 (λ plain meaning meant.
    let taken = show_passes c.args.words.now c.in-Some.first.now c.in-Some.ensures.value plain meaning c.in-show.is meant in
    p.2 ∙ c.in_err-parse_show-in-show.ensures.refused taken.0 (ap asked (behind_first c.args.words.now) ∙ taken.1))

pub returns-in_ok-parse_show-in-show-clause-means :
    goal.returns-in_ok-parse_show-in-show-clause-means
returns-in_ok-parse_show-in-show-clause-means c plain =
    show_means c.args.words.now c.in-Some.first.now c.in-Some.ensures.value plain (args_model c.in_ok-parse_show-in-show.field-0) c.in-show.is
    (ap asked (sym (behind_first c.args.words.now)) ∙ c.in_ok-parse_show-in-show.ensures.means)

pub returns-in_default-first-clause-refused : goal.returns-in_default-first-clause-refused
returns-in_default-first-clause-refused c plain meaning meant =
    absurd (other_first c.args.words.now c.in-Some.first.now meaning c.in-Some.ensures.value c.in_default-first.not-macho c.in_default-first.not-elf c.in_default-first.not-show meant)
