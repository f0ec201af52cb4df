-- One table after another, each behind what it shares with those before it.
use Rattle.std.proofs.Common.{◌≡◌, ap, refl, sym, ◌∙◌, Bool, true, List, ℕ, ◌/◌, get_or, length}
use Rattle.std.specs.Prelude.{◌==◌, not}
use Rattle.std.specs.List.{list_all}
use Rattle.elf_format.specs.declared.constants.TheConstants.{SHN_XINDEX}
use Rattle.elf_image_rules.specs.declared.kind.Run.{Run}
use Rattle.elf_format.specs.File.{section_bytes}
use Rattle.elf_format.specs.declared.form.Form.{Form}
use Rattle.elf_format.specs.Form.{records}
use Rattle.elf_format.specs.declared.records.SectionHeader.{SectionHeader}
use Rattle.elf_format.specs.declared.records.SymbolNumbers.{SymbolNumbers}
use Rattle.elf_format.specs.Records.{symbol_numbers, symbol_size, symbols_in}
use Rattle.elf_image_rules.proofs.KindSteps.{each_done, each_ends, each_goes, no_section, run_passes, step_decides, step_runs}
use Rattle.elf_image_rules.proofs.kind.are_numbers_plain.Goals as goal
use Rattle.elf_image_rules.proofs.kind.are_numbers_plain.Goals.{then-skip-run, else-skip-run}

abbrev is_plain : SymbolNumbers → Bool
is_plain y = not (y.st_shndx == SHN_XINDEX)

abbrev passes : Form → List ℕ → SectionHeader → Bool
passes form file s = list_all is_plain (symbols_in form (section_bytes file s))

pub loop-table-init : goal.loop-table-init
unfolding records
loop-table-init c = record { done = refl; rest = refl }

pub returns-then-not-has_plain_numbers : goal.returns-then-not-has_plain_numbers
returns-then-not-has_plain_numbers c =
    let file : List ℕ = c.args.file.now in
    let table : SectionHeader = get_or c.args.tables.now c.loop-table.table-index no_section in
    let bytes : List ℕ = c.section_bytes-bytes.result.now in
    let run : Run = record { start = table.sh_offset; count = length bytes / c.symbol_size-size.result } in
    let answer : c.has_plain_numbers.result ≡ passes c.args.form file table =
    step_decides is_plain (symbol_numbers c.args.form) c.symbol_size-size.result file table c.loop-table.done run c.covered-skip.result (symbol_size c.args.form) bytes c.records_from.result.now c.has_plain_numbers.result
    c.symbol_size-size.ensures.positive c.symbol_size-size.ensures.value c.section_bytes-bytes.ensures.value refl refl c.covered-skip.ensures.within c.covered-skip.ensures.among c.loop-table.invariant.done
    c.records_from.ensures c.has_plain_numbers.ensures in
    each_ends (passes c.args.form file) c.args.tables.now c.loop-table.table-index no_section (list_all (passes c.args.form file) c.args.tables.now) c.loop-table-test.true
    (sym answer ∙ c.if-not-has_plain_numbers.true) c.loop-table.invariant.rest

pub loop-table-preserved : goal.loop-table-preserved
loop-table-preserved c =
    let file : List ℕ = c.args.file.now in
    let table : SectionHeader = get_or c.args.tables.now c.loop-table.table-index no_section in
    let bytes : List ℕ = c.section_bytes-bytes.result.now in
    let run : Run = record { start = table.sh_offset; count = length bytes / c.symbol_size-size.result } in
    let answer : c.has_plain_numbers.result ≡ passes c.args.form file table =
    step_decides is_plain (symbol_numbers c.args.form) c.symbol_size-size.result file table c.loop-table.done run c.covered-skip.result (symbol_size c.args.form) bytes c.records_from.result.now c.has_plain_numbers.result
    c.symbol_size-size.ensures.positive c.symbol_size-size.ensures.value c.section_bytes-bytes.ensures.value refl refl c.covered-skip.ensures.within c.covered-skip.ensures.among c.loop-table.invariant.done
    c.records_from.ensures c.has_plain_numbers.ensures in
    let yes : passes c.args.form file table ≡ true = sym answer ∙ c.if-not-has_plain_numbers.false in
    let ran : run_passes is_plain (symbol_numbers c.args.form) c.symbol_size-size.result file run ≡ true =
    step_runs is_plain (symbol_numbers c.args.form) c.symbol_size-size.result file table run (symbol_size c.args.form) bytes
    c.symbol_size-size.ensures.positive c.symbol_size-size.ensures.value c.section_bytes-bytes.ensures.value refl refl ∙ yes in
    record {
      done = elim c.if-skip-run.branch [
        | then-skip-run w ↦ ap (run_passes is_plain (symbol_numbers c.args.form) c.symbol_size-size.result file) w.done-is ∙ ran
        | else-skip-run w ↦ ap (run_passes is_plain (symbol_numbers c.args.form) c.symbol_size-size.result file) w.done-is ∙ c.loop-table.invariant.done
      ];
      rest = each_goes (passes c.args.form file) c.args.tables.now c.loop-table.table-index no_section (list_all (passes c.args.form file) c.args.tables.now) c.loop-table-test.true yes c.loop-table.invariant.rest;
    }

pub returns : goal.returns
returns c = each_done (passes c.args.form c.args.file.now) c.args.tables.now c.loop-table.table-index _ c.loop-table-test.false c.loop-table.invariant.rest
