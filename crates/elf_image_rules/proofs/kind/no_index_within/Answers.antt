-- One symbol after another.
use Rattle.std.proofs.Common.{ap, ◌∙◌, ℕ}
use Rattle.std.specs.Prelude.{◌||◌, nat_le, nat_lt}
use Rattle.elf_format.specs.declared.records.SymbolNumbers.{SymbolNumbers}
use Rattle.elf_format.specs.Records.{symbol_numbers}
use Rattle.elf_image_rules.proofs.KindSteps.{all_done, all_ends, all_goes, all_pass}
use Rattle.elf_image_rules.proofs.kind.no_index_within.Goals as goal

pub returns-then-not-is_outside : goal.returns-then-not-is_outside
returns-then-not-is_outside c =
    let test = λ (y : SymbolNumbers). nat_lt y.st_shndx c.args.low || nat_le c.args.high y.st_shndx in
    let size : ℕ = c.symbol_size-size.result in
    all_ends test (symbol_numbers c.args.form) size c.loop-rest.rest.now c.split_at.result.0.now c.is_outside.result (all_pass test (symbol_numbers c.args.form) size c.args.bytes.now)
    c.symbol_size-size.ensures.positive c.loop-rest-test.true c.split_at.ensures.front c.is_outside.ensures c.if-not-is_outside.true c.loop-rest.invariant
    ∙ ap (λ n. all_pass test (symbol_numbers c.args.form) n c.args.bytes.now) c.symbol_size-size.ensures.value

pub loop-rest-preserved : goal.loop-rest-preserved
loop-rest-preserved c =
    let test = λ (y : SymbolNumbers). nat_lt y.st_shndx c.args.low || nat_le c.args.high y.st_shndx in
    let size : ℕ = c.symbol_size-size.result in
    all_goes test (symbol_numbers c.args.form) size c.loop-rest.rest.now c.split_at.result.0.now c.split_at.result.1.now c.is_outside.result (all_pass test (symbol_numbers c.args.form) size c.args.bytes.now)
    c.symbol_size-size.ensures.positive c.loop-rest-test.true c.split_at.ensures.front c.split_at.ensures.back c.is_outside.ensures c.if-not-is_outside.false c.loop-rest.invariant

pub returns : goal.returns
returns c =
    let test = λ (y : SymbolNumbers). nat_lt y.st_shndx c.args.low || nat_le c.args.high y.st_shndx in
    let size : ℕ = c.symbol_size-size.result in
    all_done test (symbol_numbers c.args.form) size c.loop-rest.rest.now (all_pass test (symbol_numbers c.args.form) size c.args.bytes.now) c.loop-rest-test.false c.loop-rest.invariant
    ∙ ap (λ n. all_pass test (symbol_numbers c.args.form) n c.args.bytes.now) c.symbol_size-size.ensures.value
