use Rattle.std.proofs.Common.{length, ap, arith}
use Rattle.std.specs.List.{list_all}
use Rattle.elf_write_symbol_tables.specs.SymbolSteps.{is_section_kept as is_kept}
use Rattle.elf_write_symbol_tables.proofs.SectionsKept.{kept_all, kept_not, kept_on}
use Rattle.elf_write_symbol_tables.proofs.statics.are_sections_kept.Goals as goal

pub loop-i-preserved : goal.loop-i-preserved
loop-i-preserved c =
    kept_on c.args.image.now c.loop-i.i c.is_section_kept.result (list_all (is_kept c.args.image.now) c.args.image.now.symbols)
    c.is_section_kept.ensures c.if-not-is_section_kept.false c.loop-i.invariant

pub returns-then-not-is_section_kept : goal.returns-then-not-is_section_kept
returns-then-not-is_section_kept c =
    kept_not c.args.image.now c.loop-i.i c.is_section_kept.result (list_all (is_kept c.args.image.now) c.args.image.now.symbols)
    c.is_section_kept.ensures c.if-not-is_section_kept.true c.loop-i.invariant

pub returns : goal.returns
returns c =
    kept_all c.args.image.now c.loop-i.i (list_all (is_kept c.args.image.now) c.args.image.now.symbols)
    (omega (arith, c.loop-i-test.false, c.len-i-end.ensures, ap length c.symbols.ensures.symbols)) c.loop-i.invariant
