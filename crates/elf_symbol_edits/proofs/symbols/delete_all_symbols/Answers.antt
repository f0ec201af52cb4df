-- The dynamic symbols that are left may be put in place, also after the static ones.
use Rattle.std.proofs.Common.{Bool, ◌∙◌, ap, subst, sym}
use Rattle.std.specs.Prelude.{◌||◌}
use Rattle.elf_symbol_edits.specs.Steps.{AreAllGone}
use Rattle.elf_symbol_edits.proofs.BothSteps.{all_gone, left_put}
use Rattle.elf_symbol_edits.proofs.symbols.delete_all_symbols.Goals as goal

pub put_dynamic_symbols-is_dynamic-requires : goal.put_dynamic_symbols-is_dynamic-requires
put_dynamic_symbols-is_dynamic-requires c =
    left_put c.args.image.now c.args.gone.now c.args.dynamic_gone.now c.delete_symbols.new.image c.in_ok-dynamic.dynamic c.in_ok-dynamic.ensures c.in_ok-is_static.ensures.made

pub returns-then-is_static : goal.returns-then-is_static
returns-then-is_static c =
    let last = c.put_dynamic_symbols-is_dynamic in
    let Gone : Bool → Type 0 = λ b. AreAllGone c.args.gone.now c.args.dynamic_gone.now c.args.image.now last.new.image b in
    subst Gone (ap (λ (b : Bool). b || last.result) c.if-is_static.true ∙ sym c.if-is_static.true)
    (all_gone c.args.image.now c.delete_symbols.new.image last.new.image c.args.gone.now c.args.dynamic_gone.now c.in_ok-dynamic.dynamic c.in_ok-is_static.is_static
    last.result c.source-source.ensures.edited c.in_ok-dynamic.ensures c.in_ok-is_static.ensures last.ensures.told last.ensures.put)

pub returns-else-is_static : goal.returns-else-is_static
returns-else-is_static c =
    let last = c.put_dynamic_symbols-is_dynamic in
    let Gone : Bool → Type 0 = λ b. AreAllGone c.args.gone.now c.args.dynamic_gone.now c.args.image.now last.new.image b in
    subst Gone (ap (λ (b : Bool). b || last.result) c.if-is_static.false)
    (all_gone c.args.image.now c.delete_symbols.new.image last.new.image c.args.gone.now c.args.dynamic_gone.now c.in_ok-dynamic.dynamic c.in_ok-is_static.is_static
    last.result c.source-source.ensures.edited c.in_ok-dynamic.ensures c.in_ok-is_static.ensures last.ensures.told last.ensures.put)
