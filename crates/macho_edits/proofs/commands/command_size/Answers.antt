-- The size in two steps is that of the definition, and small enough on the way.
use Rattle.std.proofs.Common.{◌+◌, length, sym, ◌∙◌, arith}
use Rattle.macho_edits.specs.Built.{built_size}
use Rattle.macho_edits.proofs.BuilderLemmas.{align-fits, not_refused, padded-fits, refused_long, size_is}
use Rattle.macho_edits.proofs.BuiltLaws.{built_size-above}
use Rattle.macho_edits.proofs.commands.command_size.Goals as goal

pub returns-then-text : goal.returns-then-text
returns-then-text c =
    let size = built_size-above c.args.ctx.container c.args.fixed c.args.text.now in
    λ d. refused_long c.args.text.now (built_size c.args.ctx.container c.args.fixed c.args.text.now) d (sym c.nul_in.ensures ∙ c.in_default.is) (omega arith)

pub overflow_add-fixed : goal.overflow_add-fixed
overflow_add-fixed c =
    omega (arith, padded-fits (length c.args.text.now + 1) c.padding_size.result (omega arith) c.padding_size.ensures)

pub align_to_arch-size-requires : goal.align_to_arch-size-requires
align_to_arch-size-requires c =
    let padded = padded-fits (length c.args.text.now + 1) c.padding_size.result (omega arith) c.padding_size.ensures in
    omega (arith, align-fits (c.args.fixed + c.padding_size.result) c.args.ctx.container (omega arith))

pub returns-in-Ok : goal.returns-in-Ok
returns-in-Ok c =
    let whole = size_is c.args.ctx.container c.args.fixed c.args.text.now c.padding_size.result c.align_to_arch-size.result c.padding_size.ensures c.align_to_arch-size.ensures in
    (c.in-Ok.ensures.1 ∙ whole, λ d. not_refused c.args.text.now c.in-Ok.size d (sym c.nul_in.ensures ∙ c.in_default.is) (omega (arith, c.in-Ok.ensures.0, c.in-Ok.ensures.1)))

pub returns-in-Err : goal.returns-in-Err
returns-in-Err c =
    let whole = size_is c.args.ctx.container c.args.fixed c.args.text.now c.padding_size.result c.align_to_arch-size.result c.padding_size.ensures c.align_to_arch-size.ensures in
    λ d. refused_long c.args.text.now (built_size c.args.ctx.container c.args.fixed c.args.text.now) d (sym c.nul_in.ensures ∙ c.in_default.is) (omega (arith, c.in-Err.ensures))
