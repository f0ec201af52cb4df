use Rattle.std.proofs.Common.{◌≡◌, ◌==◌, true, [], Some, get_or, ap, sym, ◌∙◌, arith, eq-eqb}
use Rattle.macho_image.specs.declared.command.TheConstants.{LC_ID_DYLIB}
use Rattle.macho_image.specs.Command.{cmd_of, text_of}
use Rattle.macho_image.specs.Commands.{commands_of, id_of}
use Rattle.macho_image.specs.Form.{ctx_of}
use Rattle.macho_image.proofs.FirstLaws.{first_of-filter}
use Rattle.macho_image.proofs.image.MachO.id.Goals as goal

pub returns-then-number32-eq-LC_ID_DYLIB : goal.returns-then-number32-eq-LC_ID_DYLIB
unfolding id_of
returns-then-number32-eq-LC_ID_DYLIB c =
    let bytes = c.args.self.now.bytes in
    let order = (ctx_of bytes).le in
    let command = get_or (commands_of bytes) c.loop-i.i [] in
    let same_order = ap (λ ctx. ctx.le) c.ctx-order.ensures.form in
    let same_command = c.command_bytes-command.ensures.value in
    let cmd : cmd_of order command ≡ LC_ID_DYLIB = cc in
    let kind : (cmd_of order command == LC_ID_DYLIB) ≡ true = eq-eqb (cmd_of order command) LC_ID_DYLIB cmd in
    let text : c.command_text.result.now ≡ text_of order command = cc in
    ap Some text ∙ sym (first_of-filter (text_of order) (λ d. cmd_of order d == LC_ID_DYLIB) (commands_of bytes) c.loop-i.i [] (omega arith) c.loop-i.invariant kind)
