use Rattle.std.proofs.Common.{◌≡◌, ◌∙◌, ◌<◌, true, false, [], Bor, List, ℕ, ap, arith, get_or, length, map}
use Rattle.macho_image.specs.Command.{cmd_of, is_load_kind, text_of}
use Rattle.macho_image.specs.Commands.{commands_of}
use Rattle.macho_image.specs.Form.{ctx_of}
use Rattle.macho_image.proofs.PickedLaws.{made_more, made_same}
use Rattle.macho_image.proofs.image.MachO.libs.Goals as goal
use Rattle.macho_image.proofs.image.MachO.libs.Goals.{then-is_load_kind+in_ok-push, else-is_load_kind}

pub loop-i-preserved : goal.loop-i-preserved
loop-i-preserved c =
    let order = (ctx_of c.args.self.now.bytes).le in
    let all : List (List ℕ) = commands_of c.args.self.now.bytes in
    let i = c.loop-i.i in
    let command = get_or all i [] in
    let same_order = ap (λ ctx. ctx.le) c.ctx-order.ensures.form in
    let same_command = c.command_bytes-command.ensures.value in
    let cmd : c.number32.result ≡ cmd_of order command = cc in
    let less : i < length all = omega (arith, c.command_count-i-end.ensures, c.loop-i-test.true) in
    let shown : Bor (List ℕ) → List ℕ = λ name. name.now in
    elim c.if-is_load_kind.branch [
      | then-is_load_kind+in_ok-push w ↦
          let kind : is_load_kind (cmd_of order command) ≡ true = cc in
          let text : w.command_text.result.now ≡ text_of order command = cc in
          ap (map shown) (ap (λ names. names.items) w.names-is)
          ∙ made_more (λ d. is_load_kind (cmd_of order d)) all i [] less (text_of order) shown c.loop-i.names.items c.loop-i.invariant
          w.push.new.self.items w.command_text.result kind w.in_ok-push.ensures.items text
      | else-is_load_kind w ↦
          let kind : is_load_kind (cmd_of order command) ≡ false = cc in
          ap (map shown) (ap (λ names. names.items) w.names-is)
          ∙ made_same (λ d. is_load_kind (cmd_of order d)) all i [] less (text_of order) shown c.loop-i.names.items c.loop-i.invariant kind
    ]
