use Rattle.std.proofs.Common.{◌≡◌, ◌==◌, ◌∙◌, ◌<◌, true, false, [], Bor, List, ℕ, ap, arith, eq-eqb, get_or, length, map}
use Rattle.std.proofs.lemmas.Bool.{ne_eqb}
use Rattle.macho_image.specs.declared.command.TheConstants.{LC_RPATH}
use Rattle.macho_image.specs.Command.{cmd_of, text_of}
use Rattle.macho_image.specs.Commands.{commands_of}
use Rattle.macho_image.specs.Form.{ctx_of}
use Rattle.macho_image.proofs.PickedLaws.{made_more, made_same}
use Rattle.macho_image.proofs.image.MachO.rpaths.Goals as goal
use Rattle.macho_image.proofs.image.MachO.rpaths.Goals.{then-number32+in_ok-push, else-number32}

pub loop-i-preserved : goal.loop-i-preserved
loop-i-preserved c =
    let order = (ctx_of c.args.self.now.bytes).le in
    let all : List (List ℕ) = commands_of c.args.self.now.bytes in
    let i = c.loop-i.i in
    let command = get_or all i [] in
    let same_order = ap (λ ctx. ctx.le) c.ctx-order.ensures.form in
    let same_command = c.command_bytes-command.ensures.value in
    let cmd : c.number32.result ≡ cmd_of order command = cc in
    let less : i < length all = omega (arith, c.command_count-i-end.ensures, c.loop-i-test.true) in
    let shown : Bor (List ℕ) → List ℕ = λ path. path.now in
    elim c.if-number32.branch [
      | then-number32+in_ok-push w ↦
          let kind : (cmd_of order command == LC_RPATH) ≡ true = eq-eqb (cmd_of order command) LC_RPATH (cc) in
          let text : w.command_text.result.now ≡ text_of order command = cc in
          ap (map shown) (ap (λ paths. paths.items) w.paths-is)
          ∙ made_more (λ d. cmd_of order d == LC_RPATH) all i [] less (text_of order) shown c.loop-i.paths.items c.loop-i.invariant
          w.push.new.self.items w.command_text.result kind w.in_ok-push.ensures.items text
      | else-number32 w ↦
          let kind : (cmd_of order command == LC_RPATH) ≡ false = ne_eqb (cmd_of order command) LC_RPATH (λ is. w.if-number32.false (cmd ∙ is)) in
          ap (map shown) (ap (λ paths. paths.items) w.paths-is)
          ∙ made_same (λ d. cmd_of order d == LC_RPATH) all i [] less (text_of order) shown c.loop-i.paths.items c.loop-i.invariant kind
    ]
