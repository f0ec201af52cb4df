use Rattle.std.proofs.Common.{ℕ, List, length, take, drop, ap, sym, ◌∙◌, subst, arith}
use Rattle.macho_image.specs.Command.{IsCommand}
use Rattle.macho_image.specs.Commands.{load_commands_of}
use Rattle.macho_image.specs.Form.{ctx_of}
use Rattle.macho_image.proofs.PlaceLaws.{command_is, found_stands, length-load_commands_of}
use Rattle.macho_image.proofs.image.MachO.command_bytes.Goals as goal

pub index-requires : goal.index-requires
index-requires c =
    let kept = c.self.invariant.commands ∙ ap (λ m. load_commands_of m.bytes) c.self.view_is in
    omega (arith, ap length kept, length-load_commands_of c.args.self.now.bytes, c.self.inside.commands.ok.0)

pub part-requires : goal.part-requires
part-requires c =
    let kept = c.self.invariant.commands ∙ ap (λ m. load_commands_of m.bytes) c.self.view_is in
    let place = found_stands c.args.self.now.bytes c.self.inside.commands.items c.args.index c.index.result.now c.cmdsize.result c.bytes.ensures.accepted kept c.requires c.index.ensures c.cmdsize.ensures in
    omega (arith, place.inside, ap length c.bytes.ensures.value)

pub returns : goal.returns
returns c =
    let kept = c.self.invariant.commands ∙ ap (λ m. load_commands_of m.bytes) c.self.view_is in
    let place = found_stands c.args.self.now.bytes c.self.inside.commands.items c.args.index c.index.result.now c.cmdsize.result c.bytes.ensures.accepted kept c.requires c.index.ensures c.cmdsize.ensures in
    let value = c.part.ensures ∙ ap (λ bytes. take c.cmdsize.result (drop c.index.result.now.offset bytes)) c.bytes.ensures.value ∙ place.stands in
    let P : List ℕ → Type 0 = λ xs. IsCommand (ctx_of c.args.self.now.bytes).le xs in
    record {
      value = value;
      command = subst P (sym value) (command_is c.args.self.now.bytes c.args.index c.bytes.ensures.accepted c.requires);
    }
