use Rattle.std.proofs.Common.{◌<◌, ◌++◌, ◌∷◌, ◌∙◌, [], List, ℕ, ap, arith, get_or, length, sym}
use Rattle.std.proofs.lemmas.List.{map_push, take_more}
use Rattle.patch_bytes.specs.ByteString.{StringValue, bytes_of_each}
use Rattle.macho_image.specs.Commands.{commands_of}
use Rattle.macho_image.proofs.image.MachO.commands.Goals as goal

pub loop-i-preserved : goal.loop-i-preserved
loop-i-preserved c =
    let all : List (List ℕ) = commands_of c.args.self.now.bytes in
    let i = c.loop-i.i in
    let made = c.loop-i.commands.items in
    let shown : StringValue → List ℕ = λ x. x.bytes in
    let less : i < length all = omega (arith, c.command_count-i-end.ensures, c.loop-i-test.true) in
    ap bytes_of_each c.in_ok-push.ensures.items
    ∙ map_push shown made c.borrowed.result
    ∙ ap (λ (x : StringValue). bytes_of_each made ++ x.bytes ∷ []) c.borrowed.ensures
    ∙ ap (λ (command : List ℕ). bytes_of_each made ++ command ∷ []) c.command_bytes.ensures.value
    ∙ ap (λ (commands : List (List ℕ)). commands ++ get_or all i [] ∷ []) c.loop-i.invariant
    ∙ sym (take_more all i [] less)
