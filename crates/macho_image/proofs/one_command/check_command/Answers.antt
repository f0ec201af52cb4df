use Rattle.std.proofs.Common.{◌≡◌, ℕ, None, sym, subst, ap, take, rules}
use Rattle.macho_image.specs.Checks.{command_fault}
use Rattle.macho_image.specs.Command.{IsCommand}
use Rattle.macho_image.proofs.CommandLaws.{is_command}
use Rattle.macho_image.proofs.one_command.check_command.Goals as goal

pub returns : goal.returns
unfolding command_fault
returns c =
    let rest = c.args.rest.now in
    let accepted : command_fault c.args.order rest ≡ None = search rules in
    let P : ℕ → Type 0 = λ n. IsCommand c.args.order (take n rest) in
    let size = c.number32-cmdsize.ensures in
    (accepted, ap (λ n. take n rest) size, subst P (sym size) (is_command c.args.order rest accepted))
