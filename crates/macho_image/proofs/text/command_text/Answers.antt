-- The text begins at the offset that was read, and past the command's end there is none.
use Rattle.std.proofs.Common.{◌≤◌, ℕ, drop, length, ap, arith, sym, ◌∙◌}
use Rattle.std.proofs.lemmas.List.{drop_all, take_rest}
use Rattle.patch_bytes.specs.Number.{number_at}
use Rattle.macho_image.specs.Command.{before_nul, text_of}
use Rattle.macho_image.proofs.text.command_text.Goals as goal

pub returns-then-offset-command : goal.returns-then-offset-command
unfolding text_of
returns-then-offset-command c =
    let read = c.number32-offset.ensures in
    let past : length c.args.command.now ≤ number_at c.args.order 4 8 c.args.command.now = omega arith in
    sym (ap before_nul (drop_all (number_at c.args.order 4 8 c.args.command.now) c.args.command.now past))

pub returns : goal.returns
unfolding text_of
returns c =
    c.before_nul.ensures
    ∙ ap before_nul (take_rest c.args.command.now c.number32-offset.result ∙ ap (λ (n : ℕ). drop n c.args.command.now) c.number32-offset.ensures)
