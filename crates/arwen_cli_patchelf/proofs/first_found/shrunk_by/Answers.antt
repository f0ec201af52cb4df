-- A run of the command makes the edit.
use Rattle.std.proofs.Common.{List, None, map, string_bytes, subst}
use Rattle.elf_edits.specs.Edit.{Answer, Edit, ShrinkRpath}
use Rattle.elf_edits_shrink.specs.ShrinkModel.{answer_model}
use Rattle.elf_commands.specs.ElfAsked.{one}
use Rattle.elf_commands.specs.Groups.{plain}
use Rattle.elf_commands.specs.Meaning.{ElfMeaning}
use Rattle.elf_commands.specs.ShrinkRuns.{RunsCommand}
use Rattle.elf_commands.proofs.ForCallers.{left_after}
use Rattle.arwen_cli_patchelf.proofs.first_found.shrunk_by.Goals as goal

pub returns-in-Ok-clause-left : goal.returns-in-Ok-clause-left
returns-in-Ok-clause-left c =
    let answers : List Answer = map answer_model c.args.answers.now in
    let edit : Edit = ShrinkRpath (map string_bytes c.args.prefixes.now) answers in
    let Of : ElfMeaning → Type 0 = λ m. RunsCommand m answers c.args.bytes.now c.in-Ok.new None None in
    left_after c.lists_are_their_edits.ensures c.read_images_hold_parts.ensures (one (plain edit)) c.args.bytes.now c.in-Ok.new (subst Of c.in_ok-command.ensures c.in-Ok.ensures.ran).0
