use Rattle.std.proofs.lemmas.Result.{err_from_is_err_and}
use Rattle.std.proofs.Common.{refl}
use Rattle.elf_commands_lines.specs.ElfAsked.{elf_asked}
use Rattle.elf_commands_lines.specs.Meaning.{elf_command_model}
use Rattle.elf_commands.proofs.ElfOutcomes.{tells_words}
use Rattle.elf_commands.proofs.elf.engine.run_unprobed.Goals as goal

pub returns-in_err-edits-clause-err : goal.returns-in_err-edits-clause-err
returns-in_err-edits-clause-err g c =
    let p = err_from_is_err_and c.from_residual.result c.from_residual.ensures.1 in
    rw (p.1, p.2) (tells_words g.W.Write.contents (elf_command_model c.args.command.now) c.args.bytes.now (elf_asked (elf_command_model c.args.command.now)) c.args.out.now c.args.out.now _ refl c.in_err-edits.ensures.err)
