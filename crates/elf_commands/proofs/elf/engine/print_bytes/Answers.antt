use Rattle.std.proofs.lemmas.Result.{err_from_is_err_and}
use Rattle.elf_commands_lines.specs.Meaning.{elf_command_model}
use Rattle.elf_commands.proofs.ElfOutcomes.{tells_unprinted}
use Rattle.elf_commands.proofs.elf.engine.print_bytes.Goals as goal

pub returns-in_err-answer-clause-err : goal.returns-in_err-answer-clause-err
returns-in_err-answer-clause-err g c =
    let p = err_from_is_err_and c.from_residual-in_err-answer.result c.from_residual-in_err-answer.ensures.1 in
    rw (p.1, p.2) (tells_unprinted g.W.Write.contents (elf_command_model c.args.command.now) c.args.bytes.now c.in_ok-elf.elf.inner _ _ _ c.in_ok-elf.ensures.reads.0 c.in_err-answer.ensures.err)
