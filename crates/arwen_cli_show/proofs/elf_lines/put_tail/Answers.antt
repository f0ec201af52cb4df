use Rattle.std.proofs.Common.{codes, option_map, string_bytes}
use Rattle.std.specs.Prelude.{unwrap_or}
use Rattle.std.proofs.lemmas.Result.{on_ok_weaker}
use Rattle.arwen_cli_show.specs.Lines.{elf_tail_lines, line, line_if, lines, number_line_if}
use Rattle.arwen_cli_facts.specs.Names.{flag_names, permissions}
use Rattle.arwen_cli_show.proofs.Joined.{joined_4}
use Rattle.arwen_cli_show.proofs.elf_lines.put_tail.Goals as goal

pub returns : goal.returns
unfolding elf_tail_lines
returns c =
    on_ok_weaker c.put_line.result
    (joined_4 (string_bytes c.args.out.now)
    (line_if (codes "stack") (option_map permissions c.args.s.now.stack_flags))
    (lines (codes "flags") (flag_names (unwrap_or c.args.s.now.flags_1 0)))
    (number_line_if (codes "spare_entries") c.args.s.now.spare_entries)
    (line (codes "views_agree") (codes "yes"))
    (string_bytes c.put_stack.new.out) (string_bytes c.put_flags.new.out) (string_bytes c.put_number_if.new.out) (string_bytes c.put_line.new.out)
    c.in_ok-put_stack.ensures c.in_ok-put_flags.ensures c.in_ok-put_number_if.ensures) c.put_line.ensures
