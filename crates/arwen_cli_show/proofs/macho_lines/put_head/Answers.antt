use Rattle.std.proofs.Common.{ℕ, List, ◌++◌, codes, string_bytes, ap, ◌∙◌}
use Rattle.std.proofs.lemmas.Result.{on_ok_weaker}
use Rattle.arwen_cli_show.specs.Lines.{line, macho_head_lines, number_line}
use Rattle.arwen_cli_facts.specs.Names.{bits_of, cpu_name, file_type_name, name_or, order_name}
use Rattle.arwen_cli_show.proofs.Joined.{joined_5}
use Rattle.arwen_cli_show.proofs.macho_lines.put_head.Goals as goal

pub returns : goal.returns
unfolding macho_head_lines
returns c =
    on_ok_weaker c.put_line.result
    (λ h. joined_5 (string_bytes c.args.out.now)
    (line (codes "cpu") (name_or (cpu_name c.args.s.now.cpu) c.args.s.now.cpu))
    (number_line (codes "cpu_subtype") c.args.s.now.cpu_subtype)
    (line (codes "file_type") (name_or (file_type_name c.args.s.now.file_type) c.args.s.now.file_type))
    (number_line (codes "class") (bits_of c.args.s.now.form.container))
    (line (codes "byte_order") (order_name c.args.s.now.form.le))
    (string_bytes c.put_cpu.new.out) (string_bytes c.put_number.new.out) (string_bytes c.put_file_type.new.out) (string_bytes c.put_number-2.new.out) (string_bytes c.put_line.new.out)
    c.in_ok-put_cpu.ensures c.in_ok-put_number.ensures c.in_ok-put_file_type.ensures
    (c.in_ok-put_number-2.ensures ∙ ap (λ (n : ℕ). string_bytes c.put_file_type.new.out ++ number_line (codes "class") n) c.bits.ensures)
    (h ∙ ap (λ (n : List ℕ). string_bytes c.put_number-2.new.out ++ line (codes "byte_order") n) c.order_name.ensures)) c.put_line.ensures
