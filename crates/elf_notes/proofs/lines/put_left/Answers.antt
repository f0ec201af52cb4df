-- One line behind another.
use Rattle.std.proofs.Common.{string_bytes}
use Rattle.elf_notes.proofs.NameSteps.{two_more, six_more}
use Rattle.elf_notes.proofs.lines.put_left.Goals as goal

pub returns : goal.returns
returns c =
    two_more (string_bytes c.args.text.now) (string_bytes c.put_if-6.new.text) (string_bytes c.put_if-7.new.text) _ _
    (six_more (string_bytes c.args.text.now) (string_bytes c.put_if.new.text) (string_bytes c.put_if-2.new.text) (string_bytes c.put_if-3.new.text) (string_bytes c.put_if-4.new.text)
    (string_bytes c.put_if-5.new.text) (string_bytes c.put_if-6.new.text) _ _ _ _ _ _
    c.in_ok-put_if.ensures c.in_ok-put_if-2.ensures c.in_ok-put_if-3.ensures c.in_ok-put_if-4.ensures c.in_ok-put_if-5.ensures c.in_ok-put_if-6.ensures)
    c.in_ok-put_if-7.ensures
