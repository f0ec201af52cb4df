use Rattle.std.proofs.Common.{true, refl}
use Rattle.elf_commands_edits.proofs.Marks.{is_marked}
use Rattle.elf_commands_edits.proofs.images.bytes_if_changed.Goals as goal

pub returns-clause-ok : goal.returns-clause-ok
returns-clause-ok c =
    let other = is_marked _ _ _ true c.builder.ensures c.changed.ensures c.if-not-changed.false in
    record { same = λ same. absurd (cc); other = λ _. (c.in_ok-image_bytes.field-0, refl, c.in_ok-image_bytes.ensures.bytes.edited other) }
