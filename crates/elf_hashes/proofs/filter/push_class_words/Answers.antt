-- One number more is appended.
use Rattle.std.proofs.Common.{ℕ, ◌∷◌, [], ◌++◌, ap, ◌∙◌, arith}
use Rattle.elf_tables.specs.Fields.{fields}
use Rattle.elf_tables.specs.Spelled.{class_word}
use Rattle.elf_hashes.proofs.WordLaws.{number-appended}
use Rattle.elf_hashes.proofs.filter.push_class_words.Goals as goal

pub loop-number-preserved : goal.loop-number-preserved
loop-number-preserved c =
    number-appended c.args.form.order (class_word c.args.form) c.args.bytes.now.items c.loop-number.bytes.items c.push_fields.new.bytes.items c.args.numbers.now c.loop-number.number-index (omega arith)
    c.loop-number.invariant
    (c.in_ok-push_fields.ensures ∙ ap (λ (f : ℕ × ℕ). c.loop-number.bytes.items ++ fields c.args.form.order (f ∷ [])) c.class_field.ensures)
