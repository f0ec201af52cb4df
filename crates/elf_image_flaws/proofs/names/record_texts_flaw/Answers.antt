-- Texts are there before their end.
use Rattle.std.proofs.Common.{ℕ, Bool, ap, length, ◌∙◌}
use mathlib.Core.Path.{fun_ext}
use Rattle.patch_bytes.specs.Memory.{Memory}
use Rattle.elf_image_rules.specs.Read.{parts_model}
use Rattle.elf_image_flaws.specs.Flaws.{record_texts_told, there_in}
use Rattle.elf_image_flaws.proofs.names.record_texts_flaw.Goals as goal

pub returns : goal.returns
returns c =
    c.record_texts_told.ensures
    ∙ ap (λ (there : ℕ → Bool). record_texts_told there (parts_model c.args.parts.now) c.args.section)
    (fun_ext (λ place. c.end_of_texts-end.ensures place ∙ ap (λ (m : Memory). there_in (length c.args.parts.now.file.now) m place) c.own_texts.ensures.value))
