-- The place of the section, found by its position.
use Rattle.std.proofs.Common.{sym, ap, ◌∙◌, Option, Some}
use Rattle.std.specs.Prelude.{unwrap_or}
use Rattle.patch_bytes.specs.Memory.{◌>>=◌}
use Rattle.elf_format.specs.Places.{Place}
use Rattle.elf_write_contents.specs.EntrySteps.{place_at}
use Rattle.elf_write_contents.proofs.EntriesTables.{type_place}
use Rattle.elf_write_contents.proofs.entries.tables.address_of_type.Goals as goal

pub returns-in-Some : goal.returns-in-Some
returns-in-Some c =
    ap (λ (o : Option Place). unwrap_or (o >>= λ p. Some p.sh_addr) 0)
    (c.in-Some.ensures ∙ ap (place_at c.args.plan.now) c.type_position.ensures
    ∙ sym (type_place c.args.image.now c.args.plan.now c.args.kind c.source-source.ensures.edited))

pub returns-in-None : goal.returns-in-None
returns-in-None c =
    ap (λ (o : Option Place). unwrap_or (o >>= λ p. Some p.sh_addr) 0)
    (c.in-None.ensures ∙ ap (place_at c.args.plan.now) c.type_position.ensures
    ∙ sym (type_place c.args.image.now c.args.plan.now c.args.kind c.source-source.ensures.edited))
