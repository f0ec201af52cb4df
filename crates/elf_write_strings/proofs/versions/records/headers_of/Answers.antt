use Rattle.std.proofs.Common.{ℕ, List, subst, ap, sym, ◌∙◌}
use Rattle.elf_format.specs.Stages.{parts_read}
use Rattle.elf_image_rules.specs.Read.{Refuses}
use Rattle.elf_write_strings.proofs.VersionsParts.{only_memory, parts_accepted}
use Rattle.elf_write_strings.proofs.versions.records.headers_of.Goals as goal

pub returns-in-Ok : goal.returns-in-Ok
returns-in-Ok c =
    parts_accepted c.args.read.now c.source.ensures.edited _ (ap parts_read (sym c.source.ensures.source) ∙ c.in-Ok.ensures)

pub out_of_memory-requires : goal.out_of_memory-requires
out_of_memory-requires c =
    only_memory c.args.read.now c.source.ensures.edited c.in-Err.fault
    (subst (λ (file : List ℕ). Refuses c.in-Err.fault (parts_read file)) c.source.ensures.source c.in-Err.ensures)
