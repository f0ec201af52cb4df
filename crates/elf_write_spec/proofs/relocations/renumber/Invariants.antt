use Rattle.std.proofs.Common.{◌≤◌, ◌-◌, ◌*◌, length, true}
use Rattle.elf_format.specs.Records.{Relocation, relocation_size}
use Rattle.elf_write_spec.specs.Renumbered.{does_relocation_fit, is_symbol_below}
use Rattle.elf_write_spec.proofs.TableSteps.{AllPass, IsMade, count_of}
use Rattle.elf_write_spec.proofs.relocations.renumber.Given as goal

-- the relocations that are left are there, name symbols, and fit; with what was made they give the whole
abbrev pub invariant-loop : goal.invariant-loop
invariant-loop l =
    let left = count_of l.form l.kind l.content - l.counter in
    record {
      room : left * relocation_size l.form l.kind ≤ length l.rest;
      named : AllPass (λ (x : Relocation). is_symbol_below (length l.numbers) x.r_symbol) l.form l.kind left l.rest true;
      fit : AllPass (does_relocation_fit l.form l.numbers) l.form l.kind left l.rest true;
      made : IsMade l.form l.kind l.numbers l.content l.bytes.items left l.rest;
    }
