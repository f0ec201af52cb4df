use Rattle.std.proofs.Common.{◌≡◌, true, drop}
use Rattle.std.specs.Prelude.{◌==◌, not}
use Rattle.std.specs.List.{list_all}
use Rattle.elf_format.specs.declared.constants.TheConstants.{SHN_XINDEX}
use Rattle.elf_format.specs.File.{section_bytes}
use Rattle.elf_format.specs.declared.records.SectionHeader.{SectionHeader}
use Rattle.elf_format.specs.Records.{symbol_numbers, symbols_in}
use Rattle.elf_image_rules.proofs.KindSteps.{run_passes}
use Rattle.elf_image_rules.proofs.kind.are_numbers_plain.Given as goal

-- the tables so far pass, and so does what was looked at last
abbrev pub invariant-loop-table : goal.invariant-loop-table
invariant-loop-table l =
    let passes = λ (s : SectionHeader). list_all (λ y. not (y.st_shndx == SHN_XINDEX)) (symbols_in l.form (section_bytes l.file s)) in
    record {
      done : run_passes (λ y. not (y.st_shndx == SHN_XINDEX)) (symbol_numbers l.form) l.size l.file l.done ≡ true;
      rest : list_all passes (drop l.table-index l.tables) ≡ list_all passes l.tables;
    }
