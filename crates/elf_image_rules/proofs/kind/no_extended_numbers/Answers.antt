-- The order of the tables doesn't matter.
use Rattle.std.proofs.Common.{ap, ◌∙◌, List}
use Rattle.std.specs.Prelude.{◌==◌, filter, not}
use Rattle.std.specs.List.{list_all}
use Rattle.elf_format.specs.declared.constants.TheConstants.{SHN_XINDEX}
use Rattle.elf_format.specs.File.{section_bytes}
use Rattle.elf_format.specs.declared.records.SectionHeader.{SectionHeader}
use Rattle.elf_format.specs.Records.{symbols_in}
use Rattle.elf_format.specs.Rules.{is_symbol_table}
use Rattle.elf_image_rules.proofs.KindSteps.{moved_pass}
use Rattle.elf_image_rules.proofs.kind.no_extended_numbers.Goals as goal

pub returns : goal.returns
returns c =
    let passes = λ (s : SectionHeader). list_all (λ y. not (y.st_shndx == SHN_XINDEX)) (symbols_in c.args.form (section_bytes c.args.file.now s)) in
    let picked = λ (sections : List SectionHeader). list_all passes (filter is_symbol_table sections) in
    c.are_numbers_plain.ensures ∙ ap (list_all passes) c.deref-2.ensures.value
    ∙ moved_pass passes c.in_ok-tables.tables.items c.sort_unstable_by_key.new.self.items c.sort_unstable_by_key.ensures.permutation
    ∙ ap (list_all passes) c.in_ok-tables.ensures ∙ ap picked c.deref.ensures.value ∙ ap picked c.in_ok-sections.ensures
