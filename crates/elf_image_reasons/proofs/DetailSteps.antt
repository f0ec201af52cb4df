-- What contradicts the tables of the dynamic list, of the parts that the reader hands on one by one.
use Rattle.std.proofs.Common.{◌≡◌, ℕ, List, Option, Some, ap, ◌∙◌}
use Rattle.patch_bytes.specs.Memory.{◌>>=◌}
use Rattle.elf_format.specs.declared.constants.TheConstants.{SHT_DYNAMIC}
use Rattle.elf_format.specs.declared.records.EntryNumbers.{EntryNumbers}
use Rattle.elf_format.specs.declared.records.SectionHeader.{SectionHeader}
use Rattle.elf_format.specs.File.{Parts, linked_section, section_of_type}
use Rattle.elf_format.specs.Records.{symbol_size}
use Rattle.elf_format.specs.Rules.{raw_entries}
use Rattle.elf_image_flaws.specs.declared.detail.Detail.{Detail}
use Rattle.elf_image_reasons.specs.Details.{list_detail, tables_detail}

of_list : Parts → SectionHeader → Option Detail
of_list p list = list_detail (symbol_size p.opened.form) (raw_entries p) p.sections (linked_section p.sections list)

pub tables_told : (p : Parts) (list : SectionHeader) (raw : List EntryNumbers) (sections : List SectionHeader) (strings : Option SectionHeader) (size : ℕ)
    → Some list ≡ section_of_type SHT_DYNAMIC p.sections → raw ≡ raw_entries p → sections ≡ p.sections → strings ≡ linked_section p.sections list → size ≡ symbol_size p.opened.form
    → list_detail size raw sections strings ≡ tables_detail p
unfolding of_list tables_detail
tables_told p list raw sections strings size there are same linked wide =
    ap (λ n. list_detail n raw sections strings) wide
    ∙ ap (λ rs. list_detail (symbol_size p.opened.form) rs sections strings) are
    ∙ ap (λ ss. list_detail (symbol_size p.opened.form) (raw_entries p) ss strings) same
    ∙ ap (λ o. list_detail (symbol_size p.opened.form) (raw_entries p) p.sections o) linked
    ∙ ap (λ o. o >>= of_list p) there
