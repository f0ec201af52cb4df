-- The entries of the one dynamic section.
use Rattle.std.proofs.Common.{List, Option, length, map, sym, ap, subst, ◌∙◌}
use Rattle.std.proofs.lemmas.Result.{err_from_is_err_and}
use Rattle.patch_bytes.specs.Memory.{memory_of}
use Rattle.elf_format.specs.declared.constants.TheConstants.{SHT_DYNAMIC}
use Rattle.elf_format.specs.Dynamic.{shown_entry}
use Rattle.elf_format.specs.File.{Parts, section_of_type}
use Rattle.elf_image.specs.ImageModel.{entry_model}
use Rattle.elf_format.specs.Options.{each}
use Rattle.elf_format.specs.Answers.{Fails}
use Rattle.elf_image_versions.specs.Read.{parts_model}
use Rattle.elf_format.specs.declared.records.EntryNumbers.{EntryNumbers}
use Rattle.elf_format.specs.declared.records.SectionHeader.{SectionHeader}
use Rattle.elf_format.specs.Rules.{file_of}
use Rattle.elf_image_versions.proofs.ForCallers.KeptSteps.{none_found}
use Rattle.elf_image.proofs.TextSteps.{entries_fail, entries_none, entries_some}
use Rattle.elf_image.proofs.read.texts.entries.entries.Goals as goal

pub returns-in_default : goal.returns-in_default
returns-in_default c =
    let o : Option SectionHeader = section_of_type SHT_DYNAMIC c.args.parts.now.sections.items in
    entries_none (parts_model c.args.parts.now) o (none_found c.section_of_type.result o c.in_default.not-Some (c.section_of_type.ensures ∙ ap (section_of_type SHT_DYNAMIC) c.deref.ensures.value))

pub returns-in_err-list : goal.returns-in_err-list
returns-in_err-list c =
    let e = err_from_is_err_and c.from_residual.result c.from_residual.ensures.1 in
    let p : Parts = parts_model c.args.parts.now in
    rw (e.1, e.2) (entries_fail p (section_of_type SHT_DYNAMIC p.sections) c.in-Some.section (memory_of c.dynamic_texts-texts.result.now)
    (c.in-Some.ensures ∙ ap (section_of_type SHT_DYNAMIC) c.deref.ensures.value) c.dynamic_texts-texts.ensures.value c.in_err-list.field-0.0
    (subst (λ (l : List EntryNumbers). Fails c.in_err-list.field-0.0 (each (shown_entry (length (file_of p)) (memory_of c.dynamic_texts-texts.result.now)) l)) c.requires c.in_err-list.ensures))

pub returns : goal.returns
returns c =
    let p : Parts = parts_model c.args.parts.now in
    entries_some p (section_of_type SHT_DYNAMIC p.sections) c.in-Some.section (memory_of c.dynamic_texts-texts.result.now)
    (c.in-Some.ensures ∙ ap (section_of_type SHT_DYNAMIC) c.deref.ensures.value) c.dynamic_texts-texts.ensures.value (map entry_model c.in_ok-list.list.items)
    (ap (each (shown_entry (length (file_of p)) (memory_of c.dynamic_texts-texts.result.now))) (sym c.requires) ∙ c.in_ok-list.ensures)
