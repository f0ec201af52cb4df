-- One version for each dynamic symbol, and each one marked.
use Rattle.std.proofs.Common.{ℕ, List, map, ◌++◌, sym, ap, ◌∙◌, ◌/◌}
use Rattle.std.specs.List.{flat_map, list_all}
use Rattle.elf_format.specs.declared.constants.TheConstants.{SHT_DYNSYM}
use Rattle.elf_format.specs.File.{section_of_type}
use Rattle.elf_format.specs.Form.{records}
use Rattle.elf_image_rules.specs.Read.{parts_model}
use Rattle.elf_format.specs.Versions.{version_id}
use Rattle.elf_image_versions.proofs.VersionSteps.{agree-marked, is_marked, known-walked}
use Rattle.elf_image_versions.proofs.rule.version_symbols_agree.Goals as goal

pub returns : goal.returns
returns c =
    let form = c.args.parts.now.form in
    let count : ℕ = c.args.section.sh_size / 2 in
    let known : List ℕ = map (λ d. d.index) c.deref-2.result.now ++ flat_map (λ n. map (λ v. v.index) n.versions) c.deref-3.result.now in
    c.are_marked.ensures
    ∙ ap (λ m. list_all (is_marked m) (records (version_id form) 2 count c.section_bytes-bytes.result.now)) c.deref-4.ensures.value
    ∙ ap (λ b. list_all (is_marked c.in_ok-marks.marks.items) (records (version_id form) 2 count b)) c.section_bytes-bytes.ensures.value
    ∙ agree-marked (parts_model c.args.parts.now) c.args.section c.in-Some.symbols known c.in_ok-marks.marks.items
    (sym (c.in-Some.ensures ∙ ap (section_of_type SHT_DYNSYM) c.deref.ensures.value))
    (c.if-count-symbols.false ∙ ap (λ n. c.in-Some.symbols.sh_size / n) c.symbol_size.ensures.value)
    c.in_ok-marks.ensures
    (ap (λ l. map (λ d. d.index) l ++ flat_map (λ n. map (λ v. v.index) n.versions) c.deref-3.result.now) c.deref-2.ensures.value
    ∙ ap (λ l. map (λ d. d.index) c.args.definitions.now.values.items ++ flat_map (λ n. map (λ v. v.index) n.versions) l) c.deref-3.ensures.value
    ∙ known-walked (parts_model c.args.parts.now) c.args.definitions.now c.args.needs.now c.requires.definitions c.requires.needs)
