-- Of the types that may come once no two sections and no two program headers were read.
use Rattle.std.proofs.Common.{◌≡◌, ℕ, ◌≤◌, true, ◌&&◌}
use Rattle.std.specs.Prelude.{count_by, nat_le, ◌==◌}
use Rattle.std.specs.List.{list_all}
use Rattle.std.proofs.lemmas.Bool.{and_parts, leb-true}
use Rattle.elf_format.specs.declared.records.SectionHeader.{SectionHeader}
use Rattle.elf_format.specs.declared.records.SegmentHeader.{SegmentHeader}
use Rattle.elf_format.specs.File.{Parts}
use Rattle.elf_format.specs.Options.{is_one_of}
use Rattle.elf_format.specs.Rules.{MeetsRules, are_linked, are_whole, infos_are_sections, is_one_of_each, relocations_fit, single_section_types, single_segment_types, symbols_have_sections}
use Rattle.elf_write_spec.proofs.WholeLists.{passes_one}

module _ (p : Parts) (rules : MeetsRules p) where
  singles : is_one_of_each p.segments p.sections ≡ true
  singles =
      let all =
      and_parts (is_one_of_each p.segments p.sections && are_linked p.sections && are_whole p.opened.form p.sections && symbols_have_sections p && relocations_fit p)
      (infos_are_sections p) rules.linked in
      let more =
      and_parts (is_one_of_each p.segments p.sections && are_linked p.sections && are_whole p.opened.form p.sections && symbols_have_sections p)
      (relocations_fit p) all.0 in
      let linked =
      and_parts (is_one_of_each p.segments p.sections && are_linked p.sections && are_whole p.opened.form p.sections) (symbols_have_sections p) more.0 in
      let whole = and_parts (is_one_of_each p.segments p.sections && are_linked p.sections) (are_whole p.opened.form p.sections) linked.0 in
      (and_parts (is_one_of_each p.segments p.sections) (are_linked p.sections) whole.0).0

  -- of the types that may come once no two sections or program headers were read
  pub one_section : (type : ℕ) → is_one_of single_section_types type ≡ true → count_by (λ (s : SectionHeader). s.sh_type == type) p.sections ≤ 1
  one_section type single =
      leb-true (count_by (λ (s : SectionHeader). s.sh_type == type) p.sections) 1
      (passes_one (λ t. nat_le (count_by (λ (s : SectionHeader). s.sh_type == t) p.sections) 1) single_section_types type
      (and_parts (list_all (λ t. nat_le (count_by (λ (q : SegmentHeader). q.p_type == t) p.segments) 1) single_segment_types)
      (list_all (λ t. nat_le (count_by (λ (s : SectionHeader). s.sh_type == t) p.sections) 1) single_section_types) singles).1 single)

  pub one_segment : (type : ℕ) → is_one_of single_segment_types type ≡ true → count_by (λ (q : SegmentHeader). q.p_type == type) p.segments ≤ 1
  one_segment type single =
      leb-true (count_by (λ (q : SegmentHeader). q.p_type == type) p.segments) 1
      (passes_one (λ t. nat_le (count_by (λ (q : SegmentHeader). q.p_type == t) p.segments) 1) single_segment_types type
      (and_parts (list_all (λ t. nat_le (count_by (λ (q : SegmentHeader). q.p_type == t) p.segments) 1) single_segment_types)
      (list_all (λ t. nat_le (count_by (λ (s : SectionHeader). s.sh_type == t) p.sections) 1) single_section_types) singles).0 single)
