use Rattle.std.proofs.Common.{ℕ, ap, sym, ◌∙◌, ◌&&◌}
use Rattle.std.proofs.lemmas.Bool.{and_from, and_left, and_right}
use Rattle.elf_format.specs.declared.form.Form.{Form}
use Rattle.elf_format.specs.declared.records.SegmentHeader.{SegmentHeader}
use Rattle.elf_layout_plan.specs.Written.{memory_size, physical_for}
use Rattle.elf_layout.specs.declared.targets.TargetAt.{TargetAt}
use Rattle.elf_layout.specs.Targets.{fits_word, header_at, is_physical_well, is_well_at}
use Rattle.elf_layout.proofs.headings.anchored_to.Goals as goal

pub returns-in-None : goal.returns-in-None
unfolding is_well_at
returns-in-None c =
    ap (λ a. is_physical_well c.args.form c.args.p a && fits_word c.args.t.size) (sym c.address_for-address.ensures)
    ∙ and_left (is_physical_well c.args.form c.args.p c.address_for-address.result) (fits_word c.args.t.size) c.in-None.ensures

pub returns-in-None-in_word : goal.returns-in-None-in_word
unfolding is_well_at
returns-in-None-in_word c =
    ap (λ a. is_physical_well c.args.form c.args.p a && fits_word c.args.t.size) (sym c.address_for-address.ensures)
    ∙ and_right (is_physical_well c.args.form c.args.p c.address_for-address.result) (fits_word c.args.t.size) c.in-None-in_word.ensures

pub returns-in-Some-in_word : goal.returns-in-Some-in_word
unfolding is_well_at header_at
returns-in-Some-in_word c =
    let form : Form = c.args.form in
    let p : SegmentHeader = c.args.p in
    let t : TargetAt = c.args.t in
    let v : ℕ = c.address_for-address.result in
    let made : ℕ → ℕ → ℕ → ℕ → SegmentHeader = λ address physical size memory. record { p_type = p.p_type; p_flags = p.p_flags; p_offset = t.offset; p_vaddr = address; p_paddr = physical; p_filesz = size; p_memsz = memory; p_align = p.p_align } in (
      ap (λ n. made v n c.in-Some-in_word.size c.memory_size.result) c.in-Some.ensures.0
          ∙ ap (λ n. made v (physical_for form p v) c.in-Some-in_word.size n) c.memory_size.ensures
          ∙ ap (λ n. made v (physical_for form p v) n (memory_size p n)) c.in-Some-in_word.ensures.0
          ∙ ap (λ a. made a (physical_for form p a) t.size (memory_size p t.size)) c.address_for-address.ensures,
      ap (λ a. is_physical_well form p a && fits_word t.size) (sym c.address_for-address.ensures)
          ∙ and_from (is_physical_well form p v) (fits_word t.size) c.in-Some.ensures.1 c.in-Some-in_word.ensures.1,
    )
