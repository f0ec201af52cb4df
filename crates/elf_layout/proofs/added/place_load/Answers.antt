use Rattle.std.proofs.Common.{◌≡◌, ◌-◌, ◌≤◌, ◌^◌, ◌∙◌, ℕ, inr, sym, ap, subst, arith}
use Rattle.elf_layout_plan.specs.Added.{size_of_slots, slots_from}
use Rattle.elf_format.specs.declared.constants.TheConstants.{PT_LOAD}
use Rattle.elf_format.specs.declared.records.SegmentHeader.{SegmentHeader}
use Rattle.elf_layout.specs.declared.slots.At.{At}
use Rattle.elf_layout.specs.Slots.{behind_slots, with_flags}
use Rattle.elf_layout.proofs.SlotSteps.{behind_grows}
use Rattle.elf_layout.proofs.LoadSteps.{load_end, size_behind}
use Rattle.elf_layout.proofs.added.place_load.Goals as goal

pub returns-in_default-clause-far : goal.returns-in_default-clause-far
returns-in_default-clause-far c =
    let end : ℕ = c.args.start.offset in
    let at : ℕ → At = λ address. record { offset = end; address = address } in
    let past = subst (λ (n : ℕ). 2 ^ 64 ≤ (behind_slots (at n) (with_flags c.args.r.now c.args.flags c.args.moved.now)).offset)
    c.load_start-address.ensures c.in_default.ensures.far in
    inr (omega (arith, past, load_end c.args.r.now c.args.moved.now c.args.align end c.args.start.address c.args.flags))

pub overflow_sub-size : goal.overflow_sub-size
overflow_sub-size c =
    let first : At = record { offset = c.args.start.offset; address = c.load_start-address.result } in
    let grown : first.offset ≤ (behind_slots first (with_flags c.args.r.now c.args.flags c.args.moved.now)).offset =
    behind_grows first (with_flags c.args.r.now c.args.flags c.args.moved.now) in
    let same : c.in-Some.end.offset ≡ (behind_slots first (with_flags c.args.r.now c.args.flags c.args.moved.now)).offset =
    ap (λ (x : At). x.offset) c.in-Some.ensures.end in
    omega (arith, grown, same)

pub returns-clause-header : goal.returns-clause-header
returns-clause-header c =
    let end : ℕ = c.args.start.offset in
    let first : At = record { offset = end; address = c.load_start-address.result } in
    let size : c.in-Some.end.offset - end ≡ size_of_slots end
    (slots_from end c.load_start-address.result (with_flags c.args.r.now c.args.flags c.args.moved.now)) =
    ap (λ (x : At). x.offset - end) c.in-Some.ensures.end
    ∙ sym (size_behind first (with_flags c.args.r.now c.args.flags c.args.moved.now)) in
    let made : ℕ → ℕ → SegmentHeader = λ address size.
    record {
      p_type = PT_LOAD;
      p_flags = c.args.flags;
      p_offset = end;
      p_vaddr = address;
      p_paddr = address;
      p_filesz = size;
      p_memsz = size;
      p_align = c.args.align;
    } in
    ap (λ (n : ℕ). made c.load_start-address.result n) size
    ∙ ap (λ (n : ℕ). made n (size_of_slots end (slots_from end n (with_flags c.args.r.now c.args.flags c.args.moved.now))))
    c.load_start-address.ensures
