use Rattle.std.proofs.Common.{◌≡◌, ◌+◌, ◌≤◌, ◌∙◌, ℕ, List, Option, Some, None, drop, length, max, refl, sym, ap, arith}
use Rattle.std.specs.Prelude.{slice_get}
use Rattle.elf_image.specs.Segments.{loads_end}
use Rattle.elf_layout_plan.specs.Added.{memory_end}
use Rattle.elf_layout_plan.specs.Memory.{Resized, SizedSection, sized_sections}
use Rattle.elf_layout.specs.Slots.{end_at, has_memory, section_end}
use Rattle.elf_layout.proofs.GreatestSteps.{greatest_end, greatest_more, greatest_of, value_at}
use Rattle.elf_layout.proofs.memory.memory_end.Goals as goal

ends_same : (end : ℕ) (o : Option SizedSection) → end_at end o ≡ value_at (has_memory end) section_end o
ends_same end None = refl
ends_same end (Some s) = refl

pub loop-position-preserved : goal.loop-position-preserved
loop-position-preserved c =
    let all : List SizedSection = sized_sections c.args.r.now in
    let loads : ℕ = c.loads_end-loads.result in
    let i : ℕ = c.loop-position.position in
    let n : ℕ = c.loop-position.end in
    let here : c.max-end.result ≡ max (value_at (has_memory loads) section_end (slice_get all i)) n =
    c.max-end.ensures ∙ ap (λ (v : ℕ). max v n) (c.section_end_at.ensures.end ∙ ends_same loads (slice_get all i)) in
    record {
      end = ap (λ (m : ℕ). greatest_of (has_memory loads) section_end m (drop (i + 1) all)) here
          ∙ sym (greatest_more (has_memory loads) section_end n all i) ∙ c.loop-position.invariant.end;
      near = omega (arith, c.max-end.ensures, c.section_end_at.ensures.near, c.loop-position.invariant.near);
    }

pub returns-clause-end : goal.returns-clause-end
unfolding memory_end
returns-clause-end c =
    let all : List SizedSection = sized_sections c.args.r.now in
    let loads : ℕ = c.loads_end-loads.result in
    let past : length all ≤ c.loop-position.position = omega (arith, c.section_count-position-end.ensures, c.loop-position-test.false) in
    let start : loads ≡ loads_end c.args.r.now.image.segments =
    c.loads_end-loads.ensures.value ∙ ap loads_end (c.segments.ensures ∙ ap (λ (r : Resized). r.image.segments) c.r.view_is) in
    sym (greatest_end (has_memory loads) section_end c.loop-position.end all c.loop-position.position past) ∙ c.loop-position.invariant.end
    ∙ ap (λ (n : ℕ). greatest_of (has_memory n) section_end n all) start
