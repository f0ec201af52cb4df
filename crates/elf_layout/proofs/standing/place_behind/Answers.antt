use Rattle.std.proofs.Common.{◌≤◌, ◌^◌, ℕ, inl, arith}
use Rattle.patch_bytes.specs.Number.{word_size}
use Rattle.elf_layout_plan.specs.Memory.{sized_sections}
use Rattle.elf_layout_plan.specs.Standing.{next_table}
use Rattle.elf_layout.specs.Unloaded.{content_behind, start_behind}
use Rattle.elf_layout.proofs.FarSteps.{next_above}
use Rattle.elf_layout.proofs.TableSteps.{unloaded_grows}
use Rattle.elf_layout.proofs.standing.place_behind.Goals as goal

pub returns-in_default-clause-fault : goal.returns-in_default-clause-fault
returns-in_default-clause-fault c =
    let start : ℕ = start_behind c.args.r.now c.args.end c.args.headers in
    let content : ℕ = content_behind c.args.r.now c.args.end c.args.headers in
    let far : 2 ^ 64 ≤ start = c.in_default.ensures.far in
    let grown : start ≤ content = unloaded_grows start (sized_sections c.args.r.now) in
    let above : content ≤ next_table c.args.r.now content = next_above content (word_size c.args.r.now.image.form.wide) in
    inl (omega (arith, far, grown, above))
