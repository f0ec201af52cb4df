use Rattle.std.proofs.Common.{◌≡◌, ℕ, take}
use Rattle.std.specs.Prelude.{if◌then◌else◌}
use Rattle.elf_tables.specs.Loan.{symbols_now}
use Rattle.elf_layout_plan.specs.Needs.{is_version_used}
use Rattle.elf_layout_plan.specs.Staying.{mark_of}
use Rattle.elf_layout_plan.proofs.marks.mark_versions.Given as goal

-- the versions of the symbols so far have the mark
abbrev pub invariant-loop-i : goal.invariant-loop-i
invariant-loop-i l =
    (index : ℕ) → mark_of l.marks index ≡ (if is_version_used (take l.i (symbols_now l.symbols)) index then l.mark else mark_of l.initial.marks index)
