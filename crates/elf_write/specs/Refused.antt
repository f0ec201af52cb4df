-- Which fault is answered when.
use Rattle.std.specs.Prelude.{◌≡◌, false}
use Rattle.elf_format.specs.Image.{Image}
use Rattle.elf_layout_plan.specs.declared.fault.LayoutFault.{LayoutFault}
use Rattle.elf_layout_plan.specs.declared.fault.LayoutFault.TheVariants as faults
use Rattle.elf_layout_plan.specs.Plan.{Plan}
use Rattle.elf_write_contents.specs.Output.{AreHeadersApart}
use Rattle.elf_write_contents.specs.Numbers.{do_numbers_fit}

-- No bytes: the file header and the program header table share some of the file; or a number doesn't fit its field.
abbrev pub AreNoBytes : Image → Plan → LayoutFault → Type 0
AreNoBytes image plan faults.Overlap = AreHeadersApart image plan → ⊥
AreNoBytes image plan faults.NumberTooLarge = do_numbers_fit image plan ≡ false
AreNoBytes image plan faults.Memory = Unit {0}
