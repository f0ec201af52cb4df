-- Which fault of a layout answers that of a table.
use Rattle.elf_tables.specs.declared.fault.TableFault.{TableFault}
use Rattle.elf_tables.specs.declared.fault.TableFault.TheVariants as table
use Rattle.elf_layout_plan.specs.declared.fault.LayoutFault.{LayoutFault}
use Rattle.elf_layout_plan.specs.declared.fault.LayoutFault.TheVariants as layout

abbrev pub fault_of_table : TableFault → LayoutFault
fault_of_table table.NumberTooLarge = layout.NumberTooLarge
fault_of_table table.Memory = layout.Memory
