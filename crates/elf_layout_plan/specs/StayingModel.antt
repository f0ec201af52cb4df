-- What stays of needed versions, seen without how it is held.
use Rattle.elf_layout_plan.specs.declared.staying.StayingNeeds.TheInside.{Inside}
use Rattle.elf_layout_plan.specs.Staying.{Staying}

abbrev pub staying_model : Inside → Staying
staying_model s = record { marks = s.marks.items; are_gone = s.are_gone }
