-- What a plan holds, seen without where its lists lie.
use Rattle.std.specs.Prelude.{map}
use Rattle.elf_format.specs.Places.{Place}
use Rattle.elf_layout_plan.specs.declared.plan.Plan.TheInside.{Inside}
use Rattle.elf_layout_plan.specs.declared.plan.PlanParts.{PlanParts}
use Rattle.elf_layout_plan.specs.declared.plan.SectionPlace.{SectionPlace}
use Rattle.elf_layout_plan.specs.Plan.{Plan}

abbrev pub place_model : SectionPlace → Place
place_model s = record { sh_type = s.sh_type; sh_flags = s.sh_flags; sh_addr = s.sh_addr; sh_offset = s.sh_offset; sh_size = s.sh_size }

abbrev pub parts_model : PlanParts → Plan
parts_model p = record {
  places = map place_model p.places.items;
  segments = p.segments.items;
  e_phoff = p.e_phoff;
  e_shoff = p.e_shoff;
  rounds = p.rounds;
  looked = p.looked;
}

abbrev pub plan_model : Inside → Plan
plan_model p = parts_model p.parts
