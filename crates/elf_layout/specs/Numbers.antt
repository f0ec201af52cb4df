-- The numbers of a section that its place hangs on.
use Rattle.elf_layout_plan.specs.Memory.{SizedSection}
use Rattle.elf_layout.specs.declared.sized.SectionNumbers.{SectionNumbers}

-- what the code keeps of a section with its new size
abbrev pub numbers_of : SizedSection → SectionNumbers
numbers_of s = record {
  sh_type = s.kept.section.sh_type;
  sh_flags = s.kept.section.sh_flags;
  sh_addr = s.kept.section.sh_addr;
  sh_offset = s.kept.section.sh_offset;
  sh_size = s.kept.section.sh_size;
  sh_addralign = s.kept.section.sh_addralign;
  size = s.size;
  position = s.kept.position;
}
