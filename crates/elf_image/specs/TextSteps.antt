-- What is kept of a section and its name.
use Rattle.std.specs.Prelude.{List, ℕ, length, Option, Some}
use Rattle.patch_bytes.specs.Memory.{◌>>=◌, Memory, text_at}
use Rattle.elf_format.specs.declared.section_data.SectionData.{SectionData}
use Rattle.elf_format.specs.File.{section_bytes}
use Rattle.elf_format.specs.Image.{ImageSection}
use Rattle.elf_format.specs.declared.records.SectionHeader.{SectionHeader}

-- a section of a file with its name, its kind and its bytes
unfoldable pub named_section : List ℕ → Memory → SectionHeader → SectionData → Option ImageSection
named_section file texts s kind = do
  name ← text_at (length file) texts s.sh_name
  Some (record {
    name = name;
    kind = kind;
    sh_type = s.sh_type;
    sh_flags = s.sh_flags;
    sh_addr = s.sh_addr;
    sh_offset = s.sh_offset;
    sh_size = s.sh_size;
    sh_link = s.sh_link;
    sh_info = s.sh_info;
    sh_addralign = s.sh_addralign;
    sh_entsize = s.sh_entsize;
    content = section_bytes file s;
  })
