-- What readers of records answer, seen without where its bytes lie.
use Rattle.std.specs.Prelude.{ℕ, length, Bool, ◌&&◌, ◌==◌, List, Option, None, Some}
use Rattle.elf_format.specs.declared.entries.ShownEntry.{ShownEntry}
use Rattle.elf_format.specs.declared.entries.ShownEntry.TheVariants as shown
use Rattle.elf_format.specs.declared.constants.TheConstants.{PT_GNU_STACK, PT_INTERP, SHT_PROGBITS}
use Rattle.elf_format.specs.File.{Opened, section_bytes, segment_of_type}
use Rattle.elf_format.specs.Form.{Form}
use Rattle.elf_format.specs.Records.{FileHeader, SectionHeader, SegmentHeader}
use Rattle.elf_format.specs.Views.{View, interpreter_section, tables_by_sections, view_of}
use Rattle.elf_format.specs.Dynamic.{Auto, Entry, Integer, Text, entries_at}
use Rattle.patch_bytes.specs.Memory.{◌>>=◌, memory_of}

-- an entry, seen without where its text lies
abbrev pub shown_entry_model : ShownEntry → Entry
shown_entry_model (shown.Auto tag) = Auto tag
shown_entry_model (shown.Integer tag value) = Integer tag value
shown_entry_model (shown.Text tag text) = Text tag text.now

-- the test by which the interpreter's section is found
abbrev pub is_interpreter : SegmentHeader → SectionHeader → Bool
is_interpreter p s = s.sh_type == SHT_PROGBITS && s.sh_offset == p.p_offset && s.sh_addr == p.p_vaddr && s.sh_size == p.p_filesz

-- an opened file, by its identification and its header
abbrev pub opened_model : List ℕ → Form × FileHeader → Opened
opened_model file x = record { file = file; form = x.0; header = x.1 }

-- the flags of the first PT_GNU_STACK, and the bytes of the interpreter's section
abbrev pub flags_of_stack : List SegmentHeader → Option ℕ
flags_of_stack segments = segment_of_type PT_GNU_STACK segments >>= (λ p. Some p.p_flags)

abbrev pub bytes_of_interpreter : List ℕ → List SegmentHeader → List SectionHeader → Option (List ℕ)
bytes_of_interpreter file segments sections = segment_of_type PT_INTERP segments >>= λ p. interpreter_section p sections >>= λ s. Some (section_bytes file s)

-- the section view, by what the headers show and by the dynamic section
abbrev pub view_by_dynamic : Form → List ℕ → View → List SectionHeader → Option SectionHeader → Option View
view_by_dynamic form file outline sections None = Some outline
view_by_dynamic form file outline sections (Some list) =
    entries_at (length file) form (memory_of (section_bytes file list)) 0 >>= λ raw. view_of form (length file) outline raw (tables_by_sections form file sections list)
