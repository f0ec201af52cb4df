-- The machine that an ELF file is for, by its first bytes alone, and its pages.
use Rattle.std.specs.Prelude.{ℕ, List, [], ◌∷◌, length, ◌&&◌, Option, Some, None, nat_le, if◌then◌else◌}
use Rattle.patch_bytes.specs.Memory.{◌>>=◌}
use Rattle.elf_format.specs.declared.constants.TheConstants.{EM_AARCH64, EM_ALPHA, EM_IA_64, EM_LOONGARCH, EM_MIPS, EM_PPC, EM_PPC64, EM_SPARC, EM_SPARCV9, EM_TILEGX}
use Rattle.elf_format.specs.File.{form_of}
use Rattle.elf_format.specs.Form.{fixed_field}
use Rattle.elf_format.specs.Options.{is_one_of}
use Rattle.elf_format.specs.Rules.{has_magic}

-- e_machine (gABI, ELF Header), where the identification is there and known
abbrev pub machine_of : List ℕ → Option ℕ
machine_of bytes = if nat_le 20 (length bytes) && has_magic bytes then (form_of bytes >>= λ form. Some (fixed_field form (18, 2) bytes)) else None

-- the pages of a machine, where nothing tells their size: 64 KiB, 8 KiB, or 4 KiB (gABI, ELF Header, e_machine)
abbrev pub default_page_size : ℕ → ℕ
default_page_size machine =
    if is_one_of (EM_ALPHA ∷ EM_IA_64 ∷ EM_MIPS ∷ EM_PPC ∷ EM_PPC64 ∷ EM_AARCH64 ∷ EM_TILEGX ∷ EM_LOONGARCH ∷ []) machine then 65536
    else if is_one_of (EM_SPARC ∷ EM_SPARCV9 ∷ []) machine then 8192
    else 4096
