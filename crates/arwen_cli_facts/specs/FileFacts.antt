-- What is told of a file of either format, by its first bytes.
use Rattle.std.specs.Prelude.{ℕ, ◌≡◌, ◌==◌, ◌&&◌, ◌||◌, Bool, true, false, List, length, map, nat_le, None}
use Rattle.patch_bytes.specs.Number.{number_at}
use Rattle.patch_bytes.specs.declared.number.ByteOrder2.TheVariants.{Little, Big}
use Rattle.elf_image.specs.Rules.{has_magic}
use Rattle.macho_image.specs.Fat.{archs_of}
use Rattle.macho_image.specs.declared.format.TheConstants.{MH_MAGIC, MH_MAGIC_64}
use Rattle.macho_edits.specs.State.{laid_bytes}
use Rattle.arwen_macho.specs.Found.{begins_fat, container_found}
use Rattle.arwen_macho.specs.declared.macho.MachoType.{MachoType}
use Rattle.arwen_macho.specs.declared.macho.MachoType.TheVariants.{Fat as FatType, SingleArch}
use Rattle.arwen_cli_facts.specs.ElfFacts.{AreElfFacts, ElfFacts, elf_model}
use Rattle.arwen_cli_facts.specs.MachoFacts.{MachoFacts, SliceFacts, macho_facts, macho_model, slice_facts, slice_told, told_slice}
use Rattle.arwen_cli_facts.specs.declared.summary.Summary.{Summary}
use Rattle.arwen_cli_facts.specs.declared.summary.Summary.TheVariants.{Elf, Fat, Macho}

pub data FileFacts : Type 0 where
  elf : ElfFacts → FileFacts
  macho : MachoFacts → FileFacts
  fat : List SliceFacts → FileFacts

-- what a summary holds
abbrev pub summary_model : Summary → FileFacts
summary_model (Elf s) = elf (elf_model s)
summary_model (Macho s) = macho (macho_model s)
summary_model (Fat slices) = fat (map slice_told slices.items)

-- the magic of a thin Mach-O file in either byte order (loader.h)
abbrev pub is_magic : ℕ → Bool
is_magic magic = magic == MH_MAGIC || magic == MH_MAGIC_64

abbrev pub has_thin_magic : List ℕ → Bool
has_thin_magic bytes = nat_le 4 (length bytes) && (is_magic (number_at Little 4 0 bytes) || is_magic (number_at Big 4 0 bytes))

-- the magic of a fat or of a thin Mach-O file
abbrev pub begins_macho : List ℕ → Bool
begins_macho bytes = begins_fat bytes || has_thin_magic bytes

-- the facts of a Mach-O file that is accepted
abbrev pub AreMachoFacts : List ℕ → FileFacts → Type 0
AreMachoFacts bytes (elf facts) = ⊥
AreMachoFacts bytes (macho facts) = (container_found bytes ≡ None) × (begins_fat bytes ≡ false) × (facts ≡ macho_facts bytes)
AreMachoFacts bytes (fat slices) = (container_found bytes ≡ None) × (begins_fat bytes ≡ true) × (slices ≡ map (slice_facts bytes) (archs_of bytes))

-- the facts of a file that is accepted, of the format that its magic tells
abbrev pub AreFactsOf : List ℕ → FileFacts → Type 0
AreFactsOf bytes (elf facts) = (has_magic bytes ≡ true) × AreElfFacts bytes facts
AreFactsOf bytes (macho facts) = (has_magic bytes ≡ false) × AreMachoFacts bytes (macho facts)
AreFactsOf bytes (fat slices) = (has_magic bytes ≡ false) × AreMachoFacts bytes (fat slices)

-- the facts of a Mach-O file under edits: those of its bytes
abbrev pub container_facts : MachoType → FileFacts
container_facts (SingleArch held) = macho (macho_facts (laid_bytes held.state))
container_facts (FatType held) = fat (map told_slice held.state.slices)
