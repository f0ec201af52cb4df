-- What is told of the users of texts.
use Rattle.std.specs.Prelude.{◌≡◌}
use Rattle.elf_format.specs.declared.constants.TheConstants.{SHT_DYNAMIC, SHT_DYNSYM, SHT_GNU_VERDEF, SHT_GNU_VERNEED, SHT_SYMTAB}
use Rattle.elf_format.specs.Image.{Image}
use Rattle.elf_image.specs.Kept.{link_of_type}
use Rattle.elf_layout_sizes.specs.declared.links.Links.{Links}

-- the string tables that the users of an image's texts link to
pub record AreLinks (image : Image) (links : Links) : Type 0 where
  pub dynamic : links.dynamic ≡ link_of_type SHT_DYNAMIC image
  pub dynamic_symbols : links.dynamic_symbols ≡ link_of_type SHT_DYNSYM image
  pub definitions : links.definitions ≡ link_of_type SHT_GNU_VERDEF image
  pub needs : links.needs ≡ link_of_type SHT_GNU_VERNEED image
  pub symbols : links.symbols ≡ link_of_type SHT_SYMTAB image
