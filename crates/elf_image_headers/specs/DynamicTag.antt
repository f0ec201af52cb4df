-- The tag of an entry of the dynamic list.
use Rattle.std.specs.Prelude.{ℕ}
use Rattle.elf_image_headers.specs.declared.dynamic.Dynamic.{Dynamic}
use Rattle.elf_image_headers.specs.declared.dynamic.Dynamic.TheVariants.{Auto, Integer, Text}

abbrev pub tag_of : Dynamic → ℕ
tag_of (Auto tag) = tag
tag_of (Integer tag val) = tag
tag_of (Text tag val) = tag
