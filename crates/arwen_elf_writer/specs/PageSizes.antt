-- The page size that an image is laid out for.
use Rattle.std.specs.Prelude.{ℕ, unwrap_or}
use Rattle.elf_format.specs.Machine.{default_page_size}
use Rattle.elf_image.specs.Image.{Image}

-- the page size that was set, else the default one of the image's machine
abbrev pub page_size_for : Image → ℕ
page_size_for image = unwrap_or image.page_size (default_page_size image.header.e_machine)
