-- Numbers of an image that don't fit: those of one part of it are enough.
use Rattle.std.proofs.Common.{◌≡◌, Bool, false}
use Rattle.std.specs.Prelude.{◌&&◌}
use Rattle.std.specs.List.{list_all}
use Rattle.std.proofs.lemmas.Bool.{and_left, and_right}
use Rattle.elf_format.specs.Image.{Image}
use Rattle.elf_image.specs.Kept.{image_at_read, kept_sections}
use Rattle.elf_layout_plan.specs.Plan.{Plan}
use Rattle.elf_write_symbol_tables.specs.WrittenStrings.{do_names_reach}
use Rattle.elf_write_symbol_tables.specs.Fits.{do_section_relocations_fit}
use Rattle.elf_write_symbol_tables.specs.Renumbering.{do_symbols_fit}
use Rattle.elf_write_contents.specs.Numbers.{do_header_numbers_fit, do_numbers_fit}

module _ (image : Image) (plan : Plan) where
  headers : Bool
  headers = do_header_numbers_fit image plan

  names : Bool
  names = do_names_reach (image_at_read image) image

  symbols : Bool
  symbols = do_symbols_fit (image_at_read image) image

  relocations : Bool
  relocations = list_all (do_section_relocations_fit (image_at_read image) image) (kept_sections image)

  -- of headers and of the dynamic list
  pub headers_unfit : do_header_numbers_fit image plan ≡ false → do_numbers_fit image plan ≡ false
  unfolding do_numbers_fit headers names symbols relocations
  headers_unfit far =
      and_left (headers && names && symbols) relocations (and_left (headers && names) symbols (and_left headers names far))

  -- offsets of texts in dynamic strings that are copied
  pub names_unfit : do_names_reach (image_at_read image) image ≡ false → do_numbers_fit image plan ≡ false
  unfolding do_numbers_fit headers names symbols relocations
  names_unfit far =
      and_left (headers && names && symbols) relocations (and_left (headers && names) symbols (and_right headers names far))

  -- numbers of dynamic symbols in hash tables
  pub symbols_unfit : do_symbols_fit (image_at_read image) image ≡ false → do_numbers_fit image plan ≡ false
  unfolding do_numbers_fit headers names symbols relocations
  symbols_unfit far = and_left (headers && names && symbols) relocations (and_right (headers && names) symbols far)

  -- new numbers of dynamic symbols in relocations
  pub relocations_unfit : list_all (do_section_relocations_fit (image_at_read image) image) (kept_sections image) ≡ false
      → do_numbers_fit image plan ≡ false
  unfolding do_numbers_fit headers names symbols relocations
  relocations_unfit far = and_right (headers && names && symbols) relocations far
