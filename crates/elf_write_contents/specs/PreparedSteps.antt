-- What is made of an image that is written by a plan, before the contents of its sections.
use Rattle.std.specs.Prelude.{◌≡◌, true}
use Rattle.std.specs.List.{list_all}
use Rattle.elf_format.specs.Image.{Image}
use Rattle.elf_image.specs.Kept.{kept_sections}
use Rattle.elf_layout_plan.specs.Plan.{Plan, resized}
use Rattle.elf_write_spec.specs.Headers.{written_header}
use Rattle.elf_write_symbol_tables.specs.WrittenStrings.{AreStrings, strings_at}
use Rattle.elf_write_contents.specs.Inner.{AreHeaders, AreRaw}
use Rattle.elf_write_symbol_tables.specs.Fits.{do_section_relocations_fit}
use Rattle.elf_write_symbol_tables.specs.Renumbering.{IsRenumbering, do_symbols_fit}
use Rattle.elf_write_contents.specs.Numbers.{do_records_fit}
use Rattle.elf_write_contents.specs.declared.prepared.Prepared.{Prepared}

-- the string table, the headers and the dynamic entries of an image that is written by a plan, each number of which fits its field
pub record IsPrepared (read image : Image) (plan : Plan) (p : Prepared) : Type 0 where
  pub strings : AreStrings read image p.made.items
  pub renumbering : IsRenumbering read image p.renumbering
  pub header : p.header ≡ written_header image plan
  pub headers : AreHeaders (resized image) (strings_at image p.made.items image.header.e_shstrndx) (kept_sections image) plan.places p.headers.items
  pub raw : AreRaw (resized image) plan p.made.items p.raw.items
  pub fit : do_records_fit image.form (written_header image plan) plan.segments p.headers.items p.raw.items ≡ true
  pub symbols : do_symbols_fit read image ≡ true
  pub relocations : list_all (do_section_relocations_fit read image) (kept_sections image) ≡ true
