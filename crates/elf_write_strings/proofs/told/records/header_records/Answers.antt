-- The header tables are those of the file that was read.
use Rattle.elf_image_rules.specs.Read.{parts_model}
use Rattle.elf_write_strings.proofs.ReadTables.{headers_stand}
use Rattle.elf_write_strings.proofs.told.records.header_records.Goals as goal

pub returns : goal.returns
returns c =
    headers_stand c.args.read.now c.requires.unedited (parts_model c.in_ok-headers_of.field-0) c.in_ok-headers_of.ensures
    c.sections_of.result.items c.sections_of.ensures
