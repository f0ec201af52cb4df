-- One section more.
use Rattle.std.proofs.Common.{◌<◌, length, arith}
use Rattle.std.proofs.lemmas.List.{length-map}
use Rattle.elf_image.specs.declared.section.Section.{Section}
use Rattle.elf_image.specs.ImageModel.{section_model}
use Rattle.elf_write_strings.proofs.TellsPlaced.{name_here, names_up_to, section_at_place, sections_told}
use Rattle.elf_write_strings.proofs.VersionsPlacing.{more-trans}
use Rattle.elf_write_strings.proofs.told.placed.place_sections.Goals as goal

pub place_text-requires : goal.place_text-requires
place_text-requires c =
    let headed : c.loop-i.i < length c.args.headers.now =
    omega (arith, c.loop-i-test.true, c.requires.count, length-map c.args.sections.now section_model) in
    section_at_place c.args.table.now c.loop-i.table c.args.sections.now c.args.headers.now c.loop-i.i c.index-sections-i.result
    (record { sh_name = 0; sh_type = 0; sh_flags = 0; sh_addr = 0; sh_offset = 0; sh_size = 0; sh_link = 0; sh_info = 0; sh_addralign = 0; sh_entsize = 0 })
    c.as_slice.result.now c.requires c.loop-i.invariant.more c.loop-i-test.true headed c.index-sections-i.is c.as_slice.ensures

pub loop-i-preserved : goal.loop-i-preserved
loop-i-preserved c = record {
  more = more-trans c.args.table.now c.loop-i.table c.place_text.new.table c.loop-i.invariant.more c.in_ok-place_text.ensures.more;
  told = names_up_to (λ (s : Section). (section_model s).name) c.loop-i.table c.place_text.new.table c.args.sections.now c.loop-i.i
      c.as_slice.result.now c.in_ok-place_text.ensures.more c.loop-i.invariant.told
      (name_here c.args.sections.now c.loop-i.i c.index-sections-i.result c.as_slice.result.now c.loop-i-test.true c.index-sections-i.is
      c.as_slice.ensures) c.in_ok-place_text.ensures.told;
}

pub returns-clause-told : goal.returns-clause-told
returns-clause-told c =
    sections_told c.loop-i.table c.args.sections.now (λ k d within. c.loop-i.invariant.told k d (omega (arith, within)))
