-- The table is as long as the plan says, anew or as it was read.
use Rattle.std.proofs.Common.{Option, ap, sym, subst, refl, length, ◌∙◌}
use Rattle.patch_bytes.specs.ByteString.{StringValue}
use Rattle.elf_format.specs.declared.constants.TheConstants.{SHT_HASH}
use Rattle.elf_format.specs.Image.{Image}
use Rattle.elf_image.specs.ImageModel.{section_model}
use Rattle.elf_write_symbols.specs.declared.renumbering.Reordering.{Reordering}
use Rattle.elf_write_symbols.specs.Renumbering.{IsReordering, IsReorderingFor}
use Rattle.elf_write_symbols.proofs.HashFacts.{gabi_sized, size_stays}
use Rattle.elf_write_symbols.proofs.ReadyFacts.{facts, section_here, sized}
use Rattle.elf_write_symbols.proofs.hashes.gabi_content.Goals as goal

pub returns-in_default-clause-sized : goal.returns-in_default-clause-sized
returns-in_default-clause-sized c =
    let read : Image = c.args.read.now in
    let image : Image = c.args.image.now in
    let f = facts read image c.requires.ready in
    let s = section_model c.args.section.now in
    let r = section_here read image f SHT_HASH s c.requires.at in
    ap (λ (v : StringValue). length v.bytes) c.borrowed.ensures ∙ sized read image f SHT_HASH s r refl
    ∙ sym (size_stays read image c.requires.ready f s (subst (λ (o : Option Reordering). IsReorderingFor read image o) c.in_default.is c.requires.reordering))

pub returns-clause-sized : goal.returns-clause-sized
returns-clause-sized c =
    let read : Image = c.args.read.now in
    let image : Image = c.args.image.now in
    let f = facts read image c.requires.ready in
    let s = section_model c.args.section.now in
    let is : IsReordering read image c.in-Some.reordering = subst (λ (o : Option Reordering). IsReorderingFor read image o) c.in-Some.is c.requires.reordering in
    ap (λ (v : StringValue). length v.bytes) c.owned.ensures
    ∙ gabi_sized read image c.requires.ready f s c.in_ok-bytes.bytes.items is.changed c.requires.at.typed c.in_ok-bytes.ensures
