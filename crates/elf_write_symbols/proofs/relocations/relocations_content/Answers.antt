-- Relocations have as many bytes as their section tells.
use Rattle.std.proofs.Common.{ap, length, ◌∙◌}
use Rattle.patch_bytes.specs.ByteString.{StringValue}
use Rattle.elf_format.specs.Image.{Image}
use Rattle.elf_image.specs.ImageModel.{section_model}
use Rattle.elf_write_symbols.proofs.ReadyFacts.{facts, section_here}
use Rattle.elf_write_symbols.proofs.RelocationFacts.{relocations_sized}
use Rattle.elf_write_symbols.proofs.relocations.relocations_content.Goals as goal

pub returns-in_default-clause-sized : goal.returns-in_default-clause-sized
returns-in_default-clause-sized c =
    let read : Image = c.args.read.now in
    let image : Image = c.args.image.now in
    let f = facts read image c.requires.ready in
    let s = section_model c.args.section.now in
    let r = section_here read image f s.sh_type s c.requires.at in
    ap (λ (v : StringValue). length v.bytes) c.borrowed.ensures ∙ relocations_sized read image f s.sh_type s r c.requires.kind

pub returns-clause-sized : goal.returns-clause-sized
returns-clause-sized c =
    let read : Image = c.args.read.now in
    let image : Image = c.args.image.now in
    let f = facts read image c.requires.ready in
    let s = section_model c.args.section.now in
    let r = section_here read image f s.sh_type s c.requires.at in
    ap (λ (v : StringValue). length v.bytes) c.owned.ensures ∙ c.in_ok-bytes.ensures.long
    ∙ relocations_sized read image f s.sh_type s r c.requires.kind
