use Rattle.std.proofs.Common.{List, ℕ, subst, arith}
use Rattle.patch_bytes.specs.Bytes.{AreBytes}
use Rattle.elf_image.specs.ImageModel.{section_model}
use Rattle.elf_write_spec.proofs.ForCallers.VersionBytes.{versions_stay}
use Rattle.elf_write_symbol_tables.proofs.ForCallers.ReadTables.{ready_edit}
use Rattle.elf_write_contents.proofs.contents.show_versions.Goals as goal

pub returns : goal.returns
returns c =
    let content : AreBytes c.args.content.now = record { each = λ i. omega (arith, c.type_inv.content i) } in
    let bytes : AreBytes c.args.bytes.now = record { each = λ i. omega (arith, c.type_inv.bytes i) } in
    versions_stay c.args.read.now c.args.image.now (ready_edit c.requires.ready) c.requires.at.position (section_model c.args.section.now)
    c.requires.at.there c.requires.at.typed (subst (λ (l : List ℕ). AreBytes l) c.requires.content content) c.args.bytes.now bytes c.requires.versions
