-- The symbols are those that were read, and stand as they stood.
use Rattle.std.proofs.Common.{ℕ, List, ap, sym, subst}
use Rattle.patch_bytes.specs.ByteString.{StringValue}
use Rattle.elf_format.specs.Image.{Image}
use Rattle.elf_hashes.specs.Versions.{AreVersionsOf}
use Rattle.elf_image.specs.ImageModel.{section_model}
use Rattle.elf_write_spec.specs.Final.{final}
use Rattle.elf_write_symbols.proofs.FinalOrder.{read_versions}
use Rattle.elf_write_symbols.proofs.ReadyFacts.{facts}
use Rattle.elf_write_symbols.proofs.VersionFacts.{copied}
use Rattle.elf_write_symbols.proofs.versions.versions_copied.Goals as goal

pub returns : goal.returns
returns c =
    let read : Image = c.args.read.now in
    let image : Image = c.args.image.now in
    let s = section_model c.args.section.now in
    subst (λ (bytes : List ℕ). AreVersionsOf image.form (final read image).dynamic_symbols bytes)
    (sym (ap (λ (v : StringValue). v.bytes) c.borrowed.ensures))
    (read_versions read image c.requires.ready (facts read image c.requires.ready) s.content c.requires.same.symbols
    (copied read image c.requires.ready s c.requires.at))
