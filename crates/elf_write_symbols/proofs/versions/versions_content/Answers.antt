-- Versions are two bytes each.
use Rattle.std.proofs.Common.{ap, length, ◌∙◌}
use Rattle.std.specs.Prelude.{◌*◌}
use Rattle.patch_bytes.specs.ByteString.{StringValue}
use Rattle.elf_format.specs.Image.{Image}
use Rattle.elf_write_symbols.proofs.HashFacts.{length-final}
use Rattle.elf_write_symbols.proofs.ReadyFacts.{facts}
use Rattle.elf_write_symbols.proofs.versions.versions_content.Goals as goal

pub returns-then-keeps_dynamic_symbols-clause-sized : goal.returns-then-keeps_dynamic_symbols-clause-sized
returns-then-keeps_dynamic_symbols-clause-sized c =
    let read : Image = c.args.read.now in
    let image : Image = c.args.image.now in
    c.versions_copied.ensures.sized ∙ ap (λ n. 2 * n) (length-final read image c.requires.ready (facts read image c.requires.ready))

pub returns-clause-sized : goal.returns-clause-sized
returns-clause-sized c =
    let read : Image = c.args.read.now in
    let image : Image = c.args.image.now in
    ap (λ (v : StringValue). length v.bytes) c.owned.ensures ∙ c.in_ok-bytes.ensures.sized ∙ ap (λ n. 2 * n) (length-final read image c.requires.ready (facts read image c.requires.ready))
