use Rattle.std.proofs.Common.{subst, arith}
use Rattle.patch_bytes.specs.Bytes.{AreBytes}
use Rattle.elf_write_strings.proofs.VersionsFew.{few_written}
use Rattle.elf_write_strings.proofs.versions.records.count_versions.Goals as goal

pub returns : goal.returns
returns c =
    let are : AreBytes c.args.source.now = record { each = λ i. omega (arith, c.type_inv.source i) } in
    few_written c.args.read.now c.args.image.now c.requires.ready.edited (subst AreBytes c.requires.source are)
