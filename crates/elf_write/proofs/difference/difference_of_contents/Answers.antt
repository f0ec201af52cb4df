use Rattle.std.proofs.Common.{◌∙◌, ℕ, List, ap, subst, sym}
use Rattle.patch_bytes.specs.Bytes.{AreBytes}
use Rattle.byte_store.specs.Composed.{made_of}
use Rattle.patch_bytes.specs.ByteString.{bytes_of_each}
use Rattle.elf_format.specs.declared.records.EntryNumbers.{EntryNumbers}
use Rattle.elf_format.specs.declared.records.SectionHeader.{SectionHeader}
use Rattle.elf_write_contents.specs.Output.{IsPlannedOutput, written_bytes}
use Rattle.elf_write_contents.specs.Inner.{output_of}
use Rattle.elf_write.proofs.Writes.{are_written, is_planned_file}
use Rattle.elf_write.proofs.difference.difference_of_contents.Goals as goal

pub laid_difference-requires-clause-output : goal.laid_difference-requires-clause-output
laid_difference-requires-clause-output c =
    let p = c.requires.prepared in
    let source : AreBytes c.args.image.now.source = subst (λ (l : List ℕ). AreBytes l) c.source.ensures.source c.show_bytes.ensures in
    subst (λ (hs : List SectionHeader).
    (raw : List EntryNumbers) × IsPlannedOutput (output_of c.args.image.now c.args.plan.now hs (bytes_of_each c.args.contents.now) raw))
    (sym c.deref.ensures.value)
    (are_written c.args.read.now c.args.image.now c.args.plan.now c.args.prepared.now.made.items c.args.prepared.now.raw.items
    (bytes_of_each c.args.contents.now) c.requires.planned c.requires.contents source c.args.prepared.now.headers.items c.requires.apart p.raw p.headers p.fit p.symbols)

pub returns-clause-written : goal.returns-clause-written
returns-clause-written c =
    let p = c.requires.prepared in
    let source : AreBytes c.args.image.now.source = subst (λ (l : List ℕ). AreBytes l) c.source.ensures.source c.show_bytes.ensures in
    is_planned_file c.args.read.now c.args.image.now c.args.plan.now c.args.prepared.now.made.items c.args.prepared.now.raw.items
    (bytes_of_each c.args.contents.now) c.requires.planned c.requires.contents source c.args.prepared.now.headers.items
    (made_of c.args.image.now.source c.in_ok-difference.difference) c.requires.apart p.raw p.headers p.fit p.symbols
    (c.in_ok-difference.ensures.makes c.args.prepared.now.raw.items
    ∙ ap (λ (hs : List SectionHeader).
    written_bytes (output_of c.args.image.now c.args.plan.now hs (bytes_of_each c.args.contents.now) c.args.prepared.now.raw.items)) c.deref.ensures.value)
