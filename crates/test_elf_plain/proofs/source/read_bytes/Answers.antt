-- One byte after another.
use Rattle.std.proofs.Common.{◌+◌, ◌-◌, ap, ◌∙◌, sym}
use Rattle.patch_bytes.specs.Memory.{Memory, bytes_at}
use Rattle.test_elf_plain.specs.PlainViews.{source_model}
use Rattle.elf_format.proofs.ReadingSteps.{with_front}
use Rattle.test_elf_plain.proofs.SourceSteps.{byte_absent, byte_goes, bytes_done}
use Rattle.test_elf_plain.proofs.source.read_bytes.Goals as goal

pub returns-in_default : goal.returns-in_default
returns-in_default c =
    let m : Memory = source_model c.args.source.now in
    byte_absent m c.loop-i.made.items c.args.count c.loop-i.i c.args.place (bytes_at c.args.count m c.args.place) c.loop-i-test.true (sym c.read_byte.ensures ∙ c.in_default.is) c.loop-i.invariant

pub loop-i-preserved : goal.loop-i-preserved
loop-i-preserved c =
    let m : Memory = source_model c.args.source.now in
    ap (λ l. with_front l (bytes_at (c.args.count - (c.loop-i.i + 1)) m (c.args.place + (c.loop-i.i + 1)))) c.in_ok-push.ensures.items
    ∙ byte_goes m c.loop-i.made.items c.args.count c.loop-i.i c.args.place c.in-Some.next (bytes_at c.args.count m c.args.place) c.loop-i-test.true (sym c.read_byte.ensures ∙ c.in-Some.is) c.loop-i.invariant

pub returns : goal.returns
returns c =
    let m : Memory = source_model c.args.source.now in
    bytes_done m c.loop-i.made.items c.args.count c.loop-i.i c.args.place (bytes_at c.args.count m c.args.place) c.loop-i-test.false c.loop-i.invariant
