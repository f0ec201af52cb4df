-- One byte after another, up to the NUL.
use Rattle.std.proofs.Common.{◌+◌, ◌-◌, ap, ◌∙◌, sym}
use Rattle.patch_bytes.specs.Memory.{Memory, text_at}
use Rattle.test_elf_plain.specs.PlainViews.{source_model}
use Rattle.elf_format.proofs.ReadingSteps.{with_front}
use Rattle.test_elf_plain.proofs.SourceSteps.{letter_absent, letter_goes, text_ended, text_endless}
use Rattle.test_elf_plain.proofs.source.read_text.Goals as goal

pub returns-in_default : goal.returns-in_default
returns-in_default c =
    let m : Memory = source_model c.args.source.now in
    letter_absent m c.loop-i.made.items c.args.room c.loop-i.i c.args.place (text_at c.args.room m c.args.place) c.loop-i-test.true (sym c.read_byte.ensures ∙ c.in_default.is) c.loop-i.invariant

pub returns-then-next-eq0 : goal.returns-then-next-eq0
returns-then-next-eq0 c =
    let m : Memory = source_model c.args.source.now in
    text_ended m c.loop-i.made.items c.args.room c.loop-i.i c.args.place c.in-Some.next (text_at c.args.room m c.args.place) c.loop-i-test.true (sym c.read_byte.ensures ∙ c.in-Some.is) c.if-next-eq0.true c.loop-i.invariant

pub loop-i-preserved : goal.loop-i-preserved
loop-i-preserved c =
    let m : Memory = source_model c.args.source.now in
    ap (λ l. with_front l (text_at (c.args.room - (c.loop-i.i + 1)) m (c.args.place + (c.loop-i.i + 1)))) c.in_ok-push.ensures.items
    ∙ letter_goes m c.loop-i.made.items c.args.room c.loop-i.i c.args.place c.in-Some.next (text_at c.args.room m c.args.place) c.loop-i-test.true (sym c.read_byte.ensures ∙ c.in-Some.is) c.if-next-eq0.false c.loop-i.invariant

pub returns : goal.returns
returns c =
    let m : Memory = source_model c.args.source.now in
    text_endless m c.loop-i.made.items c.args.room c.loop-i.i c.args.place (text_at c.args.room m c.args.place) c.loop-i-test.false c.loop-i.invariant
