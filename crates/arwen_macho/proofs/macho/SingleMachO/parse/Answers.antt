use Rattle.std.proofs.Common.{ap, arith, ◌∙◌}
use Rattle.patch_bytes.specs.Bytes.{AreBytes}
use Rattle.macho_image.specs.Form.{commands_end, ctx_of}
use Rattle.macho_image.specs.Image.{Image}
use Rattle.arwen_macho.proofs.HeldLaws.{first_fields}
use Rattle.arwen_macho.proofs.macho.SingleMachO.parse.Goals as goal

pub invariant_of-result : goal.invariant_of-result
invariant_of-result c =
    let are : AreBytes c.args.bytes.now = record { each = λ i. omega (arith, c.type_inv.bytes i) } in
    let parsed = c.in_ok-inner.ensures in
    let high = c.commands_end-high.ensures ∙ ap (λ (i : Image). commands_end (ctx_of i.bytes) i.bytes) parsed.1 in
    (first_fields (record { source = c.args.bytes; inner = c.in_ok-inner.inner; high = c.commands_end-high.result }) parsed.0 are parsed.1 high).1

pub returns : goal.returns
returns c =
    let are : AreBytes c.args.bytes.now = record { each = λ i. omega (arith, c.type_inv.bytes i) } in
    let parsed = c.in_ok-inner.ensures in
    let high = c.commands_end-high.ensures ∙ ap (λ (i : Image). commands_end (ctx_of i.bytes) i.bytes) parsed.1 in
    (parsed.0, (first_fields (record { source = c.args.bytes; inner = c.in_ok-inner.inner; high = c.commands_end-high.result }) parsed.0 are parsed.1 high).0)
