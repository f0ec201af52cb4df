-- A field's number is the number that its bytes spell, and is below the power of their count.
use Rattle.std.proofs.Common.{ap, arith, ◌∙◌, ◌≡◌, ◌<◌, ◌^◌, subst, sym}
use Rattle.patch_bytes.specs.Bytes.{AreBytes}
use Rattle.patch_bytes.specs.Number.{high_first_value, low_first_value, number_at}
use Rattle.patch_bytes.specs.declared.number.ByteOrder2.TheVariants.{Big, Little}
use Rattle.elf_format.proofs.NumberSteps.{number_at-below}
use Rattle.elf_format.proofs.numbers.number_in.Goals as goal

pub returns-in-Little : goal.returns-in-Little
unfolding number_at
returns-in-Little c =
    let are : AreBytes c.args.bytes.now = record { each = λ i. omega (arith, c.type_inv.bytes i) } in
    let is : c.low_first.result ≡ number_at Little c.args.place.1 c.args.place.0 c.args.bytes.now = c.low_first.ensures ∙ ap low_first_value c.part-field.ensures in
    let below : number_at Little c.args.place.1 c.args.place.0 c.args.bytes.now < 256 ^ c.args.place.1 = number_at-below Little c.args.place.1 c.args.place.0 c.args.bytes.now are in
    record { value = rw c.in-Little.is is; below = subst (λ n. n < 256 ^ c.args.place.1) (sym is) below }

pub returns-in-Big : goal.returns-in-Big
unfolding number_at
returns-in-Big c =
    let are : AreBytes c.args.bytes.now = record { each = λ i. omega (arith, c.type_inv.bytes i) } in
    let is : c.high_first.result ≡ number_at Big c.args.place.1 c.args.place.0 c.args.bytes.now = c.high_first.ensures ∙ ap high_first_value c.part-field.ensures in
    let below : number_at Big c.args.place.1 c.args.place.0 c.args.bytes.now < 256 ^ c.args.place.1 = number_at-below Big c.args.place.1 c.args.place.0 c.args.bytes.now are in
    record { value = rw c.in-Big.is is; below = subst (λ n. n < 256 ^ c.args.place.1) (sym is) below }
