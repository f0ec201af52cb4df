-- What `byteorder` writes is the number in its field.
use Rattle.std.proofs.Common.{◌≤◌, ◌-◌, ◌+◌, length, arith}
use Rattle.patch_bytes.specs.declared.number.ByteOrder2.TheVariants.{Big, Little}
use Rattle.patch_bytes.specs.Number.{bytes_of, with_number}
use Rattle.patch_bytes.proofs.NumberLemmas.{put_number}
use Rattle.patch_bytes.proofs.number.write_u16_at.Goals as goal

pub returns-in-Little : goal.returns-in-Little
unfolding with_number
returns-in-Little c =
    let inside : c.args.pos + 2 ≤ length c.args.bytes.now = omega arith in
    rw (c.in-Little.is, c.write_u16.ensures) (inside, put_number (bytes_of Little 2 c.args.value) c.args.bytes.now 2 c.args.pos (length c.args.bytes.now - c.args.pos) (omega arith) inside)

pub returns-in-Big : goal.returns-in-Big
unfolding with_number
returns-in-Big c =
    let inside : c.args.pos + 2 ≤ length c.args.bytes.now = omega arith in
    rw (c.in-Big.is, c.write_u16-in-Big.ensures) (inside, put_number (bytes_of Big 2 c.args.value) c.args.bytes.now 2 c.args.pos (length c.args.bytes.now - c.args.pos) (omega arith) inside)
