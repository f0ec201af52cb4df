-- The name ends at a NUL, goes on, or ends with the bytes.
use Rattle.std.proofs.Common.{ℕ, ◌+◌, List, drop, ap, ◌∙◌, arith}
use Rattle.std.specs.Prelude.{fold}
use Rattle.elf_format.specs.Hashes.{gnu_hash}
use Rattle.elf_image.specs.FrontText.{front_text}
use Rattle.elf_tables.proofs.HashSteps.{byte_next, gnu_step, none_next, nul_next}
use Rattle.elf_tables.proofs.hash.gnu_hash_of_front.Goals as goal

pub returns-then-byte-eq0 : goal.returns-then-byte-eq0
unfolding gnu_hash
returns-then-byte-eq0 c =
    nul_next gnu_step c.args.bytes.now c.loop-byte.byte-index c.loop-byte.hash (fold gnu_step 5381 (front_text c.args.bytes.now)) c.loop-byte.invariant (omega arith) c.if-byte-eq0.true

pub loop-byte-preserved : goal.loop-byte-preserved
loop-byte-preserved c =
    let rest : List ℕ = front_text (drop (c.loop-byte.byte-index + 1) c.args.bytes.now) in
    ap (λ (h : ℕ). fold gnu_step h rest) c.with_gnu_byte-hash.ensures
    ∙ byte_next gnu_step c.args.bytes.now c.loop-byte.byte-index c.loop-byte.hash (fold gnu_step 5381 (front_text c.args.bytes.now)) c.loop-byte.invariant c.loop-byte-test.true c.if-byte-eq0.false

pub returns : goal.returns
unfolding gnu_hash
returns c = none_next gnu_step c.args.bytes.now c.loop-byte.byte-index c.loop-byte.hash (fold gnu_step 5381 (front_text c.args.bytes.now)) c.loop-byte.invariant (omega arith)
