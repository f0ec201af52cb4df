-- The name ends at a NUL, goes on, or ends with the bytes.
use Rattle.std.proofs.Common.{ℕ, ◌+◌, List, drop, ap, ◌∙◌, arith}
use Rattle.std.specs.Prelude.{fold}
use Rattle.elf_format.specs.Hashes.{gabi_hash, gabi_step}
use Rattle.elf_image.specs.FrontText.{front_text}
use Rattle.elf_tables.proofs.HashSteps.{byte_next, none_next, nul_next}
use Rattle.elf_tables.proofs.hash.sysv_hash_of_front.Goals as goal

pub returns-then-byte-eq0 : goal.returns-then-byte-eq0
unfolding gabi_hash
returns-then-byte-eq0 c =
    nul_next gabi_step c.args.bytes.now c.loop-byte.byte-index c.loop-byte.hash (fold gabi_step 0 (front_text c.args.bytes.now)) c.loop-byte.invariant (omega arith) c.if-byte-eq0.true

pub loop-byte-preserved : goal.loop-byte-preserved
loop-byte-preserved c =
    let rest : List ℕ = front_text (drop (c.loop-byte.byte-index + 1) c.args.bytes.now) in
    ap (λ (h : ℕ). fold gabi_step h rest) c.with_byte-hash.ensures
    ∙ byte_next gabi_step c.args.bytes.now c.loop-byte.byte-index c.loop-byte.hash (fold gabi_step 0 (front_text c.args.bytes.now)) c.loop-byte.invariant c.loop-byte-test.true c.if-byte-eq0.false

pub returns : goal.returns
unfolding gabi_hash
returns c = none_next gabi_step c.args.bytes.now c.loop-byte.byte-index c.loop-byte.hash (fold gabi_step 0 (front_text c.args.bytes.now)) c.loop-byte.invariant (omega arith)
