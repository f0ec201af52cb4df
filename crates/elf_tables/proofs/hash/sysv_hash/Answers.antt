use Rattle.std.proofs.Common.{ℕ, List, ◌∙◌, sym, arith}
use Rattle.std.specs.Prelude.{fold}
use Rattle.std.proofs.lemmas.List.{at_drop_all}
use Rattle.elf_format.specs.Hashes.{gabi_hash, gabi_step}
use Rattle.elf_tables.proofs.hash.sysv_hash.Goals as goal

pub returns : goal.returns
unfolding gabi_hash
returns c = sym (at_drop_all (λ (bytes : List ℕ). fold gabi_step c.loop-byte.hash bytes) c.args.name.now c.loop-byte.byte-index (omega arith)) ∙ c.loop-byte.invariant
