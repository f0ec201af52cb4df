use Rattle.std.proofs.Common.{ℕ, List, ◌∙◌, sym, arith}
use Rattle.std.specs.Prelude.{fold}
use Rattle.std.proofs.lemmas.List.{at_drop_all}
use Rattle.elf_format.specs.Hashes.{gnu_hash}
use Rattle.elf_tables.proofs.HashSteps.{gnu_step}
use Rattle.elf_tables.proofs.hash.gnu_hash.Goals as goal

pub returns : goal.returns
unfolding gnu_hash
returns c = sym (at_drop_all (λ (bytes : List ℕ). fold gnu_step c.loop-byte.hash bytes) c.args.name.now c.loop-byte.byte-index (omega arith)) ∙ c.loop-byte.invariant
