-- A range is there where it ends within the bytes.
use Rattle.std.proofs.Common.{◌≡◌, ◌<◌, ◌+◌, ◌-◌, ℕ, List, [], length, take, drop, refl, sym, ap, ◌∙◌, Some, arith}
use Rattle.patch_bytes.specs.Memory.{bytes_at, memory_of}
use Rattle.patch_bytes.proofs.MemoryLaws.{bytes_at-memory_of}
use Rattle.elf_format.proofs.TableSteps.{bytes_at-past}
use Rattle.elf_format.proofs.tables.range.Goals as goal
use Rattle.elf_format.proofs.tables.range.Goals.{then-place-length-via-else-place-length+then-size-length, then-place-length-via-then-place-length}

empty_range : (place : ℕ) (bytes : List ℕ) → bytes_at 0 (memory_of bytes) place ≡ Some []
unfolding bytes_at
empty_range place bytes = refl

pub returns-then-size-eq0-clause-shown : goal.returns-then-size-eq0-clause-shown
returns-then-size-eq0-clause-shown c = ap (λ n. bytes_at n (memory_of c.args.bytes.now) c.args.place) c.if-size-eq0.true ∙ empty_range c.args.place c.args.bytes.now

past : (c : goal.Joined-then-place-length) → length c.args.bytes.now < c.args.place + c.args.size
past c = elim c.then-place-length.branch [
  | then-place-length-via-then-place-length w ↦ omega arith
  | then-place-length-via-else-place-length+then-size-length w ↦ omega arith
]

pub returns-then-place-length-clause-shown : goal.returns-then-place-length-clause-shown
returns-then-place-length-clause-shown c =
    bytes_at-past c.args.size c.args.place c.args.bytes.now (omega arith) (past c)

pub returns-clause-shown : goal.returns-clause-shown
returns-clause-shown c =
    let same : c.args.place + c.args.size - c.args.place ≡ c.args.size = omega arith in
    bytes_at-memory_of c.args.size c.args.place c.args.bytes.now (omega arith)
    ∙ ap (λ n. Some (take n (drop c.args.place c.args.bytes.now))) (sym same)
