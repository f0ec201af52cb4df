use Rattle.std.proofs.Common.{◌≡◌, ◌≤◌, ◌-◌, ◌*◌, length}
use Rattle.elf_format.specs.Form.{records}
use Rattle.elf_image_flaws.specs.Flaws.{first_told}
use Rattle.elf_image_flaws.proofs.records.first_told.Given as goal

-- what is told of those that are left is told of all
abbrev pub invariant-loop-number : goal.invariant-loop-number
invariant-loop-number g l = record {
  room : (l.count - l.number) * l.size ≤ length l.rest;
  same : first_told (g.T.RecordTest.told l.test) l.number (records (λ r. r) l.size (l.count - l.number) l.rest) ≡ first_told (g.T.RecordTest.told l.test) 0 (records (λ r. r) l.size l.count l.bytes);
}
