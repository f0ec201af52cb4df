use Rattle.std.proofs.Common.{◌≡◌, ◌-◌}
use Rattle.std.specs.List.{list_all}
use Rattle.elf_format.specs.Form.{records}
use Rattle.elf_format.specs.Versions.{version_id}
use Rattle.elf_image_versions.proofs.VersionSteps.{is_marked}
use Rattle.elf_image_versions.proofs.rule.are_marked.Given as goal

-- all records pass where the rest does
abbrev pub invariant-loop : goal.invariant-loop
invariant-loop l = list_all (is_marked l.marks) (records (version_id l.form) 2 (l.count - l.counter) l.rest) ≡ list_all (is_marked l.marks) (records (version_id l.form) 2 l.count l.bytes)
