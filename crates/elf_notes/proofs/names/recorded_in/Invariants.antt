use Rattle.std.proofs.Common.{◌≡◌, ◌++◌, drop, map}
use Rattle.elf_image.specs.ImageModel.{needs_model}
use Rattle.elf_notes.proofs.names.recorded_in.Given as goal

-- the names so far, with those of the records that are left
abbrev pub invariant-loop-need : goal.invariant-loop-need
invariant-loop-need l = map (λ n. n.now) l.names.items ++ map (λ n. n.file) (map needs_model (drop l.need-index l.needs)) ≡ map (λ n. n.file) (map needs_model l.needs)
