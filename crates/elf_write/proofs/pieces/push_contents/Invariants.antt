use Rattle.byte_store.specs.Laid.{patches_of}
use Rattle.patch_bytes.specs.ByteString.{bytes_of_each}
use Rattle.elf_image.specs.Kept.{kept_sections}
use Rattle.elf_layout_plan.specs.Plan.{resized}
use Rattle.elf_write.proofs.LayingWhole.{IsPushedTo}
use Rattle.elf_write.proofs.pieces.push_contents.Given as goal

-- the pieces of the sections so far are there
abbrev pub invariant-loop-i : goal.invariant-loop-i
invariant-loop-i l = IsPushedTo (resized l.image) (kept_sections l.image) l.plan.places (bytes_of_each l.contents) l.i
    (patches_of l.initial.pieces.items) (patches_of l.pieces.items)
