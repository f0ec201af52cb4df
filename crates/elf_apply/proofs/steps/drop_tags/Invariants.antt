use Rattle.std.proofs.Common.{◌≡◌, drop}
use Rattle.elf_apply.specs.Drafted.{with_tags_dropped}
use Rattle.elf_apply.proofs.steps.drop_tags.Given as goal

-- without the tags that are left, the image is as it is without all
abbrev pub invariant-loop-tag : goal.invariant-loop-tag
invariant-loop-tag l = with_tags_dropped (drop l.tag-index l.tags) l.builder ≡ with_tags_dropped l.tags l.fn.builder
