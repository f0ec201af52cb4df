use Rattle.std.proofs.Common.{◌≡◌, ◌++◌, filter, map, not, take}
use Rattle.std.specs.List.{filter_map}
use Rattle.elf_edits.specs.Shrunk.{stays}
use Rattle.elf_edits_shrink.specs.ShrinkModel.{removal_if, search_model, removal_model}
use Rattle.elf_edits.specs.Texts.{has_some, joined_by_colons}
use Rattle.elf_edits_shrink.proofs.search.Search.shrink_parts.Given as goal

-- the directories so far: those that stay, whether there is one, and those that go
abbrev pub invariant-loop-part : goal.invariant-loop-part
invariant-loop-part l = record {
  text : l.made.items ≡ joined_by_colons (filter (stays (search_model l.self)) (map (λ part. part.now) (take l.part-index l.parts)));
  first : l.is_first ≡ not (has_some (filter (stays (search_model l.self)) (map (λ part. part.now) (take l.part-index l.parts))));
  gone : map removal_model l.removed.items ≡ map removal_model l.initial.removed.items ++ filter_map (removal_if (search_model l.self)) (map (λ part. part.now) (take l.part-index l.parts));
}
