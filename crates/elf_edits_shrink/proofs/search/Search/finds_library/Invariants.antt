use Rattle.std.proofs.Common.{◌≡◌, ◌==◌, drop, map}
use Rattle.std.specs.List.{list_any}
use Rattle.elf_image.specs.Options.{is_some_and}
use Rattle.elf_edits.specs.Shrunk.{is_found_in}
use Rattle.elf_edits_shrink.specs.ShrinkModel.{search_model, machine_in}
use Rattle.elf_edits_shrink.proofs.search.Search.finds_library.Given as goal

-- no library so far was found
abbrev pub invariant-loop-name : goal.invariant-loop-name
invariant-loop-name l = is_found_in (search_model l.self) l.directory ≡ list_any (λ name. is_some_and (λ m. m == l.self.machine) (machine_in l.self.found.entries l.directory name)) (map (λ x. x.now) (drop l.name-index l.name-items))
