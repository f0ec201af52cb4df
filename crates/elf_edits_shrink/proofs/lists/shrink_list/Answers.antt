-- Directories are judged by the answers, the first for each pair.
use Rattle.std.proofs.Common.{◌∙◌, ap, map, ◌++◌}
use Rattle.elf_image.specs.ImageModel.{entry_model}
use Rattle.elf_edits.specs.EditModel.{texts_model}
use Rattle.elf_edits_shrink.specs.ShrinkModel.{answer_model}
use Rattle.elf_edits.specs.Entries.{directories_removed, needed_names, with_run_paths_shrunk}
use Rattle.elf_edits.specs.Shrunk.{Search, machine_found}
use Rattle.elf_edits_shrink.specs.ShrinkModel.{machine_in, removal_model}
use Rattle.elf_edits_shrink.proofs.ShrinkSteps.{same_search, search_with}
use Rattle.elf_edits_shrink.proofs.lists.shrink_list.Goals as goal

pub returns-clause-list : goal.returns-clause-list
returns-clause-list c =
    let es = map entry_model c.args.entries.now in
    c.in_ok-entries.ensures.entries
    ∙ ap (λ (s : Search). with_run_paths_shrunk s es) (same_search (texts_model c.args.prefixes.now) (needed_names es) (map (λ x. x.now) c.in_ok-needed.needed.items) c.args.machine (machine_in c.in_ok-found.found.entries) (machine_found (map answer_model c.args.answers.now)) c.in_ok-needed.ensures c.in_ok-found.ensures)

pub returns-clause-gone : goal.returns-clause-gone
returns-clause-gone c =
    let es = map entry_model c.args.entries.now in
    c.in_ok-entries.ensures.gone
    ∙ ap (λ l. map removal_model l ++ directories_removed (search_with (texts_model c.args.prefixes.now) (map (λ x. x.now) c.in_ok-needed.needed.items) c.args.machine (machine_in c.in_ok-found.found.entries)) es) c.new-removed.ensures.items
    ∙ ap (λ (s : Search). directories_removed s es) (same_search (texts_model c.args.prefixes.now) (needed_names es) (map (λ x. x.now) c.in_ok-needed.needed.items) c.args.machine (machine_in c.in_ok-found.found.entries) (machine_found (map answer_model c.args.answers.now)) c.in_ok-needed.ensures c.in_ok-found.ensures)
