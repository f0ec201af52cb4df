use Rattle.std.proofs.Common.{◌∙◌, ◌∷◌, ◌++◌, [], List, ap, map, sym}
use Rattle.std.proofs.lemmas.List.{map-append}
use Rattle.elf_edits.specs.Edit.{Edit}
use Rattle.elf_commands_lines.specs.Groups.{group_model, plain_of}
use Rattle.elf_commands_lines.proofs.BatchLists.{plain_of_more}
use Rattle.elf_commands_lines.proofs.groups.plain_edits.Goals as goal

pub loop-edit-preserved : goal.loop-edit-preserved
loop-edit-preserved c =
    let edit = c.in-Some.edit in
    let more = ap plain_of (map-append group_model c.loop-edit.yielded (edit ∷ [])) ∙ plain_of_more (map group_model c.loop-edit.yielded) (group_model edit) in
    c.in_ok-push_plain.ensures ∙ ap (λ (l : List Edit). l ++ plain_of (group_model edit ∷ [])) c.loop-edit.invariant ∙ sym more
