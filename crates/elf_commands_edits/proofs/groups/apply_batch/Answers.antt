-- A batch is the list of its edits.
use Rattle.std.proofs.Common.{◌≡◌, List, Ok, map, subst, sym}
use Rattle.arwen_elf.specs.Taken.{edits_model}
use Rattle.arwen_elf.specs.Told.{RefusesAt}
use Rattle.elf_edits.specs.Batch.{run}
use Rattle.elf_edits.specs.Edit.{Edit}
use Rattle.elf_commands_edits.specs.Groups.{plain}
use Rattle.elf_commands_edits.proofs.ListLaws.{no_symbols, plain_back, told_of_batch}
use Rattle.elf_commands_edits.proofs.groups.apply_batch.Goals as goal

pub returns-in-Ok-clause-made : goal.returns-in-Ok-clause-made
returns-in-Ok-clause-made c =
    let edits : List Edit = edits_model c.args.edits.now in
    let old = c.args.elf.now.inner in
    let new = c.apply.new.self.inner in
    c.lists_are_their_edits.ensures.made (map plain edits) old new (no_symbols edits) (subst (λ (l : List Edit). run l old ≡ Ok new) (sym (plain_back edits)) c.in-Ok.ensures.takes.0)

pub returns-in-Err-clause-told : goal.returns-in-Err-clause-told
returns-in-Err-clause-told c =
    let edits : List Edit = edits_model c.args.edits.now in
    let old = c.args.elf.now.inner in
    let e = c.in-Err.error in
    told_of_batch (map plain edits) old e.index e.fault (no_symbols edits) (subst (λ (l : List Edit). RefusesAt e.index e.fault (run l old)) (sym (plain_back edits)) c.in-Err.ensures.takes.0.1)
