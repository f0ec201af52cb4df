use Rattle.std.proofs.Common.{List, Ok, Some, map, string_bytes, subst, sym}
use Rattle.std.proofs.lemmas.Result.{IfErr-weaker, IfOk-weaker}
use Rattle.command_words.specs.Rows.{Text}
use Rattle.elf_commands_edits.specs.Groups.{GroupEdit, group_model}
use Rattle.elf_commands_lines.specs.ElfAsked.{several}
use Rattle.elf_commands.specs.Noting.{TellsWantedAt}
use Rattle.elf_commands.proofs.ElfOutcomes.{edited_by, made_of_edits, tells_no_bytes}
use Rattle.elf_commands.proofs.ForCallers.{left_after_edits}
use Rattle.elf_commands.proofs.NotingLaws.{told_of_file, unmade_of_file}
use Rattle.elf_commands.proofs.elf.typed.edit_bytes.Goals as goal

pub returns-in-Ok-clause-made : goal.returns-in-Ok-clause-made
returns-in-Ok-clause-made c =
    let edits : List GroupEdit = map group_model c.args.edits.items in
    IfOk-weaker c.bytes_and_text.result _ _ (λ made changed.
    edited_by c.lists_are_their_edits.ensures edits c.args.bytes.now c.in_ok-elf.elf.inner _ c.in_ok-elf.ensures.reads.0 c.in-Ok.ensures.make made.0 c.in_ok-elf.ensures.shows changed) c.bytes_and_text.ensures.ok

pub returns-in-Ok-clause-left : goal.returns-in-Ok-clause-left
returns-in-Ok-clause-left c =
    let edits : List GroupEdit = map group_model c.args.edits.items in
    IfOk-weaker c.bytes_and_text.result _ _ (λ made changed.
    left_after_edits c.lists_are_their_edits.ensures c.read_images_hold_parts.ensures edits c.args.bytes.now made.0
    (edited_by c.lists_are_their_edits.ensures edits c.args.bytes.now c.in_ok-elf.elf.inner _ c.in_ok-elf.ensures.reads.0 c.in-Ok.ensures.make made.0 c.in_ok-elf.ensures.shows changed)) c.bytes_and_text.ensures.ok

-- the lines are those of the image as it was read
pub returns-in-Ok-clause-told : goal.returns-in-Ok-clause-told
returns-in-Ok-clause-told c =
    let edits : List GroupEdit = map group_model c.args.edits.items in
    let told = told_of_file c.args.notes edits c.args.name.now c.args.bytes.now c.in_ok-elf.elf.inner (string_bytes c.in-Ok.text) c.in_ok-elf.ensures.reads.0 c.in-Ok.ensures.told in
    let Of : Text → Type 0 = λ t. TellsWantedAt c.args.notes (several (Ok edits)) c.args.name.now (Some c.args.bytes.now) t in
    IfOk-weaker c.bytes_and_text.result _ _ (λ made same. subst Of (sym same) told) c.bytes_and_text.ensures.same

pub returns-in-Ok-clause-err : goal.returns-in-Ok-clause-err
returns-in-Ok-clause-err c =
    let edits : List GroupEdit = map group_model c.args.edits.items in
    let makes = made_of_edits c.lists_are_their_edits.ensures edits c.args.bytes.now c.in_ok-elf.elf.inner _ c.in_ok-elf.ensures.reads.0 c.in-Ok.ensures.make in
    IfErr-weaker c.bytes_and_text.result _ _ (λ e told. tells_no_bytes edits c.args.bytes.now _ e makes told) c.bytes_and_text.ensures.err

pub returns-in-Err-clause-err : goal.returns-in-Err-clause-err
returns-in-Err-clause-err c =
    unmade_of_file (map group_model c.args.edits.items) c.args.bytes.now c.in_ok-elf.elf.inner c.in-Err.error c.in_ok-elf.ensures.reads.0 c.in-Err.ensures.err
