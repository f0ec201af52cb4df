use Rattle.std.proofs.Common.{List, Ok, Some, map, string_bytes, subst, sym}
use Rattle.std.proofs.lemmas.Result.{IfErr-weaker, IfOk-weaker}
use Rattle.byte_store.specs.Composed.{IsDifference}
use Rattle.command_words.specs.Rows.{Text}
use Rattle.elf_commands_edits.specs.Groups.{GroupEdit, group_model}
use Rattle.elf_commands_edits.specs.Written.{IsNoDifference}
use Rattle.elf_commands_lines.specs.ElfAsked.{several}
use Rattle.elf_commands.specs.Noting.{TellsWantedAt}
use Rattle.elf_commands.proofs.ElfOutcomes.{if_ok_and, made_of_edits, pieces_made, source_is, stays_unmarked, tells_no_bytes}
use Rattle.elf_commands.proofs.NotingLaws.{told_of_file, unmade_of_file}
use Rattle.elf_commands.proofs.elf.typed.edited_pieces.Goals as goal

pub returns-in-Ok-clause-makeable : goal.returns-in-Ok-clause-makeable
returns-in-Ok-clause-makeable c =
    let edits : List GroupEdit = map group_model c.args.edits.items in
    let source = source_is c.lists_are_their_edits.ensures edits c.args.bytes.now c.in_ok-elf.elf.inner _ c.in_ok-elf.ensures.reads.0 c.in-Ok.ensures.make c.read_images_hold_parts.ensures in
    IfOk-weaker c.pieces_and_text.result _ _ (λ made makeable. subst (λ l. IsDifference l made.0) source makeable) c.pieces_and_text.ensures.makeable

pub returns-in-Ok-clause-left : goal.returns-in-Ok-clause-left
returns-in-Ok-clause-left c =
    let edits : List GroupEdit = map group_model c.args.edits.items in
    let source = source_is c.lists_are_their_edits.ensures edits c.args.bytes.now c.in_ok-elf.elf.inner _ c.in_ok-elf.ensures.reads.0 c.in-Ok.ensures.make c.read_images_hold_parts.ensures in
    IfOk-weaker c.pieces_and_text.result _ _ (λ made written.
    pieces_made c.lists_are_their_edits.ensures edits c.args.bytes.now c.in_ok-elf.elf.inner _ c.in_ok-elf.ensures.reads.0 c.in-Ok.ensures.make made.0 c.in_ok-elf.ensures.shows source written) c.pieces_and_text.ensures.bytes

-- the lines are those of the image as it was read
pub returns-in-Ok-clause-told : goal.returns-in-Ok-clause-told
returns-in-Ok-clause-told c =
    let edits : List GroupEdit = map group_model c.args.edits.items in
    let told = told_of_file c.args.notes edits c.args.name.now c.args.bytes.now c.in_ok-elf.elf.inner (string_bytes c.in-Ok.text) c.in_ok-elf.ensures.reads.0 c.in-Ok.ensures.told in
    let Of : Text → Type 0 = λ t. TellsWantedAt c.args.notes (several (Ok edits)) c.args.name.now (Some c.args.bytes.now) t in
    IfOk-weaker c.pieces_and_text.result _ _ (λ made same. subst Of (sym same) told) c.pieces_and_text.ensures.same

pub returns-in-Ok-clause-err : goal.returns-in-Ok-clause-err
returns-in-Ok-clause-err c =
    let edits : List GroupEdit = map group_model c.args.edits.items in
    let makes = made_of_edits c.lists_are_their_edits.ensures edits c.args.bytes.now c.in_ok-elf.elf.inner _ c.in_ok-elf.ensures.reads.0 c.in-Ok.ensures.make in
    IfErr-weaker c.pieces_and_text.result _ _ (λ e told. tells_no_bytes edits c.args.bytes.now _ e makes told) c.pieces_and_text.ensures.err

pub returns-in-Ok-clause-idle : goal.returns-in-Ok-clause-idle
returns-in-Ok-clause-idle c = λ nothing.
    let edits : List GroupEdit = map group_model c.args.edits.items in
    let source = source_is c.lists_are_their_edits.ensures edits c.args.bytes.now c.in_ok-elf.elf.inner _ c.in_ok-elf.ensures.reads.0 c.in-Ok.ensures.make c.read_images_hold_parts.ensures in
    let same = stays_unmarked c.lists_are_their_edits.ensures edits c.args.bytes.now c.in_ok-elf.elf.inner _ c.in_ok-elf.ensures.reads.0 c.in-Ok.ensures.make nothing in
    IfOk-weaker c.pieces_and_text.result _ _ (λ made none. subst (λ l. IsNoDifference l made.0) source none) (if_ok_and _ c.pieces_and_text.result (c.pieces_and_text.ensures.unchanged same))

pub returns-in-Err-clause-err : goal.returns-in-Err-clause-err
returns-in-Err-clause-err c =
    unmade_of_file (map group_model c.args.edits.items) c.args.bytes.now c.in_ok-elf.elf.inner c.in-Err.error c.in_ok-elf.ensures.reads.0 c.in-Err.ensures.err
