-- The table that is copied and tells where each text stands that is used.
use Rattle.std.proofs.Common.{◌≡◌, ◌<◌, ◌≤◌, ◌^◌, ℕ, List, length, true, sym, subst, refl, ◌∙◌}
use Rattle.elf_format.specs.Image.{Image}
use Rattle.elf_layout_plan.specs.Texts.{texts_in_use}
use Rattle.elf_write_strings.specs.declared.made.Made.{Made}
use Rattle.elf_write_strings.specs.VersionPlaces.{content_in}
use Rattle.elf_write_strings.specs.WrittenStrings.{content_read, do_texts_move}
use Rattle.elf_write_strings.proofs.MadeStrings.{copied_told, too_far, unreached}
use Rattle.elf_write_strings.proofs.ReadTables.{read_unedited}
use Rattle.elf_write_strings.proofs.TablesThere.{edited_content}
use Rattle.elf_write_strings.proofs.TextsTold.{left_told}
use Rattle.elf_write_strings.proofs.made.table_copied.Goals as goal

pub returns-then-content-clause-fault : goal.returns-then-content-clause-fault
returns-then-content-clause-fault c fault =
    let read : Image = c.args.read.now in
    let image : Image = c.args.image.now in
    let content : c.content_of-content.result.now ≡ content_read image c.args.number =
    c.content_of-content.ensures ∙ edited_content read image c.requires.ready c.args.number c.requires.edited in
    let long : 2 ^ 32 < length (content_read image c.args.number) =
    subst (λ (l : List ℕ). 2 ^ 32 < length l) content c.if-content.true in
    let move : do_texts_move read image c.args.number ≡ true = sym c.in_ok-do_texts_move.ensures ∙ c.if-not-branch.false in
    unreached read image c.args.number c.requires.edited (too_far read image c.args.number move c.requires.copied long)

pub told_table-requires-clause-unedited : goal.told_table-requires-clause-unedited
told_table-requires-clause-unedited c = read_unedited c.requires.ready

pub told_table-requires-clause-short : goal.told_table-requires-clause-short
told_table-requires-clause-short c =
    subst (λ (l : List ℕ). length l ≤ 2 ^ 32) c.content_of-content.ensures c.if-content.false

pub returns-clause-table : goal.returns-clause-table
returns-clause-table c =
    let read : Image = c.args.read.now in
    let image : Image = c.args.image.now in
    let m : Made = record { number = c.args.number; table = c.in_ok-table.table; is_copied = true } in
    let same : content_in read.sections c.args.number ≡ content_read image c.args.number =
    edited_content read image c.requires.ready c.args.number c.requires.edited in
    let bytes : m.table.bytes ≡ content_read image c.args.number = c.in_ok-table.ensures.bytes ∙ same in
    let short : length m.table.bytes ≤ 2 ^ 32 =
    subst (λ (l : List ℕ). length l ≤ 2 ^ 32) (c.content_of-content.ensures ∙ sym c.in_ok-table.ensures.bytes) c.if-content.false in (
      refl,
      copied_told read image m refl c.requires.edited c.requires.copied bytes
          (left_told m.table (texts_in_use read image c.args.number) (texts_in_use read read c.args.number) c.requires.copied c.in_ok-table.ensures.told)
          c.in_ok-table.ensures.stand short,
    )
