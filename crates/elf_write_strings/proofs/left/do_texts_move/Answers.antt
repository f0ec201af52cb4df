use Rattle.std.proofs.Common.{◌∙◌, sym, ap}
use Rattle.std.specs.Prelude.{not}
use Rattle.elf_write_strings.proofs.NamesLeft.{moves_by_list, moves_by_names, moves_not}
use Rattle.elf_write_strings.proofs.left.do_texts_move.Goals as goal

pub returns-then-do_names_move : goal.returns-then-do_names_move
returns-then-do_names_move c =
    moves_by_names c.args.read.now c.args.image.now c.args.number (sym c.do_names_move.ensures ∙ c.if-do_names_move.true)

pub returns-then-not-has_texts_in : goal.returns-then-not-has_texts_in
returns-then-not-has_texts_in c =
    moves_not c.args.read.now c.args.image.now c.args.number (sym c.do_names_move.ensures ∙ c.if-do_names_move.false)
    (sym c.has_texts_in.ensures ∙ c.if-not-has_texts_in.true)

pub returns : goal.returns
returns c =
    ap not c.in_ok-left.ensures
    ∙ moves_by_list c.args.read.now c.args.image.now c.args.number (sym c.do_names_move.ensures ∙ c.if-do_names_move.false)
    (sym c.has_texts_in.ensures ∙ c.if-not-has_texts_in.false)
