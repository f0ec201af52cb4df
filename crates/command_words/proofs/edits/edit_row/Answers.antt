-- A group's first word finds the row of its edit.
use Rattle.std.proofs.Common.{◌≡◌, ◌∷◌, [], List, arith, length, map, refl, sym, ap, ◌∙◌}
use Rattle.command_words.specs.Groups.{edit_named, no_edit, no_words, row_asked}
use Rattle.command_words.specs.Rows.{row_model}
use Rattle.command_words.proofs.EditGroups.{texts}
use Rattle.command_words.proofs.edits.edit_row.Goals as goal

is_empty : {A : Type 0} (xs : List A) → length xs ≡ 0 → xs ≡ []
is_empty [] e = refl
is_empty (x ∷ xs) e = absurd (omega arith)

pub returns-in_default-clause-err : goal.returns-in_default-clause-err
returns-in_default-clause-err c =
    (no_words, ap (λ ws. row_asked (map row_model c.args.rows.now) (texts ws)) (is_empty c.args.words.now c.in_default.ensures.cases), c.no_edit.ensures)

pub returns-in_default-find_row-clause-err : goal.returns-in_default-find_row-clause-err
returns-in_default-find_row-clause-err c =
    let parts = ap (λ ws. row_asked (map row_model c.args.rows.now) (texts ws)) c.in-Some.ensures.cases.0 in
    let words = texts c.in-Some.words.now in
    (no_edit, parts ∙ ap (λ o. edit_named o words) (sym c.in_default-find_row.ensures), c.no_edit-in_default-find_row.ensures)

pub returns-else-row-clause-err : goal.returns-else-row-clause-err
returns-else-row-clause-err c =
    let parts = ap (λ ws. row_asked (map row_model c.args.rows.now) (texts ws)) c.in-Some.ensures.cases.0 in
    let words = texts c.in-Some.words.now in
    (no_edit, parts ∙ ap (λ o. edit_named o words) (sym c.in-Some-find_row.ensures) ∙ rw c.if-row.false refl, c.no_edit-else-row.ensures)
