-- The records of the chain, then their texts.
use Rattle.std.proofs.Common.{List, Option, Some, map, sym, ap, ◌∙◌, subst}
use Rattle.std.proofs.lemmas.Result.{err_from_is_err_and}
use Rattle.elf_format.specs.Answers.{Gives}
use Rattle.test_elf_plain.specs.PlainViews.{needs_model, source_model}
use Rattle.elf_format.specs.Versions.{VersionNeeds}
use Rattle.test_elf_plain.proofs.ViewSteps.{needs_fail, needs_on}
use Rattle.test_elf_plain.proofs.by_tables.needs_of.Goals as goal

pub returns-in_err-raw : goal.returns-in_err-raw
returns-in_err-raw c =
    let p = err_from_is_err_and c.from_residual.result c.from_residual.ensures.1 in
    rw (p.1, p.2) (needs_fail c.args.form c.args.room (source_model c.args.table.now.bytes) (source_model c.args.table.now.texts) c.args.table.now.count c.in_err-raw.field-0.0 c.in_err-raw.ensures)

pub returns : goal.returns
returns c =
    subst (λ (o : Option (List VersionNeeds)). Gives (λ v. map needs_model v.items) c.show_each.result o)
    (needs_on c.args.form c.args.room (source_model c.args.table.now.bytes) (source_model c.args.table.now.texts) c.args.table.now.count c.deref.result.now
    (c.in_ok-raw.ensures ∙ ap (λ l. Some l) (sym c.deref.ensures.value)))
    c.show_each.ensures
