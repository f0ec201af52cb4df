-- The line's options are those that are read of the words.
use Rattle.std.proofs.Common.{List, inr, map, subst}
use Rattle.std.proofs.lemmas.Result.{IfErr-weaker}
use Rattle.macho_commands.specs.Failures.{WritesEnd}
use Rattle.arwen_cli_install_names.specs.Editing.{FailsNames, IsNamed}
use Rattle.arwen_cli_options.specs.Options.{given_model}
use Rattle.arwen_cli_options.specs.declared.options.Given.{Given}
use Rattle.arwen_cli_tools.proofs.EndLaws.{ok_more}
use Rattle.arwen_cli_tools.proofs.name_lines.name_words.Goals as goal

pub returns-in-Ok-clause-named : goal.returns-in-Ok-clause-named
returns-in-Ok-clause-named g c =
    let Named : List Given → Type 0 = λ given. IsNamed (map given_model given) c.args.path.now (g.S.Store.contents c.args.store.now) (g.S.Store.contents c.name_store.new.store) in
    ok_more c.name_store.result _ _ (λ named. (c.in-Ok.line, c.in-Ok.ensures.reads, subst Named c.as_slice.ensures.value named)) c.name_store.ensures.named

pub returns-in-Ok-clause-left : goal.returns-in-Ok-clause-left
returns-in-Ok-clause-left g c =
    IfErr-weaker c.name_store.result _ _ (λ e fails.
    let Fails : List Given → Type 0 = λ given. FailsNames (WritesEnd g.S.Store.may_fail_write g.S.Store.may_take_none (g.S.Store.failed c.args.store.now) (g.S.Store.failed c.name_store.new.store)) (map given_model given) c.args.path.now (g.S.Store.contents c.args.store.now) (g.S.Store.contents c.name_store.new.store) e in
    inr (c.in-Ok.line, c.in-Ok.ensures.reads, subst Fails c.as_slice.ensures.value fails)) c.name_store.ensures.left
