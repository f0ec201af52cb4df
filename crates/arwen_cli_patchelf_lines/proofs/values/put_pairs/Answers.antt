-- The pairs of the map are put, or one of its lines is wrong.
use Rattle.std.proofs.Common.{map, string_bytes}
use Rattle.std.proofs.lemmas.Result.{MatchResult-weaker, err_from_is_err_and, on_ok_weaker}
use Rattle.arwen_cli_options.specs.Asked.{asked_model}
use Rattle.arwen_cli_options.specs.Options.{given_model}
use Rattle.arwen_cli_patchelf_lines.proofs.ValueLaws.{map_put, map_wrong}
use Rattle.arwen_cli_patchelf_lines.proofs.values.put_pairs.Goals as goal

pub returns-clause-ok : goal.returns-clause-ok
returns-clause-ok g c = on_ok_weaker c.put_mapped.result (map_put (g.F.FileBytes.contents c.args.files.now) (given_model c.args.one.now) (string_bytes c.in_ok-text.text) c.as_str.result.now
    (map asked_model c.args.asked.now.items) (map asked_model c.put_mapped.new.asked.items) c.as_str.ensures.value c.in_ok-text.ensures.ok) c.put_mapped.ensures.ok

pub returns-clause-err : goal.returns-clause-err
returns-clause-err g c = MatchResult-weaker c.put_mapped.result c.put_mapped.ensures.err (λ x t. t)
    (λ cause. map_wrong (g.F.FileBytes.contents c.args.files.now) (g.F.FileBytes.may_fail c.args.files.now) (given_model c.args.one.now) (string_bytes c.in_ok-text.text) c.as_str.result.now
    cause c.as_str.ensures.value c.in_ok-text.ensures.ok)

pub returns-in_err-text-clause-err : goal.returns-in_err-text-clause-err
returns-in_err-text-clause-err g c =
    let p = err_from_is_err_and c.from_residual.result c.from_residual.ensures.1 in
    rw (p.1, p.2) c.in_err-text.ensures.err
