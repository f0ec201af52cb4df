-- The bytes of the map are a text, or none.
use Rattle.std.proofs.Common.{◌≡◌, Global, String, ap, string_bytes, ◌∙◌}
use Rattle.std.proofs.lemmas.Result.{IfOk-weaker, err_from_is_err_and}
use Rattle.arwen_cli_options.specs.Options.{given_model}
use Rattle.arwen_cli_patchelf_lines.specs.NameMaps.{spaced_all}
use Rattle.arwen_cli_patchelf_lines.specs.Values.{IsMapText}
use Rattle.arwen_cli_patchelf_lines.proofs.ValueLaws.{map_unread, no_map}
use Rattle.arwen_cli_patchelf_lines.proofs.values.map_text.Goals as goal

pub returns-clause-ok : goal.returns-clause-ok
returns-clause-ok g c =
    let known = g.F.FileBytes.contents c.args.files.now c.args.one.now.first.now in
    IfOk-weaker c.text_of.result (λ (text : String Global). string_bytes text ≡ c.in_ok-spaced.field-0.items) (λ (text : String Global). IsMapText known (string_bytes text))
    (λ text is. (c.in_ok-bytes.bytes.items, c.in_ok-bytes.ensures.read, is ∙ c.in_ok-spaced.ensures ∙ ap spaced_all c.as_slice.ensures.value)) c.text_of.ensures.ok

pub returns-clause-err : goal.returns-clause-err
returns-clause-err g c = map_unread (g.F.FileBytes.contents c.args.files.now) (g.F.FileBytes.may_fail c.args.files.now) (given_model c.args.one.now) c.in_ok-bytes.bytes.items c.in_ok-spaced.field-0.items c.text_of.result
    c.in_ok-bytes.ensures.read (c.in_ok-spaced.ensures ∙ ap spaced_all c.as_slice.ensures.value) c.text_of.ensures.err c.text_of.ensures.never

pub returns-in_err-bytes-clause-err : goal.returns-in_err-bytes-clause-err
returns-in_err-bytes-clause-err g c =
    let p = err_from_is_err_and c.from_residual.result c.from_residual.ensures.1 in
    rw (p.1, p.2) (no_map (g.F.FileBytes.contents c.args.files.now) (g.F.FileBytes.may_fail c.args.files.now) (given_model c.args.one.now) c.in_err-bytes.field-0.0
    c.in_err-bytes.ensures.cause)
