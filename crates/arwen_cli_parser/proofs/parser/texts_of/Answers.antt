-- The values of a name stand in its row.
use Rattle.std.proofs.Common.{[], List, Option, map, string_bytes, sym, ap, ◌∙◌, unwrap_or}
use Rattle.std.proofs.lemmas.Result.{IfOk-weaker}
use Rattle.clap.specs.Walk.{Text}
use Rattle.clap.specs.Matches.{found_of}
use Rattle.clap.proofs.WalkLemmas.{raw_values-rows}
use Rattle.arwen_cli_parser.proofs.parser.texts_of.Goals as goal

abbrev or_none : Option (List Text) → List Text
or_none values = unwrap_or values []

pub returns-in-Some : goal.returns-in-Some
returns-in-Some c =
    let row = ap or_none (sym (raw_values-rows (found_of c.args.matches.now) c.args.id.now) ∙ sym c.in-Some.ensures) in
    IfOk-weaker c.copies.result _ _ (λ copies h. row ∙ sym h) c.copies.ensures

pub returns-in-None : goal.returns-in-None
returns-in-None c =
    let row = ap or_none (sym (raw_values-rows (found_of c.args.matches.now) c.args.id.now) ∙ sym c.in-None.ensures) in
    row ∙ sym (ap (map string_bytes) c.new.ensures.items)
