-- Another text is passed over.
use Rattle.std.proofs.Common.{List, String, Global, ap, drop, map, string_bytes, sym, ◌||◌, ◌+◌, ◌∙◌}
use Rattle.std.specs.Str.{bytes_eq}
use Rattle.arwen_cli_install_names.specs.NameEdits.{is_among}
use Rattle.arwen_cli_options.proofs.Turns.{turned}
use Rattle.arwen_cli_install_names.proofs.name_edits.is_among.Goals as goal

pub loop-one-preserved : goal.loop-one-preserved
loop-one-preserved c =
    let i = c.loop-one.one-index in
    let texts = c.args.texts.now in
    let told = λ (left : List (String Global)). is_among c.args.text.now (map string_bytes left) in
    turned told texts i _ c.one-item.result _ _ c.loop-one-test.true c.one-item.is
    (ap (λ b. b || told (drop (i + 1) texts)) (ap (λ t. bytes_eq t c.args.text.now) (sym c.as_str.ensures.value) ∙ sym c.eq.ensures ∙ c.if-eq.false)) c.loop-one.invariant
