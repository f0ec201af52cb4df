use Rattle.std.proofs.Common.{◌≡◌, drop, map, string_bytes}
use Rattle.arwen_cli_install_names.specs.NameEdits.{is_among}
use Rattle.arwen_cli_install_names.proofs.name_edits.is_among.Given as goal

-- none so far is the text
abbrev pub invariant-loop-one : goal.invariant-loop-one
invariant-loop-one l = is_among l.text (map string_bytes (drop l.one-index l.texts)) ≡ is_among l.text (map string_bytes l.texts)
