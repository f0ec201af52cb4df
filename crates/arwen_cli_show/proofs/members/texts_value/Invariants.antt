use Rattle.std.proofs.Common.{◌≡◌, map, take}
use Rattle.serde_json.specs.Data.{string}
use Rattle.serde_json.specs.View.{view}
use Rattle.arwen_cli_facts.specs.Texts.{texts_model}
use Rattle.arwen_cli_show.proofs.members.texts_value.Given as goal

-- the values so far
abbrev pub invariant-loop-text : goal.invariant-loop-text
invariant-loop-text l = map view l.made.items ≡ map string (texts_model (take l.text-index l.texts))
