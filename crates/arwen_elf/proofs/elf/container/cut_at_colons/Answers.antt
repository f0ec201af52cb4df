-- The parts are those between colons, none in the empty text.
use Rattle.std.proofs.Common.{sym, ap, ◌∙◌, map}
use Rattle.std.specs.String.{string_bytes}
use Rattle.std.proofs.lemmas.Result.{IfOk-weaker}
use Rattle.arwen_elf.proofs.PrintSteps.{none_to_cut, some_to_cut}
use Rattle.arwen_elf.proofs.elf.container.cut_at_colons.Goals as goal

pub returns-then-is_empty : goal.returns-then-is_empty
returns-then-is_empty c = ap (map string_bytes) c.new.ensures.items ∙ sym (none_to_cut c.args.text.now (sym c.if-is_empty.ensures))

pub returns : goal.returns
returns c =
    IfOk-weaker c.parts_of.result _ _ (λ parts is. is ∙ some_to_cut c.args.text.now (sym c.if-is_empty.ensures)) c.parts_of.ensures
