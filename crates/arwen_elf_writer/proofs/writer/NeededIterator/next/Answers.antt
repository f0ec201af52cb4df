-- An entry is taken from the front: it is the next library, or it is passed over.
use Rattle.std.proofs.Common.{◌∷◌, [], length, sym, ap, ◌∙◌, arith}
use Rattle.std.proofs.lemmas.List.{nil_from_length}
use Rattle.std.specs.Slice.Iter.{iter_rest}
use Rattle.elf_image.specs.Answers.{borrowed}
use Rattle.elf_format.specs.declared.constants.TheConstants.{DT_NEEDED}
use Rattle.arwen_elf_writer.proofs.ReadSteps.{left_found, left_missed, left_none}
use Rattle.arwen_elf_writer.proofs.writer.NeededIterator.next.Goals as goal

pub returns-in-Some-tagged_text-clause-steps : goal.returns-in-Some-tagged_text-clause-steps
returns-in-Some-tagged_text-clause-steps c =
    sym c.loop-entry.invariant
    ∙ left_found (DT_NEEDED ∷ []) (iter_rest c.loop-entry.self.rest) (iter_rest c.next.new.self) c.in-Some.entry.now c.in-Some.ensures.steps (borrowed c.in-Some-tagged_text.text) (sym c.in-Some-tagged_text.ensures)

pub returns-in-Some-tagged_text-clause-goes : goal.returns-in-Some-tagged_text-clause-goes
returns-in-Some-tagged_text-clause-goes c =
    let e = ap length (returns-in-Some-tagged_text-clause-steps c) in
    record { on = λ _. (tt, tt, omega (arith, e)); keeps = tt; rests = λ _. tt }

pub loop-entry-preserved : goal.loop-entry-preserved
loop-entry-preserved c =
    left_missed (DT_NEEDED ∷ []) (iter_rest c.loop-entry.self.rest) (iter_rest c.next.new.self) c.in-Some.entry.now c.in-Some.ensures.steps (sym c.in_default-tagged_text.ensures)
    ∙ c.loop-entry.invariant

pub returns-clause-steps : goal.returns-clause-steps
returns-clause-steps c =
    let empty = nil_from_length (iter_rest c.loop-entry.self.rest) c.in_default.ensures.steps.0 in
    let same = c.in_default.ensures.steps.1 in
    (sym c.loop-entry.invariant ∙ left_none (DT_NEEDED ∷ []) (iter_rest c.loop-entry.self.rest) empty, left_none (DT_NEEDED ∷ []) (iter_rest c.next.new.self) (ap iter_rest same ∙ empty))
