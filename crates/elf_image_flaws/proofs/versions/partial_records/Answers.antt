-- One section after another.
use Rattle.std.proofs.Common.{sym, ◌∙◌}
use Rattle.elf_image_flaws.specs.Flaws.{first_flawed, records_flaw}
use Rattle.elf_image_flaws.proofs.FlawSteps.{flaw_done, flaw_goes, flaw_here}
use Rattle.elf_image_flaws.proofs.versions.partial_records.Goals as goal

pub returns-in-Some : goal.returns-in-Some
returns-in-Some c =
    flaw_here (λ _ s. records_flaw c.args.defined c.args.needed s) c.args.sections.now c.loop-number.number c.in-Some.flaw (first_flawed (λ _ s. records_flaw c.args.defined c.args.needed s) c.args.sections.now) c.loop-number-test.true
    (sym c.records_flaw.ensures ∙ c.in-Some.is) c.loop-number.invariant

pub loop-number-preserved : goal.loop-number-preserved
loop-number-preserved c =
    flaw_goes (λ _ s. records_flaw c.args.defined c.args.needed s) c.args.sections.now c.loop-number.number (first_flawed (λ _ s. records_flaw c.args.defined c.args.needed s) c.args.sections.now) c.loop-number-test.true
    (sym c.records_flaw.ensures ∙ c.in_default.is) c.loop-number.invariant

pub returns : goal.returns
returns c =
    flaw_done (λ _ s. records_flaw c.args.defined c.args.needed s) c.args.sections.now c.loop-number.number (first_flawed (λ _ s. records_flaw c.args.defined c.args.needed s) c.args.sections.now) c.loop-number-test.false c.loop-number.invariant
