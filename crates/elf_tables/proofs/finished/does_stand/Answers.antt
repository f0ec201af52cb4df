-- A text with a NUL stands nowhere.
use Rattle.std.proofs.Common.{sym, ◌∙◌}
use Rattle.std.proofs.lemmas.Bool.{true≢false}
use Rattle.elf_tables.proofs.PlacingSteps.{stands-whole}
use Rattle.elf_tables.proofs.StandingTexts.{stands-from, stands-with}
use Rattle.elf_tables.proofs.finished.does_stand.Goals as goal

pub returns-then-contains : goal.returns-then-contains
returns-then-contains c = (
  (λ no. absurd (true≢false (sym no))),
  (λ stands. absurd (true≢false (sym c.if-contains.true ∙ c.contains.ensures.value ∙ stands-whole c.args.bytes.now c.args.place c.args.text.now stands))),
)

pub returns : goal.returns
returns c = (
  (λ yes. stands-from c.args.bytes.now c.args.place c.args.text.now (sym c.contains.ensures.value ∙ c.if-contains.false) (c.is_there.ensures.0 yes)),
  (λ stands. c.is_there.ensures.1 (stands-with c.args.bytes.now c.args.place c.args.text.now stands)),
)
