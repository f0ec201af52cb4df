-- The bytes from the place on are too few, begin otherwise, or go on with a byte that is a NUL or isn't.
use Rattle.std.proofs.Common.{◌+◌, ◌<◌, ◌≤◌, ℕ, List, length, get_or, nat_eq, sym, ap, ◌∙◌, arith}
use Rattle.std.specs.List.{starts_with}
use Rattle.std.proofs.lemmas.Bool.{true≢false}
use Rattle.elf_tables.proofs.PlacingSteps.{from_place, nul-from, nul-is, there-begins, there-from, there-nul}
use Rattle.elf_tables.proofs.StandingTexts.{stands-within}
use Rattle.elf_tables.proofs.finished.is_there.Goals.{then-start-bytes-via-then-start-bytes, then-start-bytes-via-else-start-bytes+then-text-bytes}
use Rattle.elf_tables.proofs.finished.is_there.Goals as goal

pub returns-then-start-bytes : goal.returns-then-start-bytes
returns-then-start-bytes c =
    let past : length c.args.bytes.now ≤ c.args.place + length c.args.text.now = elim c.then-start-bytes.branch [
      | then-start-bytes-via-then-start-bytes w ↦ omega arith
      | then-start-bytes-via-else-start-bytes+then-text-bytes w ↦ omega arith
    ] in (
      (λ no. absurd (true≢false (sym no))),
      (λ stands. absurd (omega (arith, past, stands-within c.args.bytes.now c.args.place c.args.text.now stands))),
    )

pub returns-then-not-starts_with : goal.returns-then-not-starts_with
returns-then-not-starts_with c =
    let rest = from_place c.args.bytes.now c.args.place in
    let other = ap (λ (l : List ℕ). starts_with nat_eq l c.args.text.now) (sym rest) ∙ sym c.starts_with.ensures.value ∙ c.if-not-starts_with.true in (
      (λ no. absurd (true≢false (sym no))),
      (λ stands. absurd (true≢false (sym (there-begins c.args.bytes.now c.args.place c.args.text.now stands) ∙ other))),
    )

pub returns : goal.returns
returns c =
    let within : c.args.place + length c.args.text.now < length c.args.bytes.now = omega arith in
    let rest = from_place c.args.bytes.now c.args.place in
    let begins = ap (λ (l : List ℕ). starts_with nat_eq l c.args.text.now) (sym rest) ∙ sym c.starts_with.ensures.value ∙ c.if-not-starts_with.false in
    let here = ap (λ (l : List ℕ). get_or l (length c.args.text.now) 0) rest in (
      (λ yes. there-from c.args.bytes.now c.args.place c.args.text.now 0 within begins (sym here ∙ nul-is _ yes)),
      (λ stands. nul-from _ (here ∙ there-nul c.args.bytes.now c.args.place c.args.text.now 0 stands)),
    )
