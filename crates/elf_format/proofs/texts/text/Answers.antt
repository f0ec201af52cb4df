-- A text runs to the first NUL.
use Rattle.std.proofs.Common.{◌≡◌, ◌≤◌, ◌+◌, ◌-◌, List, ℕ, length, take, drop, sym, ap, ◌∙◌, arith}
use Rattle.std.proofs.lemmas.List.{drop_all, take_rest}
use Rattle.patch_bytes.specs.Memory.{memory_of, text_at}
use Rattle.elf_format.proofs.ReadingSteps.{text_at-in, text_found, text_in, text_missing}
use Rattle.elf_format.proofs.texts.text.Goals as goal

-- the text of what lies from the place on
text_of_rest : (room place : ℕ) (bytes : List ℕ) → length bytes ≤ place + room → text_at room (memory_of bytes) place ≡ text_in (take (length bytes - place) (drop place bytes))
text_of_rest room place bytes long = text_at-in room place bytes long ∙ ap text_in (sym (take_rest bytes place))

pub returns-then-place-bytes-clause-shown : goal.returns-then-place-bytes-clause-shown
unfolding text_in
returns-then-place-bytes-clause-shown c =
    text_at-in c.args.room c.args.place c.args.bytes.now (omega arith) ∙ ap text_in (drop_all c.args.place c.args.bytes.now c.if-place-bytes.true)

pub returns-in-Some-clause-shown : goal.returns-in-Some-clause-shown
returns-in-Some-clause-shown c =
    let rest : List ℕ = take (length c.args.bytes.now - c.args.place) (drop c.args.place c.args.bytes.now) in
    let found = c.in-Some.ensures in
    text_of_rest c.args.room c.args.place c.args.bytes.now (omega arith) ∙ text_found rest c.in-Some.end found.0.high found.1 found.0.before

pub returns-in-None-clause-shown : goal.returns-in-None-clause-shown
returns-in-None-clause-shown c =
    let rest : List ℕ = take (length c.args.bytes.now - c.args.place) (drop c.args.place c.args.bytes.now) in
    text_of_rest c.args.room c.args.place c.args.bytes.now (omega arith) ∙ text_missing rest c.in-None.ensures
