-- A word that isn't `-` is the digits of the bytes that it spells.
use Rattle.std.proofs.Common.{◌≡◌, ◌∙◌, ℕ, List, Vec, Global, codes, false, subst, sym}
use Rattle.std.specs.Prelude.{IfOk}
use Rattle.std.specs.Str.{bytes_eq}
use Rattle.std.proofs.lemmas.Result.{IfOk-weaker}
use Rattle.test_cases_written.proofs.HexLaws.{ReadsDigits, ReadsWord, read_digits}
use Rattle.test_cases_written.proofs.words.bytes_of.Goals as goal

pub returns-else-eq : goal.returns-else-eq
returns-else-eq c =
    let word = c.args.word.now in
    let other : bytes_eq word (codes "-") ≡ false = sym c.eq.ensures ∙ c.if-eq.false in
    let read = subst (λ (digits : List ℕ). IfOk c.bytes_spelled.result (λ made. ReadsDigits digits made.items)) c.as_bytes.ensures.value c.bytes_spelled.ensures in
    IfOk-weaker c.bytes_spelled.result (λ (made : Vec ℕ Global). ReadsDigits word made.items) (λ (made : Vec ℕ Global). ReadsWord word made.items) (λ made those. read_digits word made.items other those) read
