-- A text that ends another, and has 8 bytes, has the number of its end.
use Rattle.std.proofs.Common.{◌≡◌, ◌≤◌, ℕ, List, length, nat_eq, false, ap, sym, ◌∙◌, arith}
use Rattle.std.proofs.lemmas.Bool.{eq-eqb, lt-ltb, true≢false}
use Rattle.std.specs.List.{ends_with}
use Rattle.elf_tables.specs.StringSteps.{Numbered}
use Rattle.elf_tables.proofs.EndKeyLaws.{no_end-of_keys}
use Rattle.elf_tables.proofs.keyed.Keyed.ends.Goals as goal
use Rattle.elf_tables.proofs.keyed.Keyed.ends.Goals.{then-self-lt8, else-self-lt8}

pub returns-else-self-other : goal.returns-else-self-other
returns-else-self-other c =
    let text : List ℕ = c.self.inside.text.now in
    let other : List ℕ = c.other.inside.text.now in
    let seen : ends_with nat_eq other text ≡ ends_with nat_eq c.args.other.now.text c.args.self.now.text =
    ap (λ (k : Numbered). ends_with nat_eq other k.text) c.self.view_is
    ∙ ap (λ (k : Numbered). ends_with nat_eq k.text c.args.self.now.text) c.other.view_is in
    elim c.if-self-lt8.branch [
      | then-self-lt8 w ↦ absurd (true≢false (sym (lt-ltb (length text) 8 w.if-self-lt8.true) ∙ sym w.value-is ∙ c.if-self-other.false))
      | else-self-lt8 w ↦
          let long : 8 ≤ length text = omega arith in
          let apart : nat_eq c.self.inside.key c.other.inside.key ≡ false = sym w.value-is ∙ c.if-self-other.false in
          c.if-self-other.false
          ∙ sym (no_end-of_keys other text long (λ same.
          true≢false (sym (eq-eqb c.self.inside.key c.other.inside.key (c.self.invariant.key ∙ same ∙ sym c.other.invariant.key)) ∙ apart)))
          ∙ seen
    ]
