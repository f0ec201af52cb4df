-- Where the numbers of the ends differ, these decide.
use Rattle.std.proofs.Common.{◌≡◌, ℕ, List, ap, sym, reverse, ◌∙◌}
use Rattle.std.specs.Cmp.Lexicographic.{slice_cmp}
use Rattle.std.specs.Ordering.{nat_cmp}
use Rattle.elf_tables.specs.EndKeys.{end_key}
use Rattle.elf_tables.specs.StringSteps.{Numbered}
use Rattle.elf_tables.proofs.EndKeyLaws.{end_key-cmp}
use Rattle.elf_tables.proofs.keyed.Keyed.from_their_ends.Goals as goal

pub returns-then-self-other : goal.returns-then-self-other
returns-then-self-other c =
    let text : List ℕ = c.self.inside.text.now in
    let other : List ℕ = c.other.inside.text.now in
    let as_ends : nat_cmp (end_key text) (end_key other) ≡ slice_cmp nat_cmp (reverse text) (reverse other) =
    end_key-cmp text other c.self.invariant.bytes c.other.invariant.bytes (λ same. c.if-self-other.true (c.self.invariant.key ∙ same ∙ sym c.other.invariant.key)) in
    c.cmp.ensures
    ∙ ap (λ k. nat_cmp k c.other.inside.key) c.self.invariant.key
    ∙ ap (λ k. nat_cmp (end_key text) k) c.other.invariant.key
    ∙ as_ends
    ∙ ap (λ (k : Numbered). slice_cmp nat_cmp (reverse k.text) (reverse other)) c.self.view_is
    ∙ ap (λ (k : Numbered). slice_cmp nat_cmp (reverse c.args.self.now.text) (reverse k.text)) c.other.view_is
