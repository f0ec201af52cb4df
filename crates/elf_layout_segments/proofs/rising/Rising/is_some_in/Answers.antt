use Rattle.std.proofs.Common.{ℕ, List, ap, ◌∙◌}
use Rattle.std.specs.Prelude.{count_by, nat_lt}
use Rattle.elf_layout_segments.proofs.CountLaws.{some_between}
use Rattle.elf_layout_segments.proofs.rising.Rising.is_some_in.Goals as goal

pub returns : goal.returns
returns c =
    let xs : List ℕ = c.args.self.now.numbers.items in
    ap (λ n. nat_lt n c.count_below-2.result) (c.count_below.ensures ∙ ap (λ (m : ℕ). count_by (λ x. nat_lt x m) xs) c.from.ensures)
    ∙ ap (nat_lt (count_by (λ x. nat_lt x c.args.part.start) xs)) (c.count_below-2.ensures ∙ ap (λ (m : ℕ). count_by (λ x. nat_lt x m) xs) c.end.ensures)
    ∙ some_between c.args.part xs
