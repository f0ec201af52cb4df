-- The numbers of an image's symbols rise, and so do those of some.
use Rattle.std.proofs.Common.{◌≡◌, List, ℕ, sym, subst}
use Rattle.std.specs.List.Sorted.{IsNonDecreasing}
use Rattle.std.proofs.lemmas.Result.{IfOk-weaker}
use Rattle.elf_image_uses.specs.Steps.{goes_with, numbers_with}
use Rattle.elf_image_uses.proofs.AlongSteps.{kept_numbers_rise}
use Rattle.elf_image_uses.proofs.along.symbols_along.Goals as goal

pub returns-clause-rising : goal.returns-clause-rising
returns-clause-rising c =
    let gone : List ℕ = c.args.gone.now in
    IfOk-weaker c.symbols_with.result (λ v. v.items ≡ numbers_with c.does_go-table.result gone c.args.image.now) (λ v. IsNonDecreasing v.items)
    (λ v is. subst (λ (xs : List ℕ). IsNonDecreasing xs) (sym is)
    (kept_numbers_rise c.args.image.now c.source-source.ensures.edited (λ x. goes_with c.does_go-table.result gone x.0 x.1)))
    c.symbols_with.ensures
