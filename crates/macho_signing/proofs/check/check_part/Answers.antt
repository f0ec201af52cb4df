use Rattle.std.proofs.Common.{◌≡◌, ◌+◌, ◌-◌, ℕ, None, Some, ap, arith, drop, subst, take}
use Rattle.std.proofs.lemmas.Result.{err_from_is_err_and}
use Rattle.macho_signing.specs.Thin.{thin_fault}
use Rattle.macho_signing.proofs.CheckLaws.{found_is}
use Rattle.macho_signing.proofs.check.check_part.Goals as goal

pub returns-in_err-signature : goal.returns-in_err-signature
returns-in_err-signature c =
    let p = err_from_is_err_and c.from_residual.result c.from_residual.ensures.1 in
    let o : ℕ = c.args.part.offset in
    let size : o + c.args.part.size - o ≡ c.args.part.size = omega arith in
    let P : ℕ → Type 0 = λ n. thin_fault (take n (drop o c.args.bytes.now)) ≡ Some c.in_err-signature.field-0.0 in
    rw (p.1, p.2) (λ other. subst P size (c.in_err-signature.ensures other))

pub returns : goal.returns
returns c =
    let o : ℕ = c.args.part.offset in
    let size : o + c.args.part.size - o ≡ c.args.part.size = omega arith in
    let P : ℕ → Type 0 = λ n. thin_fault (take n (drop o c.args.bytes.now)) ≡ None in (
      subst P size c.in_ok-signature.ensures.0,
      found_is c.args.bytes.now _ c.args.part c.in_ok-signature.signature c.in_ok-unfit.unfit.items (ap (λ (n : ℕ). take n (drop o c.args.bytes.now)) size) c.in_ok-signature.ensures.1 c.in_ok-unfit.ensures,
    )
