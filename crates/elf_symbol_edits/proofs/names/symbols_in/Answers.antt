-- One symbol after another.
use Rattle.std.proofs.Common.{◌≡◌, ℕ, List, Bool, Some, ap, sym, ◌∙◌, arith}
use Rattle.std.specs.Prelude.{◌&&◌, ◌==◌, not}
use Rattle.std.specs.HashSet.{keys}
use Rattle.std.specs.List.{slice_get, zip}
use Rattle.elf_edits.specs.Changes.{has_name}
use Rattle.elf_format.specs.Views.{NamedSymbol}
use Rattle.elf_image_symbols.specs.Loan.{numbers_now, symbols_now}
use Rattle.elf_edits.proofs.ForCallers.{keeps_all, keeps_none, keeps_one}
use Rattle.elf_symbol_edits.specs.Named.{numbers_passing, symbol_name}
use Rattle.elf_symbol_edits.proofs.NumberSteps.{part_there, zip_short, zip_there}
use Rattle.elf_symbol_edits.proofs.names.symbols_in.Goals as goal
use Rattle.elf_symbol_edits.proofs.names.symbols_in.Goals.{then-is_named+in_ok-push, else-is_named}

pub loop-i-preserved : goal.loop-i-preserved
loop-i-preserved c =
    let ns : List ℕ = numbers_now c.args.symbols.now in
    let ys : List NamedSymbol = symbols_now c.args.symbols.now in
    let i : ℕ = c.loop-i.i in
    let number : ℕ = c.read_number-number.result in
    let test : NamedSymbol → Bool = λ y. has_name (keys c.args.names.now) (symbol_name y) in
    let (y, at, same) = part_there symbol_name ys i c.name.result.now c.name.ensures in
    let there : slice_get (zip ns ys) i ≡ Some (number, y) = zip_there ns ys i number y c.read_number-number.ensures at in
    let is : c.is_named.result ≡ (not (number == 0) && test y) =
    c.is_named.ensures ∙ ap (λ (n : List ℕ). not (number == 0) && has_name (keys c.args.names.now) n) (sym same) in
    elim c.if-is_named.branch [
      | then-is_named+in_ok-push w ↦
          keeps_one (λ x. x.0) (λ x. not (x.0 == 0) && test x.1) c.loop-i.made.items c.if-is_named.made.items (numbers_passing test ns ys)
          (zip ns ys) i (number, y) c.is_named.result there is w.if-is_named.true (ap (λ v. v.items) w.made-is ∙ w.in_ok-push.ensures.items) c.loop-i.invariant
      | else-is_named w ↦
          keeps_none (λ x. x.0) (λ x. not (x.0 == 0) && test x.1) c.loop-i.made.items c.if-is_named.made.items (numbers_passing test ns ys)
          (zip ns ys) i (number, y) c.is_named.result there is w.if-is_named.false (ap (λ v. v.items) w.made-is) c.loop-i.invariant
    ]

pub returns : goal.returns
returns c =
    let ns : List ℕ = numbers_now c.args.symbols.now in
    let ys : List NamedSymbol = symbols_now c.args.symbols.now in
    let test : NamedSymbol → Bool = λ y. has_name (keys c.args.names.now) (symbol_name y) in
    keeps_all (λ x. x.0) (λ x. not (x.0 == 0) && test x.1) c.loop-i.made.items (numbers_passing test ns ys)
    (zip ns ys) c.loop-i.i (omega (arith, zip_short ns ys)) c.loop-i.invariant
