-- One symbol more has a version, and all have.
use Rattle.std.proofs.Common.{◌≡◌, inl, inr, true, get_or, ap, sym, subst, ◌∙◌, arith}
use Rattle.std.specs.Prelude.{is_some, slice_get}
use Rattle.std.proofs.lemmas.Bool.{cases_lt}
use Rattle.std.proofs.lemmas.Option.{same_Some, slice_get-get_or}
use Rattle.elf_format.specs.Views.{NamedSymbol}
use Rattle.elf_image_symbols.specs.Loan.{symbols_now}
use Rattle.elf_image_symbols.specs.SymbolModel.{symbol_model}
use Rattle.test_elf.proofs.hash_tables.built.have_versions.Goals as goal

pub loop-i-preserved : goal.loop-i-preserved
loop-i-preserved c = λ k y less at. elim (cases_lt k c.loop-i.i) [
  | inl before ↦ c.loop-i.invariant k y before at
  | inr past ↦
      let same : k ≡ c.loop-i.i = omega (arith, less, past) in
      let here : symbol_model c.get-symbol.result ≡ y =
      same_Some (symbol_model c.get-symbol.result) y (sym c.get-symbol.ensures ∙ ap (slice_get (symbols_now c.args.symbols)) (sym same) ∙ at) in
      let Has : NamedSymbol → Type 0 = λ s. is_some s.version ≡ true in
      subst Has here c.if-is_none.ensures
]

pub returns : goal.returns
returns c = λ is k d inside.
    c.loop-i.invariant k (get_or (symbols_now c.args.symbols) k d) (omega (arith, inside, c.len-i-end.ensures, c.loop-i-test.false)) (slice_get-get_or (symbols_now c.args.symbols) k d inside)
