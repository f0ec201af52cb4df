-- One symbol's version more, or none.
use Rattle.std.proofs.Common.{arith}
use Rattle.elf_image_symbols.specs.SymbolModel.{symbol_model}
use Rattle.elf_image_symbols.specs.Loan.{symbols_now}
use Rattle.elf_hashes.proofs.VersionSteps.{versions-none, versions-some}
use Rattle.elf_hashes.proofs.versions.versions.Goals as goal
use Rattle.elf_hashes.proofs.versions.versions.Goals.{in-Some+in_ok-push-in-Some, in-None}

pub loop-i-preserved : goal.loop-i-preserved
loop-i-preserved c = elim c.match-symbol.branch [
  | in-Some+in_ok-push-in-Some w ↦
      rw w.ids-is
      (versions-some (symbols_now c.args.symbols) c.args.order.now c.loop-i.i-index (symbol_model c.get-symbol.result) w.in-Some.id c.loop-i.ids.items w.push.new.self.items (omega (arith, c.loop-i-test.true))
      c.get-symbol.ensures w.in-Some.is c.loop-i.invariant w.in_ok-push-in-Some.ensures.items)
  | in-None w ↦
      rw w.ids-is
      (versions-none (symbols_now c.args.symbols) c.args.order.now c.loop-i.i-index (symbol_model c.get-symbol.result) c.loop-i.ids.items (omega (arith, c.loop-i-test.true))
      c.get-symbol.ensures w.in-None.is c.loop-i.invariant)
]
