-- One symbol of the chain more, and its end.
use Rattle.std.proofs.Common.{ℕ, List, ◌-◌, ◌+◌, ◌++◌, length, refl, arith}
use Rattle.elf_hashes.specs.Steps.{walk}
use Rattle.elf_hashes.proofs.OrderSteps.{chain-done, chain-more, chain-none}
use Rattle.elf_hashes.proofs.order.push_chain.Goals as goal

pub loop-preserved : goal.loop-preserved
loop-preserved c =
    let nexts : List ℕ = c.args.nexts.now in
    let all : List ℕ = c.args.order.now.items ++ walk nexts (length nexts) c.args.first in
    record {
      inside = c.requires.nexts c.loop.symbol 0 c.loop.invariant.inside;
      rest =
          chain-more nexts c.loop.order.items c.push.new.self.items all (length nexts - c.loop.counter) (length nexts - (c.loop.counter + 1)) c.loop.symbol _ (omega (arith, c.loop-test.true)) c.if-symbol-eq0.false refl
          c.in_ok-push.ensures.items c.loop.invariant.rest;
    }

pub returns-after-loop : goal.returns-after-loop
returns-after-loop c =
    let nexts : List ℕ = c.args.nexts.now in
    let all : List ℕ = c.args.order.now.items ++ walk nexts (length nexts) c.args.first in
    chain-done nexts c.loop.order.items all (length nexts - c.loop.counter) c.loop.symbol (omega (arith, c.loop-test.false)) c.loop.invariant.rest

pub returns-then-symbol-eq0 : goal.returns-then-symbol-eq0
returns-then-symbol-eq0 c =
    let nexts : List ℕ = c.args.nexts.now in
    let all : List ℕ = c.args.order.now.items ++ walk nexts (length nexts) c.args.first in
    chain-none nexts c.loop.order.items all (length nexts - c.loop.counter) c.loop.symbol c.if-symbol-eq0.true c.loop.invariant.rest
