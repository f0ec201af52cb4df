-- The order is whole.
use Rattle.std.proofs.Common.{◌≡◌, ℕ, ◌<◌, List, Option, length, ap, ◌∙◌, arith}
use Rattle.elf_format.specs.Hashes.{gnu_hash}
use Rattle.elf_image_symbols.specs.Loan.{symbols_now}
use Rattle.elf_hashes.specs.Buckets.{chains, hashes_of, heads, in_buckets}
use Rattle.elf_hashes.specs.Found.{hashed_names}
use Rattle.elf_hashes.proofs.HashSteps.{own-behind}
use Rattle.elf_hashes.proofs.NameLaws.{length-buckets, length-hashes}
use Rattle.elf_hashes.proofs.OrderSteps.{firsts-inside, nexts-inside, order-none, order-whole}
use Rattle.elf_hashes.proofs.order.order_for_gnu_hash.Goals as goal

pub returns-then-len-eq0 : goal.returns-then-len-eq0
returns-then-len-eq0 c = (c.new.ensures.items ∙ order-none c.args.buckets (symbols_now c.args.symbols) (omega arith), omega arith)

pub make_chains-requires-clause-fits : goal.make_chains-requires-clause-fits
make_chains-requires-clause-fits c =
    let same : c.as_slice.result.now ≡ hashes_of gnu_hash (hashed_names (symbols_now c.args.symbols)) = c.as_slice.ensures.value ∙ c.in_ok-hashes.ensures
    ∙ own-behind gnu_hash (symbols_now c.args.symbols) c.args.found.now (omega (arith, c.if-len-eq0.false, c.len-2.ensures)) c.requires.found in
    omega (arith, c.if-len.false, c.len.ensures, ap (λ (l : List (Option ℕ)). length l) same, length-hashes gnu_hash (symbols_now c.args.symbols))

pub places-requires-clause-firsts : goal.places-requires-clause-firsts
places-requires-clause-firsts c =
    let hashes : List (Option ℕ) = hashes_of gnu_hash (hashed_names (symbols_now c.args.symbols)) in
    let same : c.as_slice.result.now ≡ hashes = c.as_slice.ensures.value ∙ c.in_ok-hashes.ensures
    ∙ own-behind gnu_hash (symbols_now c.args.symbols) c.args.found.now (omega (arith, c.if-len-eq0.false, c.len-2.ensures)) c.requires.found in
    let some : 0 < length (in_buckets c.args.buckets hashes) = omega (arith, length-buckets gnu_hash c.args.buckets (symbols_now c.args.symbols), c.if-len-eq0.false, c.len-2.ensures) in
    firsts-inside c.args.buckets (in_buckets c.args.buckets hashes) c.in_ok-chained.chained.firsts.items c.in_ok-chained.chained.nexts.items some
    (c.in_ok-chained.ensures.0 ∙ ap (λ l. heads c.args.buckets (in_buckets c.args.buckets l)) same)
    (c.in_ok-chained.ensures.1 ∙ ap (λ l. chains 0 (in_buckets c.args.buckets l)) same)

pub places-requires-clause-nexts : goal.places-requires-clause-nexts
places-requires-clause-nexts c =
    let hashes : List (Option ℕ) = hashes_of gnu_hash (hashed_names (symbols_now c.args.symbols)) in
    let same : c.as_slice.result.now ≡ hashes = c.as_slice.ensures.value ∙ c.in_ok-hashes.ensures
    ∙ own-behind gnu_hash (symbols_now c.args.symbols) c.args.found.now (omega (arith, c.if-len-eq0.false, c.len-2.ensures)) c.requires.found in
    let some : 0 < length (in_buckets c.args.buckets hashes) = omega (arith, length-buckets gnu_hash c.args.buckets (symbols_now c.args.symbols), c.if-len-eq0.false, c.len-2.ensures) in
    nexts-inside (in_buckets c.args.buckets hashes) c.in_ok-chained.chained.nexts.items some
    (c.in_ok-chained.ensures.1 ∙ ap (λ l. chains 0 (in_buckets c.args.buckets l)) same)

pub returns : goal.returns
returns c =
    let hashes : List (Option ℕ) = hashes_of gnu_hash (hashed_names (symbols_now c.args.symbols)) in
    let same : c.as_slice.result.now ≡ hashes = c.as_slice.ensures.value ∙ c.in_ok-hashes.ensures
    ∙ own-behind gnu_hash (symbols_now c.args.symbols) c.args.found.now (omega (arith, c.if-len-eq0.false, c.len-2.ensures)) c.requires.found in (
      order-whole c.args.buckets (symbols_now c.args.symbols) c.in_ok-chained.chained.firsts.items c.in_ok-chained.chained.nexts.items c.in_ok-order.order.items (omega (arith, c.requires.some))
          (c.in_ok-chained.ensures.0 ∙ ap (λ l. heads c.args.buckets (in_buckets c.args.buckets l)) same)
          (c.in_ok-chained.ensures.1 ∙ ap (λ l. chains 0 (in_buckets c.args.buckets l)) same)
          c.in_ok-order.ensures,
      omega arith,
    )
