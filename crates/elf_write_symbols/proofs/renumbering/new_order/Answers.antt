-- With other names a GNU table decides on the order.
use Rattle.std.proofs.Common.{ap, sym, ◌∙◌, ℕ, length, arith}
use Rattle.elf_format.specs.Hashes.{gnu_hash}
use Rattle.elf_format.specs.Image.{Image, counted}
use Rattle.elf_hashes.specs.Found.{found_hashes}
use Rattle.elf_hashes.specs.Order.{places_by_bucket}
use Rattle.elf_write_spec.proofs.ForCallers.OrderFacts.{order-by_bucket, order-unbucketed}
use Rattle.elf_write_symbols.proofs.ListSteps.{match_more}
use Rattle.elf_write_symbols.proofs.renumbering.new_order.Goals as goal

pub order_for_gnu_hash-requires-clause-found : goal.order_for_gnu_hash-requires-clause-found
order_for_gnu_hash-requires-clause-found c = c.requires.hashes ∙ sym (ap (found_hashes gnu_hash) c.dynamic_symbols-symbols.ensures.symbols)

pub returns-in-Some : goal.returns-in-Some
returns-in-Some c =
    let read : Image = c.args.read.now in
    let image : Image = c.args.image.now in
    let buckets : ℕ = c.in-Some.buckets in
    match_more c.order_for_gnu_hash.result _ _ _ _
    (λ order is. is.0 ∙ ap (places_by_bucket buckets) c.dynamic_symbols-symbols.ensures.symbols
    ∙ sym (order-by_bucket read image buckets c.requires.changed (sym c.buckets.ensures.value ∙ c.in-Some.is)))
    (λ fault large same. omega (arith, large same, c.requires.few, ap length c.dynamic_symbols-symbols.ensures.symbols))
    c.order_for_gnu_hash.ensures

pub returns-in_ok-order-in-None : goal.returns-in_ok-order-in-None
returns-in_ok-order-in-None c =
    let read : Image = c.args.read.now in
    let image : Image = c.args.image.now in
    c.in_ok-order-in-None.ensures ∙ ap counted (c.len.ensures ∙ ap length c.dynamic_symbols-symbols.ensures.symbols)
    ∙ sym (order-unbucketed read image (sym c.buckets.ensures.value ∙ c.in-None.is))
