-- Where pages and slots stand: each page begins before the limit, and each slot ends with the slots or before.
use Rattle.std.proofs.Common.{◌≡◌, ◌≤◌, ◌<◌, ℕ, ◌+◌, ◌*◌, ap, arith}
use Rattle.std.proofs.lemmas.Grind.{div_ceil_times}
use Rattle.std.proofs.lemmas.Nat.{mul-le}
use Rattle.macho_signatures.specs.declared.directory.Directory.{Directory}
use Rattle.macho_signatures.specs.Directory.{hash_size, page_count}
use Rattle.macho_signatures.specs.Signature.{HasPages, slots_end}

pub times_more : (i n size : ℕ) → i < n → i * size + size ≤ n * size
times_more i n size below =
    let step : (i + 1) * size ≤ n * size = mul-le (i + 1) size n size (omega arith) (omega arith) in
    let spread : (i + 1) * size ≡ i * size + size = grind arith in
    omega (arith, step, spread)

-- a page begins before the limit
pub page_start-below : (d : Directory) (page : ℕ) → HasPages d → page < d.count → page * d.page_size < d.limit
page_start-below d page has inside =
    let step = times_more page d.count d.page_size inside in
    let count : d.count * d.page_size ≡ page_count d.page_size d.limit * d.page_size = ap (λ (n : ℕ). n * d.page_size) has.count in
    let most = (div_ceil_times d.limit d.page_size has.filled).1 in
    omega (arith, step, count, most)

-- a slot ends with the slots, or before
pub slot-within : (d : Directory) (page : ℕ) → page < d.count → d.slots + page * hash_size d.hash + hash_size d.hash ≤ slots_end d
slot-within d page inside = let step = times_more page d.count (hash_size d.hash) inside in omega (arith, step)
