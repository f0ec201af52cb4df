-- The distance of the two starts is so many records.
use Rattle.std.proofs.Common.{◌≡◌, ◌≤◌, ◌+◌, ◌-◌, ◌*◌, ◌/◌, ◌%◌, ℕ, inr, arith}
use Rattle.std.proofs.lemmas.Nat.{div-add-mod'}
use Rattle.elf_image_rules.proofs.kind.covered.Goals as goal

pub returns-clause-among : goal.returns-clause-among
returns-clause-among c =
    let before : ℕ = (c.args.run.start - c.args.done.start) / c.args.size in
    let whole : before * c.args.size + (c.args.run.start - c.args.done.start) % c.args.size ≡ c.args.run.start - c.args.done.start = div-add-mod' (c.args.run.start - c.args.done.start) c.args.size in
    let place : c.args.run.start ≡ c.args.done.start + before * c.args.size = omega arith in
    let within : before + c.min.result ≤ c.args.done.count = omega arith in
    inr (before, place, within)
