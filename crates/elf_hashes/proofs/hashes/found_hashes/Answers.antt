-- One hash more, and all.
use Rattle.std.proofs.Common.{ℕ, List, Option, map, ◌∙◌, arith}
use Rattle.std.specs.Prelude.{option_map}
use Rattle.std.proofs.lemmas.List.{length-map, take_all}
use Rattle.std.proofs.lemmas.Option.{slice_get-map}
use Rattle.elf_format.specs.Views.{NamedSymbol}
use Rattle.elf_image_symbols.specs.Loan.{symbols_now}
use Rattle.elf_hashes.specs.Found.{found_name}
use Rattle.elf_hashes.specs.Steps.{hash_by}
use Rattle.elf_hashes.proofs.HashSteps.{taken-more}
use Rattle.elf_hashes.proofs.hashes.found_hashes.Goals as goal

pub loop-i-preserved : goal.loop-i-preserved
loop-i-preserved c =
    let seen : NamedSymbol → Option ℕ = λ y. option_map (hash_by c.args.hashing) (found_name y) in
    let ys : List NamedSymbol = symbols_now c.args.symbols in
    taken-more (map seen ys) c.loop-i.hashes.items c.push.new.self.items c.loop-i.i c.found_hash.result
    (slice_get-map seen ys c.loop-i.i ∙ c.found_hash.ensures)
    c.loop-i.invariant c.in_ok-push.ensures.items

pub returns : goal.returns
returns c =
    let seen : NamedSymbol → Option ℕ = λ y. option_map (hash_by c.args.hashing) (found_name y) in
    let ys : List NamedSymbol = symbols_now c.args.symbols in
    c.loop-i.invariant ∙ take_all c.loop-i.i (map seen ys) (omega (arith, length-map ys seen, c.len.ensures))
