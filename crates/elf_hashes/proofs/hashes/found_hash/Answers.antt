-- The hash of the name of the symbol that stands there, where a look-up may find it.
use Rattle.std.proofs.Common.{◌≡◌, ℕ, List, Bool, Some, None, ap, sym, ◌∙◌}
use Rattle.std.specs.Prelude.{if◌then◌else◌, option_map, slice_get}
use Rattle.std.proofs.lemmas.Option.{same_Some}
use Rattle.elf_format.specs.Views.{NamedSymbol}
use Rattle.elf_image_symbols.specs.FrontText.{front_text}
use Rattle.elf_image_symbols.specs.Loan.{symbols_now}
use Rattle.elf_hashes.specs.Found.{found_name, is_found}
use Rattle.elf_hashes.specs.Steps.{hash_by}
use Rattle.elf_hashes.proofs.HashSteps.{with_part}
use Rattle.elf_hashes.proofs.hashes.found_hash.Goals as goal

pub returns-then-is_found : goal.returns-then-is_found
returns-then-is_found c =
    let hash : List ℕ → ℕ = hash_by c.args.hashing in
    let (y, at, found) = with_part is_found (slice_get (symbols_now c.args.symbols) c.args.i) c.is_found.result c.is_found.ensures in
    let front : List ℕ = front_text c.name_front.result.now in
    let name : y.name ≡ front = same_Some y.name front (sym (ap (option_map (λ (y : NamedSymbol). y.name)) at) ∙ c.name_front.ensures) in
    ap (option_map (λ (y : NamedSymbol). option_map hash (found_name y))) at
    ∙ ap (λ (b : Bool). Some (option_map hash (if b then Some y.name else None))) (found ∙ c.if-is_found.true)
    ∙ ap (λ (n : List ℕ). Some (Some (hash n))) name
    ∙ ap (λ (h : ℕ). Some (Some h)) (sym c.hash_of.ensures)

pub returns-else-is_found : goal.returns-else-is_found
returns-else-is_found c =
    let (y, at, found) = with_part is_found (slice_get (symbols_now c.args.symbols) c.args.i) c.is_found.result c.is_found.ensures in
    ap (option_map (λ (y : NamedSymbol). option_map (hash_by c.args.hashing) (found_name y))) at
    ∙ ap (λ (b : Bool). Some (option_map (hash_by c.args.hashing) (if b then Some y.name else None))) (found ∙ c.if-is_found.false)
