-- The first symbol has no hash, and behind it stand the hashes of the others.
use Rattle.std.proofs.Common.{ℕ, ◌≡◌, ◌-◌, ◌<◌, List, length, drop, take, ◌∷◌, [], ◌++◌, Option, None, ap, ◌∙◌, sym, subst, arith}
use Rattle.std.specs.Prelude.{All, option_map, slice_get}
use Rattle.std.specs.List.{filter_map}
use Rattle.std.proofs.lemmas.List.{length-map, take_rest}
use Rattle.std.proofs.lemmas.List.Elements.{All-drop, All-take}
use Rattle.elf_format.specs.Views.{NamedSymbol}
use Rattle.elf_image_symbols.specs.Loan.{symbols_now}
use Rattle.elf_hashes.specs.Found.{found_name}
use Rattle.elf_hashes.specs.Steps.{hash_by}
use Rattle.elf_hashes.proofs.HashSteps.{hashes-none, hashes-whole, made-then-picked}
use Rattle.elf_hashes.proofs.hashes.hashes.Goals as goal

pub returns-then-order-eq0 : goal.returns-then-order-eq0
returns-then-order-eq0 c = c.new.ensures.items ∙ sym (hashes-none (hash_by c.args.hashing) (symbols_now c.args.symbols) c.args.order.now (omega arith))

pub push_hashes-requires : goal.push_hashes-requires
push_hashes-requires c =
    let ys : List NamedSymbol = symbols_now c.args.symbols in
    let seen : NamedSymbol → Option ℕ = λ y. option_map (hash_by c.args.hashing) (found_name y) in
    let many : length ys ≡ length c.args.found.now = sym (ap length c.requires.found ∙ length-map ys seen) in
    subst (λ (n : ℕ). All (λ (i : ℕ). i < n) (take (length c.args.order.now - 1) (drop 1 c.args.order.now))) many
    (All-take (λ (i : ℕ). i < length ys) (length c.args.order.now - 1) (drop 1 c.args.order.now)
    (All-drop (λ (i : ℕ). i < length ys) 1 c.args.order.now c.requires.places))

pub returns : goal.returns
returns c =
    let ys : List NamedSymbol = symbols_now c.args.symbols in
    let seen : NamedSymbol → Option ℕ = λ y. option_map (hash_by c.args.hashing) (found_name y) in
    let picked : List (Option ℕ) → List ℕ → List (Option ℕ) = λ found order. filter_map (λ i. slice_get found i) order in
    let behind : List ℕ = take (length c.args.order.now - 1) (drop 1 c.args.order.now) in
    c.in_ok-push_hashes.ensures
    ∙ ap (λ l. l ++ picked c.args.found.now behind) (c.in_ok-push.ensures.items ∙ ap (λ l. l ++ None ∷ []) c.in_ok-hashes.ensures.items)
    ∙ ap (λ l. None ∷ picked c.args.found.now l) (take_rest c.args.order.now 1)
    ∙ ap (λ l. None ∷ picked l (drop 1 c.args.order.now)) c.requires.found
    ∙ ap (λ l. None ∷ l) (made-then-picked seen ys (drop 1 c.args.order.now))
    ∙ sym (hashes-whole (hash_by c.args.hashing) ys c.args.order.now (omega arith) c.requires.places)
