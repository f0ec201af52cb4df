-- From its place on the name stands.
use Rattle.std.proofs.Common.{◌≡◌, ◌≤◌, ◌-◌, ℕ, List, Option, Some, ap, sym, ◌∙◌, length, take, drop, arith}
use Rattle.std.specs.Prelude.{is_some, option_map}
use Rattle.elf_format.specs.Memory.{memory_of, text_at}
use Rattle.elf_format.specs.Records.{symbol_numbers}
use Rattle.elf_format.specs.Views.{NamedSymbol}
use Rattle.elf_format.proofs.ForCallers.ReadingSteps.{text_at-in}
use Rattle.elf_image_symbols.proofs.NameSteps.{text_of_rest, there_within}
use Rattle.elf_image_symbols.proofs.SeenSteps.{numbers_of, seen_at, within}
use Rattle.elf_image_symbols.proofs.symbols.Symbols.name_front.Goals as goal

pub record_at-requires : goal.record_at-requires
record_at-requires c = within c.self.inside c.self.invariant c.args.self.now c.self.view_is c.args.i c.requires

-- a name's place is in the string table
place_inside : (room n place : ℕ) (texts name : List ℕ) → length texts ≤ room → place ≡ n → text_at room (memory_of texts) n ≡ Some name → place ≤ length texts
place_inside room n place texts name long same stands =
    let less = there_within room place texts long (ap (λ (k : ℕ). is_some (text_at room (memory_of texts) k)) same ∙ ap is_some stands) in omega (arith, less)

pub slice_bounds-result-count : goal.slice_bounds-result-count
slice_bounds-result-count c =
    let (y, _, shows) = seen_at c.self.inside c.self.invariant c.args.self.now c.self.view_is c.args.i c.requires in
    place_inside (length c.self.inside.texts.now) (numbers_of c.self.inside c.args.i).st_name c.name_place-place.result c.self.inside.texts.now y.name (omega arith)
    (c.name_place-place.ensures ∙ ap (λ b. (symbol_numbers c.self.inside.form b).st_name) c.record_at.ensures) shows.named

pub slice_bounds-result-start : goal.slice_bounds-result-start
slice_bounds-result-start c =
    let (y, _, shows) = seen_at c.self.inside c.self.invariant c.args.self.now c.self.view_is c.args.i c.requires in
    let inside =
    place_inside (length c.self.inside.texts.now) (numbers_of c.self.inside c.args.i).st_name c.name_place-place.result c.self.inside.texts.now y.name (omega arith)
    (c.name_place-place.ensures ∙ ap (λ b. (symbol_numbers c.self.inside.form b).st_name) c.record_at.ensures) shows.named in
    omega (arith, inside)

pub returns : goal.returns
returns c =
    let (y, at, shows) = seen_at c.self.inside c.self.invariant c.args.self.now c.self.view_is c.args.i c.requires in
    let place : c.name_place-place.result ≡ (numbers_of c.self.inside c.args.i).st_name =
    c.name_place-place.ensures ∙ ap (λ b. (symbol_numbers c.self.inside.form b).st_name) c.record_at.ensures in
    let texts : List ℕ = c.self.inside.texts.now in
    let rest : List ℕ = take (length texts - c.name_place-place.result) (drop c.name_place-place.result texts) in
    ap (option_map (λ (z : NamedSymbol). Some z.name)) at
    ∙ ap (λ (o : Option (List ℕ)). Some o)
    (sym (ap (text_at (length texts) (memory_of texts)) place ∙ shows.named) ∙ text_of_rest c.name_place-place.result texts ∙ sym (text_at-in (length rest) 0 rest (omega arith)))
