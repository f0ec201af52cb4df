-- A name is empty where a NUL stands at its place.
use Rattle.std.proofs.Common.{◌≡◌, ◌<◌, Some, ap, ◌∙◌, length, arith}
use Rattle.std.specs.Prelude.{◌==◌, is_some, not, option_map}
use Rattle.elf_format.specs.Memory.{memory_of, text_at}
use Rattle.elf_format.specs.Records.{symbol_numbers}
use Rattle.elf_format.specs.Views.{NamedSymbol}
use Rattle.elf_image_symbols.proofs.NameSteps.{empty_at, there_within}
use Rattle.elf_image_symbols.proofs.SeenSteps.{numbers_of, seen_at, within}
use Rattle.elf_image_symbols.proofs.symbols.Symbols.has_name.Goals as goal

pub record_at-requires : goal.record_at-requires
record_at-requires c = within c.self.inside c.self.invariant c.args.self.now c.self.view_is c.args.i c.requires

pub bounds-self-inside-place : goal.bounds-self-inside-place
bounds-self-inside-place c =
    let (y, _, shows) = seen_at c.self.inside c.self.invariant c.args.self.now c.self.view_is c.args.i c.requires in
    let place : c.name_place-place.result ≡ (numbers_of c.self.inside c.args.i).st_name =
    c.name_place-place.ensures ∙ ap (λ b. (symbol_numbers c.self.inside.form b).st_name) c.record_at.ensures in
    there_within (length c.self.inside.texts.now) c.name_place-place.result c.self.inside.texts.now (omega arith)
    (ap (λ n. is_some (text_at (length c.self.inside.texts.now) (memory_of c.self.inside.texts.now) n)) place ∙ ap is_some shows.named)

pub returns : goal.returns
returns c =
    let (y, at, shows) = seen_at c.self.inside c.self.invariant c.args.self.now c.self.view_is c.args.i c.requires in
    let place : c.name_place-place.result ≡ (numbers_of c.self.inside c.args.i).st_name =
    c.name_place-place.ensures ∙ ap (λ b. (symbol_numbers c.self.inside.form b).st_name) c.record_at.ensures in
    let named = ap (text_at (length c.self.inside.texts.now) (memory_of c.self.inside.texts.now)) place ∙ shows.named in
    let here : c.name_place-place.result < length c.self.inside.texts.now =
    there_within (length c.self.inside.texts.now) c.name_place-place.result c.self.inside.texts.now (omega arith) (ap is_some named) in
    ap (option_map (λ (z : NamedSymbol). not (length z.name == 0))) at
    ∙ ap (λ b. Some (not b)) (empty_at (length c.self.inside.texts.now) c.name_place-place.result c.self.inside.texts.now y.name (omega arith) here named)
