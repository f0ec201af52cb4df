-- The name that its record shows.
use Rattle.std.proofs.Common.{◌≡◌, ap, sym, ◌∙◌, length}
use Rattle.std.specs.Prelude.{is_some, option_map}
use Rattle.elf_format.specs.Memory.{memory_of, text_at}
use Rattle.elf_format.specs.Records.{symbol_numbers}
use Rattle.elf_format.specs.Views.{NamedSymbol}
use Rattle.elf_image_symbols.proofs.SeenSteps.{numbers_of, seen_at, within}
use Rattle.elf_image_symbols.proofs.symbols.Symbols.name.Goals as goal

pub record_at-requires : goal.record_at-requires
record_at-requires c = within c.self.inside c.self.invariant c.args.self.now c.self.view_is c.args.i c.requires

pub text_there-requires : goal.text_there-requires
text_there-requires c =
    let (y, _, shows) = seen_at c.self.inside c.self.invariant c.args.self.now c.self.view_is c.args.i c.requires in
    let place : c.name_place-place.result ≡ (numbers_of c.self.inside c.args.i).st_name =
    c.name_place-place.ensures ∙ ap (λ b. (symbol_numbers c.self.inside.form b).st_name) c.record_at.ensures in
    ap (λ n. is_some (text_at (length c.self.inside.texts.now) (memory_of c.self.inside.texts.now) n)) place ∙ ap is_some shows.named

pub returns : goal.returns
returns c =
    let (y, at, shows) = seen_at c.self.inside c.self.invariant c.args.self.now c.self.view_is c.args.i c.requires in
    let place : c.name_place-place.result ≡ (numbers_of c.self.inside c.args.i).st_name =
    c.name_place-place.ensures ∙ ap (λ b. (symbol_numbers c.self.inside.form b).st_name) c.record_at.ensures in
    ap (option_map (λ (z : NamedSymbol). z.name)) at ∙ sym shows.named
    ∙ ap (text_at (length c.self.inside.texts.now) (memory_of c.self.inside.texts.now)) (sym place) ∙ c.text_there.ensures
