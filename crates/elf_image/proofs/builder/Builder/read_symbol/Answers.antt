-- The number is that of the symbols that are lent.
use Rattle.std.proofs.Common.{List, ℕ, ap, sym, ◌∙◌}
use Rattle.std.specs.List.{slice_get}
use Rattle.std.proofs.lemmas.Option.{get_or_from_slice_get}
use Rattle.elf_image.proofs.builder.Builder.read_symbol.Goals as goal

pub returns : goal.returns
returns c =
    sym (get_or_from_slice_get c.args.self.now.symbol_numbers c.args.i c.read_number.result 0
    (ap (λ (ns : List ℕ). slice_get ns c.args.i) (sym c.symbols.ensures.numbers) ∙ c.read_number.ensures))
