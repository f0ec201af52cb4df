-- The name is the one that was read, or another one.
use Rattle.std.proofs.Common.{◌≡◌, sym, ◌∙◌}
use Rattle.std.proofs.lemmas.Slice.Eq.{bytes_eq-Decides}
use Rattle.elf_format.specs.Views.{NamedSymbol}
use Rattle.elf_image_symbols.specs.Changes.{read_at}
use Rattle.elf_image_symbols.proofs.SymbolLaws.{read_part}
use Rattle.elf_image_symbols.proofs.change.Change.keeps_name.Goals as goal

pub returns : goal.returns
returns c =
    let named : (read_at c.args.table.now c.args.self.now.number).name ≡ c.name.result.now =
    read_part (λ (y : NamedSymbol). y.name) c.args.table.now c.args.self.now.number c.name.result.now c.requires c.name.ensures in
    let decides = bytes_eq-Decides c.as_slice.result.now c.name.result.now in (
      λ h. sym c.as_slice.ensures ∙ decides.0 (sym c.eq.ensures ∙ h) ∙ sym named,
      λ leaves. c.eq.ensures ∙ decides.1 (c.as_slice.ensures ∙ leaves ∙ named),
    )
