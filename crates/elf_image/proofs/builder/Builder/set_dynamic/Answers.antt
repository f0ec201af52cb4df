use Rattle.std.proofs.Common.{List, Some, map, subst, sym}
use Rattle.elf_format.specs.Dynamic.{Entry}
use Rattle.elf_format.specs.Image.{Image}
use Rattle.elf_image.specs.BuilderModel.{image_model}
use Rattle.elf_image.specs.ImageModel.{entry_model}
use Rattle.elf_image_headers.specs.DynamicList.{KeepsTables}
use Rattle.elf_image.proofs.EntriesKept.{entries_set}
use Rattle.elf_image.proofs.Kept.{with_entries}
use Rattle.elf_image.proofs.builder.Builder.set_dynamic.Goals as goal

pub invariant_of-self : goal.invariant_of-self
invariant_of-self c =
    let new : List Entry = map entry_model c.args.list.items in (
      with_entries (image_model c.self.inside) (Some new) c.self.invariant.0
          (λ read h. entries_set read (image_model c.self.inside).entries new h (subst (λ (i : Image). KeepsTables i.entries new) (sym c.self.view_is) c.requires.tables) c.requires.entries),
      c.self.invariant.1,
    )
