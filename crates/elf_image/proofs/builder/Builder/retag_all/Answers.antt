use Rattle.std.proofs.Common.{List, Option, ap, map}
use Rattle.std.specs.Option.{option_map}
use Rattle.std.specs.Global.{Vec}
use Rattle.elf_format.specs.Dynamic.{Entry}
use Rattle.elf_image_headers.specs.declared.dynamic.Dynamic.{Dynamic}
use Rattle.elf_image.specs.BuilderModel.{image_model}
use Rattle.elf_image.specs.ImageModel.{entry_model}
use Rattle.elf_image_headers.specs.DynamicList.{retagged}
use Rattle.elf_image.proofs.EntriesKept.{entries_retagged}
use Rattle.elf_image.proofs.Kept.{with_entries, with_list}
use Rattle.elf_image.proofs.builder.Builder.retag_all.Goals as goal

pub invariant_of-self : goal.invariant_of-self
invariant_of-self c = (with_entries (image_model c.self.inside) (image_model c.self.inside).entries c.self.invariant.0 (λ read h. h), c.self.invariant.1)

pub invariant_of-self-2 : goal.invariant_of-self-2
invariant_of-self-2 c =
    let old : Option (List Entry) = (image_model c.self.inside).entries in (
      with_list (image_model c.self.inside) (map entry_model c.in-Some.list.items) (map entry_model c.retag_entries.new.list.items) (retagged c.args.old c.args.new)
          (ap (λ (o : Option (Vec Dynamic)). option_map (λ list. map entry_model list.items) o) c.in-Some.is) c.retag_entries.ensures c.self.invariant.0
          (λ read h. entries_retagged read old c.args.old c.args.new (c.requires) h),
      c.self.invariant.1,
    )
