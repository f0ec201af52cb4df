use Rattle.std.proofs.Common.{List, Option, ap, map, subst, sym}
use Rattle.std.specs.Prelude.{IsTrue}
use Rattle.std.specs.List.{remove}
use Rattle.std.specs.Option.{option_map}
use Rattle.std.specs.Global.{Vec}
use Rattle.elf_format.specs.Dynamic.{Entry}
use Rattle.elf_format.specs.Image.{Image}
use Rattle.elf_image_headers.specs.declared.dynamic.Dynamic.{Dynamic}
use Rattle.elf_image.specs.BuilderModel.{image_model}
use Rattle.elf_image.specs.ImageModel.{entry_model}
use Rattle.elf_image_headers.specs.DynamicList.{can_delete}
use Rattle.elf_image.proofs.EntriesKept.{entries_removed}
use Rattle.elf_image.proofs.Kept.{with_entries, with_list}
use Rattle.elf_image.proofs.builder.Builder.delete_dynamic.Goals as goal

pub invariant_of-self : goal.invariant_of-self
invariant_of-self c = (with_entries (image_model c.self.inside) (image_model c.self.inside).entries c.self.invariant.0 (λ read h. h), c.self.invariant.1)

pub invariant_of-self-2 : goal.invariant_of-self-2
invariant_of-self-2 c =
    let old : Option (List Entry) = (image_model c.self.inside).entries in (
      with_list (image_model c.self.inside) (map entry_model c.in-Some.list.items) (map entry_model c.remove_entry.new.list.items) (λ list. remove list c.args.index)
          (ap (λ (o : Option (Vec Dynamic)). option_map (λ list. map entry_model list.items) o) c.in-Some.is) c.remove_entry.ensures c.self.invariant.0
          (λ read h. entries_removed read old c.args.index (subst (λ (i : Image). IsTrue (can_delete i.entries c.args.index)) (sym c.self.view_is) c.requires) h),
      c.self.invariant.1,
    )
