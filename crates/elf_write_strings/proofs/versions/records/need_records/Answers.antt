use Rattle.std.proofs.lemmas.List.{length-map}
use Rattle.std.proofs.Common.{List, ap, length, map, subst, sym, ◌∙◌}
use Rattle.elf_format.specs.Versions.{VersionNeeds}
use Rattle.elf_layout_plan.specs.Sizes.{needs_size}
use Rattle.elf_layout_plan.specs.Texts.{texts_of_needs}
use Rattle.elf_image.specs.ImageModel.{needs_model}
use Rattle.elf_write_strings.specs.PlacedTexts.{TellsAll}
use Rattle.elf_write_strings.proofs.VersionsHave.{length-all_needs, needs_told}
use Rattle.elf_write_strings.proofs.VersionsShown.{needs_final, needs_of}
use Rattle.elf_write_strings.proofs.versions.records.need_records.Goals as goal

pub build_verneed-requires : goal.build_verneed-requires
build_verneed-requires c =
    needs_told c.args.names.now (map needs_model c.args.needs.now)
    (subst (λ (ns : List VersionNeeds). TellsAll c.args.names.now (texts_of_needs ns)) (sym c.requires.needs) c.requires.told)

pub returns-in-Ok-clause-sized : goal.returns-in-Ok-clause-sized
returns-in-Ok-clause-sized c =
    ap length c.in-Ok.ensures.bytes.0
    ∙ length-all_needs c.order.result c.args.names.now (map needs_model c.args.needs.now)
    ∙ ap needs_size c.requires.needs

pub returns-in-Ok-clause-versions : goal.returns-in-Ok-clause-versions
returns-in-Ok-clause-versions c =
    let final = c.requires.needs ∙ needs_final c.args.read.now c.args.image.now c.requires.ready in
    needs_of c.order.result c.args.image.now.form c.args.names.now (map needs_model c.args.needs.now) _
    (length c.args.needs.now) c.in-Ok.bytes.items c.order.ensures final
    (length-map c.args.needs.now needs_model)
    (needs_told c.args.names.now _ (subst (λ (ns : List VersionNeeds). TellsAll c.args.names.now (texts_of_needs ns))
    (needs_final c.args.read.now c.args.image.now c.requires.ready) c.requires.told)) c.requires.stand c.in-Ok.ensures.bytes.0 c.in-Ok.ensures.read
