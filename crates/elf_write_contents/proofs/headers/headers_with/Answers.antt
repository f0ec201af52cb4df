use Rattle.std.proofs.Common.{◌≡◌, ℕ, List, length, ap, subst, arith}
use Rattle.std.proofs.lemmas.List.{length-map}
use Rattle.elf_format.specs.Places.{Place}
use Rattle.elf_image.specs.ImageModel.{section_model}
use Rattle.elf_image.specs.Kept.{KeptSection, image_at_read, kept_sections}
use Rattle.elf_layout_plan.specs.Memory.{Resized}
use Rattle.elf_layout_plan.specs.Plan.{resized}
use Rattle.elf_write_contents.specs.HeaderSteps.{AreMade}
use Rattle.elf_write_symbol_tables.specs.WrittenStrings.{strings_at}
use Rattle.elf_write_contents.proofs.HeadersLists.{made_all, made_more}
use Rattle.elf_write_contents.proofs.HeadersMade.{length-places}
use Rattle.elf_write_spec.proofs.ForCallers.WholeEdits.{length-kept, read_facts}
use Rattle.elf_write_symbol_tables.proofs.ForCallers.ReadTables.{ready_edit}
use Rattle.elf_write_contents.proofs.headers.headers_with.Goals as goal

pub loop-i-preserved : goal.loop-i-preserved
loop-i-preserved c =
    let r : Resized = resized c.args.image.now in
    let names : List ℕ = strings_at c.args.image.now c.args.made.now c.args.image.now.header.e_shstrndx in
    made_more r names (kept_sections c.args.image.now) c.args.plan.now.places c.loop-i.headers.items c.push.new.self.items c.loop-i.i
    c.in-Some.header c.loop-i.invariant c.in-Some.ensures.header c.in_ok-push.ensures.items

pub returns-clause-headers : goal.returns-clause-headers
returns-clause-headers c =
    let r : Resized = resized c.args.image.now in
    let names : List ℕ = strings_at c.args.image.now c.args.made.now c.args.image.now.header.e_shstrndx in
    let ss : List KeptSection = kept_sections c.args.image.now in
    let ps : List Place = c.args.plan.now.places in
    let end : c.loop-i.i ≡ length ss =
    omega (
      arith,
      c.loop-i-test.false,
      c.loop-i.auto.i-end,
      ap length c.sections-i-end.ensures,
      length-map c.sections-i-end.result.now section_model,
      length-kept (image_at_read c.args.image.now) c.args.image.now
          (read_facts (image_at_read c.args.image.now) c.args.image.now (ready_edit c.requires.planned.ready)),
    ) in
    made_all r names ss ps c.loop-i.headers.items (length-places c.args.image.now c.args.plan.now c.requires.planned)
    (subst (λ (n : ℕ). AreMade r names ss ps c.loop-i.headers.items n) end c.loop-i.invariant)
