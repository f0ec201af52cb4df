-- The edit drops just the entries with its tags.
use Rattle.std.proofs.Common.{ℕ, ap, refl, subst, sym, ◌∙◌, List, Option, Some, option_map}
use Rattle.std.specs.Prelude.{IsSome, ◌==◌}
use Rattle.std.specs.List.{AllPass}
use Rattle.elf_format.specs.declared.constants.TheConstants.{EM_MIPS}
use Rattle.elf_image.specs.DynamicList.{is_free_tag}
use Rattle.elf_image.specs.Options.{first_there}
use Rattle.elf_edits.specs.Cause.{Cause, MipsImage, cause_if, list_missing}
use Rattle.elf_edits.specs.Edit.{edit_model}
use Rattle.elf_edits.specs.Facts.{facts_model}
use Rattle.elf_edits.proofs.ForCallers.{drops_tags}
use Rattle.elf_apply.specs.Drafted.{with_tags_dropped}
use Rattle.elf_apply.proofs.DropLaws.{drop_is_plain, tags_dropped}
use Rattle.elf_apply.proofs.TakenLaws.{plain_refused, plain_taken}
use Rattle.elf_apply.proofs.steps.drop_tagged.Goals as goal

pub list_cause-requires : goal.list_cause-requires
list_cause-requires c = subst (λ (o : Option (List ℕ)). IsSome o) (sym (drops_tags (edit_model c.args.edit.now) c.requires).1.is_task) refl

pub returns-in-Some : goal.returns-in-Some
returns-in-Some c =
    let edit = edit_model c.args.edit.now in
    let drops = drops_tags edit c.requires in
    let facts = facts_model c.image_facts.result in (
      refl,
      plain_refused c.in-Some.cause edit drops.0 c.args.builder.now facts (drop_is_plain edit drops.0 drops.1) c.image_facts.ensures
          (c.in-Some.ensures
          ∙ ap (λ (o : Option (List ℕ)). option_map {U = Option Cause} Some (first_there (cause_if (facts.machine == EM_MIPS) MipsImage) (list_missing o facts))) drops.1.is_task),
    )

pub drop_tags-requires : goal.drop_tags-requires
drop_tags-requires c = subst (λ (tags : List ℕ). AllPass is_free_tag tags) (sym c.dropped_tags.ensures) (drops_tags (edit_model c.args.edit.now) c.requires).1.free

pub returns : goal.returns
returns c =
    let edit = edit_model c.args.edit.now in
    let drops = drops_tags edit c.requires in
    let facts = facts_model c.image_facts.result in
    let old = c.args.builder.now in
    plain_taken edit drops.0 old c.drop_tags.new.builder facts (drop_is_plain edit drops.0 drops.1) c.image_facts.ensures
    (c.in_default.ensures
    ∙ ap (λ (o : Option (List ℕ)). option_map {U = Option Cause} Some (first_there (cause_if (facts.machine == EM_MIPS) MipsImage) (list_missing o facts))) drops.1.is_task)
    (c.drop_tags.ensures ∙ ap (λ (tags : List ℕ). with_tags_dropped tags old) c.dropped_tags.ensures ∙ tags_dropped edit drops.0 old drops.1)
