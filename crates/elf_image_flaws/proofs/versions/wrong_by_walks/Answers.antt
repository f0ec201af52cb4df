-- Records first, then versions and the users of the dynamic strings.
use Rattle.std.proofs.Common.{ap, ◌∙◌}
use Rattle.elf_image_rules.specs.Read.{parts_model}
use Rattle.elf_image_flaws.specs.Flaws.{first_flawed, version_flaw}
use Rattle.elf_image_flaws.proofs.FlawSteps.{versions_other, versions_partial}
use Rattle.elf_image_flaws.proofs.versions.wrong_by_walks.Goals as goal

pub returns-in-Some : goal.returns-in-Some
returns-in-Some c =
    versions_partial (parts_model c.args.parts.now) c.args.defined c.args.needed c.deref.result.now c.partial_records.result c.requires.defined c.requires.needed
    c.deref.ensures.value c.partial_records.ensures c.in-Some.partial c.in-Some.is

pub returns-in-None : goal.returns-in-None
returns-in-None c =
    versions_other (parts_model c.args.parts.now) c.args.defined c.args.needed c.deref.result.now c.partial_records.result c.requires.defined c.requires.needed
    c.deref.ensures.value c.partial_records.ensures c.wrong_version.result c.in-None.is
    (c.wrong_version.ensures ∙ ap (first_flawed (λ _ s. version_flaw (parts_model c.args.parts.now) s)) c.deref-in-None-2.ensures.value)
