use Rattle.std.proofs.Common.{◌≡◌, ap, sym, subst, map, ◌∙◌, List, ℕ}
use Rattle.std.specs.List.{All}
use Rattle.elf_format.specs.Versions.{VersionNeeds}
use Rattle.elf_image.specs.ImageModel.{needs_model}
use Rattle.elf_image_rules.specs.Read.{parts_model}
use Rattle.elf_layout_plan.specs.Texts.{texts_of_needs}
use Rattle.elf_write_strings.specs.PlacedTexts.{TellsAll}
use Rattle.elf_write_strings.specs.VersionPlaces.{AreNeedsAt, TellsNeed}
use Rattle.elf_write_strings.proofs.Results.{if_ok}
use Rattle.elf_write_strings.proofs.VersionsHave.{needs_all}
use Rattle.elf_write_strings.proofs.VersionsCopied.{copied_needs}
use Rattle.elf_write_strings.proofs.versions.place_read_needs.Goals as goal

pub place_needs-requires : goal.place_needs-requires
place_needs-requires c =
    let needs : map needs_model c.deref.result.now ≡ c.args.read.now.needs =
    ap (map needs_model) c.deref.ensures.value ∙ c.versions.ensures.needs in
    subst (λ (l : List ℕ). AreNeedsAt l c.deref.result.now c.deref-2.result.now) (sym c.requires.bytes)
    (copied_needs c.args.read.now c.requires.unedited c.args.number (parts_model c.in_ok-headers.headers) c.in_ok-headers.ensures
    c.requires.linked c.deref.result.now needs c.deref-2.result.now (c.deref-2.ensures.value ∙ c.in_ok-walk.ensures.0))

pub returns-clause-told : goal.returns-clause-told
returns-clause-told c =
    let needs : map needs_model c.deref.result.now ≡ c.args.read.now.needs =
    ap (map needs_model) c.deref.ensures.value ∙ c.versions.ensures.needs in
    if_ok c.place_needs.result (λ _. All (TellsNeed c.place_needs.new.table) c.deref.result.now)
    (λ _. TellsAll c.place_needs.new.table (texts_of_needs c.args.read.now.needs))
    (λ _ h. subst (λ (l : List VersionNeeds). TellsAll c.place_needs.new.table (texts_of_needs l)) needs
    (needs_all c.place_needs.new.table c.deref.result.now h)) c.place_needs.ensures.told
