use Rattle.std.proofs.Common.{◌≡◌, ◌∙◌, ℕ, List, refl, sym, subst}
use Rattle.std.specs.Prelude.{IfOk}
use Rattle.elf_format.specs.declared.constants.TheConstants.{SHT_GNU_VERNEED}
use Rattle.elf_image.specs.ImageModel.{section_model}
use Rattle.elf_format.specs.Image.{Image}
use Rattle.elf_format.specs.Versions.{VersionNeeds}
use Rattle.elf_layout_plan.specs.Plan.{resized}
use Rattle.elf_layout_plan.specs.Texts.{texts_of_needs}
use Rattle.elf_write_strings.proofs.VersionsHave.{written_told}
use Rattle.elf_write_spec.specs.Contents.{AreNeedsIn}
use Rattle.elf_write_strings.specs.WrittenStrings.{content_read, strings_at}
use Rattle.elf_write_strings.specs.PlacedTexts.{TellsAll}
use Rattle.elf_write_strings.specs.VersionPlaces.{content_in}
use Rattle.elf_write_strings.proofs.TablesThere.{linked_content}
use Rattle.elf_write_strings.proofs.VersionsShown.{number_found, strings_copied}
use Rattle.elf_write_strings.proofs.FilesLeft.{needs_left}
use Rattle.elf_write_strings.proofs.ReadTables.{read_unedited}
use Rattle.elf_write_strings.proofs.TextsTold.{told_needs}
use Rattle.elf_write_strings.proofs.VersionsLinks.{links_read, links_there}
use Rattle.elf_write_strings.proofs.versions.needs_content.Goals as goal

pub need_records-requires-clause-told : goal.need_records-requires-clause-told
need_records-requires-clause-told c =
    let number : ℕ = c.args.section.now.sh_link in
    told_needs c.args.read.now c.args.image.now c.in-Some.made.now (c.requires.strings.told number c.in-Some.made.now c.in-Some.ensures.some)
    (links_there c.args.read.now c.args.image.now c.requires.ready 7 SHT_GNU_VERNEED refl refl (section_model c.args.section.now) c.requires.at
    c.in-Some.made.now.number (number_found c.args.made.now number c.in-Some.made.now c.in-Some.ensures.some))

pub need_records-requires-clause-stand : goal.need_records-requires-clause-stand
need_records-requires-clause-stand c =
    (c.requires.strings.told c.args.section.now.sh_link c.in-Some.made.now c.in-Some.ensures.some).stand

pub names_of_needs-requires-clause-unedited : goal.names_of_needs-requires-clause-unedited
names_of_needs-requires-clause-unedited c = read_unedited c.requires.ready

pub names_of_needs-requires-clause-linked : goal.names_of_needs-requires-clause-linked
names_of_needs-requires-clause-linked c =
    links_read c.args.read.now c.args.image.now c.requires.ready 7 SHT_GNU_VERNEED refl refl (section_model c.args.section.now) c.requires.at
    c.args.section.now.sh_link refl

pub need_records-requires-2-clause-told : goal.need_records-requires-2-clause-told
need_records-requires-2-clause-told c =
    written_told c.in_ok-table.table c.args.read.now c.args.image.now
    (subst (λ (ns : List VersionNeeds). TellsAll c.in_ok-table.table (texts_of_needs ns))
    (sym (needs_left c.args.read.now c.args.image.now c.requires.ready c.args.made.now c.requires.strings c.args.section.now.sh_link
    (links_there c.args.read.now c.args.image.now c.requires.ready 7 SHT_GNU_VERNEED refl refl (section_model c.args.section.now) c.requires.at
    c.args.section.now.sh_link refl) c.in_default.ensures.none))
    c.in_ok-table.ensures.told)

pub returns-clause-versions : goal.returns-clause-versions
returns-clause-versions c =
    let read : Image = c.args.read.now in
    let image : Image = c.args.image.now in
    let number : ℕ = c.args.section.now.sh_link in
    let copied : content_in read.sections number ≡ content_read image number =
    linked_content read image c.requires.ready SHT_GNU_VERNEED number refl refl
    (links_there read image c.requires.ready 7 SHT_GNU_VERNEED refl refl (section_model c.args.section.now) c.requires.at number refl) in
    let there : content_read image number ≡ strings_at image c.args.made.now number =
    strings_copied image c.args.made.now number c.in_default.ensures.none in
    subst (λ (l : List ℕ). IfOk c.need_records-2.result (λ bytes. AreNeedsIn (resized c.args.image.now) l bytes.items))
    (c.in_ok-table.ensures.bytes ∙ copied ∙ there) c.need_records-2.ensures.versions
