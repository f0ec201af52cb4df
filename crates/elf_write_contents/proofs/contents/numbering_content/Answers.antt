-- By the type of the section.
use Rattle.std.proofs.Common.{◌≡◌, ◌*◌, length, arith}
use Rattle.elf_format.specs.declared.constants.TheConstants.{SHT_GNU_HASH, SHT_GNU_VERSYM, SHT_HASH}
use Rattle.elf_format.specs.Image.{ImageSection}
use Rattle.elf_image.specs.ImageModel.{section_model}
use Rattle.elf_layout_plan.specs.Plan.{resized}
use Rattle.elf_layout_plan.specs.Sizes.{hash_size}
use Rattle.elf_write_spec.specs.Contents.{AreVersionsIn, IsGabiContent, IsGnuContent}
use Rattle.elf_write_contents.specs.ContentSteps.{IsNumbering, IsRelocated}
use Rattle.elf_write_symbol_tables.proofs.ForCallers.Results.{if_ok}
use Rattle.elf_write_contents.proofs.ContentsAll.{both_ok}
use Rattle.elf_write_contents.proofs.ContentsNumbering.{of_gabi, of_gnu, of_others, of_versions}
use Rattle.elf_write_contents.proofs.contents.numbering_content.Goals as goal

pub symbol_versions-requires-clause-at : goal.symbol_versions-requires-clause-at
symbol_versions-requires-clause-at c =
    record { position = c.requires.at.position; there = c.requires.at.there; typed = c.in-1879048191.is }

pub gabi_content-requires-clause-at : goal.gabi_content-requires-clause-at
gabi_content-requires-clause-at c =
    record { position = c.requires.at.position; there = c.requires.at.there; typed = c.in-5.is }

pub gnu_content-requires-clause-at : goal.gnu_content-requires-clause-at
gnu_content-requires-clause-at c =
    record { position = c.requires.at.position; there = c.requires.at.there; typed = c.in-1879048182.is }

pub returns-in-1879048191 : goal.returns-in-1879048191
returns-in-1879048191 c =
    let s : ImageSection = section_model c.args.section.now in
    both_ok c.symbol_versions.result (λ content. length content.bytes ≡ 2 * length c.args.image.now.dynamic_symbols)
    (λ content. AreVersionsIn (resized c.args.image.now) s content.bytes)
    (λ content. IsNumbering c.args.read.now c.args.image.now s content.bytes)
    (λ content. of_versions c.args.read.now c.args.image.now s content.bytes c.in-1879048191.is)
    c.symbol_versions.ensures.sized c.symbol_versions.ensures.versions

pub returns-in-5 : goal.returns-in-5
returns-in-5 c =
    let s : ImageSection = section_model c.args.section.now in
    both_ok c.gabi_content.result (λ content. length content.bytes ≡ hash_size c.args.read.now c.args.image.now s)
    (λ content. IsGabiContent (resized c.args.image.now) s content.bytes)
    (λ content. IsNumbering c.args.read.now c.args.image.now s content.bytes)
    (λ content. of_gabi c.args.read.now c.args.image.now s content.bytes c.in-5.is)
    c.gabi_content.ensures.sized c.gabi_content.ensures.table

pub returns-in-1879048182 : goal.returns-in-1879048182
returns-in-1879048182 c =
    let s : ImageSection = section_model c.args.section.now in
    both_ok c.gnu_content.result (λ content. length content.bytes ≡ hash_size c.args.read.now c.args.image.now s)
    (λ content. IsGnuContent (resized c.args.image.now) s content.bytes)
    (λ content. IsNumbering c.args.read.now c.args.image.now s content.bytes)
    (λ content. of_gnu c.args.read.now c.args.image.now s content.bytes c.in-1879048182.is)
    c.gnu_content.ensures.sized c.gnu_content.ensures.table

pub returns-in_default : goal.returns-in_default
returns-in_default c =
    let s : ImageSection = section_model c.args.section.now in
    if_ok c.relocated_content.result (λ content. IsRelocated (resized c.args.image.now) s content.bytes)
    (λ content. IsNumbering c.args.read.now c.args.image.now s content.bytes)
    (λ content. of_others c.args.read.now c.args.image.now s content.bytes
    (λ (e : c.args.section.now.sh_type ≡ SHT_GNU_VERSYM). omega (arith, e))
    (λ (e : c.args.section.now.sh_type ≡ SHT_HASH). omega (arith, e))
    (λ (e : c.args.section.now.sh_type ≡ SHT_GNU_HASH). omega (arith, e))) c.relocated_content.ensures
