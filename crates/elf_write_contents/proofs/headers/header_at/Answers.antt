use Rattle.std.proofs.Common.{◌≡◌, ◌<◌, ◌∙◌, ℕ, List, length, get_or, refl, ap, sym, subst, arith}
use Rattle.std.specs.Prelude.{IsSome, Some, slice_index}
use Rattle.std.specs.List.{slice_get}
use Rattle.std.proofs.lemmas.List.{length-map}
use Rattle.std.proofs.lemmas.Option.{slice_get-get_or, slice_get_read}
use Rattle.elf_format.specs.declared.records.SectionHeader.{SectionHeader}
use Rattle.elf_format.specs.Places.{Place}
use Rattle.elf_image.specs.declared.section.Section.{Section}
use Rattle.elf_image.specs.ImageModel.{section_model}
use Rattle.elf_layout_plan.specs.declared.plan.SectionPlace.{SectionPlace}
use Rattle.elf_image.specs.Kept.{image_at_read}
use Rattle.elf_layout_plan.specs.PlanModel.{place_model}
use Rattle.elf_layout_plan.proofs.ForCallers.ApartLists.{at-map}
use Rattle.elf_tables.specs.Strings.{place_of}
use Rattle.elf_write_spec.specs.Headers.{Reads}
use Rattle.elf_write_symbol_tables.specs.WrittenStrings.{content_read, strings_at}
use Rattle.elf_write_contents.proofs.HeadersMade.{header_far, header_made, header_there, info_here, name_copied, name_made, place_there, seen_at}
use Rattle.elf_write_contents.proofs.headers.header_at.Goals as goal

pub returns-in_default-clause-far : goal.returns-in_default-clause-far
returns-in_default-clause-far c =
    let x : Section = c.index-sections-i.result in
    header_far c.args.image.now c.args.plan.now c.args.made.now c.args.known.now c.requires.planned c.requires.strings c.requires.known
    c.args.i c.requires.there (section_model x)
    (seen_at c.args.image.now c.sections.result.now c.args.i x c.sections.ensures c.requires.there c.index-sections-i.is)
    c.in_default.ensures.far

pub index-old-requires : goal.index-old-requires
index-old-requires c =
    omega (
      arith,
      c.read_section.ensures,
      header_there c.args.image.now c.args.plan.now c.args.made.now c.args.known.now c.requires.planned c.requires.strings c.requires.known
          c.args.i c.requires.there,
      c.args.known.now.headers.ok,
    )

pub info_of-requires-clause-old : goal.info_of-requires-clause-old
info_of-requires-clause-old c =
    let x : Section = c.index-sections-i.result in
    let old : SectionHeader = c.index-old.result.now in
    let items : List SectionHeader = c.args.known.now.headers.items in
    let there : c.read_section.result < length items =
    omega (
      arith,
      c.read_section.ensures,
      header_there c.args.image.now c.args.plan.now c.args.made.now c.args.known.now c.requires.planned c.requires.strings c.requires.known
          c.args.i c.requires.there,
    ) in
    info_here c.args.image.now c.args.plan.now c.args.made.now c.args.known.now c.requires.planned c.requires.strings c.requires.known
    c.args.i c.requires.there (section_model x) old
    (seen_at c.args.image.now c.sections.result.now c.args.i x c.sections.ensures c.requires.there c.index-sections-i.is)
    (ap (λ (n : ℕ). slice_get items n) (sym c.read_section.ensures)
    ∙ slice_get_read items (length items) c.read_section.result old refl there c.index-old.ensures)

pub name_place-name-requires-clause-anew : goal.name_place-name-requires-clause-anew
name_place-name-requires-clause-anew c =
    let x : Section = c.index-sections-i.result in
    let at : slice_get c.args.image.now.sections c.args.i ≡ Some (section_model x) =
    seen_at c.args.image.now c.sections.result.now c.args.i x c.sections.ensures c.requires.there c.index-sections-i.is in
    λ m is. subst (λ (text : List ℕ). IsSome (place_of m.table text)) (sym c.as_slice.ensures)
    (name_made (image_at_read c.args.image.now) c.args.image.now c.args.made.now c.requires.strings c.args.i (section_model x) at m is)

pub name_place-name-requires-clause-copied : goal.name_place-name-requires-clause-copied
name_place-name-requires-clause-copied c =
    let x : Section = c.index-sections-i.result in
    let old : SectionHeader = c.index-old.result.now in
    let items : List SectionHeader = c.args.known.now.headers.items in
    let at : slice_get c.args.image.now.sections c.args.i ≡ Some (section_model x) =
    seen_at c.args.image.now c.sections.result.now c.args.i x c.sections.ensures c.requires.there c.index-sections-i.is in
    let there : c.read_section.result < length items =
    omega (
      arith,
      c.read_section.ensures,
      header_there c.args.image.now c.args.plan.now c.args.made.now c.args.known.now c.requires.planned c.requires.strings c.requires.known
          c.args.i c.requires.there,
    ) in
    let old_at : slice_get items (slice_index c.args.image.now.section_numbers c.args.i) ≡ Some old =
    ap (λ (n : ℕ). slice_get items n) (sym c.read_section.ensures)
    ∙ slice_get_read items (length items) c.read_section.result old refl there c.index-old.ensures in
    λ none. subst (λ (text : List ℕ). Reads (content_read c.args.image.now c.args.image.now.header.e_shstrndx) old.sh_name text)
    (sym c.as_slice.ensures)
    (name_copied c.args.image.now c.args.plan.now c.args.made.now c.args.known.now c.requires.planned c.requires.strings c.requires.known
    c.args.i c.requires.there (section_model x) old at old_at none)

pub bounds-places-i : goal.bounds-places-i
bounds-places-i c =
    omega (
      arith,
      place_there c.args.image.now c.args.plan.now c.args.made.now c.args.known.now c.requires.planned c.requires.strings c.requires.known
          c.args.i c.requires.there,
      ap length c.places.ensures,
      length-map c.places.result.now place_model,
    )

pub returns-clause-header : goal.returns-clause-header
returns-clause-header c =
    let x : Section = c.index-sections-i.result in
    let none : SectionPlace = record { sh_type = 0; sh_flags = 0; sh_addr = 0; sh_offset = 0; sh_size = 0 } in
    let place : SectionPlace = get_or c.places.result.now c.args.i none in
    let at : slice_get c.args.image.now.sections c.args.i ≡ Some (section_model x) =
    seen_at c.args.image.now c.sections.result.now c.args.i x c.sections.ensures c.requires.there c.index-sections-i.is in
    let there : c.args.i < length c.places.result.now =
    omega (
      arith,
      place_there c.args.image.now c.args.plan.now c.args.made.now c.args.known.now c.requires.planned c.requires.strings c.requires.known
          c.args.i c.requires.there,
      ap length c.places.ensures,
      length-map c.places.result.now place_model,
    ) in
    let place_at : slice_get c.args.plan.now.places c.args.i ≡ Some (place_model place) =
    ap (λ (l : List Place). slice_get l c.args.i) (sym c.places.ensures)
    ∙ at-map place_model c.places.result.now c.args.i place
    (slice_get-get_or c.places.result.now c.args.i none there) in
    header_made c.args.image.now c.args.plan.now c.args.made.now c.args.known.now c.requires.planned c.requires.strings c.requires.known
    c.args.i c.requires.there (strings_at c.args.image.now c.args.made.now c.args.image.now.header.e_shstrndx) (section_model x)
    (place_model place) c.name_place-name.result c.new_number-link.result c.in-Some.info c.header_of.result at place_at
    (subst (λ (text : List ℕ). Reads (strings_at c.args.image.now c.args.made.now c.args.image.now.header.e_shstrndx)
    c.name_place-name.result text) c.as_slice.ensures c.name_place-name.ensures)
    c.new_number-link.ensures c.in-Some.ensures.info c.header_of.ensures
