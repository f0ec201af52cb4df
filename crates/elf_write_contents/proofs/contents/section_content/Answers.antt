-- The bytes of a section, type by type.
use Rattle.std.proofs.Common.{◌≡◌, ◌≤◌, ◌*◌, ℕ, List, length, refl, sym, ap, ◌∙◌, subst, Some, arith}
use Rattle.std.specs.Prelude.{slice_index_or}
use Rattle.std.specs.List.{slice_get}
use Rattle.patch_bytes.specs.ByteString.{StringValue}
use Rattle.elf_format.specs.declared.constants.TheConstants.{SHT_DYNAMIC, SHT_DYNSYM, SHT_GNU_VERDEF, SHT_GNU_VERNEED, SHT_STRTAB, SHT_SYMTAB}
use Rattle.elf_format.specs.declared.form.Form.{Form}
use Rattle.elf_format.specs.Image.{ImageSection}
use Rattle.elf_format.specs.Records.{entry_size}
use Rattle.elf_image.specs.ImageModel.{section_model}
use Rattle.elf_layout_plan.specs.declared.plan.SectionPlace.{SectionPlace}
use Rattle.elf_layout_plan.specs.PlanModel.{place_model}
use Rattle.elf_write_spec.specs.Contents.{spelled_list}
use Rattle.elf_write_contents.specs.ContentSteps.{IsBytesAt, IsNumbering, made_or}
use Rattle.elf_write_contents.proofs.ContentsAll.{both_ok, definitions_at, list_at_place, list_fits, needs_at, numbering_at, numbers_fit, place_there, place_within, places_long, section_there, static_at, strings_at_place, symbols_at, three_ok}
use Rattle.elf_write_symbol_tables.proofs.ForCallers.Results.{if_ok}
use Rattle.elf_write_contents.proofs.contents.section_content.Goals as goal

pub bounds-places-i : goal.bounds-places-i
bounds-places-i c =
    place_within c.places.result.now c.args.plan.now.places c.args.image.now.sections c.args.i c.places.ensures
    (places_long c.args.read.now c.args.image.now c.args.plan.now c.requires.planned) c.requires.within

pub list_content-requires-clause-room : goal.list_content-requires-clause-room
list_content-requires-clause-room c =
    let s : ImageSection = section_model c.index-sections-i.result in
    let at : _ = section_there c.sections.result.now c.args.image.now.sections c.args.i c.index-sections-i.result c.sections.ensures
    c.requires.within c.index-sections-i.is in
    let place : SectionPlace =
    slice_index_or c.places.result.now c.args.i (record { sh_type = 0; sh_flags = 0; sh_addr = 0; sh_offset = 0; sh_size = 0 }) in
    let place_at : slice_get c.args.plan.now.places c.args.i ≡ Some (place_model place) =
    place_there c.places.result.now c.args.plan.now.places c.args.i _ c.places.ensures
    (place_within c.places.result.now c.args.plan.now.places c.args.image.now.sections c.args.i c.places.ensures
    (places_long c.args.read.now c.args.image.now c.args.plan.now c.requires.planned) c.requires.within) in
    subst (λ (form : Form). length c.args.raw.now * entry_size form ≤ place.sh_size)
    (sym c.form.ensures)
    (list_fits c.args.read.now c.args.image.now c.args.plan.now c.args.made.now c.args.raw.now c.requires.planned c.args.i s at
    c.requires.apart c.requires.raw c.in-6.is (place_model place) place_at)

pub dynamic_symbols_content-requires-clause-at : goal.dynamic_symbols_content-requires-clause-at
dynamic_symbols_content-requires-clause-at c = record {
  position = c.args.i;
  there = section_there c.sections.result.now c.args.image.now.sections c.args.i c.index-sections-i.result c.sections.ensures
      c.requires.within c.index-sections-i.is;
  typed = c.in-11.is;
}

pub static_symbols_content-requires-clause-at : goal.static_symbols_content-requires-clause-at
static_symbols_content-requires-clause-at c = record {
  position = c.args.i;
  there = section_there c.sections.result.now c.args.image.now.sections c.args.i c.index-sections-i.result c.sections.ensures
      c.requires.within c.index-sections-i.is;
  typed = c.in-2.is;
}

pub definitions_content-requires-clause-at : goal.definitions_content-requires-clause-at
definitions_content-requires-clause-at c = record {
  position = c.args.i;
  there = section_there c.sections.result.now c.args.image.now.sections c.args.i c.index-sections-i.result c.sections.ensures
      c.requires.within c.index-sections-i.is;
  typed = c.in-1879048189.is;
}

pub needs_content-requires-clause-at : goal.needs_content-requires-clause-at
needs_content-requires-clause-at c = record {
  position = c.args.i;
  there = section_there c.sections.result.now c.args.image.now.sections c.args.i c.index-sections-i.result c.sections.ensures
      c.requires.within c.index-sections-i.is;
  typed = c.in-1879048190.is;
}

pub returns-in_ok-bytes-in-6 : goal.returns-in_ok-bytes-in-6
returns-in_ok-bytes-in-6 c =
    let s : ImageSection = section_model c.index-sections-i.result in
    let at : _ = section_there c.sections.result.now c.args.image.now.sections c.args.i c.index-sections-i.result c.sections.ensures
    c.requires.within c.index-sections-i.is in
    let place : SectionPlace =
    slice_index_or c.places.result.now c.args.i (record { sh_type = 0; sh_flags = 0; sh_addr = 0; sh_offset = 0; sh_size = 0 }) in
    let place_at : slice_get c.args.plan.now.places c.args.i ≡ Some (place_model place) =
    place_there c.places.result.now c.args.plan.now.places c.args.i _ c.places.ensures
    (place_within c.places.result.now c.args.plan.now.places c.args.image.now.sections c.args.i c.places.ensures
    (places_long c.args.read.now c.args.image.now c.args.plan.now c.requires.planned) c.requires.within) in
    let bytes : c.owned.result.bytes ≡ spelled_list c.args.image.now.form c.args.raw.now place.sh_size =
    ap (λ (s : StringValue). s.bytes) c.owned.ensures ∙ c.in_ok-bytes-in-6.ensures ∙ ap (λ (m : Form). spelled_list m c.args.raw.now place.sh_size) c.form.ensures in
    subst (λ (b : List ℕ). IsBytesAt c.args.image.now c.args.plan.now c.args.made.now c.args.raw.now c.args.i b) (sym bytes)
    (list_at_place c.args.read.now c.args.image.now c.args.plan.now c.args.made.now c.args.raw.now c.requires.planned c.args.i s at
    c.requires.apart c.requires.raw c.in-6.is (place_model place) place_at)

pub returns-in-3 : goal.returns-in-3
returns-in-3 c =
    let s : ImageSection = section_model c.index-sections-i.result in
    let at : _ = section_there c.sections.result.now c.args.image.now.sections c.args.i c.index-sections-i.result c.sections.ensures
    c.requires.within c.index-sections-i.is in
    subst (λ (bytes : List ℕ). IsBytesAt c.args.image.now c.args.plan.now c.args.made.now c.args.raw.now c.args.i bytes)
    (sym (c.strings_content.ensures ∙ ap (λ (n : ℕ). made_or c.args.made.now n s.content) c.read_section.ensures))
    (strings_at_place c.args.read.now c.args.image.now c.args.plan.now c.args.made.now c.args.raw.now c.requires.planned c.args.i s at
    c.requires.apart c.requires.strings c.in-3.is)

pub returns-in-2 : goal.returns-in-2
returns-in-2 c =
    let s : ImageSection = section_model c.index-sections-i.result in
    let at : _ = section_there c.sections.result.now c.args.image.now.sections c.args.i c.index-sections-i.result c.sections.ensures
    c.requires.within c.index-sections-i.is in
    three_ok c.static_symbols_content.result _ _ _
    (λ content. IsBytesAt c.args.image.now c.args.plan.now c.args.made.now c.args.raw.now c.args.i content.bytes)
    (λ content. static_at c.args.read.now c.args.image.now c.args.plan.now c.args.made.now c.args.raw.now c.requires.planned c.args.i s at
    c.requires.apart c.in-2.is content.bytes) c.static_symbols_content.ensures.sized c.static_symbols_content.ensures.symbols
    c.static_symbols_content.ensures.copied

pub returns-in-11 : goal.returns-in-11
returns-in-11 c =
    let s : ImageSection = section_model c.index-sections-i.result in
    let at : _ = section_there c.sections.result.now c.args.image.now.sections c.args.i c.index-sections-i.result c.sections.ensures
    c.requires.within c.index-sections-i.is in
    both_ok c.dynamic_symbols_content.result _ _
    (λ content. IsBytesAt c.args.image.now c.args.plan.now c.args.made.now c.args.raw.now c.args.i content.bytes)
    (λ content. symbols_at c.args.read.now c.args.image.now c.args.plan.now c.args.made.now c.args.raw.now c.requires.planned c.args.i s at
    c.requires.apart c.in-11.is content.bytes) c.dynamic_symbols_content.ensures.sized c.dynamic_symbols_content.ensures.symbols

pub returns-in_ok-bytes-in-1879048189 : goal.returns-in_ok-bytes-in-1879048189
returns-in_ok-bytes-in-1879048189 c =
    let s : ImageSection = section_model c.index-sections-i.result in
    let at : _ = section_there c.sections.result.now c.args.image.now.sections c.args.i c.index-sections-i.result c.sections.ensures
    c.requires.within c.index-sections-i.is in
    subst (λ (bytes : List ℕ). IsBytesAt c.args.image.now c.args.plan.now c.args.made.now c.args.raw.now c.args.i bytes)
    (sym (ap (λ (s : StringValue). s.bytes) c.owned-in-1879048189.ensures))
    (definitions_at c.args.read.now c.args.image.now c.args.plan.now c.args.made.now c.args.raw.now c.requires.planned c.args.i s at
    c.requires.apart c.in-1879048189.is c.in_ok-bytes-in-1879048189.bytes.items c.in_ok-bytes-in-1879048189.ensures.sized
    c.in_ok-bytes-in-1879048189.ensures.versions)

pub returns-in_ok-bytes-in-1879048190 : goal.returns-in_ok-bytes-in-1879048190
returns-in_ok-bytes-in-1879048190 c =
    let s : ImageSection = section_model c.index-sections-i.result in
    let at : _ = section_there c.sections.result.now c.args.image.now.sections c.args.i c.index-sections-i.result c.sections.ensures
    c.requires.within c.index-sections-i.is in
    subst (λ (bytes : List ℕ). IsBytesAt c.args.image.now c.args.plan.now c.args.made.now c.args.raw.now c.args.i bytes)
    (sym (ap (λ (s : StringValue). s.bytes) c.owned-in-1879048190.ensures))
    (needs_at c.args.read.now c.args.image.now c.args.plan.now c.args.made.now c.args.raw.now c.requires.planned c.args.i s at
    c.requires.apart c.in-1879048190.is c.in_ok-bytes-in-1879048190.bytes.items c.in_ok-bytes-in-1879048190.ensures.sized
    c.in_ok-bytes-in-1879048190.ensures.versions)

pub numbering_content-requires-clause-at : goal.numbering_content-requires-clause-at
numbering_content-requires-clause-at c = record {
  position = c.args.i;
  there = section_there c.sections.result.now c.args.image.now.sections c.args.i c.index-sections-i.result c.sections.ensures
      c.requires.within c.index-sections-i.is;
  typed = refl;
}

pub numbering_content-requires-clause-fit : goal.numbering_content-requires-clause-fit
numbering_content-requires-clause-fit c =
    numbers_fit c.args.read.now c.args.image.now c.requires.planned.ready c.requires.relocations c.args.i (section_model c.index-sections-i.result)
    (section_there c.sections.result.now c.args.image.now.sections c.args.i c.index-sections-i.result c.sections.ensures
    c.requires.within c.index-sections-i.is)

pub returns-in_default : goal.returns-in_default
returns-in_default c =
    let s : ImageSection = section_model c.index-sections-i.result in
    let at : _ = section_there c.sections.result.now c.args.image.now.sections c.args.i c.index-sections-i.result c.sections.ensures
    c.requires.within c.index-sections-i.is in
    if_ok c.numbering_content.result (λ content. IsNumbering c.args.read.now c.args.image.now s content.bytes)
    (λ content. IsBytesAt c.args.image.now c.args.plan.now c.args.made.now c.args.raw.now c.args.i content.bytes)
    (λ content. numbering_at c.args.read.now c.args.image.now c.args.plan.now c.args.made.now c.args.raw.now c.requires.planned c.args.i s at
    c.requires.apart (record {
      dynamic = λ (e : c.index-sections-i.result.sh_type ≡ SHT_DYNAMIC). omega (arith, e);
      strings = λ (e : c.index-sections-i.result.sh_type ≡ SHT_STRTAB). omega (arith, e);
      static = λ (e : c.index-sections-i.result.sh_type ≡ SHT_SYMTAB). omega (arith, e);
      symbols = λ (e : c.index-sections-i.result.sh_type ≡ SHT_DYNSYM). omega (arith, e);
      definitions = λ (e : c.index-sections-i.result.sh_type ≡ SHT_GNU_VERDEF). omega (arith, e);
      needs = λ (e : c.index-sections-i.result.sh_type ≡ SHT_GNU_VERNEED). omega (arith, e);
    }) content.bytes) c.numbering_content.ensures
