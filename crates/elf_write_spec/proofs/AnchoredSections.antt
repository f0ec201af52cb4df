-- The sections that a program header goes by are sections of the image, and only one of the table's type goes by the table.
use Rattle.std.proofs.Common.{◌≡◌, Bool, true, false, List, map, refl, Option, Some, None}
use Rattle.std.specs.Prelude.{◌==◌, filter, find, if◌then◌else◌}
use Rattle.elf_format.specs.declared.constants.TheConstants.{PT_DYNAMIC, PT_INTERP, PT_LOAD, PT_PHDR, SHT_DYNAMIC}
use Rattle.elf_format.specs.declared.records.SegmentHeader.{SegmentHeader}
use Rattle.elf_format.specs.Options.{first_there, is_one_of}
use Rattle.elf_image.specs.Kept.{KeptSection, interpreter_number, is_numbered, kept_of_type, kept_sections}
use Rattle.elf_layout_plan.specs.Anchors.{Anchor, HeaderTable, Itself, Notes, OneSection, anchor_of, anchor_or_itself, is_just_over, is_loaded_section, notes_under, section_or_table, section_under, sharers}
use Rattle.elf_layout_plan.specs.Memory.{Resized}
use Rattle.elf_layout_plan.proofs.ForCallers.PlacedLists.{Has, filter-at, find-at}

-- what a program header goes by is among these sections, or it is the table, where the program header is one for that
pub data AreAmong (ks : List KeptSection) (phdr : Bool) : Anchor → Type 0 where
  itself : AreAmong ks phdr Itself
  table : phdr ≡ true → AreAmong ks phdr HeaderTable
  one : {s : KeptSection} → Has s ks → AreAmong ks phdr (OneSection s)
  some : {notes : List KeptSection} → ((s : KeptSection) → Has s notes → Has s ks) → AreAmong ks phdr (Notes notes)

pub table_among : {ks : List KeptSection} {phdr : Bool} → AreAmong ks phdr HeaderTable → phdr ≡ true
table_among (table h) = h

pub one_among : {ks : List KeptSection} {phdr : Bool} {s : KeptSection} → AreAmong ks phdr (OneSection s) → Has s ks
one_among (one h) = h

pub notes_among : {ks notes : List KeptSection} {phdr : Bool} → AreAmong ks phdr (Notes notes) → (s : KeptSection) → Has s notes → Has s ks
notes_among (some h) = h

module _ (ks : List KeptSection) (phdr : Bool) where
  if_among : (b : Bool) {x y : Anchor} → AreAmong ks phdr x → AreAmong ks phdr y → AreAmong ks phdr (if b then x else y)
  if_among true h k = h
  if_among false h k = k

  if_so : (b : Bool) {x y : Anchor} → (b ≡ true → AreAmong ks phdr x) → AreAmong ks phdr y → AreAmong ks phdr (if b then x else y)
  if_so true h k = h refl
  if_so false h k = k

  -- a section that may be there
  AreFound : Option KeptSection → Type 0
  AreFound o = (s : KeptSection) → o ≡ Some s → Has s ks

  or_itself : (o : Option KeptSection) → AreFound o → AreAmong ks phdr (anchor_or_itself o)
  unfolding AreFound
  or_itself None h = itself
  or_itself (Some s) h = one (h s refl)

  or_table : (o : Option KeptSection) → AreFound o → phdr ≡ true → AreAmong ks phdr (section_or_table o)
  unfolding AreFound
  or_table None h is = table is
  or_table (Some s) h is = one (h s refl)

  found : (test : KeptSection → Bool) → AreFound (find test ks)
  unfolding AreFound
  found test s is = (find-at test ks s is).0

  found_over : (over test : KeptSection → Bool) → AreFound (find test (filter over ks))
  unfolding AreFound
  found_over over test s is = (filter-at over ks s (find-at test (filter over ks) s is).0).0

  first_found : (a b : Option KeptSection) → AreFound a → AreFound b → AreFound (first_there a b)
  first_found None b h k = k
  first_found (Some s) b h k = h

module _ (r : Resized) (p : SegmentHeader) where
  abbrev ks : List KeptSection
  ks = kept_sections r.image

  abbrev phdr : Bool
  phdr = p.p_type == PT_PHDR

  under : AreFound ks phdr (section_under r.image p)
  under =
      let over : KeptSection → Bool = is_just_over p in
      first_found ks phdr (find (λ s. is_loaded_section s.section) (filter over ks)) (find (λ _. true) (filter over ks))
      (found_over ks phdr over (λ s. is_loaded_section s.section)) (found_over ks phdr over (λ _. true))

  over_section : AreAmong ks phdr (anchor_or_itself (section_under r.image p))
  over_section = or_itself ks phdr (section_under r.image p) under

  over_notes : AreAmong ks phdr (Notes (notes_under r.read r.image p))
  over_notes = some (λ s here. (filter-at (λ (k : KeptSection). is_one_of (map (λ n. n.number) (sharers r.read p)) k.number) ks s here).0)

  list_section : AreAmong ks phdr (anchor_or_itself (kept_of_type SHT_DYNAMIC r.image))
  list_section = or_itself ks phdr (kept_of_type SHT_DYNAMIC r.image) (found ks phdr (λ s. s.section.sh_type == SHT_DYNAMIC))

  name_section : AreAmong ks phdr (anchor_or_itself (find (is_numbered (interpreter_number r.read)) ks))
  name_section = or_itself ks phdr (find (is_numbered (interpreter_number r.read)) ks) (found ks phdr (is_numbered (interpreter_number r.read)))

  -- by its type, and by the bytes that it covers
  pub anchors_among : AreAmong ks phdr (anchor_of r.read r.image p)
  unfolding anchor_of
  anchors_among =
      if_among ks phdr (p.p_type == PT_LOAD) itself
      (if_so ks phdr phdr (or_table ks phdr (section_under r.image p) under)
      (if_among ks phdr (p.p_type == PT_DYNAMIC) list_section
      (if_among ks phdr (p.p_type == PT_INTERP) name_section
      (search (if_among, itself, over_section, over_notes)))))
