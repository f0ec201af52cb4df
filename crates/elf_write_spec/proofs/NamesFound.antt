-- With other names than were read look-ups in the hash tables of a written file find its symbols.
use Rattle.std.proofs.Common.{◌≡◌, ℕ, Bool, true, false, List, [], refl, sym, ap, ◌∙◌, subst, Some, None}
use Rattle.std.specs.Prelude.{◌&&◌, ◌==◌, if◌then◌else◌}
use Rattle.std.proofs.lemmas.Bool.{false≢true}
use Rattle.std.proofs.lemmas.Option.{none-some}
use Rattle.patch_bytes.specs.Bytes.{AreBytes}
use Rattle.patch_bytes.specs.Memory.{Keeps, from, memory_of}
use Rattle.patch_bytes.specs.Number.{field}
use Rattle.patch_bytes.proofs.NumberLaws.{AreBytes-drop, AreBytes-take}
use Rattle.elf_format.specs.declared.constants.TheConstants.{DT_GNU_HASH, DT_HASH, DT_SYMTAB, SHT_DYNAMIC, SHT_GNU_HASH, SHT_HASH}
use Rattle.elf_format.specs.declared.records.SectionHeader.{SectionHeader}
use Rattle.elf_format.specs.Dynamic.{Entry, value_of_tag}
use Rattle.elf_format.specs.File.{has_file_bytes, is_allocated, section_bytes, section_of_type}
use Rattle.elf_format.specs.Image.{Image, ImageSection, lists_tag}
use Rattle.elf_format.specs.Options.{is_some_and, list_at}
use Rattle.elf_format.specs.Rules.{file_of, raw_entries, tag_is_address}
use Rattle.elf_format.specs.Views.{byte_at}
use Rattle.elf_hashes.specs.Found.{AreNamesOf}
use Rattle.elf_image.specs.Kept.{image_at_read}
use Rattle.elf_image.specs.Names.{are_names_changed}
use Rattle.elf_write_spec.specs.Final.{final}
use Rattle.elf_write_spec.specs.Laws.{WrittenFilesFindNames}
use Rattle.elf_write_spec.specs.Look.{AreNamesFound, FindsByGabiHash, FindsByGnuHash, loaded_from, loader_name}
use Rattle.elf_write_spec.specs.Output.{IsPlannedOutput, Output, written_bytes}
use Rattle.elf_write_spec.specs.ReadBack.{IsRewrittenImage, written_parts}
use Rattle.elf_write_spec.proofs.ContentFacts.{gnu_hash_shown, hash_shown}
use Rattle.elf_write_spec.proofs.FoundNames.{entries_listed, names_are_seen}
use Rattle.elf_write_spec.proofs.FoundTables.{gabi_found, gnu_found}
use Rattle.elf_write_spec.proofs.HashesSeen.{bytes_seen, each_agrees, has_bytes, none_or, told}
use Rattle.elf_write_spec.proofs.NumberedSections.{kept_as}
use Rattle.elf_write_spec.proofs.OrderFacts.{KeepsFirst, keeps_first}
use Rattle.elf_write_spec.proofs.SymbolsKept.{has_all, read_again}
use Rattle.elf_write_spec.proofs.WholeFacts.{Nowhere, ReadFacts, SectionAt, There, TypeAt, read_facts, type_at}

-- the bytes of a section are bytes where those of the file are
section_is_bytes : (file : List ℕ) (s : SectionHeader) → AreBytes file → AreBytes (section_bytes file s)
unfolding section_bytes
section_is_bytes file s all = by_test (has_file_bytes s)
  where
    by_test : (b : Bool) → AreBytes (if b then field s.sh_size s.sh_offset file else [])
    by_test true = AreBytes-take s.sh_size _ (AreBytes-drop s.sh_offset file all)
    by_test false = AreBytes-take 0 file all

-- the dynamic list that is written names the symbols where the image's does
final_listed : (read image : Image) → lists_tag DT_SYMTAB (list_at (λ es. es) image.entries) ≡ true
    → (es : List Entry) × ((final read image).entries ≡ Some es) × (lists_tag DT_SYMTAB es ≡ true)
unfolding final
final_listed read image listed = entries_listed read image listed

module _ (w : Output) (is : IsPlannedOutput w) (changed : are_names_changed (image_at_read w.image) w.image ≡ true) (again : Image)
    (same : IsRewrittenImage w again) (names : AreNamesOf again.dynamic_symbols (loader_name (written_bytes w))) (f : ReadFacts w) where
  first : KeepsFirst w.image
  first = keeps_first (image_at_read w.image) w.image f

  -- the bytes of a section as it was read
  content_is_bytes : (i : ℕ) (at : SectionAt w f.parts i) → AreBytes at.section.content
  content_is_bytes i at =
      let read : AreBytes (section_bytes (file_of f.parts) at.old) =
      section_is_bytes (file_of f.parts) at.old (subst AreBytes (sym f.are_parts.same_file) is.source) in
      subst AreBytes (sym (ap (λ (x : ImageSection). x.content) at.of_old.fields)) read

  module _ (list : SectionHeader) (there : section_of_type SHT_DYNAMIC w.headers ≡ Some list) where
    -- a tag without a section has no value
    none_told : (tag address : ℕ) → value_of_tag tag w.raw ≡ Some address → tag_is_address (raw_entries (written_parts w)) tag None ≡ true → ⊥
    none_told tag address value agrees =
        false≢true (none_or (λ v. is_some_and (λ h. is_allocated h && h.sh_addr == v) None) (value_of_tag tag (raw_entries (written_parts w))) address
        (told w is f list there tag address value) agrees)

    gabi_by : TypeAt w f.parts SHT_HASH → (address : ℕ) → value_of_tag DT_HASH w.raw ≡ Some address
        → FindsByGabiHash again (written_bytes w) (loaded_from again (written_bytes w) address)
    gabi_by (Nowhere _ none _) address value =
        absurd (none_told DT_HASH address value
        (ap (tag_is_address (raw_entries (written_parts w)) DT_HASH) (sym none) ∙ (each_agrees w is f list there).0))
    gabi_by (There i at is_type _ header is_kept) address value =
        let agrees : tag_is_address (raw_entries (written_parts w)) DT_HASH (Some at.header) ≡ true =
        ap (tag_is_address (raw_entries (written_parts w)) DT_HASH) (sym header) ∙ (each_agrees w is f list there).0 in
        let seen : Keeps (memory_of at.bytes) (from (byte_at w.plan.segments (written_bytes w)) address) =
        bytes_seen w is f list there DT_HASH address i at agrees value (has_bytes w is f list there SHT_HASH refl at.old is_type) in
        gabi_found w again same (has_all w is) first changed is.written.fit names (kept_as i at.number at.section) address at.bytes is_kept
        (content_is_bytes i at) (hash_shown w is f i at is_type) seen

    gnu_by : TypeAt w f.parts SHT_GNU_HASH → (address : ℕ) → value_of_tag DT_GNU_HASH w.raw ≡ Some address
        → FindsByGnuHash again (written_bytes w) (loaded_from again (written_bytes w) address)
    gnu_by (Nowhere _ none _) address value =
        absurd (none_told DT_GNU_HASH address value
        (ap (tag_is_address (raw_entries (written_parts w)) DT_GNU_HASH) (sym none) ∙ (each_agrees w is f list there).1))
    gnu_by (There i at is_type _ header is_kept) address value =
        let agrees : tag_is_address (raw_entries (written_parts w)) DT_GNU_HASH (Some at.header) ≡ true =
        ap (tag_is_address (raw_entries (written_parts w)) DT_GNU_HASH) (sym header) ∙ (each_agrees w is f list there).1 in
        let seen : Keeps (memory_of at.bytes) (from (byte_at w.plan.segments (written_bytes w)) address) =
        bytes_seen w is f list there DT_GNU_HASH address i at agrees value (has_bytes w is f list there SHT_GNU_HASH refl at.old is_type) in
        gnu_found w again same (has_all w is) first changed is.written.fit names (kept_as i at.number at.section) address at.bytes is_kept
        (content_is_bytes i at) (gnu_hash_shown w is f i at is_type) seen

    both_found : AreNamesFound again w.raw (written_bytes w)
    both_found = record { gabi = gabi_by (type_at w is f SHT_HASH refl); gnu = gnu_by (type_at w is f SHT_GNU_HASH refl) }

  -- without a list nothing is told
  none_listed : w.raw ≡ [] → AreNamesFound again w.raw (written_bytes w)
  none_listed none = record {
    gabi = λ address value. absurd (none-some address (sym (ap (value_of_tag DT_HASH) none) ∙ value));
    gnu = λ address value. absurd (none-some address (sym (ap (value_of_tag DT_GNU_HASH) none) ∙ value));
  }

  found_by_list : TypeAt w f.parts SHT_DYNAMIC → AreNamesFound again w.raw (written_bytes w)
  found_by_list (There i at _ _ header _) = both_found at.header header
  found_by_list (Nowhere _ _ none) = none_listed (is.written.no_list none)

pub written_files_find_names : WrittenFilesFindNames
written_files_find_names w is changed listed again read =
    let f : ReadFacts w = read_facts w is in
    let same = read_again w is again read in
    let (es, is_list, named) = final_listed (image_at_read w.image) w.image listed in
    let names : AreNamesOf again.dynamic_symbols (loader_name (written_bytes w)) =
    names_are_seen (written_bytes w) again read es (same.entries ∙ is_list) named in
    found_by_list w is changed again same names f (type_at w is f SHT_DYNAMIC refl)
