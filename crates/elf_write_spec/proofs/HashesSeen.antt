-- The hash tables are seen, as they were read, where the dynamic list of a written file says.
use Rattle.std.proofs.Common.{◌≡◌, ℕ, Bool, ◌&&◌, not, true, false, refl, List, [], sym, ap, ◌∙◌, subst, Option, Some}
use Rattle.std.specs.Prelude.{◌==◌}
use Rattle.std.proofs.lemmas.Bool.{and_parts, eqb-true}
use Rattle.std.proofs.lemmas.Option.{none-some, same_Some}
use Rattle.patch_bytes.specs.Memory.{Keeps, from, memory_of}
use Rattle.elf_format.specs.declared.constants.TheConstants.{DT_GNU_HASH, DT_HASH, SHT_DYNAMIC, SHT_GNU_HASH, SHT_HASH, SHT_NOBITS, SHT_NULL}
use Rattle.elf_format.specs.declared.records.SectionHeader.{SectionHeader}
use Rattle.elf_format.specs.Dynamic.{value_of_tag}
use Rattle.elf_format.specs.File.{Parts, has_file_bytes, is_allocated, section_bytes, section_of_type}
use Rattle.elf_format.specs.Image.{ImageSection}
use Rattle.elf_format.specs.Options.{is_none_or, is_some_and}
use Rattle.elf_format.specs.Rules.{dynamic_tables_agree, file_of, hashes_agree, raw_entries, strings_agree, symbols_agree, tag_is_address, tags_come_once, texts_are_shared, versions_agree}
use Rattle.elf_format.specs.Views.{byte_at}
use Rattle.elf_image.specs.Kept.{KeptSection, image_at_read}
use Rattle.elf_image.specs.Names.{are_names_changed}
use Rattle.elf_write_spec.specs.ReadBack.{written_parts}
use Rattle.elf_write_spec.specs.Laws.{WrittenFilesKeepHashes}
use Rattle.elf_write_spec.specs.Stays.{AreHashesSeen, IsSeenByTag}
use Rattle.elf_write_spec.specs.Output.{IsPlannedOutput, Output, written_bytes}
use Rattle.elf_write_spec.proofs.ContentFacts.{gnu_hash_copied, hash_copied}
use Rattle.elf_write_spec.proofs.FileParts.{written_files_have_parts}
use Rattle.elf_write_spec.proofs.RawEntries.{raw_is}
use Rattle.elf_write_spec.proofs.RuleTables.{tables_right}
use Rattle.elf_write_spec.proofs.SectionsSeen.{same_allocated, section_seen}
use Rattle.elf_write_spec.proofs.WholeFacts.{Nowhere, ReadFacts, SectionAt, There, TypeAt, read_facts, type_at}
use Rattle.elf_write_spec.proofs.NumberedSections.{kept_as}

-- what holds of a value where there is one
pub none_or : {A : Type 0} (test : A → Bool) (o : Option A) (x : A) → o ≡ Some x → is_none_or test o ≡ true → test x ≡ true
none_or test o x is h = ap (is_none_or test) (sym is) ∙ h

fourth : (a b c d e g : Bool) → (a && b && c && d && e && g) ≡ true → d ≡ true
fourth a b c d e g h =
    (and_parts (a && b && c) d (and_parts (a && b && c && d) e (and_parts (a && b && c && d && e) g h).0).0).1

module _ (w : Output) (is : IsPlannedOutput w) (f : ReadFacts w) (list : SectionHeader)
    (there : section_of_type SHT_DYNAMIC w.headers ≡ Some list) where
  abbrev pub p : Parts
  p = written_parts w

  -- the dynamic list names both hash tables by their addresses
  both_agree : hashes_agree p ≡ true
  both_agree =
      let agree = none_or (dynamic_tables_agree p) (section_of_type SHT_DYNAMIC w.headers) list there
      (tables_right w is (written_files_have_parts w is)) in
      fourth (tags_come_once (raw_entries p)) (strings_agree p list) (symbols_agree p) (hashes_agree p) (versions_agree p) (texts_are_shared p list)
      agree

  -- a value of a tag is one of the entries of the file
  pub told : (tag address : ℕ) → value_of_tag tag w.raw ≡ Some address → value_of_tag tag (raw_entries p) ≡ Some address
  told tag address value = ap (value_of_tag tag) (raw_is w is (written_files_have_parts w is) list there) ∙ value

  pub each_agrees : (tag_is_address (raw_entries p) DT_HASH (section_of_type SHT_HASH w.headers) ≡ true)
      × (tag_is_address (raw_entries p) DT_GNU_HASH (section_of_type SHT_GNU_HASH w.headers) ≡ true)
  each_agrees = and_parts (tag_is_address (raw_entries p) DT_HASH (section_of_type SHT_HASH w.headers))
      (tag_is_address (raw_entries p) DT_GNU_HASH (section_of_type SHT_GNU_HASH w.headers)) both_agree

  -- the bytes that are written of a table are seen where the list says
  pub bytes_seen : (tag address i : ℕ) (at : SectionAt w f.parts i)
      → tag_is_address (raw_entries p) tag (Some at.header) ≡ true → value_of_tag tag w.raw ≡ Some address → has_file_bytes at.old ≡ true
      → Keeps (memory_of at.bytes) (from (byte_at w.plan.segments (written_bytes w)) address)
  bytes_seen tag address i at agrees value stored =
      let tests : (is_allocated at.header && at.header.sh_addr == address) ≡ true =
      none_or (λ v. is_some_and (λ h. is_allocated h && h.sh_addr == v) (Some at.header)) (value_of_tag tag (raw_entries p)) address
      (told tag address value) agrees in
      let both = and_parts (is_allocated at.header) (at.header.sh_addr == address) tests in
      let same : at.place.sh_addr ≡ address = sym at.address ∙ eqb-true at.header.sh_addr address both.1 in
      subst (λ (a : ℕ). Keeps (memory_of at.bytes) (from (byte_at w.plan.segments (written_bytes w)) a)) same
      (section_seen w is f i at (sym (same_allocated w is f i at) ∙ both.0) stored)

  -- the bytes of a table that is copied are those that were read
  seen_at : (tag address i : ℕ) (at : SectionAt w f.parts i)
      → tag_is_address (raw_entries p) tag (Some at.header) ≡ true → value_of_tag tag w.raw ≡ Some address
      → has_file_bytes at.old ≡ true → at.bytes ≡ section_bytes (file_of f.parts) at.old
      → Keeps (memory_of at.section.content) (from (byte_at w.plan.segments (written_bytes w)) address)
  seen_at tag address i at agrees value stored copied =
      let bytes : at.bytes ≡ at.section.content = copied ∙ sym (ap (λ (x : ImageSection). x.content) at.of_old.fields) in
      subst (λ (content : List ℕ). Keeps (memory_of content) (from (byte_at w.plan.segments (written_bytes w)) address)) bytes
      (bytes_seen tag address i at agrees value stored)

  seen_by : (type tag : ℕ) → tag_is_address (raw_entries p) tag (section_of_type type w.headers) ≡ true
      → ((old : SectionHeader) → old.sh_type ≡ type → has_file_bytes old ≡ true)
      → ((i : ℕ) (at : SectionAt w f.parts i) → at.old.sh_type ≡ type → at.bytes ≡ section_bytes (file_of f.parts) at.old)
      → TypeAt w f.parts type → IsSeenByTag w.image w.plan.segments w.raw (written_bytes w) type tag
  seen_by type tag agrees stored copied (Nowhere _ _ none) s address is_table value = absurd (none-some s (sym none ∙ is_table))
  seen_by type tag agrees stored copied (There i at is_type _ header is_kept) s address is_table value =
      let same : kept_as i at.number at.section ≡ s = same_Some (kept_as i at.number at.section) s (sym is_kept ∙ is_table) in
      subst (λ (k : KeptSection). Keeps (memory_of k.section.content) (from (byte_at w.plan.segments (written_bytes w)) address)) same
      (seen_at tag address i at (ap (tag_is_address (raw_entries p) tag) (sym header) ∙ agrees) value (stored at.old is_type) (copied i at is_type))

  pub has_bytes : (type : ℕ) → (not (type == SHT_NULL) && not (type == SHT_NOBITS)) ≡ true → (old : SectionHeader) → old.sh_type ≡ type
      → has_file_bytes old ≡ true
  has_bytes type e old is_type = ap (λ (n : ℕ). not (n == SHT_NULL) && not (n == SHT_NOBITS)) is_type ∙ e

  pub hashes_seen : are_names_changed (image_at_read w.image) w.image ≡ false
      → AreHashesSeen w.image w.plan.segments w.raw (written_bytes w)
  hashes_seen same = record {
    gabi = seen_by SHT_HASH DT_HASH each_agrees.0 (has_bytes SHT_HASH refl) (λ i at is_type. hash_copied w is f i at same is_type)
        (type_at w is f SHT_HASH refl);
    gnu = seen_by SHT_GNU_HASH DT_GNU_HASH each_agrees.1 (has_bytes SHT_GNU_HASH refl) (λ i at is_type. gnu_hash_copied w is f i at same is_type)
        (type_at w is f SHT_GNU_HASH refl);
  }

-- without entries nothing is told
pub nothing_told : (w : Output) → w.raw ≡ [] → AreHashesSeen w.image w.plan.segments w.raw (written_bytes w)
nothing_told w none = record {
  gabi = λ s address is_table value. absurd (none-some address (sym (ap (value_of_tag DT_HASH) none) ∙ value));
  gnu = λ s address is_table value. absurd (none-some address (sym (ap (value_of_tag DT_GNU_HASH) none) ∙ value));
}

pub written_files_keep_hashes : WrittenFilesKeepHashes
written_files_keep_hashes w is same = by_list (type_at w is (read_facts w is) SHT_DYNAMIC refl)
  where
    by_list : TypeAt w (read_facts w is).parts SHT_DYNAMIC → AreHashesSeen w.image w.plan.segments w.raw (written_bytes w)
    by_list (There i at _ _ header _) = hashes_seen w is (read_facts w is) at.header header same
    by_list (Nowhere _ _ none) = nothing_told w (is.written.no_list none)
