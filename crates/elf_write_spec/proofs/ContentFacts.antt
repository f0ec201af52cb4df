-- What the bytes that are written of a section are, by the section's type.
use Rattle.std.proofs.Common.{◌≡◌, ℕ, List, length, Bool, true, false, refl, sym, ap, ◌∙◌, subst}
use Rattle.std.specs.Prelude.{◌==◌, unwrap_or}
use Rattle.std.proofs.lemmas.Bool.{false≢true}
use Rattle.elf_format.specs.declared.constants.TheConstants.{SHT_DYNAMIC, SHT_DYNSYM, SHT_GNU_HASH, SHT_GNU_VERDEF, SHT_GNU_VERNEED, SHT_GNU_VERSYM, SHT_HASH, SHT_PROGBITS, SHT_STRTAB, SHT_SYMTAB}
use Rattle.elf_format.specs.declared.section_data.SectionData.{SectionData}
use Rattle.elf_format.specs.declared.section_data.SectionData.TheVariants as kinds
use Rattle.elf_format.specs.File.{section_bytes}
use Rattle.elf_format.specs.Image.{ImageSection}
use Rattle.elf_format.specs.Options.{list_at}
use Rattle.elf_format.specs.Records.{symbols_in}
use Rattle.elf_format.specs.Rules.{data_of, file_of, is_opaque_relocation}
use Rattle.elf_hashes.specs.Versions.{AreVersionsOf}
use Rattle.elf_image.specs.Kept.{image_at_read}
use Rattle.elf_image.specs.Names.{are_names_changed}
use Rattle.elf_layout_plan.specs.Plan.{resized}
use Rattle.elf_write_spec.specs.Base.{is_interpreter}
use Rattle.elf_write_spec.specs.Contents.{AreDefinitionsIn, AreEntriesOf, AreNeedsIn, AreSymbolsOf, IsContent, IsContentOfKind, IsGabiContent, IsGnuContent, IsStringTableOf, content_at_number, spelled_list}
use Rattle.elf_write_spec.specs.Final.{final}
use Rattle.elf_write_spec.specs.Output.{IsPlannedOutput, Output}
use Rattle.elf_write_spec.specs.WrittenFile.{is_kind_copied}
use Rattle.elf_write_spec.proofs.WholeEdits as edits
use Rattle.elf_write_spec.proofs.WholeFacts.{ReadFacts, SectionAt, read_at}
use Rattle.elf_write_spec.proofs.NumberedSections.{kept_as}
use Rattle.elf_write_spec.proofs.SectionKinds.{IsTold, copied_by, kind_by, untold}

-- ## The interpreter's section

module _ (w : Output) (is : IsPlannedOutput w) (f : ReadFacts w) (i : ℕ) (at : SectionAt w f.parts i) where
  -- a section of another type isn't the interpreter's
  pub not_interpreter : (type : ℕ) → at.old.sh_type ≡ type → (type == SHT_PROGBITS) ≡ false
      → is_interpreter (image_at_read w.image) (kept_as i at.number at.section) ≡ false
  not_interpreter type is_type other =
      edits.not_interpreter (image_at_read w.image) w.image f i (read_at at)
      (ap (λ (n : ℕ). n == SHT_PROGBITS) (ap (λ (x : ImageSection). x.sh_type) at.of_old.fields ∙ is_type) ∙ other)

  -- ## The kind of a section

  -- the bytes of the string table that the section links to
  abbrev pub linked_bytes : List ℕ
  linked_bytes = content_at_number w.image w.contents at.section.sh_link

  -- what its bytes show, were it of a kind
  abbrev pub ShowsAs : SectionData → Type 0
  ShowsAs kind = IsContentOfKind (resized w.image) w.plan w.raw linked_bytes (kept_as i at.number at.section) at.bytes kind

  kind_is : at.section.kind ≡ data_of f.parts at.old
  kind_is = ap (λ (x : ImageSection). x.kind) at.of_old.fields

  kind_at : (type : ℕ) → at.old.sh_type ≡ type → at.section.kind ≡ kind_by type (is_opaque_relocation f.parts at.old)
  kind_at type is_type = kind_is ∙ ap (λ (n : ℕ). kind_by n (is_opaque_relocation f.parts at.old)) is_type

  shows : (type : ℕ) → at.old.sh_type ≡ type → (type == SHT_PROGBITS) ≡ false → (kind : SectionData)
      → kind_by type (is_opaque_relocation f.parts at.old) ≡ kind
      → ShowsAs kind
  shows type is_type other kind kind_same =
      let content : IsContent (resized w.image) w.plan w.raw linked_bytes (kept_as i at.number at.section) at.bytes = at.written.content in
      let plain : ShowsAs at.section.kind = subst (λ (b : Bool). elim b as (λ _. Type 0) [
        | true ↦ at.bytes ≡ unwrap_or w.image.interpreter at.section.content
        | _ ↦ ShowsAs at.section.kind
      ]) (not_interpreter type is_type other) content in
      subst ShowsAs (kind_at type is_type ∙ kind_same) plain

  -- ## By type

  pub dynamic_shown : at.old.sh_type ≡ SHT_DYNAMIC
      → AreEntriesOf (resized w.image) w.plan linked_bytes (list_at (λ es. es) (final (image_at_read w.image) w.image).entries) w.raw
      × (at.bytes ≡ spelled_list w.image.form w.raw (length at.bytes))
  dynamic_shown h = shows SHT_DYNAMIC h refl kinds.Dynamic refl

  pub strings_shown : at.old.sh_type ≡ SHT_STRTAB → IsStringTableOf (image_at_read w.image) w.image (kept_as i at.number at.section) at.bytes
  strings_shown h = shows SHT_STRTAB h refl kinds.Strings refl

  pub dynamic_symbols_shown : at.old.sh_type ≡ SHT_DYNSYM
      → AreSymbolsOf linked_bytes (final (image_at_read w.image) w.image).dynamic_symbols (symbols_in w.image.form at.bytes)
  dynamic_symbols_shown h = shows SHT_DYNSYM h refl kinds.DynamicSymbols refl

  pub definitions_shown : at.old.sh_type ≡ SHT_GNU_VERDEF → AreDefinitionsIn w.image linked_bytes at.bytes
  definitions_shown h = shows SHT_GNU_VERDEF h refl kinds.GnuVerdef refl

  pub needs_shown : at.old.sh_type ≡ SHT_GNU_VERNEED → AreNeedsIn (resized w.image) linked_bytes at.bytes
  needs_shown h = shows SHT_GNU_VERNEED h refl kinds.GnuVerneed refl

  -- the section's bytes are as they were read
  content_read : at.section.content ≡ section_bytes (file_of f.parts) at.old
  content_read = ap (λ (x : ImageSection). x.content) at.of_old.fields

  pub symbols_shown : at.old.sh_type ≡ SHT_SYMTAB
      → AreSymbolsOf linked_bytes (final (image_at_read w.image) w.image).symbols (symbols_in w.image.form at.bytes)
  symbols_shown h = (shows SHT_SYMTAB h refl kinds.Symbols refl).symbols

  -- hash tables are, where the names are those that were read
  same_names : are_names_changed (image_at_read w.image) w.image ≡ false
      → IsTold (resized w.image) (kept_as i at.number at.section) (record untold { names = true })
  same_names same = record {
    table = λ h. absurd (false≢true h);
    names = λ _. same;
    versions = λ h. absurd (false≢true h);
    against_dynamic = λ h. absurd (false≢true (sym h));
    symbols = λ h. absurd (false≢true h);
    numbers = λ h. absurd (false≢true h);
    against_static = λ h. absurd (false≢true (sym h));
  }

  hash_kept : are_names_changed (image_at_read w.image) w.image ≡ false → (kind : SectionData)
      → is_kind_copied (record untold { names = true }) kind ≡ true
      → ShowsAs kind → at.bytes ≡ section_bytes (file_of f.parts) at.old
  hash_kept same kind copied content =
      copied_by (resized w.image) w.plan w.raw linked_bytes (kept_as i at.number at.section) at.bytes
      (record untold { names = true }) (same_names same) kind copied content
      ∙ content_read

  pub hash_copied : are_names_changed (image_at_read w.image) w.image ≡ false → at.old.sh_type ≡ SHT_HASH
      → at.bytes ≡ section_bytes (file_of f.parts) at.old
  hash_copied same h = hash_kept same kinds.Hash refl (shows SHT_HASH h refl kinds.Hash refl)

  pub gnu_hash_copied : are_names_changed (image_at_read w.image) w.image ≡ false → at.old.sh_type ≡ SHT_GNU_HASH
      → at.bytes ≡ section_bytes (file_of f.parts) at.old
  gnu_hash_copied same h = hash_kept same kinds.GnuHash refl (shows SHT_GNU_HASH h refl kinds.GnuHash refl)

  -- the bytes of a hash table show the final symbols, or are as they were
  pub hash_shown : at.old.sh_type ≡ SHT_HASH → IsGabiContent (resized w.image) at.section at.bytes
  hash_shown h = shows SHT_HASH h refl kinds.Hash refl

  pub gnu_hash_shown : at.old.sh_type ≡ SHT_GNU_HASH → IsGnuContent (resized w.image) at.section at.bytes
  gnu_hash_shown h = shows SHT_GNU_HASH h refl kinds.GnuHash refl

  -- the versions of the final symbols
  pub versions_shown : at.old.sh_type ≡ SHT_GNU_VERSYM
      → AreVersionsOf w.image.form (final (image_at_read w.image) w.image).dynamic_symbols at.bytes
  versions_shown h = (shows SHT_GNU_VERSYM h refl kinds.GnuVersym refl).versions
