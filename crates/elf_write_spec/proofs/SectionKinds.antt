-- What a section's bytes are, by its type and by whether its relocations are kept as they are, and of which kinds they are copied.
use Rattle.std.proofs.Common.{◌≡◌, ℕ, Bool, true, false, not, ◌&&◌, ◌||◌, List, [], ◌∷◌, refl, sym, ap, ◌∙◌, subst, Some}
use Rattle.std.specs.Prelude.{◌==◌, if◌then◌else◌}
use Rattle.std.proofs.lemmas.Bool.{and_parts, false≢true}
use Rattle.elf_format.specs.declared.constants.TheConstants.{SHT_DYNAMIC, SHT_DYNSYM, SHT_GNU_HASH, SHT_GNU_VERDEF, SHT_GNU_VERNEED, SHT_GNU_VERSYM, SHT_HASH, SHT_NOBITS, SHT_NOTE, SHT_REL, SHT_RELA, SHT_STRTAB, SHT_SYMTAB}
use Rattle.elf_format.specs.declared.records.SectionHeader.{SectionHeader}
use Rattle.elf_format.specs.declared.section_data.SectionData.{SectionData}
use Rattle.elf_format.specs.declared.section_data.SectionData.TheVariants as kinds
use Rattle.elf_format.specs.File.{Parts}
use Rattle.elf_format.specs.Options.{is_one_of}
use Rattle.elf_format.specs.Rules.{data_of, is_opaque_relocation}
use Rattle.elf_format.specs.declared.records.EntryNumbers.{EntryNumbers}
use Rattle.patch_bytes.specs.Memory.{memory_of}
use Rattle.elf_format.specs.Hashes.{GnuHeader, gnu_header}
use Rattle.elf_hashes.specs.Found.{hashed_names}
use Rattle.elf_hashes.specs.Gabi.{IsGabiTable}
use Rattle.elf_hashes.specs.Gnu.{IsGnuTable}
use Rattle.elf_image.specs.Kept.{KeptSection}
use Rattle.elf_image.specs.Names.{are_names_changed}
use Rattle.elf_image.specs.Relocated.{is_against}
use Rattle.elf_image.specs.Staying.{table_number}
use Rattle.elf_layout_plan.specs.Memory.{Resized}
use Rattle.elf_layout_plan.specs.Plan.{Plan}
use Rattle.elf_layout_plan.specs.Texts.{is_table_copied}
use Rattle.elf_write_spec.specs.Renumbered.{AreRenumbered}
use Rattle.elf_write_spec.specs.Contents.{AreRelocationsOf, AreStaticRelocationsOf, IsContentOfKind, gabi_buckets, sizes_in}
use Rattle.elf_write_spec.specs.Final.{are_symbols_kept, are_versions_kept, final, is_static_renumbered, new_dynamic_symbols, new_static_symbols}
use Rattle.elf_write_spec.specs.WrittenFile.{Unchanged, is_kind_copied}

abbrev pub kind_by : ℕ → Bool → SectionData
kind_by type opaque =
    if type == SHT_NOBITS then kinds.Uninitialized
    else if type == SHT_DYNAMIC then kinds.Dynamic
    else if is_one_of (SHT_REL ∷ SHT_RELA ∷ []) type then (if opaque then kinds.Opaque else kinds.Relocation)
    else if type == SHT_NOTE then kinds.Note
    else if type == SHT_STRTAB then kinds.Strings
    else if type == SHT_SYMTAB then kinds.Symbols
    else if type == SHT_DYNSYM then kinds.DynamicSymbols
    else if type == SHT_HASH then kinds.Hash
    else if type == SHT_GNU_HASH then kinds.GnuHash
    else if type == SHT_GNU_VERSYM then kinds.GnuVersym
    else if type == SHT_GNU_VERDEF then kinds.GnuVerdef
    else if type == SHT_GNU_VERNEED then kinds.GnuVerneed
    else kinds.Opaque

pub kind_is : (p : Parts) (s : SectionHeader) → data_of p s ≡ kind_by s.sh_type (is_opaque_relocation p s)
kind_is p s = refl

-- where nothing is told of what decides on the bytes of some kinds
abbrev pub untold : Unchanged
untold = record {
  table = false;
  names = false;
  versions = false;
  against_dynamic = true;
  symbols = false;
  numbers = false;
  against_static = true;
}

-- kinds of which the bytes are copied, whatever is told
abbrev pub is_copied : SectionData → Bool
is_copied kind = is_kind_copied untold kind

-- what is told is so
pub record IsTold (r : Resized) (s : KeptSection) (u : Unchanged) : Type 0 where
  pub table : u.table ≡ true → is_table_copied r.read r.image s.number ≡ true
  pub names : u.names ≡ true → are_names_changed r.read r.image ≡ false
  pub versions : u.versions ≡ true → are_versions_kept r.read r.image ≡ true
  pub against_dynamic : u.against_dynamic ≡ false → is_against (table_number SHT_DYNSYM r.image) s.section ≡ false
  pub symbols : u.symbols ≡ true → (are_symbols_kept r.read r.image && is_table_copied r.read r.image s.section.sh_link) ≡ true
  pub numbers : u.numbers ≡ true → is_static_renumbered r.read r.image ≡ false
  pub against_static : u.against_static ≡ false → is_against (table_number SHT_SYMTAB r.image) s.section ≡ false

pub nothing_told : (r : Resized) (s : KeptSection) → IsTold r s untold
nothing_told r s = record {
  table = λ h. absurd (false≢true h);
  names = λ h. absurd (false≢true h);
  versions = λ h. absurd (false≢true h);
  against_dynamic = λ h. absurd (false≢true (sym h));
  symbols = λ h. absurd (false≢true h);
  numbers = λ h. absurd (false≢true h);
  against_static = λ h. absurd (false≢true (sym h));
}

module _ (r : Resized) (plan : Plan) (raw : List EntryNumbers) (strings : List ℕ) (s : KeptSection) (bytes : List ℕ) where
  -- relocations that aren't against dynamic symbols that change
  pub relocations_static : (are_names_changed r.read r.image && is_against (table_number SHT_DYNSYM r.image) s.section) ≡ false
      → AreRelocationsOf r s.section bytes → AreStaticRelocationsOf r s.section bytes
  relocations_static other are = subst (λ (b : Bool). elim b as (λ _. Type 0) [
    | true ↦ AreRenumbered r.image.form s.section.sh_type (new_dynamic_symbols r.read r.image) s.section.content bytes
    | _ ↦ AreStaticRelocationsOf r s.section bytes
  ]) other are

  -- relocations that aren't against dynamic symbols that change, nor against static ones that do
  pub relocations_copied : (are_names_changed r.read r.image && is_against (table_number SHT_DYNSYM r.image) s.section) ≡ false
      → (is_static_renumbered r.read r.image && is_against (table_number SHT_SYMTAB r.image) s.section) ≡ false
      → AreRelocationsOf r s.section bytes → bytes ≡ s.section.content
  relocations_copied other static are = subst (λ (b : Bool). elim b as (λ _. Type 0) [
    | true ↦ AreRenumbered r.image.form s.section.sh_type (new_static_symbols r.read r.image) s.section.content bytes
    | _ ↦ bytes ≡ s.section.content
  ]) static (relocations_static other are)

  -- what is copied has the bytes that were read
  pub copied_by : (u : Unchanged) → IsTold r s u → (kind : SectionData) → is_kind_copied u kind ≡ true
      → IsContentOfKind r plan raw strings s bytes kind → bytes ≡ s.section.content
  copied_by u told kinds.Opaque h content = content
  copied_by u told kinds.Uninitialized h content = content
  copied_by u told kinds.Dynamic h content = absurd (false≢true h)
  copied_by u told kinds.Relocation h content =
      let both = and_parts (u.names || not u.against_dynamic) (u.numbers || not u.against_static) h in
      relocations_copied
      (by_test u.names u.against_dynamic (are_names_changed r.read r.image) (is_against (table_number SHT_DYNSYM r.image) s.section)
      told.names told.against_dynamic both.0)
      (by_test u.numbers u.against_static (is_static_renumbered r.read r.image) (is_against (table_number SHT_SYMTAB r.image) s.section)
      told.numbers told.against_static both.1)
      content
    where
      either : (b : Bool) → (b && false) ≡ false
      either true = refl
      either false = refl

      by_test : (a b changed against : Bool) → (a ≡ true → changed ≡ false) → (b ≡ false → against ≡ false) → (a || not b) ≡ true
          → (changed && against) ≡ false
      by_test true b changed against same apart h = ap (λ (c : Bool). c && against) (same refl)
      by_test false true changed against same apart h = absurd (false≢true h)
      by_test false false changed against same apart h = ap (λ (c : Bool). changed && c) (apart refl) ∙ either changed
  copied_by u told kinds.Note h content = content
  copied_by u told kinds.Strings h content = content.copied (told.table h)
  copied_by u told kinds.Symbols h content = content.copied (told.symbols h)
  copied_by u told kinds.DynamicSymbols h content = absurd (false≢true h)
  copied_by u told kinds.Hash h content = subst (λ (b : Bool). elim b as (λ _. Type 0) [
    | true ↦ IsGabiTable r.image.form (gabi_buckets r.image.form s.section.content) (hashed_names (final r.read r.image).dynamic_symbols) bytes
    | _ ↦ bytes ≡ s.section.content
  ]) (told.names h) content
  copied_by u told kinds.GnuHash h content = subst (λ (b : Bool). elim b as (λ _. Type 0) [
    | true ↦ (header : GnuHeader) → gnu_header r.image.form (memory_of s.section.content) ≡ Some header
        → IsGnuTable r.image.form (sizes_in header) (hashed_names (final r.read r.image).dynamic_symbols) bytes
    | _ ↦ bytes ≡ s.section.content
  ]) (told.names h) content
  copied_by u told kinds.GnuVersym h content = content.copied (told.versions h)
  copied_by u told kinds.GnuVerdef h content = absurd (false≢true h)
  copied_by u told kinds.GnuVerneed h content = absurd (false≢true h)
