-- Where there is a dynamic list, all that is dynamic has its texts in the list's string table.
use Rattle.std.proofs.Common.{◌≡◌, ℕ, refl, sym, ap, ◌∙◌, List, true, Option, Some, None}
use Rattle.std.specs.Prelude.{◌==◌}
use Rattle.std.proofs.lemmas.Bool.{and_parts, eqb-true}
use Rattle.std.proofs.lemmas.Option.{none-some, same_Some}
use Rattle.patch_bytes.specs.Memory.{◌>>=◌}
use Rattle.patch_bytes.proofs.MemoryLaws.{bind_some}
use Rattle.elf_format.specs.declared.constants.TheConstants.{SHT_DYNAMIC, SHT_DYNSYM, SHT_GNU_VERNEED}
use Rattle.elf_format.specs.declared.records.SectionHeader.{SectionHeader}
use Rattle.elf_format.specs.Dynamic.{Entry}
use Rattle.elf_format.specs.File.{section_of_type}
use Rattle.elf_format.specs.Image.{Image, entries_read}
use Rattle.elf_format.specs.Options.{first_there, is_one_of}
use Rattle.elf_format.specs.Rules.{dynamic_tables_agree, shares_texts, texts_are_shared}
use Rattle.elf_format.proofs.ForCallers.ViewsAgree.{test_at}
use Rattle.elf_image.specs.Edited.{AreEntriesOf}
use Rattle.elf_image.specs.Kept.{dynamic_strings_number, link_of_type}
use Rattle.elf_image.specs.Needed.{lasting_types}
use Rattle.elf_write_spec.proofs.ForCallers.WholeEdits.{ReadFacts, type_at}
use Rattle.elf_write_strings.proofs.ReadTables.{link_by}

-- no list where none was read
pub none_edited : (was now : Option (List Entry)) → AreEntriesOf was now → was ≡ None → now ≡ None
none_edited None None are none = refl
none_edited None (Some now) are none = absurd are
none_edited (Some read) now are none = absurd (none-some read (sym none))

no_section : (o : Option SectionHeader) → (o >>= λ h. Some h.sh_link) ≡ None → o ≡ None
no_section None h = refl
no_section (Some s) h = absurd (none-some s.sh_link (sym h))

-- the dynamic list has its texts among the dynamic strings
pub list_linked : (image : Image) (l : ℕ) → link_of_type SHT_DYNAMIC image ≡ Some l → dynamic_strings_number image ≡ Some l
list_linked image l link = ap (λ (o : Option ℕ). first_there o (link_of_type SHT_DYNSYM image)) link

module _ (read image : Image) (f : ReadFacts read image) where
  -- where a section of a type that lasts links is what its header says that was read
  link_was : (type : ℕ) → is_one_of lasting_types type ≡ true
      → link_of_type type image ≡ (section_of_type type f.parts.sections >>= λ h. Some h.sh_link)
  link_was type lasting = link_by read image f type (type_at read image f type lasting)

  shared_at : (list : SectionHeader) → section_of_type SHT_DYNAMIC f.parts.sections ≡ Some list → texts_are_shared f.parts list ≡ true
  shared_at list is_list =
      (and_parts _ (texts_are_shared f.parts list)
      (test_at (λ (t : SectionHeader). dynamic_tables_agree f.parts t) (section_of_type SHT_DYNAMIC f.parts.sections) list f.rules.tables is_list)).1

  -- a user that shares the texts of the list links where the list does
  pub shared_link : (l : ℕ) → link_of_type SHT_DYNAMIC image ≡ Some l → (type : ℕ) → is_one_of lasting_types type ≡ true
      → ((list : SectionHeader) → texts_are_shared f.parts list ≡ true → shares_texts f.parts list type ≡ true)
      → (m : ℕ) → link_of_type type image ≡ Some m → m ≡ l
  shared_link l list_link type lasting shares m link =
      let (list, list_is, list_own) = bind_some (section_of_type SHT_DYNAMIC f.parts.sections) (λ h. Some h.sh_link) l
      (sym (link_was SHT_DYNAMIC refl) ∙ list_link) in
      let (user, user_is, user_own) = bind_some (section_of_type type f.parts.sections) (λ h. Some h.sh_link) m
      (sym (link_was type lasting) ∙ link) in
      let both : user.sh_link ≡ list.sh_link =
      eqb-true user.sh_link list.sh_link
      (test_at (λ (s : SectionHeader). s.sh_link == list.sh_link) (section_of_type type f.parts.sections) user
      (shares list (shared_at list list_is)) user_is) in
      sym (same_Some user.sh_link m user_own) ∙ both ∙ same_Some list.sh_link l list_own

  pub symbols_share : (list : SectionHeader) → texts_are_shared f.parts list ≡ true → shares_texts f.parts list SHT_DYNSYM ≡ true
  symbols_share list h = (and_parts _ _ (and_parts _ (shares_texts f.parts list SHT_GNU_VERNEED) h).0).0

  pub needs_share : (list : SectionHeader) → texts_are_shared f.parts list ≡ true → shares_texts f.parts list SHT_GNU_VERNEED ≡ true
  needs_share list h = (and_parts _ (shares_texts f.parts list SHT_GNU_VERNEED) h).1

  -- the dynamic symbols have their names among the dynamic strings
  pub symbols_linked : (m : ℕ) → link_of_type SHT_DYNSYM image ≡ Some m → dynamic_strings_number image ≡ Some m
  symbols_linked m link = by_list (link_of_type SHT_DYNAMIC image) refl
    where
      by_list : (o : Option ℕ) → link_of_type SHT_DYNAMIC image ≡ o → first_there o (link_of_type SHT_DYNSYM image) ≡ Some m
      by_list None o_is = link
      by_list (Some l) o_is = ap (λ (n : ℕ). Some n) (sym (shared_link l o_is SHT_DYNSYM refl symbols_share m link))

  -- no list was read where none is there
  pub no_entries_read : link_of_type SHT_DYNAMIC image ≡ None → read.entries ≡ None
  unfolding entries_read
  no_entries_read none =
      let was : section_of_type SHT_DYNAMIC f.parts.sections ≡ None =
      no_section (section_of_type SHT_DYNAMIC f.parts.sections) (sym (link_was SHT_DYNAMIC refl) ∙ none) in
      sym (same_Some None read.entries (ap (entries_read f.parts) (sym was) ∙ f.holds.entries))
