-- Relocations and hash tables of an image of which some sections go, or get other names.
use Rattle.std.proofs.Common.{◌≡◌, ℕ, Bool, true, false, List, refl, sym, ap, ◌∙◌, Option, Some, None}
use Rattle.std.specs.Prelude.{◌&&◌, not}
use Rattle.std.specs.Option.{option_map}
use Rattle.std.proofs.lemmas.Bool.{and_from, and_parts, not-true, not_from_false}
use Rattle.elf_format.specs.declared.constants.TheConstants.{SHT_DYNSYM, SHT_GNU_HASH, SHT_HASH}
use Rattle.elf_format.specs.declared.form.Form.{Form}
use Rattle.elf_format.specs.Image.{Image, ImageSection}
use Rattle.elf_format.specs.Options.{is_none_or}
use Rattle.elf_image.specs.Complete.{AreRelocated}
use Rattle.elf_image.specs.Kept.{KeptSection, kept_of_type, kept_sections}
use Rattle.elf_image.specs.Relocated.{names_symbol}
use Rattle.elf_image.specs.Renumbering.{can_make_gabi, can_make_gnu, can_renumber, has_opaque_user, is_opaque_user}
use Rattle.elf_image.specs.Staying.{table_number}
use Rattle.elf_image.proofs.ListsLeft.{none_if, none_passes}
use Rattle.elf_image.proofs.SectionsLeft.{AreSectionsLeft, Unnamed, nameless, section_was, unnamed}

-- what is told of a section without its name
seen : (f : ImageSection → Bool) → ((s : ImageSection) → f (nameless s) ≡ f s) → (r : Option KeptSection) → is_none_or (λ k. f k.section) r ≡ is_none_or (λ (x : Unnamed). f x.1) (option_map unnamed r)
seen f same None = refl
seen f same (Some k) = sym (same k.section)

made_same : (f : ImageSection → Bool) → ((s : ImageSection) → f (nameless s) ≡ f s) → (o q : Option KeptSection) → option_map unnamed o ≡ option_map unnamed q
    → is_none_or (λ k. f k.section) o ≡ is_none_or (λ k. f k.section) q
made_same f same o q is = seen f same o ∙ ap (is_none_or (λ (x : Unnamed). f x.1)) is ∙ sym (seen f same q)

module _ (keep : ℕ → Bool) (image new : Image) (left : AreSectionsLeft keep image new) (form : new.form ≡ image.form) where
  -- relocations name the symbols that they named
  pub relocated_left : (type : ℕ) (numbers : List ℕ) → table_number type new ≡ table_number type image → AreRelocated image (table_number type image) numbers
      → AreRelocated new (table_number type new) numbers
  relocated_left type numbers table all s number has names =
      let (old, old_has, same, _) = section_was keep image new left s has in
      all old number old_has
      (ap (λ (x : Unnamed). names_symbol image.form (table_number type image) number x.1) same
      ∙ ap (λ (o : Option ℕ). names_symbol image.form o number s.section) (sym table) ∙ ap (λ (f : Form). names_symbol f (table_number type new) number s.section) (sym form) ∙ names)

  no_user_left : table_number SHT_DYNSYM new ≡ table_number SHT_DYNSYM image → has_opaque_user (table_number SHT_DYNSYM image) (kept_sections image) ≡ false
      → has_opaque_user (table_number SHT_DYNSYM new) (kept_sections new) ≡ false
  no_user_left table none =
      none_if (λ (s : KeptSection). is_opaque_user (table_number SHT_DYNSYM new) s.section) (kept_sections new) (λ s has.
      let (old, old_has, same, _) = section_was keep image new left s has in
      ap (λ (o : Option ℕ). is_opaque_user o s.section) table ∙ ap (λ (x : Unnamed). is_opaque_user (table_number SHT_DYNSYM image) x.1) (sym same)
      ∙ none_passes (λ (k : KeptSection). is_opaque_user (table_number SHT_DYNSYM image) k.section) (kept_sections image) old none old_has)

  -- what could be made anew still can
  pub renumbers_left : option_map unnamed (kept_of_type SHT_HASH new) ≡ option_map unnamed (kept_of_type SHT_HASH image)
      → option_map unnamed (kept_of_type SHT_GNU_HASH new) ≡ option_map unnamed (kept_of_type SHT_GNU_HASH image) → table_number SHT_DYNSYM new ≡ table_number SHT_DYNSYM image
      → can_renumber image ≡ true → can_renumber new ≡ true
  renumbers_left gabi_same gnu_same table can =
      let gabi : Form → Image → Bool = λ f i. is_none_or (λ s. can_make_gabi f s.section) (kept_of_type SHT_HASH i) in
      let gnu : Form → Image → Bool = λ f i. is_none_or (λ s. can_make_gnu f s.section) (kept_of_type SHT_GNU_HASH i) in
      let users : Image → Bool = λ i. has_opaque_user (table_number SHT_DYNSYM i) (kept_sections i) in
      let (first, no_user) = and_parts (gabi image.form image && gnu image.form image) (not (users image)) can in
      let (makes_gabi, makes_gnu) = and_parts (gabi image.form image) (gnu image.form image) first in
      and_from (gabi new.form new && gnu new.form new) (not (users new))
      (and_from (gabi new.form new) (gnu new.form new)
      (ap (λ (f : Form). gabi f new) form ∙ made_same (can_make_gabi image.form) (λ s. refl) (kept_of_type SHT_HASH new) (kept_of_type SHT_HASH image) gabi_same ∙ makes_gabi)
      (ap (λ (f : Form). gnu f new) form ∙ made_same (can_make_gnu image.form) (λ s. refl) (kept_of_type SHT_GNU_HASH new) (kept_of_type SHT_GNU_HASH image) gnu_same ∙ makes_gnu))
      (not_from_false (users new) (no_user_left table (not-true (users image) no_user)))
