-- String tables that are copied and told anew: the texts that were read are placed, user by user.
use Rattle.std.proofs.Common.{◌≡◌, ◌≢◌, ◌+◌, ◌<◌, ℕ, Bool, true, false, List, [], ◌∷◌, length, map, get_or, sym, ap, ◌∙◌, subst, Option, Some, None, arith, cond}
use Rattle.std.specs.Prelude.{not, ◌==◌, filter, if◌then◌else◌}
use Rattle.std.specs.List.{slice_get}
use Rattle.std.specs.Option.{option_map}
use Rattle.std.proofs.lemmas.Bool.{ne_eqb}
use Rattle.std.proofs.lemmas.Option.{none-some, same_Some, slice_get_within}
use Rattle.std.proofs.lemmas.List.{length-map}
use Rattle.patch_bytes.specs.Memory.{◌>>=◌}
use Rattle.elf_format.specs.declared.constants.TheConstants.{DT_VERNEED, DT_VERNEEDNUM, SHT_DYNAMIC, SHT_DYNSYM, SHT_GNU_VERDEF, SHT_GNU_VERNEED, SHT_SYMTAB}
use Rattle.elf_format.specs.Dynamic.{Entry}
use Rattle.elf_format.specs.Image.{Image, ImageSection, entry_tag}
use Rattle.elf_format.specs.Options.{is_one_of, is_some_and, list_at}
use Rattle.elf_image.specs.declared.section.Section.{Section}
use Rattle.elf_image.specs.Edited.{IsEdited}
use Rattle.elf_image.specs.ImageModel.{section_model}
use Rattle.elf_image.specs.Kept.{KeptSection, kept_of_type, link_of_type}
use Rattle.elf_image.specs.Lookups.{type_position}
use Rattle.elf_layout_plan.specs.Needs.{are_needs_gone, written_entries, written_needs}
use Rattle.elf_layout_plan.specs.Texts.{if_linked, if_names, texts_in_use, texts_of_definitions, texts_of_entries, texts_of_entry, texts_of_needs, texts_of_symbols}
use Rattle.elf_tables.specs.Strings.{Strings}
use Rattle.elf_write_strings.specs.PlacedTexts.{IsContentOfUser, TellsAll}
use Rattle.elf_write_strings.specs.WrittenStrings.{has_texts_in}
use Rattle.elf_write_strings.proofs.LinksAt.{Link, NoLink}
use Rattle.elf_write_strings.proofs.LinksAt as tables
use Rattle.elf_write_strings.proofs.TellsPlaced.{got_model}
use Rattle.elf_write_strings.proofs.TextsTold.{all_told, back_told, both_told, front_told, none_told, unlinked_if}
use Rattle.elf_write_strings.proofs.VersionsHave.{written_told}

-- ## The section of a type

-- a section as the table has it
section_got : (image : Image) (ss : List Section) (i : ℕ) (s : Section) → map section_model ss ≡ image.sections → i < length ss
    → s ≡ get_or ss i s → slice_get image.sections i ≡ Some (section_model s)
section_got image ss i s same within is =
    ap (λ (l : List ImageSection). slice_get l i) (sym same) ∙ got_model ss i s within ∙ ap (λ (x : Section). Some (section_model x)) (sym is)

abbrev is_link : ℕ → Option KeptSection → Bool
is_link number o = is_some_and (λ link. link == number) (o >>= λ s. Some s.section.sh_link)

module _ (image : Image) (type number : ℕ) (is : IsEdited image) where
  -- no section of the type is there
  pub user_none : type_position image type ≡ None → has_texts_in image type number ≡ false
  user_none none = elim (tables.link_at image type is) [
    | NoLink e nowhere ↦ ap (is_link number) nowhere
    | Link j k position at found ↦ absurd (none-some (0 + j) (sym none ∙ position))
  ]

  -- the one at a position, as the table of sections has it
  record UserHere (i : ℕ) (s : ImageSection) : Type 0 where
    pub kept : KeptSection
    pub found : kept_of_type type image ≡ Some kept
    pub same : kept.section ≡ s

  user_here : (i : ℕ) → type_position image type ≡ Some i → (s : ImageSection) → slice_get image.sections i ≡ Some s → UserHere i s
  user_here i there s at = elim (tables.link_at image type is) [
    | NoLink e nowhere ↦ absurd (none-some i (sym e ∙ there))
    | Link j k position k_at found ↦
        let own : 0 + j ≡ i = same_Some (0 + j) i (sym position ∙ there) in
        let index : j ≡ i = omega (arith, own) in
        record {
          kept = k;
          found = found;
          same = same_Some k.section s (sym k_at ∙ ap (slice_get image.sections) index ∙ at);
        }
  ]

  -- a section of that table
  pub section_here : (i : ℕ) → type_position image type ≡ Some i → (ss : List Section) → map section_model ss ≡ image.sections
      → (s : Section) → s ≡ get_or ss i s → slice_get image.sections i ≡ Some (section_model s)
  section_here i there ss same s is_s = elim (tables.link_at image type is) [
    | NoLink e nowhere ↦ absurd (none-some i (sym e ∙ there))
    | Link j k position k_at found ↦
        let own : 0 + j ≡ i = same_Some (0 + j) i (sym position ∙ there) in
        let long : length ss ≡ length image.sections = sym (length-map ss section_model) ∙ ap length same in
        let within : i < length ss = omega (arith, own, slice_get_within image.sections j k.section k_at, long) in
        section_got image ss i s same within is_s
  ]

  -- a section that links to another table has its texts there
  pub user_apart : (i : ℕ) → type_position image type ≡ Some i → (s : ImageSection) → slice_get image.sections i ≡ Some s
      → s.sh_link ≢ number → has_texts_in image type number ≡ false
  user_apart i there s at apart =
      let u = user_here i there s at in
      ap (is_link number) u.found ∙ ap (λ (x : ImageSection). x.sh_link == number) u.same ∙ ne_eqb s.sh_link number apart

  -- a section that links to the table has its texts there
  pub user_there : (i : ℕ) → type_position image type ≡ Some i → (s : ImageSection) → slice_get image.sections i ≡ Some s
      → s.sh_link ≡ number → IsContentOfUser image type number s.content
  user_there i there s at link =
      let u = user_here i there s at in
      record {
        section = u.kept;
        there = u.found;
        link = ap (λ (x : ImageSection). x.sh_link) u.same ∙ link;
        content = sym (ap (λ (x : ImageSection). x.content) u.same);
      }

-- ## Users that aren't there

-- no section of a type has its texts in a table
pub told_nowhere : (image : Image) (type number : ℕ) (table : Strings) (texts : List (List ℕ)) → has_texts_in image type number ≡ false
    → TellsAll table (if_linked image type number texts)
told_nowhere image type number table texts none =
    subst (TellsAll table) (sym (unlinked_if image type number texts none)) (none_told table)

pub names_told : (image : Image) (number : ℕ) (table : Strings) → TellsAll table (map (λ s. s.name) image.sections)
    → TellsAll table (if_names image number)
names_told image number table all = by_test (image.header.e_shstrndx == number)
  where
    by_test : (b : Bool) → TellsAll table (if b then map (λ (s : ImageSection). s.name) image.sections else [])
    by_test true = all
    by_test false = none_told table

-- ## All users

module _ (table : Strings) where
  -- some of the texts that a section has are told with all
  fewer_if : (b : Bool) (ts us : List (List ℕ)) → (TellsAll table us → TellsAll table ts) → TellsAll table (if b then us else [])
      → TellsAll table (if b then ts else [])
  fewer_if true ts us fewer all = fewer all
  fewer_if false ts us fewer all = none_told table

  filtered_by : (b : Bool) (e : Entry) (es : List Entry) → TellsAll table (texts_of_entry e) → TellsAll table (texts_of_entries es)
      → TellsAll table (texts_of_entries (cond b (e ∷ es) es))
  filtered_by true e es here rest = both_told table (texts_of_entry e) (texts_of_entries es) here rest
  filtered_by false e es here rest = rest

  filtered_told : (test : Entry → Bool) (es : List Entry) → TellsAll table (texts_of_entries es) → TellsAll table (texts_of_entries (filter test es))
  filtered_told test [] all = none_told table
  filtered_told test (e ∷ es) all =
      filtered_by (test e) e (filter test es) (front_told table (texts_of_entry e) (texts_of_entries es) all)
      (filtered_told test es (back_told table (texts_of_entry e) (texts_of_entries es) all))

  -- the entries that are written have no other texts
  entries_fewer : (read image : Image) → TellsAll table (list_at texts_of_entries image.entries)
      → TellsAll table (list_at texts_of_entries (written_entries read image))
  unfolding written_entries
  entries_fewer read image all = by_test (are_needs_gone read image)
    where
      by_entries : (o : Option (List Entry)) → TellsAll table (list_at texts_of_entries o)
          → TellsAll table (list_at texts_of_entries (option_map (λ entries. filter (λ e. not (is_one_of (DT_VERNEED ∷ DT_VERNEEDNUM ∷ []) (entry_tag e))) entries) o))
      by_entries None told = none_told table
      by_entries (Some es) told = filtered_told (λ e. not (is_one_of (DT_VERNEED ∷ DT_VERNEEDNUM ∷ []) (entry_tag e))) es told

      by_test : (b : Bool) → TellsAll table (list_at texts_of_entries (if b
          then option_map (λ entries. filter (λ e. not (is_one_of (DT_VERNEED ∷ DT_VERNEEDNUM ∷ []) (entry_tag e))) entries) image.entries
          else image.entries))
      by_test true = by_entries image.entries all
      by_test false = all

-- the texts that were read of a table are told, where those of each user are
pub read_told : (read : Image) (number : ℕ) (table : Strings)
    → TellsAll table (if_linked read SHT_DYNAMIC number (list_at texts_of_entries read.entries))
    → TellsAll table (if_linked read SHT_DYNSYM number (texts_of_symbols read.dynamic_symbols))
    → TellsAll table (if_linked read SHT_GNU_VERDEF number (texts_of_definitions read.definitions))
    → TellsAll table (if_linked read SHT_GNU_VERNEED number (texts_of_needs read.needs))
    → TellsAll table (if_linked read SHT_SYMTAB number (texts_of_symbols read.symbols))
    → TellsAll table (if_names read number) → TellsAll table (texts_in_use read read number)
read_told read number table list symbols definitions needs statics names =
    all_told read read number table (record {
      list = fewer_if table (is_some_and (λ link. link == number) (link_of_type SHT_DYNAMIC read))
          (list_at texts_of_entries (written_entries read read)) (list_at texts_of_entries read.entries) (entries_fewer table read read) list;
      symbols = symbols;
      definitions = definitions;
      needs = fewer_if table (is_some_and (λ link. link == number) (link_of_type SHT_GNU_VERNEED read))
          (texts_of_needs (written_needs read read)) (texts_of_needs read.needs) (written_told table read read) needs;
      statics = statics;
      names = names;
    })
