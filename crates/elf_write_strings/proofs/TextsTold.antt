-- Which texts a string table tells, user by user.
use Rattle.std.proofs.Common.{◌≡◌, ℕ, zero, suc, Bool, true, false, List, [], ◌∷◌, ◌++◌, map, refl, sym, ap, ◌∙◌, subst, Option, Some, arith}
use Rattle.std.specs.Prelude.{◌==◌, if◌then◌else◌}
use Rattle.std.specs.List.{AllByRecursion}
use Rattle.std.specs.Str.{bytes_eq}
use Rattle.std.specs.Cmp.Lexicographic.{bytes_decides}
use Rattle.std.proofs.lemmas.Bool.{eq-eqb, false≢true}
use Rattle.elf_format.specs.declared.constants.TheConstants.{SHT_DYNAMIC, SHT_DYNSYM, SHT_GNU_VERDEF, SHT_GNU_VERNEED, SHT_SYMTAB}
use Rattle.elf_format.specs.Image.{Image, ImageSection}
use Rattle.elf_format.specs.Options.{is_some_and, list_at}
use Rattle.elf_image.specs.Kept.{link_of_type}
use Rattle.elf_layout_plan.specs.Needs.{written_entries, written_needs}
use Rattle.elf_layout_plan.specs.Texts.{if_linked, if_names, is_subsequence, texts_in_use, texts_of_definitions, texts_of_entries, texts_of_needs, texts_of_symbols}
use Rattle.elf_tables.specs.Strings.{Strings}
use Rattle.elf_write_strings.specs.declared.made.Made.{Made}
use Rattle.elf_write_strings.specs.WrittenStrings.{IsTold}
use Rattle.elf_write_strings.specs.PlacedTexts.{TellsAll}
use Rattle.elf_write_strings.specs.VersionPlaces.{Tells}

-- ## Lists of texts

module _ (table : Strings) where
  pub by_each : (ts : List (List ℕ)) → AllByRecursion (Tells table) ts → TellsAll table ts
  by_each [] all text has = absurd (omega (arith, has.1))
  by_each (t ∷ ts) all text (zero, within, is) = subst (Tells table) is all.0
  by_each (t ∷ ts) all text (suc i, within, is) = by_each ts all.1 text (i, omega (arith, within), is)

  pub each_of : (ts : List (List ℕ)) → TellsAll table ts → AllByRecursion (Tells table) ts
  each_of [] all = tt
  each_of (t ∷ ts) all =
      (all t (0, omega arith, refl), each_of ts (λ text has. all text (suc has.0, omega (arith, has.1), has.2)))

  each_both : (ts us : List (List ℕ)) → AllByRecursion (Tells table) ts → AllByRecursion (Tells table) us → AllByRecursion (Tells table) (ts ++ us)
  each_both [] us all more = more
  each_both (t ∷ ts) us all more = (all.0, each_both ts us all.1 more)

  each_front : (ts us : List (List ℕ)) → AllByRecursion (Tells table) (ts ++ us) → AllByRecursion (Tells table) ts
  each_front [] us all = tt
  each_front (t ∷ ts) us all = (all.0, each_front ts us all.1)

  each_back : (ts us : List (List ℕ)) → AllByRecursion (Tells table) (ts ++ us) → AllByRecursion (Tells table) us
  each_back [] us all = all
  each_back (t ∷ ts) us all = each_back ts us all.1

  pub both_told : (ts us : List (List ℕ)) → TellsAll table ts → TellsAll table us → TellsAll table (ts ++ us)
  both_told ts us all more = by_each (ts ++ us) (each_both ts us (each_of ts all) (each_of us more))

  pub front_told : (ts us : List (List ℕ)) → TellsAll table (ts ++ us) → TellsAll table ts
  front_told ts us all = by_each ts (each_front ts us (each_of (ts ++ us) all))

  pub back_told : (ts us : List (List ℕ)) → TellsAll table (ts ++ us) → TellsAll table us
  back_told ts us all = by_each us (each_back ts us (each_of (ts ++ us) all))

  pub none_told : TellsAll table []
  none_told = by_each [] tt

  -- some of the texts that are told are told
  left_by : (b : Bool) (t u : List ℕ) (ts us : List (List ℕ)) → bytes_eq t u ≡ b → Tells table u
      → (is_subsequence ts us ≡ true → AllByRecursion (Tells table) ts)
      → (is_subsequence (t ∷ ts) us ≡ true → AllByRecursion (Tells table) (t ∷ ts))
      → (elim b as (λ _. Bool) [ true ↦ is_subsequence ts us | _ ↦ is_subsequence (t ∷ ts) us ]) ≡ true
      → AllByRecursion (Tells table) (t ∷ ts)
  left_by true t u ts us is told found passed h = (subst (Tells table) (sym ((bytes_decides t u).0 is)) told, found h)
  left_by false t u ts us is told found passed h = passed h

  left_each : (ts us : List (List ℕ)) → AllByRecursion (Tells table) us → is_subsequence ts us ≡ true → AllByRecursion (Tells table) ts
  unfolding is_subsequence
  left_each [] us all h = tt
  left_each (t ∷ ts) [] all h = absurd (false≢true h)
  left_each (t ∷ ts) (u ∷ us) all h =
      left_by (bytes_eq t u) t u ts us refl all.0 (left_each ts us all.1) (left_each (t ∷ ts) us all.1) h

  pub left_told : (ts us : List (List ℕ)) → is_subsequence ts us ≡ true → TellsAll table us → TellsAll table ts
  left_told ts us h all = by_each ts (left_each ts us (each_of us all) h)

-- ## The users of a table

pub record UsersTold (read image : Image) (number : ℕ) (table : Strings) : Type 0 where
  pub list : TellsAll table (if_linked image SHT_DYNAMIC number (list_at texts_of_entries (written_entries read image)))
  pub symbols : TellsAll table (if_linked image SHT_DYNSYM number (texts_of_symbols image.dynamic_symbols))
  pub definitions : TellsAll table (if_linked image SHT_GNU_VERDEF number (texts_of_definitions image.definitions))
  pub needs : TellsAll table (if_linked image SHT_GNU_VERNEED number (texts_of_needs (written_needs read image)))
  pub statics : TellsAll table (if_linked image SHT_SYMTAB number (texts_of_symbols image.symbols))
  pub names : TellsAll table (if_names image number)

module _ (read image : Image) (number : ℕ) (table : Strings) where
  abbrev a : List (List ℕ)
  a = if_linked image SHT_DYNAMIC number (list_at texts_of_entries (written_entries read image))

  abbrev b : List (List ℕ)
  b = if_linked image SHT_DYNSYM number (texts_of_symbols image.dynamic_symbols)

  abbrev c : List (List ℕ)
  c = if_linked image SHT_GNU_VERDEF number (texts_of_definitions image.definitions)

  abbrev d : List (List ℕ)
  d = if_linked image SHT_GNU_VERNEED number (texts_of_needs (written_needs read image))

  abbrev e : List (List ℕ)
  e = if_linked image SHT_SYMTAB number (texts_of_symbols image.symbols)

  abbrev g : List (List ℕ)
  g = if_names image number

  pub users_told : TellsAll table (texts_in_use read image number) → UsersTold read image number table
  unfolding texts_in_use
  users_told all =
      let five : TellsAll table (a ++ b ++ c ++ d ++ e) = front_told table (a ++ b ++ c ++ d ++ e) g all in
      let four : TellsAll table (a ++ b ++ c ++ d) = front_told table (a ++ b ++ c ++ d) e five in
      let three : TellsAll table (a ++ b ++ c) = front_told table (a ++ b ++ c) d four in
      let two : TellsAll table (a ++ b) = front_told table (a ++ b) c three in
      record {
        list = front_told table a b two;
        symbols = back_told table a b two;
        definitions = back_told table (a ++ b) c three;
        needs = back_told table (a ++ b ++ c) d four;
        statics = back_told table (a ++ b ++ c ++ d) e five;
        names = back_told table (a ++ b ++ c ++ d ++ e) g all;
      }

  pub all_told : UsersTold read image number table → TellsAll table (texts_in_use read image number)
  unfolding texts_in_use
  all_told of =
      both_told table (a ++ b ++ c ++ d ++ e) g
      (both_told table (a ++ b ++ c ++ d) e
      (both_told table (a ++ b ++ c) d
      (both_told table (a ++ b) c (both_told table a b of.list of.symbols) of.definitions) of.needs) of.statics) of.names

-- the texts of a section that links to a table are used of it
pub linked_if : (image : Image) (type number : ℕ) (texts : List (List ℕ)) → link_of_type type image ≡ Some number
    → if_linked image type number texts ≡ texts
linked_if image type number texts links =
    ap (λ (o : Option ℕ). if is_some_and (λ link. link == number) o then texts else []) links
    ∙ ap (λ (b : Bool). if b then texts else []) (eq-eqb number number refl)

-- where a section links to another table, none of its texts are used of this one
pub unlinked_if : (image : Image) (type number : ℕ) (texts : List (List ℕ)) → is_some_and (λ link. link == number) (link_of_type type image) ≡ false
    → if_linked image type number texts ≡ []
unlinked_if image type number texts other = ap (λ (b : Bool). if b then texts else []) other

-- ## A table that is told anew

module _ (read image : Image) (m : Made) (is : IsTold read image m) where
  of_users : UsersTold read image m.number m.table
  of_users = users_told read image m.number m.table is.told

  pub told_list : link_of_type SHT_DYNAMIC image ≡ Some m.number → TellsAll m.table (list_at texts_of_entries (written_entries read image))
  told_list links =
      subst (TellsAll m.table) (linked_if image SHT_DYNAMIC m.number (list_at texts_of_entries (written_entries read image)) links) of_users.list

  pub told_symbols : link_of_type SHT_DYNSYM image ≡ Some m.number → TellsAll m.table (texts_of_symbols image.dynamic_symbols)
  told_symbols links =
      subst (TellsAll m.table) (linked_if image SHT_DYNSYM m.number (texts_of_symbols image.dynamic_symbols) links) of_users.symbols

  pub told_definitions : link_of_type SHT_GNU_VERDEF image ≡ Some m.number → TellsAll m.table (texts_of_definitions image.definitions)
  told_definitions links =
      subst (TellsAll m.table) (linked_if image SHT_GNU_VERDEF m.number (texts_of_definitions image.definitions) links) of_users.definitions

  pub told_needs : link_of_type SHT_GNU_VERNEED image ≡ Some m.number → TellsAll m.table (texts_of_needs (written_needs read image))
  told_needs links =
      subst (TellsAll m.table) (linked_if image SHT_GNU_VERNEED m.number (texts_of_needs (written_needs read image)) links) of_users.needs

  pub told_statics : link_of_type SHT_SYMTAB image ≡ Some m.number → TellsAll m.table (texts_of_symbols image.symbols)
  told_statics links =
      subst (TellsAll m.table) (linked_if image SHT_SYMTAB m.number (texts_of_symbols image.symbols) links) of_users.statics

  pub told_names : m.number ≡ image.header.e_shstrndx → TellsAll m.table (map (λ s. s.name) image.sections)
  told_names own =
      subst (TellsAll m.table) (ap (λ (b : Bool). if b then map (λ (s : ImageSection). s.name) image.sections else [])
      (eq-eqb image.header.e_shstrndx m.number (sym own))) of_users.names
