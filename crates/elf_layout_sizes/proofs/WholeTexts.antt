-- No text of an image has a NUL.
use Rattle.std.proofs.Common.{◌≡◌, ℕ, List, [], ◌∷◌, ◌++◌, Bool, true, false, Option, Some, None, suc, length, map, inl, inr, refl, sym, ap, subst}
use Rattle.std.specs.Prelude.{filter, not, IsTrue, ◌==◌, if◌then◌else◌}
use Rattle.std.specs.List.{AllByRecursion, slice_get}
use Rattle.std.specs.Option.{option_map}
use Rattle.std.proofs.lemmas.List.Elements.{All-from_recursion, recursion_from_All}
use Rattle.std.proofs.lemmas.Option.{same_Some}
use Rattle.patch_bytes.specs.Memory.{◌>>=◌, Memory, text_at}
use Rattle.patch_bytes.proofs.MemoryLaws.{bind_some}
use Rattle.elf_format.specs.declared.constants.TheConstants.{DT_VERNEED, DT_VERNEEDNUM, SHT_DYNAMIC, SHT_DYNSYM, SHT_GNU_VERDEF, SHT_GNU_VERNEED, SHT_SYMTAB}
use Rattle.elf_format.specs.declared.records.NeedNameNumbers.{NeedNameNumbers}
use Rattle.elf_format.specs.declared.records.SectionHeader.{SectionHeader}
use Rattle.elf_format.specs.Dynamic.{Auto, Entry, Integer, Text}
use Rattle.elf_format.specs.File.{Parts, section_of_type}
use Rattle.elf_format.specs.Image.{Image, definitions_read, entry_tag, needs_read}
use Rattle.elf_format.specs.Options.{each, is_one_of, is_some_and, list_at}
use Rattle.elf_format.specs.Rules.{definition_steps, file_of, linked_texts, need_steps}
use Rattle.elf_format.specs.Versions.{DefinitionNumbers, NeedNumbers, VersionDefinition, VersionName, VersionNeeds, shown_definition, shown_need, shown_need_name, values_of}
use Rattle.elf_image.specs.DynamicList.{IsListed}
use Rattle.elf_image.specs.Edited.{AreEntriesOf, AreSameNeeds, IsEdited, IsEditOf, IsName, IsSameNeed}
use Rattle.elf_layout_plan.proofs.ForCallers.EditedLaws.{text_whole}
use Rattle.elf_layout_plan.proofs.ForCallers.ReadImageLaws.{read_images_hold_parts}
use Rattle.elf_layout_plan.specs.Strings.{HoldNoNul, holds_nul}
use Rattle.elf_image.specs.Kept.{link_of_type}
use Rattle.elf_layout_plan.specs.Needs.{are_needs_gone, do_needs_stay, is_version_dropped, lists_needs, staying_needs, with_staying_names, written_entries, written_needs}
use Rattle.elf_layout_plan.specs.Texts.{if_linked, if_names, texts_in_use, texts_of_definitions, texts_of_entries, texts_of_needs, texts_of_symbols}

-- the text has no NUL
abbrev pub IsWhole : List ℕ → Type 0
IsWhole text = holds_nul text ≡ false

abbrev pub AreWhole : List (List ℕ) → Type 0
AreWhole texts = AllByRecursion IsWhole texts

both : (xs ys : List (List ℕ)) → AreWhole xs → AreWhole ys → AreWhole (xs ++ ys)
both [] ys left right = right
both (x ∷ xs) ys left right = (left.0, both xs ys left.1 right)

six : (a b c d e f : List (List ℕ)) → AreWhole a → AreWhole b → AreWhole c → AreWhole d → AreWhole e → AreWhole f → AreWhole (a ++ b ++ c ++ d ++ e ++ f)
six a b c d e f wa wb wc wd we wf = both (a ++ b ++ c ++ d ++ e) f (both (a ++ b ++ c ++ d) e (both (a ++ b ++ c) d (both (a ++ b) c (both a b wa wb) wc) wd) we) wf

only_if : (b : Bool) (texts : List (List ℕ)) → AreWhole texts → AreWhole (if b then texts else [])
only_if true texts whole = whole
only_if false texts whole = tt

from_name : (text : List ℕ) → IsName text → IsWhole text
from_name text is = by_test (holds_nul text) is
  where
    by_test : (b : Bool) → IsTrue (not b) → b ≡ false
    by_test true h = sym h
    by_test false h = refl

-- ## What was read: one value for each element, where each is whole

module _ {A B : Type 0} (f : A → Option B) (IsGood : B → Type 0) (good : (x : A) (y : B) → f x ≡ Some y → IsGood y) where
  each_good : (xs : List A) (ys : List B) → each f xs ≡ Some ys → AllByRecursion IsGood ys
  unfolding each
  each_good [] ys h = subst (λ (l : List B). AllByRecursion IsGood l) (same_Some [] ys h) tt
  each_good (x ∷ xs) ys h =
      let (y, there, more) = bind_some (f x) (λ z. each f xs >>= λ zs. Some (z ∷ zs)) ys h in
      let (rest, rest_there, made) = bind_some (each f xs) (λ zs. Some (y ∷ zs)) ys more in
      subst (λ (l : List B). AllByRecursion IsGood l) (same_Some (y ∷ rest) ys made) (good x y there, each_good xs rest rest_there)

-- the texts of a version, of a library's record
IsWholeDefinition : VersionDefinition → Type 0
IsWholeDefinition d = AreWhole d.names

IsWholeName : VersionName → Type 0
IsWholeName v = IsWhole v.name

IsWholeNeed : VersionNeeds → Type 0
IsWholeNeed n = IsWhole n.file × AllByRecursion IsWholeName n.versions

module _ (room : ℕ) (texts : Memory) where
  whole_definition : (d : DefinitionNumbers) (shown : VersionDefinition) → shown_definition room texts d ≡ Some shown → IsWholeDefinition shown
  unfolding shown_definition IsWholeDefinition
  whole_definition d shown h =
      let (names, there, made) = bind_some (each (text_at room texts) d.names) (λ l. Some (record { index = d.index; flags = d.flags; names = l })) shown h in
      subst IsWholeDefinition (same_Some (record { index = d.index; flags = d.flags; names = names }) shown made)
      (each_good (text_at room texts) IsWhole (text_whole room texts) d.names names there)

  whole_name : (v : NeedNameNumbers) (shown : VersionName) → shown_need_name room texts v ≡ Some shown → IsWholeName shown
  unfolding shown_need_name IsWholeName
  whole_name v shown h =
      let (name, there, made) = bind_some (text_at room texts v.name) (λ t. Some (record { index = v.index; name = t; flags = v.flags })) shown h in
      subst IsWholeName (same_Some (record { index = v.index; name = name; flags = v.flags }) shown made) (text_whole room texts v.name name there)

  whole_need : (n : NeedNumbers) (shown : VersionNeeds) → shown_need room texts n ≡ Some shown → IsWholeNeed shown
  unfolding shown_need IsWholeNeed
  whole_need n shown h =
      let (file, there, more) = bind_some (text_at room texts n.file) (λ t. each (shown_need_name room texts) n.versions >>= λ vs. Some (record { file = t; versions = vs })) shown h in
      let (versions, versions_there, made) = bind_some (each (shown_need_name room texts) n.versions) (λ vs. Some (record { file = file; versions = vs })) shown more in
      subst IsWholeNeed (same_Some (record { file = file; versions = versions }) shown made)
      (text_whole room texts n.file file there, each_good (shown_need_name room texts) IsWholeName whole_name n.versions versions versions_there)

whole_definitions : (p : Parts) (o : Option SectionHeader) (definitions : List VersionDefinition) → definitions_read p o ≡ Some definitions → AllByRecursion IsWholeDefinition definitions
unfolding definitions_read
whole_definitions p None definitions h = subst (λ (l : List VersionDefinition). AllByRecursion IsWholeDefinition l) (same_Some [] definitions h) tt
whole_definitions p (Some s) definitions h =
    let room : ℕ = length (file_of p) in
    each_good (shown_definition room (linked_texts p s)) IsWholeDefinition (whole_definition room (linked_texts p s)) (values_of (definition_steps p s)) definitions h

whole_needs : (p : Parts) (o : Option SectionHeader) (needs : List VersionNeeds) → needs_read p o ≡ Some needs → AllByRecursion IsWholeNeed needs
unfolding needs_read
whole_needs p None needs h = subst (λ (l : List VersionNeeds). AllByRecursion IsWholeNeed l) (same_Some [] needs h) tt
whole_needs p (Some s) needs h =
    let room : ℕ = length (file_of p) in
    each_good (shown_need room (linked_texts p s)) IsWholeNeed (whole_need room (linked_texts p s)) (values_of (need_steps p s)) needs h

-- ## Libraries that have other names

renamed_need : (old n : VersionNeeds) → IsSameNeed old n → IsWholeNeed old → IsWholeNeed n
unfolding IsWholeNeed
renamed_need old n same whole = (
  elim same.0 [ inl kept ↦ subst IsWhole (sym kept) whole.0 | inr named ↦ from_name n.file named ],
  subst (λ (vs : List VersionName). AllByRecursion IsWholeName vs) (sym (ap (λ (x : VersionNeeds). x.versions) same.1)) whole.1,
)

renamed_needs : (read now : List VersionNeeds) → AreSameNeeds read now → AllByRecursion IsWholeNeed read → AllByRecursion IsWholeNeed now
renamed_needs [] [] same whole = tt
renamed_needs [] (n ∷ ns) same whole = absurd same
renamed_needs (old ∷ olds) [] same whole = absurd same
renamed_needs (old ∷ olds) (n ∷ ns) same whole =
    (renamed_need old n same.0 whole.0, renamed_needs olds ns same.1 whole.1)

-- ## The texts of each user

of_definitions : (definitions : List VersionDefinition) → AllByRecursion IsWholeDefinition definitions → AreWhole (texts_of_definitions definitions)
unfolding IsWholeDefinition
of_definitions [] whole = tt
of_definitions (d ∷ ds) whole = both d.names (texts_of_definitions ds) whole.0 (of_definitions ds whole.1)

of_names : (names : List VersionName) → AllByRecursion IsWholeName names → AreWhole (map (λ v. v.name) names)
unfolding IsWholeName
of_names [] whole = tt
of_names (v ∷ vs) whole = (whole.0, of_names vs whole.1)

of_needs : (needs : List VersionNeeds) → AllByRecursion IsWholeNeed needs → AreWhole (texts_of_needs needs)
unfolding IsWholeNeed
of_needs [] whole = tt
of_needs (n ∷ ns) whole = (whole.0.0, both (map (λ v. v.name) n.versions) (texts_of_needs ns) (of_names n.versions whole.0.1) (of_needs ns whole.1))

by_test : {A : Type 0} (P : A → Type 0) (x : A) (xs : List A) (b : Bool) → P x → AllByRecursion P xs → AllByRecursion P (if b then x ∷ xs else xs)
by_test P x xs true here rest = (here, rest)
by_test P x xs false here rest = rest

filtered : {A : Type 0} (P : A → Type 0) (test : A → Bool) (xs : List A) → AllByRecursion P xs → AllByRecursion P (filter test xs)
filtered P test [] all = tt
filtered P test (x ∷ xs) all = by_test P x (filter test xs) (test x) all.0 (filtered P test xs all.1)

staying_whole : (read image : Image) (needs : List VersionNeeds) → AllByRecursion IsWholeNeed needs → AllByRecursion IsWholeNeed (map (with_staying_names read image) needs)
unfolding IsWholeNeed
staying_whole read image [] whole = tt
staying_whole read image (n ∷ ns) whole =
    ((whole.0.0, filtered IsWholeName (λ v. not (is_version_dropped read image v.index)) n.versions whole.0.1), staying_whole read image ns whole.1)

written_whole : (read image : Image) → AllByRecursion IsWholeNeed image.needs → AllByRecursion IsWholeNeed (written_needs read image)
unfolding written_needs
written_whole read image whole =
    either (is_some_and lists_needs image.entries) (staying_whole read image (filter (do_needs_stay read image) image.needs) (filtered IsWholeNeed (do_needs_stay read image) image.needs whole))
  where
    either : (b : Bool) → AllByRecursion IsWholeNeed (staying_needs read image) → AllByRecursion IsWholeNeed (if b then staying_needs read image else image.needs)
    either true staying = staying
    either false staying = whole

-- parts of a file, each with its name
module _ {A : Type 0} (name_of : A → List ℕ) where
  named : (xs : List A) → ((i : ℕ) (x : A) → slice_get xs i ≡ Some x → IsName (name_of x)) → AreWhole (map name_of xs)
  named [] each_is = tt
  named (x ∷ xs) each_is = (from_name (name_of x) (each_is 0 x refl), named xs (λ i y at. each_is (suc i) y at))

listed : (entries : List Entry) → AllByRecursion IsListed entries → AreWhole (texts_of_entries entries)
listed [] all = tt
listed (Auto tag ∷ es) all = listed es all.1
listed (Integer tag value ∷ es) all = listed es all.1
listed (Text tag text ∷ es) all = (from_name text all.0.whole, listed es all.1)

-- each entry of a list that is there may stand before the DT_NULL
AreListed : Option (List Entry) → Type 0
AreListed None = Unit {0}
AreListed (Some entries) = AllByRecursion IsListed entries

are_listed : (read now : Option (List Entry)) → AreEntriesOf read now → AreListed now
unfolding AreListed
are_listed None None is = tt
are_listed None (Some now) is = absurd is
are_listed (Some read) None is = absurd is
are_listed (Some read) (Some now) is = recursion_from_All IsListed now is.listed

without_some : (test : Entry → Bool) (entries : Option (List Entry)) → AreListed entries → AreListed (option_map (λ es. filter test es) entries)
unfolding AreListed
without_some test None all = tt
without_some test (Some es) all = filtered IsListed test es all

written_listed : (read image : Image) → AreListed image.entries → AreListed (written_entries read image)
unfolding written_entries
written_listed read image all =
    either (are_needs_gone read image)
  where
    either : (b : Bool) → AreListed (if b then option_map (λ es. filter (λ e. not (is_one_of (DT_VERNEED ∷ DT_VERNEEDNUM ∷ []) (entry_tag e))) es) image.entries else image.entries)
    either true = without_some (λ e. not (is_one_of (DT_VERNEED ∷ DT_VERNEEDNUM ∷ []) (entry_tag e))) image.entries all
    either false = all

of_entries : (entries : Option (List Entry)) → AreListed entries → AreWhole (list_at texts_of_entries entries)
unfolding AreListed
of_entries None all = tt
of_entries (Some es) all = listed es all

-- ## All of them

pub texts_whole : (read image : Image) (number : ℕ) → IsEdited image → HoldNoNul (texts_in_use read image number)
unfolding texts_in_use
texts_whole read image number is =
    let (p, _, _, _, holds) = read_images_hold_parts image.source is.read is.is_read in
    let edit : IsEditOf is.read image = is.is_edit in
    let definitions : AllByRecursion IsWholeDefinition image.definitions =
    subst (λ (l : List VersionDefinition). AllByRecursion IsWholeDefinition l) (sym edit.definitions)
    (whole_definitions p (section_of_type SHT_GNU_VERDEF p.sections) is.read.definitions holds.definitions) in
    let needs : AllByRecursion IsWholeNeed image.needs =
    renamed_needs is.read.needs image.needs edit.needs.same
    (whole_needs p (section_of_type SHT_GNU_VERNEED p.sections) is.read.needs holds.needs) in
    let of_list : AreWhole (list_at texts_of_entries (written_entries read image)) =
    of_entries (written_entries read image) (written_listed read image (are_listed is.read.entries image.entries edit.entries)) in
    let dynamic : AreWhole (texts_of_symbols image.dynamic_symbols) = named (λ y. y.name) image.dynamic_symbols (λ i x at. (edit.dynamic_symbols.same i x at).2.0) in
    let static : AreWhole (texts_of_symbols image.symbols) = named (λ y. y.name) image.symbols (λ i x at. (edit.symbols.same i x at).2.0) in
    let sections : AreWhole (map (λ s. s.name) image.sections) = named (λ s. s.name) image.sections (λ i x at. (edit.sections.same i x at).2.0) in
    All-from_recursion IsWhole (texts_in_use read image number) (six
    (if_linked image SHT_DYNAMIC number (list_at texts_of_entries (written_entries read image)))
    (if_linked image SHT_DYNSYM number (texts_of_symbols image.dynamic_symbols))
    (if_linked image SHT_GNU_VERDEF number (texts_of_definitions image.definitions))
    (if_linked image SHT_GNU_VERNEED number (texts_of_needs (written_needs read image)))
    (if_linked image SHT_SYMTAB number (texts_of_symbols image.symbols))
    (if_names image number)
    (only_if (is_some_and (λ link. link == number) (link_of_type SHT_DYNAMIC image)) (list_at texts_of_entries (written_entries read image)) of_list)
    (only_if (is_some_and (λ link. link == number) (link_of_type SHT_DYNSYM image)) (texts_of_symbols image.dynamic_symbols) dynamic)
    (only_if (is_some_and (λ link. link == number) (link_of_type SHT_GNU_VERDEF image)) (texts_of_definitions image.definitions) (of_definitions image.definitions definitions))
    (only_if (is_some_and (λ link. link == number) (link_of_type SHT_GNU_VERNEED image)) (texts_of_needs (written_needs read image)) (of_needs (written_needs read image) (written_whole read image needs)))
    (only_if (is_some_and (λ link. link == number) (link_of_type SHT_SYMTAB image)) (texts_of_symbols image.symbols) static)
    (only_if (image.header.e_shstrndx == number) (map (λ s. s.name) image.sections) sections))
