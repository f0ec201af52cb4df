-- Each change of symbols leaves an image that was read and edited.
use Rattle.std.proofs.Common.{◌≡◌, ℕ, zero, suc, ◌<◌, Bool, true, List, [], ◌∷◌, length, get_or, refl, sym, ap, ◌∙◌, subst, inl, inr, Option, Some, None, Ok, arith}
use Rattle.std.specs.Prelude.{◌⊎◌, All, Contains, drop, is_some, map, not, replicate, slice_index}
use Rattle.std.specs.List.{slice_get}
use Rattle.std.proofs.lemmas.Bool.{true≢false}
use Rattle.std.proofs.lemmas.List.Elements.{All-cons, All-contains_itself, All-head, All-nil, All-tail}
use Rattle.std.proofs.lemmas.Option.{get_or_from_slice_get, none-some, same_Some, slice_get-get_or, slice_get_within}
use Rattle.elf_format.specs.declared.constants.TheConstants.{SHT_DYNSYM, SHT_SYMTAB}
use Rattle.elf_format.specs.declared.records.SectionHeader.{SectionHeader}
use Rattle.elf_format.specs.declared.version_id.VersionId.{VersionId}
use Rattle.elf_format.specs.File.{Parts, section_of_type}
use Rattle.elf_format.specs.Image.{Image, image_of, symbols_of}
use Rattle.elf_format.specs.Views.{NamedSymbol}
use Rattle.elf_image_symbols.specs.EditedList.{EditedList, IsEditedSymbol, as_global, changed_at, with_global_version, with_name}
use Rattle.elf_image_symbols.specs.EditedList.{ArePicked as AreEditedSymbols}
use Rattle.elf_image_symbols.specs.Changes.{no_symbol}
use Rattle.elf_image.specs.Complete.{AreRelocated, IsFirstThere, has_section}
use Rattle.elf_image.specs.Edited.{ArePicked, IsEdited, IsName, IsSameDynamicSymbol, IsSameSymbol, IsVersionOf}
use Rattle.elf_image.specs.Names.{are_names_changed, are_same_texts, texts_of_symbols}
use Rattle.elf_image.specs.Renumbering.{can_renumber}
use Rattle.elf_image.specs.Kept.{KeptSection, kept_of_type}
use Rattle.elf_image.specs.ReadImage.{AreStaticSymbols}
use Rattle.elf_image.specs.Staying.{table_number}
use Rattle.elf_image.specs.SymbolEdits.{IsPutFor, IsStaticPutFor, with_dynamic_symbols, with_static_symbols}
use Rattle.elf_image.specs.SymbolsRead.{OfRead}
use Rattle.elf_image.proofs.ReadImageLaws.{read_images_hold_parts}
use Rattle.elf_image.proofs.EditedLaws.{read_itself}

-- ## One element of a list changes

length-changed_at : {A : Type 0} → (f : A → A) (i : ℕ) (xs : List A) → length (changed_at i f xs) ≡ length xs
length-changed_at f i [] = refl
length-changed_at f zero (x ∷ xs) = refl
length-changed_at f (suc i) (x ∷ xs) = ap suc (length-changed_at f i xs)

-- each element is one that was there, or what the change makes of it
changed_at-at : {A : Type 0} → (f : A → A) (i : ℕ) (xs : List A) (j : ℕ) (x : A) → slice_get (changed_at i f xs) j ≡ Some x → (y : A) × (slice_get xs j ≡ Some y) × ((x ≡ y) ⊎ (x ≡ f y))
changed_at-at f i [] j x at = absurd (none-some x at)
changed_at-at f zero (y ∷ ys) zero x at = (y, refl, inr (sym (same_Some (f y) x at)))
changed_at-at f zero (y ∷ ys) (suc j) x at = (x, at, inl refl)
changed_at-at f (suc i) (y ∷ ys) zero x at = (y, refl, inl (sym (same_Some y x at)))
changed_at-at f (suc i) (y ∷ ys) (suc j) x at = changed_at-at f i ys j x at

-- what the change leaves of each element
map-changed_at : {A B : Type 0} → (part : A → B) (f : A → A) → ((x : A) → part (f x) ≡ part x) → (i : ℕ) (xs : List A) → map part (changed_at i f xs) ≡ map part xs
map-changed_at part f leaves i [] = refl
map-changed_at part f leaves zero (x ∷ xs) = ap (λ y. y ∷ map part xs) (leaves x)
map-changed_at part f leaves (suc i) (x ∷ xs) = ap (λ l. part x ∷ l) (map-changed_at part f leaves i xs)

module _ {A : Type 0} (P : A → Type 0) (f : A → A) (keeps : (x : A) → P x → P (f x)) where
  All-changed_at : (i : ℕ) (xs : List A) → All P xs → All P (changed_at i f xs)
  All-changed_at i [] all = all
  All-changed_at zero (x ∷ xs) all = All-cons P (f x) xs (keeps x (All-head P x xs all)) (All-tail P x xs all)
  All-changed_at (suc i) (x ∷ xs) all = All-cons P x (changed_at i f xs) (All-head P x xs all) (All-changed_at i xs (All-tail P x xs all))

  -- the first of which is not asked
  All-changed_behind : (i : ℕ) (xs : List A) → All P (drop 1 xs) → All P (drop 1 (changed_at i f xs))
  All-changed_behind i [] all = all
  All-changed_behind zero (x ∷ xs) all = all
  All-changed_behind (suc i) (x ∷ xs) all = All-changed_at i xs all

-- parts that are still there are so after a change that leaves each what it was
pub picked_changed : {A : Type 0} → (IsSame : A → A → Type 0) (f : A → A) (read : List A) (numbers : List ℕ) (now : List A) (i : ℕ) → ((old x : A) → IsSame old x → IsSame old (f x)) → ArePicked IsSame read numbers now
    → ArePicked IsSame read numbers (changed_at i f now)
picked_changed {A} IsSame f read numbers now i keeps h = record {
  numbered = h.numbered ∙ sym (length-changed_at f i now);
  rising = h.rising;
  same = λ j x at.
      let (y, there, is) = changed_at-at f i now j x at in
      let (old, was, same) = h.same j y there in
      (old, was, by_case old x y same is);
}
  where
    by_case : (old x y : A) → IsSame old y → (x ≡ y) ⊎ (x ≡ f y) → IsSame old x
    by_case old x y same (inl e) = subst (IsSame old) (sym e) same
    by_case old x y same (inr e) = subst (IsSame old) (sym e) (keeps old y same)

-- ## What a change leaves of a symbol

named_same : (name : List ℕ) → IsName name → (old y : NamedSymbol) → IsSameSymbol old y → IsSameSymbol old (with_name name y)
named_same name whole old y is = (whole, ap (with_name name) is.1)

named_same_dynamic : (name : List ℕ) → IsName name → (old y : NamedSymbol) → IsSameDynamicSymbol old y → IsSameDynamicSymbol old (with_name name y)
named_same_dynamic name whole old y is = (whole, is.1, ap (with_name name) is.2)

cleared_twice : (v : Option VersionId) → as_global (as_global v) ≡ as_global v
cleared_twice None = refl
cleared_twice (Some id) = refl

cleared_version : (old v : Option VersionId) → IsVersionOf old v → IsVersionOf old (as_global v)
cleared_version old v (inl same) = inr (ap as_global same)
cleared_version old v (inr cleared) = inr (ap as_global cleared ∙ cleared_twice old)

cleared_same : (old y : NamedSymbol) → IsSameDynamicSymbol old y → IsSameDynamicSymbol old (with_global_version y)
cleared_same old y is = (is.0, cleared_version old.version y.version is.1, ap (λ (z : NamedSymbol). record z { version = as_global y.version }) is.2)

-- ## Static symbols

no_change : {A : Type 0} → (f : A → A) (i : ℕ) (xs : List A) → xs ≡ [] → changed_at i f xs ≡ []
no_change f i xs none = ap (changed_at i f) none

-- the symbol for a link editor at a position gets another name
pub with_symbol_named : (image : Image) (i : ℕ) (name : List ℕ) → IsName name → IsEdited image → IsEdited (record image { changed = true; symbols = changed_at i (with_name name) image.symbols })
with_symbol_named image i name whole h = record {
  read = h.read;
  is_read = h.is_read;
  is_edit = record {
    form = h.is_edit.form;
    header = h.is_edit.header;
    segments = h.is_edit.segments;
    sections = h.is_edit.sections;
    symbols = picked_changed IsSameSymbol (with_name name) h.read.symbols image.symbol_numbers image.symbols i (named_same name whole) h.is_edit.symbols;
    dynamic_symbols = h.is_edit.dynamic_symbols;
    definitions = h.is_edit.definitions;
    needs = h.is_edit.needs;
    entries = h.is_edit.entries;
    interpreter = h.is_edit.interpreter;
    complete = record {
      lasting = h.is_edit.complete.lasting;
      linked = h.is_edit.complete.linked;
      first_dynamic = h.is_edit.complete.first_dynamic;
      first_static = h.is_edit.complete.first_static;
      no_static = λ none. no_change (with_name name) i image.symbols (h.is_edit.complete.no_static none);
      dynamic_sections = h.is_edit.complete.dynamic_sections;
      static_sections = All-changed_behind (λ y. has_section image y ≡ true) (with_name name) (λ y there. there) i image.symbols h.is_edit.complete.static_sections;
      dynamic_relocated = h.is_edit.complete.dynamic_relocated;
      static_relocated = h.is_edit.complete.static_relocated;
      tables = h.is_edit.complete.tables;
      interpreter = h.is_edit.complete.interpreter;
      interpreter_section = h.is_edit.complete.interpreter_section;
    };
    unchanged = λ e. absurd (true≢false e);
  };
}

-- ## Dynamic symbols

-- there is a first, and it is the one that was read first
pub dynamic_first : (image : Image) → IsEdited image → IsFirstThere image.dynamic_symbols image.dynamic_symbol_numbers
dynamic_first image h some =
    let (old, was, _) = h.is_edit.dynamic_symbols.same 0 (get_or image.dynamic_symbols 0 no_symbol) (slice_get-get_or image.dynamic_symbols 0 no_symbol some) in
    let there = slice_get_within h.read.dynamic_symbols (slice_index image.dynamic_symbol_numbers 0) old was in
    h.is_edit.complete.first_dynamic (omega (arith, there))

pub static_first : (image : Image) → IsEdited image → IsFirstThere image.symbols image.symbol_numbers
static_first image h some =
    let (old, was, _) = h.is_edit.symbols.same 0 (get_or image.symbols 0 no_symbol) (slice_get-get_or image.symbols 0 no_symbol some) in
    let there = slice_get_within h.read.symbols (slice_index image.symbol_numbers 0) old was in
    by_table (kept_of_type SHT_SYMTAB image) refl (omega (arith, there))
  where
    by_table : (o : Option KeptSection) → kept_of_type SHT_SYMTAB image ≡ o → 0 < length h.read.symbols → slice_get image.symbol_numbers 0 ≡ Some 0
    by_table None none less =
        let empty : length image.symbols ≡ 0 = ap length (h.is_edit.complete.no_static none) in
        absurd (omega (arith, some, empty))
    by_table (Some k) is less = h.is_edit.complete.first_static (ap is_some is) less

-- the first of the symbols that were read is there, where it is one of those that are left
still_first : (read now : List NamedSymbol) (numbers left : List ℕ) → length numbers ≡ length now → IsFirstThere read numbers → IsFirstThere now left → IsFirstThere read left
still_first read now numbers left long was first some = first (omega (arith, long, slice_get_within numbers 0 0 (was some)))

-- other dynamic symbols in place of those that are there
with_symbols : (image : Image) (edited : EditedList) (h : IsEdited image) → ArePicked IsSameDynamicSymbol h.read.dynamic_symbols edited.numbers edited.symbols
    → IsFirstThere image.dynamic_symbols edited.numbers → AreRelocated image (table_number SHT_DYNSYM image) edited.numbers
    → All (λ y. has_section image y ≡ true) edited.symbols → (are_names_changed h.read (with_dynamic_symbols edited image) ≡ true → can_renumber image ≡ true)
    → IsEdited (with_dynamic_symbols edited image)
with_symbols image edited h picked first relocated sections names = record {
  read = h.read;
  is_read = h.is_read;
  is_edit = record {
    form = h.is_edit.form;
    header = h.is_edit.header;
    segments = h.is_edit.segments;
    sections = h.is_edit.sections;
    symbols = h.is_edit.symbols;
    dynamic_symbols = picked;
    definitions = h.is_edit.definitions;
    needs = h.is_edit.needs;
    entries = h.is_edit.entries;
    interpreter = h.is_edit.interpreter;
    complete = record {
      lasting = h.is_edit.complete.lasting;
      linked = h.is_edit.complete.linked;
      first_dynamic =
          still_first h.read.dynamic_symbols image.dynamic_symbols image.dynamic_symbol_numbers edited.numbers h.is_edit.dynamic_symbols.numbered h.is_edit.complete.first_dynamic first;
      first_static = h.is_edit.complete.first_static;
      no_static = h.is_edit.complete.no_static;
      dynamic_sections = sections;
      static_sections = h.is_edit.complete.static_sections;
      dynamic_relocated = relocated;
      static_relocated = h.is_edit.complete.static_relocated;
      tables = names;
      interpreter = h.is_edit.complete.interpreter;
      interpreter_section = h.is_edit.complete.interpreter_section;
    };
    unchanged = λ e. absurd (true≢false e);
  };
}

-- the symbol for a loader at a position gets another name
pub with_dynamic_symbol_named : (image : Image) (i : ℕ) (name : List ℕ) → IsName name → can_renumber image ≡ true → IsEdited image
    → IsEdited (record image { changed = true; dynamic_symbols = changed_at i (with_name name) image.dynamic_symbols })
with_dynamic_symbol_named image i name whole renumbers h =
    with_symbols image (record { read = image.dynamic_symbols; numbers = image.dynamic_symbol_numbers; symbols = changed_at i (with_name name) image.dynamic_symbols }) h
    (picked_changed IsSameDynamicSymbol (with_name name) h.read.dynamic_symbols image.dynamic_symbol_numbers image.dynamic_symbols i (named_same_dynamic name whole) h.is_edit.dynamic_symbols)
    (dynamic_first image h) h.is_edit.complete.dynamic_relocated
    (All-changed_at (λ y. has_section image y ≡ true) (with_name name) (λ y there. there) i image.dynamic_symbols h.is_edit.complete.dynamic_sections)
    (λ _. renumbers)

-- the version of the symbol for a loader at a position is cleared
pub with_version_cleared : (image : Image) (i : ℕ) → IsEdited image → IsEdited (record image { changed = true; dynamic_symbols = changed_at i with_global_version image.dynamic_symbols })
with_version_cleared image i h =
    with_symbols image (record { read = image.dynamic_symbols; numbers = image.dynamic_symbol_numbers; symbols = changed_at i with_global_version image.dynamic_symbols }) h
    (picked_changed IsSameDynamicSymbol with_global_version h.read.dynamic_symbols image.dynamic_symbol_numbers image.dynamic_symbols i cleared_same h.is_edit.dynamic_symbols)
    (dynamic_first image h) h.is_edit.complete.dynamic_relocated
    (All-changed_at (λ y. has_section image y ≡ true) with_global_version (λ y there. there) i image.dynamic_symbols h.is_edit.complete.dynamic_sections)
    (λ changed. h.is_edit.complete.tables (ap (λ (texts : List (List ℕ)). names_differ (texts_of_symbols h.read.dynamic_symbols) texts)
    (sym (map-changed_at (λ (y : NamedSymbol). y.name) with_global_version (λ y. refl) i image.dynamic_symbols)) ∙ changed))
  where
    names_differ : List (List ℕ) → List (List ℕ) → Bool
    names_differ read now = not (are_same_texts read now)

-- ## Other symbols in place of those that are there

-- a symbol that was read has a name without a NUL
read_named : (source : List ℕ) (read : Image) → image_of source ≡ Ok read → (n : ℕ) (old : NamedSymbol) → slice_get read.dynamic_symbols n ≡ Some old → IsName old.name
read_named source read is n old at = ((read_itself source read is).dynamic_symbols.same n old at).2.0

name_of : (old y : NamedSymbol) → IsName old.name → (y.name ≡ old.name) ⊎ IsName y.name → IsName y.name
name_of old y whole (inl same) = subst IsName (sym same) whole
name_of old y whole (inr own) = own

edited_same : (old y : NamedSymbol) → IsName old.name → IsEditedSymbol old y → IsSameDynamicSymbol old y
edited_same old y whole is = (name_of old y whole is.named, is.versioned, is.same)

-- what an edit of the symbols that were read gives is what is kept of them
pub edited_picked : (source : List ℕ) (read : Image) (edited : EditedList) → image_of source ≡ Ok read → edited.read ≡ read.dynamic_symbols → AreEditedSymbols edited
    → ArePicked IsSameDynamicSymbol read.dynamic_symbols edited.numbers edited.symbols
edited_picked source read edited is same are = record {
  numbered = are.numbered;
  rising = are.rising;
  same = λ i y at.
      let (old, was, edit) = are.edited i y at in
      let there : slice_get read.dynamic_symbols (slice_index edited.numbers i) ≡ Some old = ap (λ (ys : List NamedSymbol). slice_get ys (slice_index edited.numbers i)) (sym same) ∙ was in
      (old, there, edited_same old y (read_named source read is (slice_index edited.numbers i) old there) edit);
}

-- where all are the same, this one is
none_there : (count n : ℕ) (version : Option VersionId) → slice_get (replicate count None) n ≡ Some version → version ≡ None
none_there zero n version at = absurd (none-some version at)
none_there (suc count) zero version at = sym (same_Some None version at)
none_there (suc count) (suc n) version at = none_there count n version at

-- a static symbol that was read has a name without a NUL, and no version
read_static : (source : List ℕ) (read : Image) → image_of source ≡ Ok read → (n : ℕ) (old : NamedSymbol) → slice_get read.symbols n ≡ Some old → IsName old.name × (old.version ≡ None)
read_static source read is n old at =
    let (p, _, _, _, holds) = read_images_hold_parts source read is in
    (((read_itself source read is).symbols.same n old at).2.0, by_table p (section_of_type SHT_SYMTAB p.sections) holds.symbols)
  where
    by_table : (p : Parts) (o : Option SectionHeader) → AreStaticSymbols p o read.symbols → old.version ≡ None
    by_table p None are = absurd (none-some old (ap (λ (ys : List NamedSymbol). slice_get ys n) (sym are) ∙ at))
    by_table p (Some s) are =
        let (y, version, _, there, kept) = are.each n old at in
        ap (λ (z : NamedSymbol). z.version) kept.fields ∙ none_there (length (symbols_of p s)) n version there

edited_static : (old y : NamedSymbol) → IsName old.name × (old.version ≡ None) → IsEditedSymbol old y → IsSameSymbol old y
edited_static old y (whole, none) is =
    (name_of old y whole is.named, is.same ∙ ap (λ (v : Option VersionId). record old { name = y.name; version = v }) (by_version is.versioned))
  where
    by_version : (y.version ≡ old.version) ⊎ (y.version ≡ as_global old.version) → y.version ≡ old.version
    by_version (inl same) = same
    by_version (inr cleared) = cleared ∙ ap as_global none ∙ sym none

static_picked : (source : List ℕ) (read : Image) (edited : EditedList) → image_of source ≡ Ok read → edited.read ≡ read.symbols → AreEditedSymbols edited
    → ArePicked IsSameSymbol read.symbols edited.numbers edited.symbols
static_picked source read edited is same are = record {
  numbered = are.numbered;
  rising = are.rising;
  same = λ i y at.
      let (old, was, edit) = are.edited i y at in
      let there : slice_get read.symbols (slice_index edited.numbers i) ≡ Some old = ap (λ (ys : List NamedSymbol). slice_get ys (slice_index edited.numbers i)) (sym same) ∙ was in
      (old, there, edited_static old y (read_static source read is (slice_index edited.numbers i) old there) edit);
}

-- ## Each has a section, as it had one

-- where the number of one that is left stood
place_of : (numbers left : List ℕ) → All (Contains numbers) left → (i : ℕ) → i < length left → (j : ℕ) × (j < length numbers) × (slice_index numbers j ≡ slice_index left i)
place_of numbers left there i less =
    let n : ℕ = get_or left i 0 in
    let has : Contains numbers n = there i 0 less in
    (has.0, has.1, get_or_from_slice_get numbers has.0 n 0 (slice_get-get_or numbers has.0 n has.1 ∙ ap Some has.2))

-- symbols that were read at one number have one section
one_section : {IsSame : NamedSymbol → NamedSymbol → Type 0} → (read : List NamedSymbol) → ((old y : NamedSymbol) → IsSame old y → y.st_shndx ≡ old.st_shndx)
    → (numbers left : List ℕ) (now new : List NamedSymbol) → ArePicked IsSame read numbers now → ArePicked IsSame read left new → (j i : ℕ) (x y : NamedSymbol)
    → slice_get now j ≡ Some x → slice_get new i ≡ Some y → slice_index numbers j ≡ slice_index left i → y.st_shndx ≡ x.st_shndx
one_section read section numbers left now new h g j i x y at bt one =
    let (old, was, same) = g.same i y bt in
    let (older, were, kept) = h.same j x at in
    let both : older ≡ old = same_Some older old (sym were ∙ ap (slice_get read) one ∙ was) in
    section old y same ∙ ap (λ (z : NamedSymbol). z.st_shndx) (sym both) ∙ sym (section older x kept)

dynamic_section : (old y : NamedSymbol) → IsSameDynamicSymbol old y → y.st_shndx ≡ old.st_shndx
dynamic_section old y same = ap (λ (z : NamedSymbol). z.st_shndx) same.2

static_section : (old y : NamedSymbol) → IsSameSymbol old y → y.st_shndx ≡ old.st_shndx
static_section old y same = ap (λ (z : NamedSymbol). z.st_shndx) same.1

same_sections : (image : Image) (read : List NamedSymbol) (numbers left : List ℕ) (now new : List NamedSymbol) → ArePicked IsSameDynamicSymbol read numbers now
    → ArePicked IsSameDynamicSymbol read left new → All (Contains numbers) left → All (λ y. has_section image y ≡ true) now → All (λ y. has_section image y ≡ true) new
same_sections image read numbers left now new h g there all i d less =
    let y : NamedSymbol = get_or new i d in
    let (j, inside, one) = place_of numbers left there i (omega (arith, less, g.numbered)) in
    let within : j < length now = omega (arith, inside, h.numbered) in
    let x : NamedSymbol = get_or now j d in
    let section : y.st_shndx ≡ x.st_shndx =
    one_section {IsSame = IsSameDynamicSymbol} read dynamic_section numbers left now new h g j i x y (slice_get-get_or now j d within) (slice_get-get_or new i d less) one in
    ap (λ (n : ℕ). has_section image (record y { st_shndx = n })) section ∙ all j d within

-- of all but the first
pub all_behind : {A : Type 0} (P : A → Type 0) (xs : List A) → ((i : ℕ) (x : A) → slice_get xs (suc i) ≡ Some x → P x) → All P (drop 1 xs)
all_behind P [] each = All-nil P
all_behind P (x ∷ xs) each = λ i d less. each i (get_or xs i d) (slice_get-get_or xs i d less)

pub behind_at : {A : Type 0} (P : A → Type 0) (xs : List A) → All P (drop 1 xs) → (i : ℕ) (x : A) → slice_get xs (suc i) ≡ Some x → P x
behind_at P [] all i x at = absurd (none-some x at)
behind_at P (y ∷ xs) all i x at = subst P (get_or_from_slice_get xs i x x at) (all i x (slice_get_within xs i x at))

behind_sections : (image : Image) (read : List NamedSymbol) (numbers left : List ℕ) (now new : List NamedSymbol) → ArePicked IsSameSymbol read numbers now
    → ArePicked IsSameSymbol read left new → All (Contains numbers) left → All (λ y. has_section image y ≡ true) (drop 1 now) → All (λ y. has_section image y ≡ true) (drop 1 new)
behind_sections image read numbers left now new h g there all =
    all_behind (λ y. has_section image y ≡ true) new (λ i y at.
    let less : suc i < length left = omega (arith, slice_get_within new (suc i) y at, g.numbered) in
    let (j, inside, one) = place_of numbers left there (suc i) less in
    let (first, first_inside, first_is) = place_of numbers left there 0 (omega (arith, less)) in
    let rises : slice_index left 0 < slice_index left (suc i) = g.rising 0 (suc i) (omega arith) less in
    by_place i y at j inside one first first_inside first_is rises)
  where
    by_place : (i : ℕ) (y : NamedSymbol) → slice_get new (suc i) ≡ Some y → (j : ℕ) → j < length numbers → slice_index numbers j ≡ slice_index left (suc i)
        → (first : ℕ) → first < length numbers → slice_index numbers first ≡ slice_index left 0 → slice_index left 0 < slice_index left (suc i) → has_section image y ≡ true
    by_place i y at zero inside one zero first_inside first_is rises = absurd (omega (arith, one, first_is, rises))
    by_place i y at zero inside one (suc first) first_inside first_is rises =
        let below = h.rising 0 (suc first) (omega arith) first_inside in
        absurd (omega (arith, one, first_is, rises, below))
    by_place i y at (suc j) inside one first first_inside first_is rises =
        let within : suc j < length now = omega (arith, inside, h.numbered) in
        let x : NamedSymbol = get_or now (suc j) y in
        let there : slice_get now (suc j) ≡ Some x = slice_get-get_or now (suc j) y within in
        let section : y.st_shndx ≡ x.st_shndx =
        one_section {IsSame = IsSameSymbol} read static_section numbers left now new h g (suc j) (suc i) x y there at one in
        ap (λ (n : ℕ). has_section image (record y { st_shndx = n })) section ∙ behind_at (λ z. has_section image z ≡ true) now all j x there

-- ## All of it

-- the symbols that an edit gives in place of those that are there
pub put_is_edited : (image : Image) (edited : EditedList) → IsEdited image → IsPutFor image edited → AreEditedSymbols edited → IsEdited (with_dynamic_symbols edited image)
put_is_edited image edited h put are =
    let picked : ArePicked IsSameDynamicSymbol h.read.dynamic_symbols edited.numbers edited.symbols =
    edited_picked image.source h.read edited h.is_read (put.read h.read h.is_read) are in
    with_symbols image edited h picked put.first put.relocated
    (same_sections image h.read.dynamic_symbols image.dynamic_symbol_numbers edited.numbers image.dynamic_symbols edited.symbols h.is_edit.dynamic_symbols picked put.there
    h.is_edit.complete.dynamic_sections)
    (put.names h.read h.is_read)

none_left : (numbers left : List ℕ) (now new : List NamedSymbol) → length numbers ≡ length now → length left ≡ length new → All (Contains numbers) left → now ≡ [] → new ≡ []
none_left numbers left now [] long same there none = refl
none_left numbers left now (y ∷ new) long same there none =
    let has = there 0 0 (omega (arith, same)) in
    let empty : length now ≡ 0 = ap length none in
    absurd (omega (arith, has.1, long, empty))

-- the static symbols that an edit gives in place of those that are there
pub static_put_is_edited : (image : Image) (edited : EditedList) → IsEdited image → IsStaticPutFor image edited → AreEditedSymbols edited → IsEdited (with_static_symbols edited image)
static_put_is_edited image edited h put are =
    let picked : ArePicked IsSameSymbol h.read.symbols edited.numbers edited.symbols = static_picked image.source h.read edited h.is_read (put.read h.read h.is_read) are in
    record {
      read = h.read;
      is_read = h.is_read;
      is_edit = record {
        form = h.is_edit.form;
        header = h.is_edit.header;
        segments = h.is_edit.segments;
        sections = h.is_edit.sections;
        symbols = picked;
        dynamic_symbols = h.is_edit.dynamic_symbols;
        definitions = h.is_edit.definitions;
        needs = h.is_edit.needs;
        entries = h.is_edit.entries;
        interpreter = h.is_edit.interpreter;
        complete = record {
          lasting = h.is_edit.complete.lasting;
          linked = h.is_edit.complete.linked;
          first_dynamic = h.is_edit.complete.first_dynamic;
          first_static = λ table. still_first h.read.symbols image.symbols image.symbol_numbers edited.numbers h.is_edit.symbols.numbered (h.is_edit.complete.first_static table) put.first;
          no_static = λ none. none_left image.symbol_numbers edited.numbers image.symbols edited.symbols h.is_edit.symbols.numbered picked.numbered put.there (h.is_edit.complete.no_static none);
          dynamic_sections = h.is_edit.complete.dynamic_sections;
          static_sections = behind_sections image h.read.symbols image.symbol_numbers edited.numbers image.symbols edited.symbols h.is_edit.symbols picked put.there h.is_edit.complete.static_sections;
          dynamic_relocated = h.is_edit.complete.dynamic_relocated;
          static_relocated = put.relocated;
          tables = h.is_edit.complete.tables;
          interpreter = h.is_edit.complete.interpreter;
          interpreter_section = h.is_edit.complete.interpreter_section;
        };
        unchanged = λ e. absurd (true≢false e);
      };
    }

-- an edit of which none is gone
pub put_of_all : (image : Image) (edited : EditedList) → IsEdited image → OfRead image (λ read. edited.read ≡ read.dynamic_symbols) → edited.numbers ≡ image.dynamic_symbol_numbers
    → OfRead image (λ read. are_names_changed read (with_dynamic_symbols edited image) ≡ true → can_renumber image ≡ true) → IsPutFor image edited
put_of_all image edited h read same names = record {
  read = read;
  there = subst (λ (ns : List ℕ). All (Contains image.dynamic_symbol_numbers) ns) (sym same) (All-contains_itself image.dynamic_symbol_numbers);
  first = subst (λ (ns : List ℕ). IsFirstThere image.dynamic_symbols ns) (sym same) (dynamic_first image h);
  relocated = subst (λ (ns : List ℕ). AreRelocated image (table_number SHT_DYNSYM image) ns) (sym same) h.is_edit.complete.dynamic_relocated;
  names = names;
}
