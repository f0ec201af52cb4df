-- An image that was read is complete: what is there of it leans on nothing that isn't, as the read rules say.
use Rattle.std.proofs.Common.{◌≡◌, ℕ, zero, suc, ◌/◌, ◌%◌, ◌<◌, Bool, true, false, List, [], ◌∷◌, length, get_or, option_map, replicate, refl, sym, ap, ◌∙◌, subst, inl, inr, Option, Some, None, arith}
use Rattle.std.specs.Prelude.{◌==◌, ◌&&◌, ◌||◌, ◌⊎◌, All, Contains, IsSome, find, if◌then◌else◌, is_some, nat_le, nat_lt, not, slice_index, bytes_eq}
use Rattle.std.specs.List.{list_all, list_any, slice_get}
use Rattle.std.proofs.lemmas.Bool.{and_parts, eq-eqb, eqb-true, false≢true, ltb-true, not_from_true, or_left, or_right, true≢false, and_from, not_from_false}
use Rattle.std.proofs.lemmas.List.Elements.{All-drop, All-nil}
use Rattle.std.proofs.lemmas.Option.{get_or_from_slice_get, none-some, same_Some, slice_get-get_or}
use Rattle.std.proofs.lemmas.Slice.Eq.{bytes_eq-Decides}
use Rattle.patch_bytes.specs.Memory.{◌>>=◌, Memory}
use Rattle.elf_format.specs.declared.constants.TheConstants.{PT_INTERP, SHN_LORESERVE, SHT_DYNAMIC, SHT_DYNSYM, SHT_GNU_HASH, SHT_GNU_VERDEF, SHT_GNU_VERNEED, SHT_GNU_VERSYM, SHT_HASH, SHT_NOBITS, SHT_NOTE, SHT_PROGBITS, SHT_STRTAB, SHT_SYMTAB}
use Rattle.elf_format.specs.declared.form.Form.{Form}
use Rattle.elf_format.specs.declared.records.SectionHeader.{SectionHeader}
use Rattle.elf_format.specs.declared.records.SegmentHeader.{SegmentHeader}
use Rattle.elf_format.specs.declared.section_data.SectionData.{SectionData}
use Rattle.elf_format.specs.declared.section_data.SectionData.TheVariants as kinds
use Rattle.elf_format.specs.declared.version_id.VersionId.{VersionId}
use Rattle.elf_format.specs.File.{Parts, linked_section, section_bytes, section_of_type, segment_of_type}
use Rattle.elf_format.specs.Image.{Image, ImageSection, counted, symbols_of, versions_read}
use Rattle.elf_format.specs.Options.{is_none_or, is_one_of, is_some_and, kept_if}
use Rattle.elf_format.specs.Records.{Relocation, relocation_size, symbol_size, symbols_in}
use Rattle.elf_format.specs.Rules.{ArePartsOf, MeetsRules, data_of, dynamic_texts_of, file_of, is_opaque_relocation, is_relocation_section, is_symbol_table, relocated_symbols, relocations_fit, relocations_of, symbols_have_sections, texts_of}
use Rattle.elf_format.specs.Views.{NamedSymbol, interpreter_section}
use Rattle.elf_format.proofs.ForCallers.Lengths.{length-counted, length-records, length-sections, slice_get-counted, slice_index-counted}
use Rattle.elf_format.proofs.ForCallers.Placed.{IsIn, IsIn-slice_get, find_some, passes_picked}
use Rattle.elf_format.proofs.ForCallers.ViewsAgree.{found_by_type, length-bytes, test_at}
use Rattle.elf_format.specs.Records.{symbol_numbers}
use Rattle.elf_image.specs.Complete.{AreRelocated, IsComplete, IsFirstThere, has_section}
use Rattle.elf_image.specs.Kept.{KeptSection, interpreter_number, kept_at_number, kept_of_type, kept_sections, stands_as_interpreter}
use Rattle.elf_image.specs.Names.{are_names_changed, are_same_texts, texts_of_symbols}
use Rattle.elf_image.specs.ReadImage.{AreDynamicSymbols, AreStaticSymbols, AreSymbolsOf, HoldsParts, IsSectionOf, section_with}
use Rattle.elf_image.specs.Relocated.{are_relocations, names_symbol}
use Rattle.elf_image.specs.Staying.{table_number}
use Rattle.elf_image.proofs.KeptSections.{kept-at, length-kept}

-- ## What a test finds

find_by : {X : Type 0} → (b : Bool) (x : X) (rest : Option X) → b ≡ true → IsSome (if b then Some x else rest)
find_by true x rest h = refl
find_by false x rest h = absurd (false≢true h)

find_later : {X : Type 0} → (b : Bool) (x : X) (rest : Option X) → IsSome rest → IsSome (if b then Some x else rest)
find_later true x rest h = refl
find_later false x rest h = h

-- something is found where something passes
pub find_at : {X : Type 0} → (test : X → Bool) (xs : List X) (i : ℕ) (d : X) → i < length xs → test (get_or xs i d) ≡ true → IsSome (find test xs)
find_at test [] i d less h = absurd (omega (arith, less))
find_at test (x ∷ xs) zero d less h = find_by (test x) x (find test xs) h
find_at test (x ∷ xs) (suc i) d less h = find_later (test x) x (find test xs) (find_at test xs i d (omega (arith, less)) h)

pub find_contained : {X : Type 0} → (test : X → Bool) (xs : List X) (x : X) → Contains xs x → test x ≡ true → IsSome (find test xs)
find_contained test xs x has h = find_at test xs has.0 x has.1 (ap test has.2 ∙ h)

-- two lists, as long as each other, of which each test says the same at each place
record AreFoundAt {X Y : Type 0} (f : X → Bool) (g : Y → Bool) (xs : List X) (ys : List Y) (i : ℕ) : Type 0 where
  within : i < length xs
  first : (d : X) → find f xs ≡ Some (get_or xs i d)
  second : (d : Y) → find g ys ≡ Some (get_or ys i d)

Found : {X Y : Type 0} → (X → Bool) → (Y → Bool) → List X → List Y → Type 0
Found f g xs ys = ((find f xs ≡ None) × (find g ys ≡ None)) ⊎ ((i : ℕ) × AreFoundAt f g xs ys i)

found_by : {X Y : Type 0} → (f : X → Bool) (g : Y → Bool) (x : X) (y : Y) (xs : List X) (ys : List Y) (b c : Bool) → f x ≡ b → g y ≡ c → b ≡ c → Found f g xs ys → Found f g (x ∷ xs) (y ∷ ys)
unfolding Found
found_by f g x y xs ys true false here there same more = absurd (true≢false same)
found_by f g x y xs ys false true here there same more = absurd (false≢true same)
found_by f g x y xs ys true true here there same more = inr (
  0,
  record {
    within = omega arith;
    first = λ d. ap (λ (b : Bool). if b then Some x else find f xs) here;
    second = λ d. ap (λ (b : Bool). if b then Some y else find g ys) there;
  },
)
found_by f g x y xs ys false false here there same more = elim more [
  | inl none ↦ inl (ap (λ (b : Bool). if b then Some x else find f xs) here ∙ none.0, ap (λ (b : Bool). if b then Some y else find g ys) there ∙ none.1)
  | inr at ↦
      let (i, found) = at in
      inr (
        suc i,
        record {
          within = omega (arith, found.within);
          first = λ d. ap (λ (b : Bool). if b then Some x else find f xs) here ∙ found.first d;
          second = λ d. ap (λ (b : Bool). if b then Some y else find g ys) there ∙ found.second d;
        },
      )
]

both_found : {X Y : Type 0} → (f : X → Bool) (g : Y → Bool) (xs : List X) (ys : List Y) → length xs ≡ length ys
    → ((i : ℕ) (d : X) (e : Y) → i < length xs → f (get_or xs i d) ≡ g (get_or ys i e)) → Found f g xs ys
unfolding Found
both_found f g [] [] long same = inl (refl, refl)
both_found f g [] (y ∷ ys) long same = absurd (omega (arith, long))
both_found f g (x ∷ xs) [] long same = absurd (omega (arith, long))
both_found f g (x ∷ xs) (y ∷ ys) long same =
    found_by f g x y xs ys (f x) (g y) refl refl (same 0 x y (omega arith)) (both_found f g xs ys (omega (arith, long)) (λ i d e less. same (suc i) d e (omega (arith, less))))

-- ## Numbers that pass a test

-- a number that something of a list has passes what all of the list pass
pub number_passes : {X : Type 0} → (key : X → ℕ) (test : ℕ → Bool) (n : ℕ) (xs : List X) → list_all (λ x. test (key x)) xs ≡ true → list_any (λ x. key x == n) xs ≡ true → test n ≡ true
number_passes key test n [] all h = absurd (false≢true h)
number_passes {X} key test n (x ∷ xs) all h =
    let both = and_parts (test (key x)) (list_all (λ y. test (key y)) xs) all in
    by_first (key x == n) refl both.0 (number_passes key test n xs both.1) h
  where
    by_first : (b : Bool) → (key x == n) ≡ b → test (key x) ≡ true → (list_any (λ y. key y == n) xs ≡ true → test n ≡ true) → (b || list_any (λ y. key y == n) xs) ≡ true → test n ≡ true
    by_first true same here more any = ap test (sym (eqb-true (key x) n same)) ∙ here
    by_first false same here more any = more any

none_or_less : (n count : ℕ) → (n == 0 || nat_lt n count) ≡ true → (n ≡ 0) ⊎ (n < count)
none_or_less n count h = by_first (n == 0) refl h
  where
    by_first : (b : Bool) → (n == 0) ≡ b → (b || nat_lt n count) ≡ true → (n ≡ 0) ⊎ (n < count)
    by_first true zero_is any = inl (eqb-true n 0 zero_is)
    by_first false zero_is any = inr (ltb-true n count any)

-- the numbers below a number are among those that are counted
pub counted_has : (count n : ℕ) → n < count → Contains (counted count) n
counted_has count n less = (n, omega (arith, less, length-counted count), get_or_from_slice_get (counted count) n n n (slice_get-counted count n less))

first_counted : {X : Type 0} → (xs : List X) (numbers : List ℕ) → numbers ≡ counted (length xs) → IsFirstThere xs numbers
first_counted xs numbers is some = ap (λ (ns : List ℕ). slice_get ns 0) is ∙ slice_get-counted (length xs) 0 some

-- ## Names

pub same_texts-refl : (texts : List (List ℕ)) → are_same_texts texts texts ≡ true
same_texts-refl [] = refl
same_texts-refl (t ∷ ts) = by_text (bytes_eq t t) ((bytes_eq-Decides t t).1 refl) (same_texts-refl ts)
  where
    by_text : (b : Bool) → b ≡ true → are_same_texts ts ts ≡ true → (elim b as (λ _. Bool) [ true ↦ are_same_texts ts ts | _ ↦ false ]) ≡ true
    by_text true h more = more
    by_text false h more = absurd (false≢true h)

-- no name was changed of those that were read
pub no_names_changed : (read : Image) → are_names_changed read read ≡ false
no_names_changed read = not_from_true (are_same_texts (texts_of_symbols read.dynamic_symbols) (texts_of_symbols read.dynamic_symbols)) (same_texts-refl (texts_of_symbols read.dynamic_symbols))

-- ## Relocations that are read

either_not : (b : Bool) (x y : SectionData) → are_relocations x ≡ false → are_relocations y ≡ false → are_relocations (if b then x else y) ≡ false
either_not true x y h g = h
either_not false x y h g = g

second_is : (b : Bool) (x y : SectionData) → are_relocations x ≡ false → are_relocations (if b then x else y) ≡ true → are_relocations y ≡ true
second_is true x y h is = absurd (false≢true (sym h ∙ is))
second_is false x y h is = is

first_is : (b : Bool) (x y : SectionData) → are_relocations y ≡ false → are_relocations (if b then x else y) ≡ true → (b ≡ true) × (are_relocations x ≡ true)
first_is true x y h is = (refl, is)
first_is false x y h is = absurd (false≢true (sym h ∙ is))

is_opaque_not : (b : Bool) → are_relocations (if b then kinds.Opaque else kinds.Relocation) ≡ true → b ≡ false
is_opaque_not true h = absurd (false≢true h)
is_opaque_not false h = refl

-- the kind of a section that isn't one of relocations
other_kind : SectionHeader → SectionData
other_kind s =
    if s.sh_type == SHT_NOTE then kinds.Note
    else if s.sh_type == SHT_STRTAB then kinds.Strings
    else if s.sh_type == SHT_SYMTAB then kinds.Symbols
    else if s.sh_type == SHT_DYNSYM then kinds.DynamicSymbols
    else if s.sh_type == SHT_HASH then kinds.Hash
    else if s.sh_type == SHT_GNU_HASH then kinds.GnuHash
    else if s.sh_type == SHT_GNU_VERSYM then kinds.GnuVersym
    else if s.sh_type == SHT_GNU_VERDEF then kinds.GnuVerdef
    else if s.sh_type == SHT_GNU_VERNEED then kinds.GnuVerneed
    else kinds.Opaque

other_not : (s : SectionHeader) → are_relocations (other_kind s) ≡ false
unfolding other_kind
other_not s =
    either_not (s.sh_type == SHT_NOTE) _ _ refl (either_not (s.sh_type == SHT_STRTAB) _ _ refl (either_not (s.sh_type == SHT_SYMTAB) _ _ refl
    (either_not (s.sh_type == SHT_DYNSYM) _ _ refl (either_not (s.sh_type == SHT_HASH) _ _ refl (either_not (s.sh_type == SHT_GNU_HASH) _ _ refl
    (either_not (s.sh_type == SHT_GNU_VERSYM) _ _ refl (either_not (s.sh_type == SHT_GNU_VERDEF) _ _ refl (either_not (s.sh_type == SHT_GNU_VERNEED) _ _ refl refl))))))))

-- relocations that are read are of a section of relocations, and aren't kept as they are
pub relocations_read : (p : Parts) (s : SectionHeader) → are_relocations (data_of p s) ≡ true → (is_relocation_section s && not (is_opaque_relocation p s)) ≡ true
unfolding other_kind
relocations_read p s h =
    let inner : SectionData = if is_opaque_relocation p s then kinds.Opaque else kinds.Relocation in
    let third : SectionData = if is_relocation_section s then inner else other_kind s in
    let second : SectionData = if s.sh_type == SHT_DYNAMIC then kinds.Dynamic else third in
    let is_third : are_relocations third ≡ true = second_is (s.sh_type == SHT_DYNAMIC) kinds.Dynamic third refl (second_is (s.sh_type == SHT_NOBITS) kinds.Uninitialized second refl h) in
    let (section, kind) = first_is (is_relocation_section s) inner (other_kind s) (other_not s) is_third in
    and_from (is_relocation_section s) (not (is_opaque_relocation p s)) section (not_from_false (is_opaque_relocation p s) (is_opaque_not (is_opaque_relocation p s) kind))

-- ## The parts of a file

-- stands for a section that isn't there
no_kept : KeptSection
no_kept = record {
  position = 0;
  number = 0;
  section = record { name = []; kind = kinds.Opaque; sh_type = 0; sh_flags = 0; sh_addr = 0; sh_offset = 0; sh_size = 0; sh_link = 0; sh_info = 0; sh_addralign = 0; sh_entsize = 0; content = [] };
}

module _ (p : Parts) (file : List ℕ) (parts : ArePartsOf file p) (rules : MeetsRules p) (image : Image) (holds : HoldsParts p image) where
  long : length image.section_numbers ≡ length image.sections
  long = ap length holds.section_numbers ∙ length-counted (length image.sections)

  -- the section at a place
  kept_place : (i : ℕ) (d : KeptSection) → i < length image.sections → get_or (kept_sections image) i d ≡ record { position = i; number = i; section = get_or image.sections i d.section }
  kept_place i d less =
      kept-at image i d d.section long less
      ∙ ap (λ (n : ℕ). record { position = i; number = n; section = get_or image.sections i d.section })
      (ap (λ (ns : List ℕ). slice_index ns i) holds.section_numbers ∙ slice_index-counted (length image.sections) i less)

  within : (i : ℕ) → i < length (kept_sections image) → i < length image.sections
  within i less = omega (arith, less, length-kept image long)

  -- a section that is there is that of a header, at its place
  header_at : (i : ℕ) (d : KeptSection) → i < length image.sections
      → (s : SectionHeader) × (slice_get p.sections i ≡ Some s) × IsSectionOf p s (get_or image.sections i d.section)
  header_at i d less = holds.sections.each i (get_or image.sections i d.section) (slice_get-get_or image.sections i d.section less)

  -- each section that is there is that of a header
  IsKeptOf : KeptSection → Type 0
  IsKeptOf k = (s : SectionHeader) × (slice_get p.sections k.number ≡ Some s) × IsSectionOf p s k.section

  kept_of : (k : KeptSection) → Contains (kept_sections image) k → IsKeptOf k
  unfolding IsKeptOf
  kept_of k has =
      let less : has.0 < length image.sections = within has.0 has.1 in
      subst IsKeptOf (sym (kept_place has.0 k less) ∙ has.2) (header_at has.0 k less)

  -- a number below that of the sections is one's
  found_number : (d : KeptSection) (n : ℕ) → n < length image.sections → IsSome (kept_at_number n image)
  found_number d n less =
      find_at (λ s. s.number == n) (kept_sections image) n d (omega (arith, less, length-kept image long))
      (eq-eqb (get_or (kept_sections image) n d).number n (ap (λ (k : KeptSection). k.number) (kept_place n d less)))

  found_itself : (s : KeptSection) → Contains (kept_sections image) s → IsSome (kept_at_number s.number image)
  found_itself s has = find_contained (λ t. t.number == s.number) (kept_sections image) s has (eq-eqb s.number s.number refl)

  -- a test of the numbers of a section header finds the section where it finds the header
  same_first : (f : KeptSection → Bool) (g : SectionHeader → Bool) → ((at number : ℕ) (s : SectionHeader) (name : List ℕ) → f (record { position = at; number = number; section = section_with p s name }) ≡ g s)
      → Found f g (kept_sections image) p.sections
  same_first f g same =
      both_found f g (kept_sections image) p.sections (length-kept image long ∙ holds.sections.count)
      (λ i d e less.
      let inside : i < length image.sections = within i less in
      let (s, at, is) = header_at i d inside in
      let x : ImageSection = get_or image.sections i d.section in
      ap f (kept_place i d inside) ∙ ap (λ (y : ImageSection). f (record { position = i; number = i; section = y })) is.fields
      ∙ same i i s x.name ∙ ap g (sym (get_or_from_slice_get p.sections i s e at)))

  type_found : (type : ℕ) → Found (λ k. k.section.sh_type == type) (λ s. s.sh_type == type) (kept_sections image) p.sections
  type_found type = same_first (λ k. k.section.sh_type == type) (λ s. s.sh_type == type) (λ at number s name. refl)

  -- where a section of a type is found, its header is the first of the type
  HeaderOf : ℕ → ℕ → Type 0
  HeaderOf type n = (s : SectionHeader) × (slice_get p.sections n ≡ Some s) × (section_of_type type p.sections ≡ Some s)

  table_header : (type n : ℕ) → table_number type image ≡ Some n → HeaderOf type n
  unfolding Found HeaderOf
  table_header type n is = elim (type_found type) [
    | inl none ↦ absurd (none-some n (sym (ap number_of none.0) ∙ is))
    | inr at ↦
        let (i, found) = at in
        let inside : i < length image.sections = within i found.within in
        let (s, there, _) = header_at i no_kept inside in
        let same : i ≡ n = same_Some i n (ap (λ (k : KeptSection). Some k.number) (sym (kept_place i no_kept inside)) ∙ ap number_of (sym (found.first no_kept)) ∙ is) in
        (s, subst (λ (m : ℕ). slice_get p.sections m ≡ Some s) same there, found.second s ∙ ap Some (get_or_from_slice_get p.sections i s s there))
  ]
    where
      number_of : Option KeptSection → Option ℕ
      number_of o = option_map (λ k. k.number) o

  no_header : (type : ℕ) → kept_of_type type image ≡ None → section_of_type type p.sections ≡ None
  unfolding Found
  no_header type none = elim (type_found type) [
    | inl both ↦ both.1
    | inr at ↦
        let (i, found) = at in
        absurd (none-some (get_or (kept_sections image) i no_kept) (sym none ∙ found.first no_kept))
  ]

  -- ## Symbols

  -- as many symbols are in a table as its section's header says
  counted_symbols : (type : ℕ) → (not (type == 0) && not (type == 8)) ≡ true → (s : SectionHeader) → section_of_type type p.sections ≡ Some s
      → length (symbols_of p s) ≡ s.sh_size / symbol_size p.opened.form
  counted_symbols type filled s is =
      let (here, bytes) = found_by_type p rules type filled s is in
      length-records (symbol_numbers p.opened.form) (symbol_size p.opened.form) (length (section_bytes (file_of p) s) / symbol_size p.opened.form) (section_bytes (file_of p) s)
      ∙ ap (λ (n : ℕ). n / symbol_size p.opened.form) (length-bytes p rules s here bytes)

  -- the section of each symbol of a table is there
  has_section-by : (y : NamedSymbol) → (nat_lt y.st_shndx p.opened.header.e_shnum || nat_le SHN_LORESERVE y.st_shndx) ≡ true → has_section image y ≡ true
  has_section-by y h = by_first (nat_lt y.st_shndx p.opened.header.e_shnum) refl h
    where
      by_first : (b : Bool) → nat_lt y.st_shndx p.opened.header.e_shnum ≡ b → (b || nat_le SHN_LORESERVE y.st_shndx) ≡ true → has_section image y ≡ true
      by_first true less any =
          or_right (y.st_shndx == 0 || nat_le SHN_LORESERVE y.st_shndx) (is_some (kept_at_number y.st_shndx image))
          (found_number no_kept y.st_shndx (omega (arith, ltb-true y.st_shndx p.opened.header.e_shnum less, length-sections p.opened p.sections parts.sections, holds.sections.count)))
      by_first false past any =
          or_left (y.st_shndx == 0 || nat_le SHN_LORESERVE y.st_shndx) (is_some (kept_at_number y.st_shndx image)) (or_right (y.st_shndx == 0) (nat_le SHN_LORESERVE y.st_shndx) any)

  symbols_right : symbols_have_sections p ≡ true
  symbols_right = (and_parts _ _ (and_parts _ _ (and_parts _ _ rules.linked).0).0).1

  symbols_fit : (s : SectionHeader) (texts : Memory) (versions : List (Option VersionId)) (symbols : List NamedSymbol) → IsIn s p.sections → is_symbol_table s ≡ true
      → AreSymbolsOf (length (file_of p)) texts (symbols_of p s) versions symbols → All (λ y. has_section image y ≡ true) symbols
  symbols_fit s texts versions symbols here table are i d less =
      let x : NamedSymbol = get_or symbols i d in
      let (y, version, at, _, is) = are.each i x (slice_get-get_or symbols i d less) in
      let rule : NamedSymbol → Bool = λ z. nat_lt z.st_shndx p.opened.header.e_shnum || nat_le SHN_LORESERVE z.st_shndx in
      let passed : (nat_lt y.st_shndx p.opened.header.e_shnum || nat_le SHN_LORESERVE y.st_shndx) ≡ true =
      (IsIn-slice_get (symbols_of p s) i y at).passes (λ z. nat_lt z.st_shndx p.opened.header.e_shnum || nat_le SHN_LORESERVE z.st_shndx)
      (passes_picked s p.sections here (λ t. list_all (λ z. nat_lt z.st_shndx p.opened.header.e_shnum || nat_le SHN_LORESERVE z.st_shndx) (symbols_in p.opened.form (section_bytes (file_of p) t)))
      is_symbol_table symbols_right table) in
      has_section-by x (ap rule is.fields ∙ passed)

  -- a section of one of the two types is a symbol table
  table_of_type : (type : ℕ) → is_one_of (SHT_SYMTAB ∷ SHT_DYNSYM ∷ []) type ≡ true → (s : SectionHeader) → section_of_type type p.sections ≡ Some s → IsIn s p.sections × (is_symbol_table s ≡ true)
  table_of_type type one s is =
      let (here, typed) = find_some (λ t. t.sh_type == type) p.sections s is in
      (here, ap (is_one_of (SHT_SYMTAB ∷ SHT_DYNSYM ∷ [])) (eqb-true s.sh_type type typed) ∙ one)

  dynamic_fit : (o : Option SectionHeader) → section_of_type SHT_DYNSYM p.sections ≡ o → AreDynamicSymbols p (section_of_type SHT_GNU_VERSYM p.sections) o image.dynamic_symbols
      → All (λ y. has_section image y ≡ true) image.dynamic_symbols
  dynamic_fit None is are = subst (λ (ys : List NamedSymbol). All (λ y. has_section image y ≡ true) ys) (sym are) (All-nil (λ y. has_section image y ≡ true))
  dynamic_fit (Some s) is are =
      let (here, table) = table_of_type SHT_DYNSYM refl s is in
      symbols_fit s (dynamic_texts_of p (linked_section p.sections s)) (versions_read p (section_of_type SHT_GNU_VERSYM p.sections) (length (symbols_of p s))) image.dynamic_symbols here table are

  static_fit : (o : Option SectionHeader) → section_of_type SHT_SYMTAB p.sections ≡ o → AreStaticSymbols p o image.symbols → All (λ y. has_section image y ≡ true) image.symbols
  static_fit None is are = subst (λ (ys : List NamedSymbol). All (λ y. has_section image y ≡ true) ys) (sym are) (All-nil (λ y. has_section image y ≡ true))
  static_fit (Some s) is are =
      let (here, table) = table_of_type SHT_SYMTAB refl s is in
      symbols_fit s (texts_of p (linked_section p.sections s)) (replicate (length (symbols_of p s)) None) image.symbols here table are

  no_symbols : (o : Option SectionHeader) → o ≡ None → AreStaticSymbols p o image.symbols → image.symbols ≡ []
  no_symbols None is are = are
  no_symbols (Some s) is are = absurd (none-some s (sym is))

  -- ## Relocations

  relocations_right : relocations_fit p ≡ true
  relocations_right = (and_parts _ _ (and_parts _ _ rules.linked).0).1

  -- a relocation of a section that is against a table names symbol 0, or one below the number of its symbols
  relocation_fits : (hdr d : SectionHeader) (number : ℕ) → IsIn hdr p.sections → are_relocations (data_of p hdr) ≡ true → linked_section p.sections hdr ≡ Some d → is_symbol_table d ≡ true
      → list_any (λ r. r.r_symbol == number) (relocations_of p hdr) ≡ true → (number ≡ 0) ⊎ (number < d.sh_size / symbol_size p.opened.form)
  relocation_fits hdr d number here kind linked table any =
      let count : ℕ = d.sh_size / symbol_size p.opened.form in
      let fits : SectionHeader → Bool = λ s. is_none_or (λ l. list_all (λ r. r.r_symbol == 0 || nat_lt r.r_symbol (l.sh_size / symbol_size p.opened.form)) (relocations_of p s)) (relocated_symbols p.sections s) in
      let passed = passes_picked hdr p.sections here
      (λ s. s.sh_size % relocation_size p.opened.form s.sh_type == 0
      && is_none_or (λ l. list_all (λ r. r.r_symbol == 0 || nat_lt r.r_symbol (l.sh_size / symbol_size p.opened.form)) (relocations_of p s)) (relocated_symbols p.sections s))
      (λ s. is_relocation_section s && not (is_opaque_relocation p s)) relocations_right (relocations_read p hdr kind) in
      let second : fits hdr ≡ true = (and_parts (hdr.sh_size % relocation_size p.opened.form hdr.sh_type == 0) (fits hdr) passed).1 in
      let against : relocated_symbols p.sections hdr ≡ Some d = ap (kept_if is_symbol_table) linked ∙ ap (λ (b : Bool). if b then Some d else None) table in
      let all : list_all (λ r. r.r_symbol == 0 || nat_lt r.r_symbol count) (relocations_of p hdr) ≡ true =
      test_at (λ l. list_all (λ r. r.r_symbol == 0 || nat_lt r.r_symbol (l.sh_size / symbol_size p.opened.form)) (relocations_of p hdr)) (relocated_symbols p.sections hdr) d second against in
      none_or_less number count (number_passes (λ (r : Relocation). r.r_symbol) (λ n. n == 0 || nat_lt n count) number (relocations_of p hdr) all any)

  some_number : (o : Option ℕ) (link : ℕ) → is_some_and (λ n. n == link) o ≡ true → o ≡ Some link
  some_number None link h = absurd (false≢true h)
  some_number (Some n) link h = ap Some (eqb-true n link h)

  module _ (type : ℕ) (symbols : List NamedSymbol) (one : is_one_of (SHT_SYMTAB ∷ SHT_DYNSYM ∷ []) type ≡ true) (filled : (not (type == 0) && not (type == 8)) ≡ true)
      (as_many : (s : SectionHeader) → section_of_type type p.sections ≡ Some s → length symbols ≡ length (symbols_of p s)) where
    relocated_in : (hdr : SectionHeader) (name : List ℕ) (number : ℕ) → IsIn hdr p.sections → names_symbol p.opened.form (table_number type image) number (section_with p hdr name) ≡ true
        → (number ≡ 0) ⊎ Contains (counted (length symbols)) number
    unfolding HeaderOf
    relocated_in hdr name number here names =
        let table : Option ℕ = table_number type image in
        let (against, any) = and_parts (are_relocations (data_of p hdr) && is_some_and (λ n. n == hdr.sh_link) table) (list_any (λ x. x.r_symbol == number) (relocations_of p hdr)) names in
        let (kind, link) = and_parts (are_relocations (data_of p hdr)) (is_some_and (λ n. n == hdr.sh_link) table) against in
        let (d, linked, first) = table_header type hdr.sh_link (some_number table hdr.sh_link link) in
        elim (relocation_fits hdr d number here kind linked (table_of_type type one d first).1 any) [
          | inl none ↦ inl none
          | inr less ↦ inr (counted_has (length symbols) number (subst (λ (n : ℕ). number < n) (sym (as_many d first ∙ counted_symbols type filled d first)) less))
        ]

    relocated : AreRelocated image (table_number type image) (counted (length symbols))
    unfolding IsKeptOf
    relocated k number has names =
        let (hdr, at, is) = kept_of k has in
        relocated_in hdr k.section.name number (IsIn-slice_get p.sections k.number hdr at)
        (ap (λ (f : Form). names_symbol f (table_number type image) number (section_with p hdr k.section.name)) (sym holds.form)
        ∙ ap (names_symbol image.form (table_number type image) number) (sym is.fields) ∙ names)

  dynamic_count : (o : Option SectionHeader) → AreDynamicSymbols p (section_of_type SHT_GNU_VERSYM p.sections) o image.dynamic_symbols → (s : SectionHeader) → o ≡ Some s
      → length image.dynamic_symbols ≡ length (symbols_of p s)
  dynamic_count None are s is = absurd (none-some s is)
  dynamic_count (Some t) are s is = are.count ∙ ap (λ (h : SectionHeader). length (symbols_of p h)) (same_Some t s is)

  static_count : (o : Option SectionHeader) → AreStaticSymbols p o image.symbols → (s : SectionHeader) → o ≡ Some s → length image.symbols ≡ length (symbols_of p s)
  static_count None are s is = absurd (none-some s is)
  static_count (Some t) are s is = are.count ∙ ap (λ (h : SectionHeader). length (symbols_of p h)) (same_Some t s is)

  -- ## The interpreter

  interpreter_by : (o : Option SegmentHeader) → is_none_or (λ q. is_some (interpreter_section q p.sections)) o ≡ true
      → is_some (o >>= λ q. interpreter_section q p.sections >>= λ s. Some (section_bytes (file_of p) s)) ≡ is_some o
  interpreter_by None h = refl
  interpreter_by (Some q) h = by_section (interpreter_section q p.sections) h
    where
      by_section : (s : Option SectionHeader) → is_some s ≡ true → is_some (s >>= λ t. Some (section_bytes (file_of p) t)) ≡ true
      by_section None g = absurd (false≢true g)
      by_section (Some t) g = refl

  interpreter_same : is_some image.interpreter ≡ is_some (segment_of_type PT_INTERP image.segments)
  interpreter_same =
      ap is_some holds.interpreter ∙ interpreter_by (segment_of_type PT_INTERP p.segments) rules.interpreter
      ∙ ap (λ (ps : List SegmentHeader). is_some (segment_of_type PT_INTERP ps)) (sym holds.segments)

  interpreter_number-by : (o : Option SegmentHeader) → is_some o ≡ true → is_none_or (λ q. is_some (interpreter_section q p.sections)) o ≡ true
      → IsSome ((o >>= λ q. find (λ s. stands_as_interpreter q s.section) (kept_sections image) >>= λ s. Some s.number) >>= λ number. kept_at_number number image)
  unfolding Found
  interpreter_number-by None some h = absurd (false≢true some)
  interpreter_number-by (Some q) some h =
      elim (same_first (λ k. stands_as_interpreter q k.section) (λ s. s.sh_type == SHT_PROGBITS && s.sh_offset == q.p_offset && s.sh_addr == q.p_vaddr && s.sh_size == q.p_filesz) (λ at number s name. refl)) [
        | inl none ↦ absurd (false≢true (sym (ap is_some none.1) ∙ h))
        | inr at ↦
            let (i, found) = at in
            let inside : i < length image.sections = within i found.within in
            let k : KeptSection = get_or (kept_sections image) i no_kept in
            ap (λ (o : Option KeptSection). is_some ((o >>= λ s. Some s.number) >>= λ number. kept_at_number number image)) (found.first no_kept)
            ∙ ap (λ (s : KeptSection). is_some (kept_at_number s.number image)) (kept_place i no_kept inside) ∙ found_number no_kept i inside
      ]

  -- ## All of it

  pub read_is_complete : IsComplete image image
  read_is_complete = record {
    lasting = λ s has _. found_itself s has;
    linked = λ s t _ has _. found_itself t has;
    first_dynamic = first_counted image.dynamic_symbols image.dynamic_symbol_numbers holds.dynamic_symbol_numbers;
    first_static = λ _. first_counted image.symbols image.symbol_numbers holds.symbol_numbers;
    no_static = λ none. no_symbols (section_of_type SHT_SYMTAB p.sections) (no_header SHT_SYMTAB none) holds.symbols;
    dynamic_sections = dynamic_fit (section_of_type SHT_DYNSYM p.sections) refl holds.dynamic_symbols;
    static_sections = All-drop (λ y. has_section image y ≡ true) 1 image.symbols (static_fit (section_of_type SHT_SYMTAB p.sections) refl holds.symbols);
    dynamic_relocated = subst (AreRelocated image (table_number SHT_DYNSYM image)) (sym holds.dynamic_symbol_numbers)
        (relocated SHT_DYNSYM image.dynamic_symbols refl refl (dynamic_count (section_of_type SHT_DYNSYM p.sections) holds.dynamic_symbols));
    static_relocated = subst (AreRelocated image (table_number SHT_SYMTAB image)) (sym holds.symbol_numbers)
        (relocated SHT_SYMTAB image.symbols refl refl (static_count (section_of_type SHT_SYMTAB p.sections) holds.symbols));
    tables = λ changed. absurd (false≢true (sym (no_names_changed image) ∙ changed));
    interpreter = interpreter_same;
    interpreter_section = λ some. interpreter_number-there some;
  }
    where
      interpreter_number-there : IsSome image.interpreter → IsSome (interpreter_number image >>= λ number. kept_at_number number image)
      interpreter_number-there some =
          ap (λ (ps : List SegmentHeader). is_some ((segment_of_type PT_INTERP ps >>= λ q. find (λ s. stands_as_interpreter q s.section) (kept_sections image) >>= λ s. Some s.number) >>= λ number. kept_at_number number image)) holds.segments
          ∙ interpreter_number-by (segment_of_type PT_INTERP p.segments) (ap (λ (ps : List SegmentHeader). is_some (segment_of_type PT_INTERP ps)) (sym holds.segments) ∙ sym interpreter_same ∙ some) rules.interpreter
