-- The symbols of a file, whose header tables are read once more.
use Rattle.std.proofs.Common.{◌≡◌, ◌↔◌, ℕ, Bool, true, false, List, [], ◌∷◌, length, Option, Some, None, Result, Ok, refl, sym, ap, subst, ◌∙◌}
use Rattle.std.specs.Prelude.{IfSome, IsTrue, bytes_eq, not}
use Rattle.std.proofs.lemmas.Bool.{false_from_ne_true, false≢true}
use Rattle.std.proofs.lemmas.Slice.Eq.{bytes_eq-Decides}
use Rattle.elf_format.specs.declared.fault.ElfFault.{ElfFault}
use Rattle.patch_bytes.specs.Memory.{◌>>=◌}
use Rattle.elf_format.specs.declared.constants.TheConstants.{SHT_DYNSYM, SHT_SYMTAB}
use Rattle.elf_format.specs.Options.{each}
use Rattle.elf_format.specs.File.{Parts, section_of_type}
use Rattle.elf_format.specs.Image.{Image, ImageSection, counted, dynamic_symbols_read, image_of, section_read, static_symbols}
use Rattle.elf_format.specs.Views.{NamedSymbol}
use Rattle.elf_image_symbols.specs.EditedList.{EditedList}
use Rattle.elf_image.specs.ImageSteps.{NamedParts, named_in}
use Rattle.elf_format.specs.Stages.{parts_read}
use Rattle.elf_image.specs.Names.{are_same_texts}
use Rattle.elf_image_symbols.specs.declared.lists.SymbolLists.{SymbolLists}
use Rattle.elf_image.specs.SymbolsRead.{AreSymbolsOfImage, AreSymbolsOfFile, AreSymbolsRead, HasDynamicSymbolsOf, HasStaticSymbolsOf, lists_read}
use Rattle.elf_image.proofs.ReadComplete.{same_texts-refl}
use Rattle.elf_image.proofs.ReadImageLaws.{read_images_hold_parts}

-- what holds of what is there gives something else of it
pub of_what_is_there : {A : Type 0} → (P Q : A → Type 0) (o : Option A) → ((x : A) → P x → Q x) → IfSome o P → IfSome o Q
of_what_is_there P Q None step h = tt
of_what_is_there P Q (Some x) step h = step x h

same_Ok : {A : Type 0} → (x y : A) → ◌≡◌ {A = Result A ElfFault} (Ok x) (Ok y) → x ≡ y
same_Ok x y h = cc

-- ## The lists of a file's parts

abbrev both : Option (List NamedSymbol) → Option (List NamedSymbol) → Option SymbolLists
both dynamic o = o >>= (λ symbols. dynamic >>= (λ ys. Some (record { symbols = symbols; dynamic_symbols = ys })))

module _ (p : Parts) where
  pub lists_missing : static_symbols p (section_of_type SHT_SYMTAB p.sections) ≡ None → lists_read p ≡ None
  unfolding lists_read
  lists_missing none = ap (both (dynamic_symbols_read p (section_of_type SHT_DYNSYM p.sections))) none

  pub lists_missing_dynamic : (symbols : List NamedSymbol) → static_symbols p (section_of_type SHT_SYMTAB p.sections) ≡ Some symbols
      → dynamic_symbols_read p (section_of_type SHT_DYNSYM p.sections) ≡ None → lists_read p ≡ None
  unfolding lists_read
  lists_missing_dynamic symbols there none =
      ap (both (dynamic_symbols_read p (section_of_type SHT_DYNSYM p.sections))) there ∙ ap (λ o. both o (Some symbols)) none

  pub lists_there : (symbols dynamic_symbols : List NamedSymbol) → static_symbols p (section_of_type SHT_SYMTAB p.sections) ≡ Some symbols
      → dynamic_symbols_read p (section_of_type SHT_DYNSYM p.sections) ≡ Some dynamic_symbols → lists_read p ≡ Some (record { symbols = symbols; dynamic_symbols = dynamic_symbols })
  unfolding lists_read
  lists_there symbols dynamic_symbols there dynamic_there =
      ap (both (dynamic_symbols_read p (section_of_type SHT_DYNSYM p.sections))) there ∙ ap (λ o. both o (Some symbols)) dynamic_there

  module _ (sections : List ImageSection) (sections_there : each (section_read p) p.sections ≡ Some sections) where
    abbrev named_of : SymbolLists → NamedParts
    named_of lists = record { sections = sections; symbols = lists.symbols; dynamic_symbols = lists.dynamic_symbols }

    abbrev named_from : Option SymbolLists → Option NamedParts
    named_from o = o >>= (λ lists. Some (named_of lists))

    abbrev named_after : Option (List ImageSection) → Option (List NamedSymbol) → Option (List NamedSymbol) → Option NamedParts
    named_after o static dynamic =
        o >>= (λ ss. static >>= (λ xs. dynamic >>= (λ ys. Some (record { sections = ss; symbols = xs; dynamic_symbols = ys }))))

    regrouped : (static dynamic : Option (List NamedSymbol)) → named_after (Some sections) static dynamic ≡ named_from (both dynamic static)
    regrouped None dynamic = refl
    regrouped (Some xs) None = refl
    regrouped (Some xs) (Some ys) = refl

    named_by_lists : named_in p ≡ named_from (lists_read p)
    unfolding named_in lists_read
    named_by_lists =
        let static : Option (List NamedSymbol) = static_symbols p (section_of_type SHT_SYMTAB p.sections) in
        let dynamic : Option (List NamedSymbol) = dynamic_symbols_read p (section_of_type SHT_DYNSYM p.sections) in
        ap (λ o. named_after o static dynamic) sections_there ∙ regrouped static dynamic

    pub named_missing : lists_read p ≡ None → named_in p ≡ None
    named_missing none = named_by_lists ∙ ap named_from none

    pub named_there : (lists : SymbolLists) → lists_read p ≡ Some lists → named_in p ≡ Some (named_of lists)
    named_there lists there = named_by_lists ∙ ap named_from there

-- one answer is not two
pub same_answer : {A : Type 0} → (x y : A) (r : Result A ElfFault) → r ≡ Ok x → r ≡ Ok y → x ≡ y
same_answer x y r first second = same_Ok x y (sym first ∙ second)

-- an image of a file has the file's bytes
pub source_is_file : (file : List ℕ) (image : Image) → image_of file ≡ Ok image → image.source ≡ file
source_is_file file image h =
    let (p, _, parts, _, holds) = read_images_hold_parts file image h in
    holds.source ∙ parts.same_file

-- lists of the symbols of a file's parts and of its image are lists of the file
pub lists_of_file : (file : List ℕ) (p : Parts) (image : Image) (lists : SymbolLists) → parts_read file ≡ Ok p → image_of file ≡ Ok image
    → AreSymbolsRead p lists → AreSymbolsOfImage image lists → AreSymbolsOfFile file lists
lists_of_file file p image lists there read are_read are = record {
  by_parts = λ q again. subst (λ (r : Parts). AreSymbolsRead r lists) (same_answer p q (parts_read file) there again) are_read;
  by_image = λ other again. subst (λ (i : Image). AreSymbolsOfImage i lists) (same_answer image other (image_of file) read again) are;
}

-- ## Symbols as they were read

pub same_texts-means : (texts now : List (List ℕ)) → are_same_texts texts now ≡ true → now ≡ texts
same_texts-means [] [] same = refl
same_texts-means [] (u ∷ us) same = absurd (false≢true same)
same_texts-means (t ∷ ts) [] same = absurd (false≢true same)
same_texts-means (t ∷ ts) (u ∷ us) same = by_text (bytes_eq t u) refl (same_texts-means ts us) same
  where
    by_text : (b : Bool) → bytes_eq t u ≡ b → (are_same_texts ts us ≡ true → us ≡ ts) → (elim b as (λ _. Bool) [ true ↦ are_same_texts ts us | _ ↦ false ]) ≡ true → u ∷ us ≡ t ∷ ts
    by_text true one more h = ap (λ (x : List ℕ). x ∷ us) (sym ((bytes_eq-Decides t u).0 one)) ∙ ap (λ (l : List (List ℕ)). t ∷ l) (more h)
    by_text false one more h = absurd (false≢true h)

-- what tells whether the names are those that were read
pub names_told : (r : Bool) (texts now : List (List ℕ)) → IsTrue r ↔ (now ≡ texts) → r ≡ not (not (are_same_texts texts now))
names_told true texts now told =
    sym (ap (λ (b : Bool). not (not b)) (ap (are_same_texts texts) (told.0 refl) ∙ same_texts-refl texts))
names_told false texts now told =
    sym (ap (λ (b : Bool). not (not b)) (false_from_ne_true (are_same_texts texts now) (λ same. false≢true (told.1 (same_texts-means texts now same)))))

-- the numbers at read of what was read
pub read_numbers : (source : List ℕ) (read : Image) → image_of source ≡ Ok read
    → (read.symbol_numbers ≡ counted (length read.symbols)) × (read.dynamic_symbol_numbers ≡ counted (length read.dynamic_symbols))
read_numbers source read is =
    let (_, _, _, _, holds) = read_images_hold_parts source read is in
    (holds.symbol_numbers, holds.dynamic_symbol_numbers)

-- what tells whether they are those that were read, in their order
pub dynamic_told : (r : Bool) (image read : Image) (e : EditedList) → image_of image.source ≡ Ok read → e.read ≡ read.dynamic_symbols
    → IsTrue r ↔ ((e.numbers ≡ counted (length e.read)) × (e.symbols ≡ e.read)) → IsTrue r ↔ HasDynamicSymbolsOf read (record image { dynamic_symbols = e.symbols; dynamic_symbol_numbers = e.numbers })
dynamic_told r image read e is same told =
    let numbers = (read_numbers image.source read is).1 in
    let count : counted (length e.read) ≡ read.dynamic_symbol_numbers = ap (λ (ys : List NamedSymbol). counted (length ys)) same ∙ sym numbers in (
      (λ (yes : IsTrue r). record { symbols = (told.0 yes).1 ∙ same; numbers = (told.0 yes).0 ∙ count }),
      (λ (has : HasDynamicSymbolsOf read (record image { dynamic_symbols = e.symbols; dynamic_symbol_numbers = e.numbers })). told.1 (has.numbers ∙ sym count, has.symbols ∙ sym same)),
    )

pub static_told : (r : Bool) (image read : Image) (e : EditedList) → image_of image.source ≡ Ok read → e.read ≡ read.symbols
    → IsTrue r ↔ ((e.numbers ≡ counted (length e.read)) × (e.symbols ≡ e.read)) → IsTrue r ↔ HasStaticSymbolsOf read (record image { symbols = e.symbols; symbol_numbers = e.numbers })
static_told r image read e is same told =
    let numbers = (read_numbers image.source read is).0 in
    let count : counted (length e.read) ≡ read.symbol_numbers = ap (λ (ys : List NamedSymbol). counted (length ys)) same ∙ sym numbers in (
      (λ (yes : IsTrue r). record { symbols = (told.0 yes).1 ∙ same; numbers = (told.0 yes).0 ∙ count }),
      (λ (has : HasStaticSymbolsOf read (record image { symbols = e.symbols; symbol_numbers = e.numbers })). told.1 (has.numbers ∙ sym count, has.symbols ∙ sym same)),
    )
