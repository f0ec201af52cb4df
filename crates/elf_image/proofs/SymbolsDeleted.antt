-- A symbol that is deleted was one that can go.
use Rattle.std.proofs.Common.{◌≡◌, ℕ, zero, suc, ◌<◌, Bool, true, false, List, [], ◌∷◌, take, drop, refl, sym, ap, ◌∙◌, inl, inr, subst, Some, arith}
use Rattle.std.specs.Prelude.{◌==◌, ◌&&◌, ◌⊎◌, All, Contains, not, remove, slice_index}
use Rattle.std.specs.List.{list_any, slice_get}
use Rattle.std.proofs.lemmas.Bool.{eq-eqb, eqb-true, or_parts, true≢false}
use Rattle.std.proofs.lemmas.List.Elements.{All-append, All-contains_itself, All-drop, All-take}
use Rattle.std.proofs.lemmas.Option.{none-some}
use Rattle.elf_format.specs.declared.constants.TheConstants.{SHT_DYNSYM, SHT_SYMTAB}
use Rattle.elf_format.specs.Image.{Image}
use Rattle.elf_format.specs.Views.{NamedSymbol}
use Rattle.elf_image.specs.Complete.{AreRelocated}
use Rattle.elf_image.specs.Edited.{IsEdited}
use Rattle.elf_image.specs.Kept.{KeptSection, kept_sections}
use Rattle.elf_image.specs.Relocated.{names_symbol}
use Rattle.elf_image.specs.Renumbering.{can_renumber}
use Rattle.elf_image.specs.Staying.{table_number}
use Rattle.elf_image.specs.SymbolEdits.{IsPutFor, IsStaticPutFor, IsUnnamed}
use Rattle.elf_image.specs.SymbolsRead.{OfRead}
use Rattle.elf_image.proofs.ListsLeft.{contains_cases, contains_cons, contains_first, none_passes}
use Rattle.elf_image.proofs.SymbolsKept.{dynamic_first, static_first}

-- ## Numbers of which one goes

all_rest : (ns : List ℕ) (i : ℕ) → All (Contains ns) (remove ns i)
all_rest ns i =
    All-append (Contains ns) (take i ns) (drop (suc i) ns) (All-take (Contains ns) i ns (All-contains_itself ns)) (All-drop (Contains ns) (suc i) ns (All-contains_itself ns))

first_rest : (ns : List ℕ) (i : ℕ) → 0 < i → slice_get ns 0 ≡ Some 0 → slice_get (remove ns i) 0 ≡ Some 0
first_rest [] i behind at = absurd (none-some 0 at)
first_rest (n ∷ ns) zero behind at = absurd (omega (arith, behind))
first_rest (n ∷ ns) (suc i) behind at = at

contains_rest : (ns : List ℕ) (i n : ℕ) → Contains ns n → (n == slice_index ns i) ≡ false → Contains (remove ns i) n
contains_rest [] i n has other = absurd (omega (arith, has.1))
contains_rest (m ∷ ns) zero n has other = elim (contains_cases m ns n has) [
  | inl same ↦ absurd (true≢false (sym (eq-eqb n m (sym same)) ∙ other))
  | inr rest ↦ rest
]
contains_rest (m ∷ ns) (suc i) n has other = elim (contains_cases m ns n has) [
  | inl same ↦ subst (λ (k : ℕ). Contains (m ∷ remove ns i) k) same (contains_first m (remove ns i))
  | inr rest ↦ contains_cons m (remove ns i) n (contains_rest ns i n rest other)
]

-- ## Relocations

-- a symbol that would be one that is used is symbol 0
pub unused_zero : (number : ℕ) (names : Bool) → (not (number == 0) && names) ≡ false → names ≡ true → number ≡ 0
unused_zero number names unused is = by_zero (number == 0) refl unused
  where
    by_zero : (b : Bool) → (number == 0) ≡ b → (not b && names) ≡ false → number ≡ 0
    by_zero true zero_is h = eqb-true number 0 zero_is
    by_zero false zero_is h = absurd (true≢false (sym is ∙ h))

module _ (image : Image) (type : ℕ) where
  abbrev names : ℕ → KeptSection → Bool
  names number s = names_symbol image.form (table_number type image) number s.section

  unnamed_zero : (number : ℕ) → IsUnnamed type number image → (s : KeptSection) → Contains (kept_sections image) s → names number s ≡ true → number ≡ 0
  unnamed_zero number unnamed s has is =
      let none : list_any (λ n. not (n == 0) && names n s) (number ∷ []) ≡ false =
      none_passes (λ k. list_any (λ n. not (n == 0) && names n k) (number ∷ [])) (kept_sections image) s unnamed has in
      unused_zero number (names number s) (or_parts (not (number == 0) && names number s) false none).0 is

  still_named : (numbers : List ℕ) (i : ℕ) → AreRelocated image (table_number type image) numbers → IsUnnamed type (slice_index numbers i) image
      → AreRelocated image (table_number type image) (remove numbers i)
  still_named numbers i all unnamed s number has is = elim (all s number has is) [
    | inl none ↦ inl none
    | inr there ↦ by_number (number == slice_index numbers i) refl there
  ]
    where
      by_number : (b : Bool) → (number == slice_index numbers i) ≡ b → Contains numbers number → (number ≡ 0) ⊎ Contains (remove numbers i) number
      by_number true same there =
          let one : number ≡ slice_index numbers i = eqb-true number (slice_index numbers i) same in
          inl (one ∙ unnamed_zero (slice_index numbers i) unnamed s has (ap (λ (n : ℕ). names n s) (sym one) ∙ is))
      by_number false other there = inr (contains_rest numbers i number there other)

-- ## What an image may take in place of its symbols

pub static_deleted : (image : Image) (read : List NamedSymbol) (i : ℕ) → IsEdited image → OfRead image (λ at_read. read ≡ at_read.symbols) → 0 < i
    → IsUnnamed SHT_SYMTAB (slice_index image.symbol_numbers i) image
    → IsStaticPutFor image (record { read = read; numbers = remove image.symbol_numbers i; symbols = remove image.symbols i })
static_deleted image read i h is_read behind unnamed = record {
  read = is_read;
  there = all_rest image.symbol_numbers i;
  first = λ some. first_rest image.symbol_numbers i behind (static_first image h some);
  relocated = still_named image SHT_SYMTAB image.symbol_numbers i h.is_edit.complete.static_relocated unnamed;
}

pub dynamic_deleted : (image : Image) (read : List NamedSymbol) (i : ℕ) → IsEdited image → OfRead image (λ at_read. read ≡ at_read.dynamic_symbols) → 0 < i
    → IsUnnamed SHT_DYNSYM (slice_index image.dynamic_symbol_numbers i) image → can_renumber image ≡ true
    → IsPutFor image (record { read = read; numbers = remove image.dynamic_symbol_numbers i; symbols = remove image.dynamic_symbols i })
dynamic_deleted image read i h is_read behind unnamed renumbers = record {
  read = is_read;
  there = all_rest image.dynamic_symbol_numbers i;
  first = λ some. first_rest image.dynamic_symbol_numbers i behind (dynamic_first image h some);
  relocated = still_named image SHT_DYNSYM image.dynamic_symbol_numbers i h.is_edit.complete.dynamic_relocated unnamed;
  names = λ _ _ _. renumbers;
}
