-- Texts that stay: a list of texts has its own texts, and is itself with none left out.
use Rattle.std.proofs.Common.{◌≡◌, ℕ, List, [], ◌∷◌, Bool, true, false, not, refl, sym, ap, ◌∙◌}
use Rattle.std.proofs.lemmas.Bool.{false≢true}
use Rattle.std.proofs.lemmas.Slice.Eq.{bytes_eq-Decides}
use Rattle.std.specs.Str.{bytes_eq}
use Rattle.elf_format.specs.Image.{Image}
use Rattle.elf_format.specs.Views.{NamedSymbol}
use Rattle.elf_layout_plan.specs.Texts.{are_names_changed, are_same_texts, is_subsequence, texts_of_symbols}

bytes_same : (t : List ℕ) → bytes_eq t t ≡ true
bytes_same t = (bytes_eq-Decides t t).1 refl

same_texts : (ts : List (List ℕ)) → are_same_texts ts ts ≡ true
same_texts [] = refl
same_texts (t ∷ ts) = ap (λ (b : Bool). elim b as (λ _. Bool) [ true ↦ are_same_texts ts ts | _ ↦ false ]) (bytes_same t) ∙ same_texts ts

-- symbols that stay keep their names
pub names_same : (read image : Image) → image.dynamic_symbols ≡ read.dynamic_symbols → are_names_changed read image ≡ false
names_same read image same =
    ap (λ (ys : List NamedSymbol). not (are_same_texts (texts_of_symbols read.dynamic_symbols) (texts_of_symbols ys))) same
    ∙ ap not (same_texts (texts_of_symbols read.dynamic_symbols))

-- texts that are the same one by one are the same list
texts_by : (t u : List ℕ) (ts us : List (List ℕ)) (b : Bool) → bytes_eq t u ≡ b → (are_same_texts ts us ≡ true → ts ≡ us)
    → (elim b as (λ _. Bool) [ true ↦ are_same_texts ts us | _ ↦ false ]) ≡ true → t ∷ ts ≡ u ∷ us
texts_by t u ts us true is rest more = ap (λ (x : List ℕ). x ∷ ts) ((bytes_eq-Decides t u).0 is) ∙ ap (λ (l : List (List ℕ)). u ∷ l) (rest more)
texts_by t u ts us false is rest more = absurd (false≢true more)

texts_same : (ts us : List (List ℕ)) → are_same_texts ts us ≡ true → ts ≡ us
texts_same [] [] same = refl
texts_same [] (u ∷ us) same = absurd (false≢true same)
texts_same (t ∷ ts) [] same = absurd (false≢true same)
texts_same (t ∷ ts) (u ∷ us) same = texts_by t u ts us (bytes_eq t u) refl (λ more. texts_same ts us more) same

-- names that didn't change are those that were read
pub names_kept : (read image : Image) → are_names_changed read image ≡ false → texts_of_symbols read.dynamic_symbols ≡ texts_of_symbols image.dynamic_symbols
names_kept read image kept =
    texts_same (texts_of_symbols read.dynamic_symbols) (texts_of_symbols image.dynamic_symbols)
    (not_back (are_same_texts (texts_of_symbols read.dynamic_symbols) (texts_of_symbols image.dynamic_symbols)) kept)
  where
    not_back : (b : Bool) → not b ≡ false → b ≡ true
    not_back true e = refl
    not_back false e = sym e

pub subsequence_of_itself : (ts : List (List ℕ)) → is_subsequence ts ts ≡ true
unfolding is_subsequence
subsequence_of_itself [] = refl
subsequence_of_itself (t ∷ ts) =
    ap (λ (b : Bool). elim b as (λ _. Bool) [ true ↦ is_subsequence ts ts | _ ↦ is_subsequence (t ∷ ts) ts ]) (bytes_same t) ∙ subsequence_of_itself ts
