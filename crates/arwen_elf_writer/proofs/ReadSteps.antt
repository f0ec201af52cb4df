-- Steps of looking for entries with a text, one entry at a time.
use Rattle.std.proofs.Common.{◌≡◌, ◌<◌, ◌≤◌, ◌+◌, ℕ, List, [], ◌∷◌, length, drop, get_or, map, refl, sym, ap, ◌∙◌, Option, Some, None, add-one, drop-cons}
use Rattle.std.proofs.lemmas.List.{drop_all}
use Rattle.std.specs.Prelude.{Bool, true, false, if◌then◌else◌}
use Rattle.elf_image.specs.declared.dynamic.Dynamic.{Dynamic}
use Rattle.elf_image.specs.Dynamic.{Auto, Entry, Integer, Text}
use Rattle.elf_image.specs.ImageModel.{entry_model}
use Rattle.elf_image.specs.Options.{is_one_of}
use Rattle.arwen_elf_writer.specs.Reads.{first_of, text_if, texts_tagged}

-- the texts of a first entry and of the entries behind it
with_first : Option (List ℕ) → List (List ℕ) → List (List ℕ)
with_first None rest = rest
with_first (Some text) rest = text ∷ rest

with_first-text : (b : Bool) (text : List ℕ) (rest : List (List ℕ)) → (if b then text ∷ rest else rest) ≡ with_first (if b then Some text else None) rest
unfolding with_first
with_first-text true text rest = refl
with_first-text false text rest = refl

texts_tagged-cons : (tags : List ℕ) (e : Entry) (es : List Entry) → texts_tagged tags (e ∷ es) ≡ with_first (text_if tags e) (texts_tagged tags es)
unfolding texts_tagged with_first
texts_tagged-cons tags (Auto tag) es = refl
texts_tagged-cons tags (Integer tag value) es = refl
texts_tagged-cons tags (Text tag text) es = with_first-text (is_one_of tags tag) text (texts_tagged tags es)

-- an entry without such a text, and one with it
pub texts_missed : (tags : List ℕ) (e : Entry) (es : List Entry) → text_if tags e ≡ None → texts_tagged tags (e ∷ es) ≡ texts_tagged tags es
unfolding with_first
texts_missed tags e es h = texts_tagged-cons tags e es ∙ ap (λ o. with_first o (texts_tagged tags es)) h

pub texts_found : (tags : List ℕ) (e : Entry) (es : List Entry) (text : List ℕ) → text_if tags e ≡ Some text → texts_tagged tags (e ∷ es) ≡ text ∷ texts_tagged tags es
unfolding with_first
texts_found tags e es text h = texts_tagged-cons tags e es ∙ ap (λ o. with_first o (texts_tagged tags es)) h

module _ (tags : List ℕ) (xs : List Dynamic) (i : ℕ) (x : Dynamic) where
  -- the texts from an entry on
  from_here : List (List ℕ)
  from_here = texts_tagged tags (map entry_model (drop i xs))

  at_entry : i < length xs → x ≡ get_or xs i x → from_here ≡ texts_tagged tags (entry_model x ∷ map entry_model (drop (i + 1) xs))
  unfolding from_here
  at_entry here e =
      ap (λ ys. texts_tagged tags (map entry_model ys)) (drop_here ∙ ap (λ y. y ∷ drop (i + 1) xs) (sym e))
    where
      drop_here : drop i xs ≡ get_or xs i x ∷ drop (i + 1) xs
      drop_here = rw (add-one, drop-cons xs i x)

  pub goes_past : i < length xs → x ≡ get_or xs i x → text_if tags (entry_model x) ≡ None → (all : List (List ℕ)) → texts_tagged tags (map entry_model (drop i xs)) ≡ all → texts_tagged tags (map entry_model (drop (i + 1) xs)) ≡ all
  unfolding from_here
  goes_past here e none all h = sym (at_entry here e ∙ texts_missed tags (entry_model x) (map entry_model (drop (i + 1) xs)) none) ∙ h

  pub first_found : i < length xs → x ≡ get_or xs i x → (text : List ℕ) → text_if tags (entry_model x) ≡ Some text → (all : List (List ℕ)) → texts_tagged tags (map entry_model (drop i xs)) ≡ all → Some text ≡ first_of all
  unfolding from_here
  first_found here e text found all h = sym (ap first_of (sym h ∙ at_entry here e ∙ texts_found tags (entry_model x) (map entry_model (drop (i + 1) xs)) text found))

-- no text is left behind the last entry
pub none_found : (tags : List ℕ) (xs : List Dynamic) (i : ℕ) → length xs ≤ i → (all : List (List ℕ)) → texts_tagged tags (map entry_model (drop i xs)) ≡ all → None ≡ first_of all
unfolding texts_tagged
none_found tags xs i end all h =
    let e : texts_tagged tags (map entry_model (drop i xs)) ≡ [] = ap (λ ys. texts_tagged tags (map entry_model ys)) (drop_all i xs end) in
    ap first_of (sym e ∙ h)

-- what the first of the entries that are left has, or hasn't, of a text
pub left_found : (tags : List ℕ) (xs behind : List Dynamic) (x : Dynamic) → xs ≡ x ∷ behind → (text : List ℕ) → text_if tags (entry_model x) ≡ Some text → texts_tagged tags (map entry_model xs) ≡ text ∷ texts_tagged tags (map entry_model behind)
left_found tags xs behind x e text found = ap (λ ys. texts_tagged tags (map entry_model ys)) e ∙ texts_found tags (entry_model x) (map entry_model behind) text found

pub left_missed : (tags : List ℕ) (xs behind : List Dynamic) (x : Dynamic) → xs ≡ x ∷ behind → text_if tags (entry_model x) ≡ None → texts_tagged tags (map entry_model behind) ≡ texts_tagged tags (map entry_model xs)
left_missed tags xs behind x e none = sym (ap (λ ys. texts_tagged tags (map entry_model ys)) e ∙ texts_missed tags (entry_model x) (map entry_model behind) none)

pub left_none : (tags : List ℕ) (xs : List Dynamic) → xs ≡ [] → texts_tagged tags (map entry_model xs) ≡ []
unfolding texts_tagged
left_none tags xs e = ap (λ ys. texts_tagged tags (map entry_model ys)) e
