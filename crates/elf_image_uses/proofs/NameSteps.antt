-- What names some numbers: by the numbers, and by what names them.
use Rattle.std.proofs.Common.{◌≡◌, ℕ, List, [], ◌∷◌, Bool, true, false, Option, refl, sym, ap, ◌∙◌, inl, inr}
use Rattle.std.specs.Prelude.{◌&&◌, ◌||◌, ◌==◌, not}
use Rattle.std.specs.List.{list_any}
use Rattle.std.proofs.lemmas.Bool.{cases_eq, eq-eqb, ne_eqb}
use Rattle.elf_format.specs.declared.form.Form.{Form}
use Rattle.elf_format.specs.Image.{ImageSection}
use Rattle.elf_format.specs.Options.{is_one_of}
use Rattle.elf_format.specs.Records.{Relocation, relocations_in}
use Rattle.elf_image_uses.specs.Needed.{is_info_number, names_section}
use Rattle.elf_image_uses.specs.Relocated.{is_against, names_symbol}
use Rattle.elf_image_uses.specs.Steps.{has_name_of, names_gone}

-- ## Symbols

and_true : (b l : Bool) → ((b && true) || (b && l)) ≡ (b && (true || l))
and_true true l = refl
and_true false l = refl

and_false : (a b l : Bool) → ((a && false) || (b && l)) ≡ (b && (false || l))
and_false true b l = refl
and_false false b l = refl

spread : (a b c x y : Bool) → ((a && (b || c)) || (x || y)) ≡ (((a && b) || x) || ((a && c) || y))
spread true true c x y = refl
spread true false true true y = refl
spread true false true false y = refl
spread true false false x y = refl
spread false b c x y = refl

never : (b : Bool) → (b && false) ≡ false
never true = refl
never false = refl

module _ (p : ℕ → Bool) where
  -- no number passes where the test fails
  none_of : (numbers : List ℕ) → list_any (λ n. p n && false) numbers ≡ false
  none_of [] = refl
  none_of (n ∷ ns) = ap (λ b. b || list_any (λ m. p m && false) ns) (never (p n)) ∙ none_of ns

  -- one number that is named
  one_name : (numbers : List ℕ) (v : ℕ) → list_any (λ n. p n && v == n) numbers ≡ (p v && is_one_of numbers v)
  one_name [] v = sym (never (p v))
  one_name (n ∷ ns) v =
      ap (λ b. (p n && v == n) || b) (one_name ns v)
      ∙ elim (cases_eq v n) [
        | inl e ↦
            ap (λ t. (p n && t) || (p v && is_one_of ns v)) (eq-eqb v n e) ∙ ap (λ m. (p m && true) || (p v && is_one_of ns v)) (sym e) ∙ and_true (p v) (is_one_of ns v)
            ∙ sym (ap (λ t. p v && (t || is_one_of ns v)) (eq-eqb n v (sym e)))
        | inr other ↦
            ap (λ t. (p n && t) || (p v && is_one_of ns v)) (ne_eqb v n other) ∙ and_false (p n) (p v) (is_one_of ns v)
            ∙ sym (ap (λ t. p v && (t || is_one_of ns v)) (ne_eqb n v (λ e. other (sym e))))
      ]

  -- numbers that one of two tests names
  either_names : (q r : ℕ → Bool) (numbers : List ℕ) → list_any (λ n. p n && (q n || r n)) numbers ≡ (list_any (λ n. p n && q n) numbers || list_any (λ n. p n && r n) numbers)
  either_names q r [] = refl
  either_names q r (n ∷ ns) =
      ap (λ b. (p n && (q n || r n)) || b) (either_names q r ns) ∙ spread (p n) (q n) (r n) (list_any (λ m. p m && q m) ns) (list_any (λ m. p m && r m) ns)

  module _ {X : Type 0} (f : X → ℕ) (numbers : List ℕ) where
    by_names : (xs : List X) → list_any (λ n. p n && list_any (λ x. f x == n) xs) numbers ≡ list_any (λ x. p (f x) && is_one_of numbers (f x)) xs
    by_names [] = none_of numbers
    by_names (x ∷ xs) =
        either_names (λ n. f x == n) (λ n. list_any (λ y. f y == n) xs) numbers
        ∙ ap (λ b. b || list_any (λ n. p n && list_any (λ y. f y == n) xs) numbers) (one_name numbers (f x))
        ∙ ap (λ b. (p (f x) && is_one_of numbers (f x)) || b) (by_names xs)

    by_names_where : (b : Bool) (xs : List X) → (b && list_any (λ x. p (f x) && is_one_of numbers (f x)) xs) ≡ list_any (λ n. p n && (b && list_any (λ x. f x == n) xs)) numbers
    by_names_where true xs = sym (by_names xs)
    by_names_where false xs = sym (none_of numbers)

-- a section names one of some symbols
pub symbol_named : (form : Form) (table : Option ℕ) (numbers : List ℕ) (s : ImageSection) → has_name_of form table numbers s ≡ list_any (λ n. not (n == 0) && names_symbol form table n s) numbers
symbol_named form table numbers s =
    by_names_where (λ n. not (n == 0)) (λ (x : Relocation). x.r_symbol) numbers (is_against table s) (relocations_in form s.sh_type s.content)

-- ## Sections

no_number : (k i : Bool) → (k && (false || (i && false))) ≡ false
no_number true true = refl
no_number true false = refl
no_number false i = refl

spread_links : (k a b i x y : Bool) → ((k && (a || (i && b))) || (k && (x || (i && y)))) ≡ (k && ((a || x) || (i && (b || y))))
spread_links false a b i x y = refl
spread_links true true b i x y = refl
spread_links true false b false x y = refl
spread_links true false true true true y = refl
spread_links true false true true false y = refl
spread_links true false false true x y = refl

by_links : (k i : Bool) (link info : ℕ) (gone : List ℕ) → (k && (is_one_of gone link || (i && is_one_of gone info))) ≡ list_any (λ n. k && (n == link || (i && n == info))) gone
by_links k i link info [] = no_number k i
by_links k i link info (n ∷ ns) =
    sym (spread_links k (n == link) (n == info) i (is_one_of ns link) (is_one_of ns info))
    ∙ ap (λ b. (k && (n == link || (i && n == info))) || b) (by_links k i link info ns)

-- a section names one of those that go
pub section_named : (gone : List ℕ) (s : ImageSection) → names_gone gone s ≡ list_any (names_section s) gone
section_named gone s = by_links (not (s.sh_type == 0)) (is_info_number s) s.sh_link s.sh_info gone
