-- Whether a list has an entry with a tag, once others of its entries were changed, or one was put last.
use Rattle.std.proofs.Common.{◌≡◌, ℕ, Bool, true, false, ◌||◌, List, [], ◌∷◌, ◌++◌, refl, sym, ap, ◌∙◌}
use Rattle.std.specs.Prelude.{if◌then◌else◌, ◌==◌}
use Rattle.std.proofs.lemmas.Bool.{cond-true, cond-false, eqb-true}
use Rattle.std.proofs.lemmas.List.Folds.{list_any-append}
use Rattle.elf_image.specs.Dynamic.{Auto, Entry, Integer, Text}
use Rattle.elf_image.specs.Image.{entry_tag, lists_tag}
use Rattle.elf_edits.specs.Entries.{changed_where, has_tag, with_bits, with_tag, with_text_changed}
use Rattle.elf_edits.proofs.ListLaws.{by_test, list_any-map}

module _ (tag : ℕ) where
  -- an entry with another tag
  pub not_it : (other : ℕ) (e : Entry) → (other == tag) ≡ false → has_tag other e ≡ true → has_tag tag e ≡ false
  not_it other e apart h = ap (λ t. t == tag) (eqb-true (entry_tag e) other h) ∙ apart

  -- entries that keep their tag, or change it from one that isn't this to another
  pub kept_tag : (test : Entry → Bool) (change : Entry → Entry) → ((e : Entry) → test e ≡ true → has_tag tag (change e) ≡ has_tag tag e) → (es : List Entry) → lists_tag tag (changed_where test change es) ≡ lists_tag tag es
  kept_tag test change same es = list_any-map (has_tag tag) (λ e. if test e then change e else e) each es
    where
      each : (e : Entry) → has_tag tag (if test e then change e else e) ≡ has_tag tag e
      each e = by_test (test e)
          (λ holds. ap (has_tag tag) (cond-true (test e) (change e) e holds) ∙ same e holds)
          (λ fails. ap (has_tag tag) (cond-false (test e) (change e) e fails))

  pub added_last : (es : List Entry) (e : Entry) → has_tag tag e ≡ false → lists_tag tag (es ++ e ∷ []) ≡ lists_tag tag es
  added_last es e other = list_any-append (has_tag tag) es (e ∷ []) ∙ ap (λ b. lists_tag tag es || (b || false)) other ∙ or_false (lists_tag tag es)
    where
      or_false : (b : Bool) → (b || false) ≡ b
      or_false true = refl
      or_false false = refl

  pub either_list : (b : Bool) (es fs gs : List Entry) → lists_tag tag fs ≡ lists_tag tag es → lists_tag tag gs ≡ lists_tag tag es → lists_tag tag (if b then fs else gs) ≡ lists_tag tag es
  either_list true es fs gs e f = e
  either_list false es fs gs e f = f

  pub changed_text : (change : List ℕ → List ℕ) (e : Entry) → has_tag tag (with_text_changed change e) ≡ has_tag tag e
  changed_text change (Auto t) = refl
  changed_text change (Integer t value) = refl
  changed_text change (Text t text) = refl

  pub changed_bits : (bits : ℕ) (e : Entry) → has_tag tag (with_bits bits e) ≡ has_tag tag e
  changed_bits bits (Auto t) = refl
  changed_bits bits (Integer t value) = refl
  changed_bits bits (Text t text) = refl

  pub changed_tag : (old new : ℕ) (e : Entry) → (old == tag) ≡ false → (new == tag) ≡ false → has_tag old e ≡ true → has_tag tag (with_tag new e) ≡ has_tag tag e
  changed_tag old new (Auto t) o n h = n ∙ sym (not_it old (Auto t) o h)
  changed_tag old new (Integer t value) o n h = n ∙ sym (not_it old (Integer t value) o h)
  changed_tag old new (Text t text) o n h = n ∙ sym (not_it old (Text t text) o h)
