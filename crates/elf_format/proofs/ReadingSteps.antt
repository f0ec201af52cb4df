-- What readers do step by step: what was made so far, and what is still to be made of the rest.
use Rattle.std.proofs.Common.{◌≡◌, ◌≤◌, ◌<◌, ℕ, zero, suc, ◌+◌, List, [], ◌∷◌, ◌++◌, length, take, drop, get_or, refl, sym, ap, ◌∙◌, subst, inl, inr, Option, Some, None, arith}
use Rattle.std.specs.List.{slice_get}
use Rattle.std.proofs.lemmas.List.{append-nil, append_assoc, drop_all, drop_more}
use Rattle.std.proofs.lemmas.Option.{slice_get-get_or, slice_get_past}
use Rattle.std.proofs.lemmas.Bool.{cases_lt, eqb-true}
use Rattle.memchr.specs.Find.{Nowhere, Passes, is_byte}
use Rattle.patch_bytes.specs.Memory.{◌>>=◌, memory_of, text_at}
use Rattle.patch_bytes.proofs.MemoryLaws.{some_bind}
use Rattle.elf_format.specs.declared.view_fault.ViewFault.{ViewFault}
use Rattle.elf_format.specs.declared.view_fault.ViewFault.TheVariants as faults
use Rattle.elf_format.specs.Options.{each}
use Rattle.elf_format.specs.Answers.{Fails}
use Rattle.elf_format.specs.Records.{EntryNumbers, SymbolNumbers}
use Rattle.elf_format.specs.Versions.{NeedNameNumbers}

-- what was made, and then what the rest gives
abbrev pub with_front : {A : Type 0} → List A → Option (List A) → Option (List A)
with_front front rest = rest >>= (λ xs. Some (front ++ xs))

pub with_front-cons : {A : Type 0} → (front : List A) (x : A) (rest : Option (List A)) → with_front front (rest >>= (λ xs. Some (x ∷ xs))) ≡ with_front (front ++ x ∷ []) rest
with_front-cons front x None = refl
with_front-cons front x (Some xs) = ap Some (sym (append_assoc front (x ∷ []) xs))

-- ## One value for each element

module _ {A B : Type 0} (f : A → Option B) where
  one_more : (xs : List A) (i : ℕ) (d : A) (o : Option B) → i < length xs → f (get_or xs i d) ≡ o → each f (drop i xs) ≡ (o >>= λ y. each f (drop (i + 1) xs) >>= (λ ys. Some (y ∷ ys)))
  unfolding each
  one_more xs i d o less e = ap (each f) (drop_more xs i d less) ∙ ap (λ v. v >>= (λ y. each f (drop (i + 1) xs) >>= (λ ys. Some (y ∷ ys)))) e

  pub each_goes : (front : List B) (xs : List A) (i : ℕ) (d : A) (y : B) (whole : Option (List B)) → i < length xs → f (get_or xs i d) ≡ Some y
      → with_front front (each f (drop i xs)) ≡ whole → with_front (front ++ y ∷ []) (each f (drop (i + 1) xs)) ≡ whole
  each_goes front xs i d y whole less e so_far =
      sym (with_front-cons front y (each f (drop (i + 1) xs))) ∙ sym (ap (with_front front) (one_more xs i d (Some y) less e)) ∙ so_far

  pub each_ends : (fault : ViewFault) (front : List B) (xs : List A) (i : ℕ) (d : A) (whole : Option (List B)) → i < length xs → Fails fault (f (get_or xs i d))
      → with_front front (each f (drop i xs)) ≡ whole → Fails fault whole
  each_ends faults.Absent front xs i d whole less e so_far = sym so_far ∙ ap (with_front front) (one_more xs i d None less e)
  each_ends faults.Memory front xs i d whole less e so_far = tt

  pub each_done : (front : List B) (xs : List A) (i : ℕ) (whole : Option (List B)) → length xs ≤ i → with_front front (each f (drop i xs)) ≡ whole → whole ≡ Some front
  unfolding each
  each_done front xs i whole past so_far = sym so_far ∙ ap (λ l. with_front front (each f l)) (drop_all i xs past) ∙ ap Some (append-nil front)

-- ## Texts

-- the bytes up to the first NUL
unfoldable pub text_in : List ℕ → Option (List ℕ)
text_in [] = None
text_in (zero ∷ bytes) = Some []
text_in (suc b ∷ bytes) = text_in bytes >>= (λ rest. Some (suc b ∷ rest))

after : ℕ → List ℕ → ℕ → ℕ → Option (List ℕ)
after room xs a byte = elim byte [ zero ↦ Some [] | suc b ↦ text_at room (memory_of xs) (a + 1) >>= (λ rest. Some (suc b ∷ rest)) ]

after-in : (room : ℕ) (xs : List ℕ) (a : ℕ) → text_at room (memory_of xs) (a + 1) ≡ text_in (drop (a + 1) xs) → (byte : ℕ) → after room xs a byte ≡ text_in (byte ∷ drop (a + 1) xs)
unfolding after text_in
after-in room xs a same zero = refl
after-in room xs a same (suc b) = ap (λ o. o >>= (λ rest. Some (suc b ∷ rest))) same

-- a text of a list's bytes, where there is room for all of them
pub text_at-in : (room a : ℕ) (xs : List ℕ) → length xs ≤ a + room → text_at room (memory_of xs) a ≡ text_in (drop a xs)
unfolding text_at text_in after
text_at-in zero a xs long = ap text_in (sym (drop_all a xs (omega arith)))
text_at-in (suc room) a xs long =
    let more = text_at-in room (a + 1) xs (omega arith) in
    elim (cases_lt a (length xs)) [
      | inl less ↦
          some_bind (slice_get xs a) (after room xs a) (get_or xs a 0) (slice_get-get_or xs a 0 less)
          ∙ after-in room xs a more (get_or xs a 0) ∙ ap text_in (sym (drop_more xs a 0 less))
      | inr past ↦ ap (λ o. o >>= (after room xs a)) (slice_get_past xs a past) ∙ ap text_in (sym (drop_all a xs past))
    ]

-- the first byte that is 0 ends the text
pub text_found : (xs : List ℕ) (k : ℕ) → k < length xs → Passes (is_byte 0) xs k → Nowhere (Passes (is_byte 0) xs) 0 k → text_in xs ≡ Some (take k xs)
unfolding text_in
text_found [] k less here before = absurd (omega arith)
text_found (zero ∷ xs) zero less here before = refl
text_found (zero ∷ xs) (suc k) less here before = absurd (before 0 (omega arith) (omega arith) refl)
text_found (suc b ∷ xs) zero less here before = let is_zero : suc b ≡ 0 = eqb-true (suc b) 0 here in absurd (omega arith)
text_found (suc b ∷ xs) (suc k) less here before =
    ap (λ o. o >>= (λ rest. Some (suc b ∷ rest))) (text_found xs k (omega arith) here (λ i low high. before (suc i) (omega arith) (omega arith)))

-- with no byte that is 0 there is no text
pub text_missing : (xs : List ℕ) → Nowhere (Passes (is_byte 0) xs) 0 (length xs) → text_in xs ≡ None
unfolding text_in
text_missing [] none = refl
text_missing (zero ∷ xs) none = absurd (none 0 (omega arith) (omega arith) refl)
text_missing (suc b ∷ xs) none =
    ap (λ o. o >>= (λ rest. Some (suc b ∷ rest))) (text_missing xs (λ i low high. none (suc i) (omega arith) (omega arith)))

-- elements that stand for none
abbrev pub no_symbol : SymbolNumbers
no_symbol = record { st_name = 0; st_info = 0; st_other = 0; st_shndx = 0; st_value = 0; st_size = 0 }

abbrev pub no_entry : EntryNumbers
no_entry = record { d_tag = 0; d_value = 0 }

abbrev pub no_name : NeedNameNumbers
no_name = record { index = 0; name = 0; flags = 0 }

-- ## Steps one after another

-- what is missing leaves what needs it missing
pub bind_fails : {A B : Type 0} → (fault : ViewFault) (o : Option A) (f : A → Option B) → Fails fault o → Fails fault (o >>= f)
bind_fails faults.Absent o f h = ap (λ v. v >>= f) h
bind_fails faults.Memory o f h = tt

pub bind_on : {A B : Type 0} → (fault : ViewFault) (o : Option A) (f : A → Option B) (x : A) → o ≡ Some x → Fails fault (f x) → Fails fault (o >>= f)
bind_on fault o f x e h = subst (λ v. Fails fault (v >>= f)) (sym e) h
