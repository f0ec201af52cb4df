-- Lists of texts: which texts they hold, and sums over lists that hold each text once.
use Rattle.std.proofs.Common.{◌≡◌, ◌≢◌, ◌⊎◌, ℕ, ◌+◌, ◌<◌, Bool, true, false, List, [], ◌∷◌, length, get_or, refl, sym, subst, ap, ◌∙◌, inl, inr, suc, zero, arith}
use Rattle.std.specs.Prelude.{◌||◌, Contains, filter, sum_by, if◌then◌else◌}
use Rattle.std.specs.Cmp.Lexicographic.{bytes_decides}
use Rattle.std.specs.List.{list_any}
use Rattle.std.specs.Str.{bytes_eq}
use Rattle.std.proofs.lemmas.Bool.{cond-false, cond-true, true≢false}
use Rattle.std.proofs.lemmas.List.Sums.{sum_by-cons}
use Rattle.elf_tables.specs.Strings.{distinct}

-- cases on a test, with what it is
pub by_test : {P : Type 0} (b : Bool) → (b ≡ true → P) → (b ≡ false → P) → P
by_test true then_so else_so = then_so refl
by_test false then_so else_so = else_so refl

pub same_number : (i k : ℕ) → (i ≡ k) ⊎ (i ≢ k)
same_number zero zero = inl refl
same_number zero (suc k) = inr (λ e. absurd (omega (arith, e)))
same_number (suc i) zero = inr (λ e. absurd (omega (arith, e)))
same_number (suc i) (suc k) = elim (same_number i k) [ inl same ↦ inl (ap suc same) | inr other ↦ inr (λ e. other (omega (arith, e))) ]

pub same_or_apart : (t u : List ℕ) → (t ≡ u) ⊎ (t ≢ u)
same_or_apart t u = by_test (bytes_eq t u)
    (λ yes. inl ((bytes_decides t u).0 yes))
    (λ no. inr (λ e. true≢false (sym ((bytes_decides t u).1 e) ∙ no)))

-- the list holds the text
pub Holds : List (List ℕ) → List ℕ → Type 0
Holds [] t = ⊥
Holds (u ∷ us) t = (t ≡ u) ⊎ Holds us t

pub Holds-from_any : (ts : List (List ℕ)) (t : List ℕ) → list_any (bytes_eq t) ts ≡ true → Holds ts t
unfolding Holds
Holds-from_any [] t e = absurd (true≢false (sym e))
Holds-from_any (u ∷ ts) t e = by_test (bytes_eq t u)
    (λ yes. inl ((bytes_decides t u).0 yes))
    (λ no. inr (Holds-from_any ts t (sym (ap (λ b. b || list_any (bytes_eq t) ts) no) ∙ e)))

pub any_from_Holds : (ts : List (List ℕ)) (t : List ℕ) → Holds ts t → list_any (bytes_eq t) ts ≡ true
unfolding Holds
any_from_Holds [] t h = absurd h
any_from_Holds (u ∷ ts) t (inl e) = ap (λ b. b || list_any (bytes_eq t) ts) ((bytes_decides t u).1 e)
any_from_Holds (u ∷ ts) t (inr h) = by_test (bytes_eq t u)
    (λ yes. ap (λ b. b || list_any (bytes_eq t) ts) yes)
    (λ no. ap (λ b. b || list_any (bytes_eq t) ts) no ∙ any_from_Holds ts t h)

pub Holds-from_place : (ts : List (List ℕ)) (t : List ℕ) (k : ℕ) (d : List ℕ) → k < length ts → get_or ts k d ≡ t → Holds ts t
unfolding Holds
Holds-from_place [] t k d within e = absurd (omega arith)
Holds-from_place (u ∷ ts) t zero d within e = inl (sym e)
Holds-from_place (u ∷ ts) t (suc k) d within e = inr (Holds-from_place ts t k d (omega arith) e)

pub Contains-from_Holds : (ts : List (List ℕ)) (t : List ℕ) → Holds ts t → Contains ts t
unfolding Holds
Contains-from_Holds [] t h = absurd h
Contains-from_Holds (u ∷ ts) t (inl e) = (0, omega arith, sym e)
Contains-from_Holds (u ∷ ts) t (inr h) = let (k, within, e) = Contains-from_Holds ts t h in (suc k, omega arith, e)

pub Holds-from_Contains : (ts : List (List ℕ)) (t : List ℕ) → Contains ts t → Holds ts t
Holds-from_Contains ts t (k, within, e) = Holds-from_place ts t k t within e

pub Holds-first : (t : List ℕ) (ts : List (List ℕ)) → Holds (t ∷ ts) t
unfolding Holds
Holds-first t ts = inl refl

pub Holds-behind : (u t : List ℕ) (ts : List (List ℕ)) → Holds ts t → Holds (u ∷ ts) t
unfolding Holds
Holds-behind u t ts h = inr h

pub Holds-cases : (u t : List ℕ) (ts : List (List ℕ)) → Holds (u ∷ ts) t → (t ≡ u) ⊎ Holds ts t
unfolding Holds
Holds-cases u t ts h = h

pub Holds-nothing : (t : List ℕ) → Holds [] t → ⊥
unfolding Holds
Holds-nothing t h = h

-- ## Lists that hold each text once

pub HoldsOnce : List (List ℕ) → Type 0
HoldsOnce [] = Unit {0}
HoldsOnce (t ∷ ts) = (Holds ts t → ⊥) × HoldsOnce ts

pub HoldsOnce-nil : HoldsOnce []
unfolding HoldsOnce
HoldsOnce-nil = tt

pub HoldsOnce-cons : (t : List ℕ) (ts : List (List ℕ)) → (Holds ts t → ⊥) → HoldsOnce ts → HoldsOnce (t ∷ ts)
unfolding HoldsOnce
HoldsOnce-cons t ts new once = (new, once)

once_first : (t : List ℕ) (ts : List (List ℕ)) → HoldsOnce (t ∷ ts) → Holds ts t → ⊥
unfolding HoldsOnce
once_first t ts once = once.0

once_behind : (t : List ℕ) (ts : List (List ℕ)) → HoldsOnce (t ∷ ts) → HoldsOnce ts
unfolding HoldsOnce
once_behind t ts once = once.1

-- the list without a text, where that stands first
without : List ℕ → List (List ℕ) → List (List ℕ)
without t [] = []
without t (u ∷ us) = if bytes_eq t u then us else u ∷ without t us

without-here : (t u : List ℕ) (us : List (List ℕ)) → bytes_eq t u ≡ true → without t (u ∷ us) ≡ us
unfolding without
without-here t u us e = cond-true (bytes_eq t u) us (u ∷ without t us) e

without-behind : (t u : List ℕ) (us : List (List ℕ)) → bytes_eq t u ≡ false → without t (u ∷ us) ≡ u ∷ without t us
unfolding without
without-behind t u us e = cond-false (bytes_eq t u) us (u ∷ without t us) e

Holds-along : (us vs : List (List ℕ)) (x : List ℕ) → us ≡ vs → Holds us x → Holds vs x
Holds-along us vs x e h = subst (λ (l : List (List ℕ)). Holds l x) e h

Holds-without : (t x : List ℕ) (us : List (List ℕ)) → Holds us x → x ≢ t → Holds (without t us) x
unfolding Holds
Holds-without t x [] h ne = absurd h
Holds-without t x (u ∷ us) h ne = by_test (bytes_eq t u)
    (λ yes. Holds-along us (without t (u ∷ us)) x (sym (without-here t u us yes))
    (elim h [ inl e ↦ absurd (ne (e ∙ sym ((bytes_decides t u).0 yes))) | inr g ↦ g ]))
    (λ no. Holds-along (u ∷ without t us) (without t (u ∷ us)) x (sym (without-behind t u us no))
    (elim h [ inl e ↦ inl e | inr g ↦ inr (Holds-without t x us g ne) ]))

without-held : (t x : List ℕ) (us : List (List ℕ)) → Holds (without t us) x → Holds us x
unfolding Holds without
without-held t x [] h = h
without-held t x (u ∷ us) h = by_test (bytes_eq t u)
    (λ yes. inr (Holds-along (without t (u ∷ us)) us x (without-here t u us yes) h))
    (λ no. elim (Holds-along (without t (u ∷ us)) (u ∷ without t us) x (without-behind t u us no) h) [ inl e ↦ inl e | inr g ↦ inr (without-held t x us g) ])

without-gone : (t : List ℕ) (us : List (List ℕ)) → HoldsOnce us → Holds (without t us) t → ⊥
unfolding Holds HoldsOnce without
without-gone t [] once h = h
without-gone t (u ∷ us) once h = by_test (bytes_eq t u)
    (λ yes. once.0 (subst (λ (x : List ℕ). Holds us x) ((bytes_decides t u).0 yes) (Holds-along (without t (u ∷ us)) us t (without-here t u us yes) h)))
    (λ no. elim (Holds-along (without t (u ∷ us)) (u ∷ without t us) t (without-behind t u us no) h) [
      | inl e ↦ true≢false (sym ((bytes_decides t u).1 e) ∙ no)
      | inr g ↦ without-gone t us once.1 g
    ])

HoldsOnce-without : (t : List ℕ) (us : List (List ℕ)) → HoldsOnce us → HoldsOnce (without t us)
unfolding HoldsOnce without
HoldsOnce-without t [] once = tt
HoldsOnce-without t (u ∷ us) once = by_test (bytes_eq t u)
    (λ yes. subst HoldsOnce (sym (without-here t u us yes)) once.1)
    (λ no. subst HoldsOnce (sym (without-behind t u us no)) (HoldsOnce-cons u (without t us) (λ h. once.0 (without-held t u us h)) (HoldsOnce-without t us once.1)))

sum_by-without : (f : List ℕ → ℕ) (t : List ℕ) (us : List (List ℕ)) → Holds us t → sum_by f us ≡ f t + sum_by f (without t us)
unfolding Holds
sum_by-without f t [] h = absurd h
sum_by-without f t (u ∷ us) h = by_test (bytes_eq t u)
    (λ yes.
    let rest : sum_by f (without t (u ∷ us)) ≡ sum_by f us = ap (λ l. sum_by f l) (without-here t u us yes) in
    let head : f t ≡ f u = ap f ((bytes_decides t u).0 yes) in
    omega (arith, sum_by-cons f u us))
    (λ no.
    let rest : sum_by f (without t (u ∷ us)) ≡ f u + sum_by f (without t us) = ap (λ l. sum_by f l) (without-behind t u us no) ∙ sum_by-cons f u (without t us) in
    let inner : sum_by f us ≡ f t + sum_by f (without t us) = sum_by-without f t us (elim h [ inl e ↦ absurd (true≢false (sym ((bytes_decides t u).1 e) ∙ no)) | inr g ↦ g ]) in
    omega (arith, sum_by-cons f u us, sum_by-cons f u (without t us)))

-- two lists that hold the same texts, each once, have the same sum
pub sum_by-same_texts : (f : List ℕ → ℕ) (ts us : List (List ℕ)) → HoldsOnce ts → HoldsOnce us → ((x : List ℕ) → Holds ts x → Holds us x) → ((x : List ℕ) → Holds us x → Holds ts x) → sum_by f ts ≡ sum_by f us
sum_by-same_texts f [] [] once_ts once_us there back = refl
sum_by-same_texts f [] (u ∷ us) once_ts once_us there back = absurd (Holds-nothing u (back u (Holds-first u us)))
sum_by-same_texts f (t ∷ ts) us once_ts once_us there back =
    let rest : sum_by f ts ≡ sum_by f (without t us) =
    sum_by-same_texts f ts (without t us) (once_behind t ts once_ts) (HoldsOnce-without t us once_us)
    (λ x h. Holds-without t x us (there x (Holds-behind t x ts h)) (λ e. once_first t ts once_ts (subst (λ (y : List ℕ). Holds ts y) e h)))
    (λ x h. elim (Holds-cases t x ts (back x (without-held t x us h))) [
      | inl e ↦ absurd (without-gone t us once_us (subst (λ (y : List ℕ). Holds (without t us) y) e h))
      | inr g ↦ g
    ]) in
    let whole : sum_by f us ≡ f t + sum_by f (without t us) = sum_by-without f t us (there t (Holds-first t ts)) in
    omega (arith, sum_by-cons f t ts)

-- ## Each text once, and those that pass a test

pub Holds-distinct : (ts : List (List ℕ)) (x : List ℕ) → Holds ts x → Holds (distinct ts) x
unfolding Holds
Holds-distinct [] x h = h
Holds-distinct (t ∷ ts) x h = by_test (list_any (bytes_eq t) ts)
    (λ again. Holds-along (distinct ts) (distinct (t ∷ ts)) x (sym (cond-true (list_any (bytes_eq t) ts) (distinct ts) (t ∷ distinct ts) again))
    (elim h [ inl e ↦ Holds-distinct ts x (subst (λ (y : List ℕ). Holds ts y) (sym e) (Holds-from_any ts t again)) | inr g ↦ Holds-distinct ts x g ]))
    (λ new. Holds-along (t ∷ distinct ts) (distinct (t ∷ ts)) x (sym (cond-false (list_any (bytes_eq t) ts) (distinct ts) (t ∷ distinct ts) new))
    (elim h [ inl e ↦ inl e | inr g ↦ inr (Holds-distinct ts x g) ]))

pub distinct-held : (ts : List (List ℕ)) (x : List ℕ) → Holds (distinct ts) x → Holds ts x
unfolding Holds
distinct-held [] x h = h
distinct-held (t ∷ ts) x h = by_test (list_any (bytes_eq t) ts)
    (λ again. inr (distinct-held ts x (Holds-along (distinct (t ∷ ts)) (distinct ts) x (cond-true (list_any (bytes_eq t) ts) (distinct ts) (t ∷ distinct ts) again) h)))
    (λ new. elim (Holds-along (distinct (t ∷ ts)) (t ∷ distinct ts) x (cond-false (list_any (bytes_eq t) ts) (distinct ts) (t ∷ distinct ts) new) h) [ inl e ↦ inl e | inr g ↦ inr (distinct-held ts x g) ])

pub HoldsOnce-distinct : (ts : List (List ℕ)) → HoldsOnce (distinct ts)
HoldsOnce-distinct [] = HoldsOnce-nil
HoldsOnce-distinct (t ∷ ts) = by_test (list_any (bytes_eq t) ts)
    (λ again. subst HoldsOnce (sym (cond-true (list_any (bytes_eq t) ts) (distinct ts) (t ∷ distinct ts) again)) (HoldsOnce-distinct ts))
    (λ new. subst HoldsOnce (sym (cond-false (list_any (bytes_eq t) ts) (distinct ts) (t ∷ distinct ts) new))
    (HoldsOnce-cons t (distinct ts) (λ h. true≢false (sym (any_from_Holds ts t (distinct-held ts t h)) ∙ new)) (HoldsOnce-distinct ts)))

pub Holds-filter : (p : List ℕ → Bool) (ts : List (List ℕ)) (x : List ℕ) → Holds ts x → p x ≡ true → Holds (filter p ts) x
unfolding Holds
Holds-filter p [] x h passes = h
Holds-filter p (t ∷ ts) x h passes = by_test (p t)
    (λ yes. Holds-along (t ∷ filter p ts) (filter p (t ∷ ts)) x (sym (cond-true (p t) (t ∷ filter p ts) (filter p ts) yes))
    (elim h [ inl e ↦ inl e | inr g ↦ inr (Holds-filter p ts x g passes) ]))
    (λ no. Holds-along (filter p ts) (filter p (t ∷ ts)) x (sym (cond-false (p t) (t ∷ filter p ts) (filter p ts) no))
    (elim h [ inl e ↦ absurd (true≢false (sym passes ∙ ap p e ∙ no)) | inr g ↦ Holds-filter p ts x g passes ]))

pub filter-held : (p : List ℕ → Bool) (ts : List (List ℕ)) (x : List ℕ) → Holds (filter p ts) x → Holds ts x × (p x ≡ true)
unfolding Holds
filter-held p [] x h = absurd h
filter-held p (t ∷ ts) x h = by_test (p t)
    (λ yes. elim (Holds-along (filter p (t ∷ ts)) (t ∷ filter p ts) x (cond-true (p t) (t ∷ filter p ts) (filter p ts) yes) h) [
      | inl e ↦ (inl e, ap p e ∙ yes)
      | inr g ↦ (inr (filter-held p ts x g).0, (filter-held p ts x g).1)
    ])
    (λ no. let g = filter-held p ts x (Holds-along (filter p (t ∷ ts)) (filter p ts) x (cond-false (p t) (t ∷ filter p ts) (filter p ts) no) h) in (inr g.0, g.1))

pub HoldsOnce-filter : (p : List ℕ → Bool) (ts : List (List ℕ)) → HoldsOnce ts → HoldsOnce (filter p ts)
HoldsOnce-filter p [] once = HoldsOnce-nil
HoldsOnce-filter p (t ∷ ts) once = by_test (p t)
    (λ yes. subst HoldsOnce (sym (cond-true (p t) (t ∷ filter p ts) (filter p ts) yes))
    (HoldsOnce-cons t (filter p ts) (λ h. once_first t ts once (filter-held p ts t h).0) (HoldsOnce-filter p ts (once_behind t ts once))))
    (λ no. subst HoldsOnce (sym (cond-false (p t) (t ∷ filter p ts) (filter p ts) no)) (HoldsOnce-filter p ts (once_behind t ts once)))
