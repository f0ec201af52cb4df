-- The length of a table of texts that stand in their order from their ends.
use Rattle.std.proofs.Common.{◌≡◌, ◌≢◌, ℕ, ◌+◌, ◌<◌, true, false, List, [], ◌∷◌, length, get_or, refl, sym, subst, ap, ◌∙◌, inl, inr, suc, nat_eq, map, ◌≤◌, ◌^◌, Some, arith}
use Rattle.std.specs.Prelude.{◌||◌, not, filter}
use Rattle.std.specs.Cmp.Lexicographic.{bytes_decides}
use Rattle.std.specs.List.{ends_with, list_all}
use Rattle.std.specs.List.Sorted.{IsPermutation, IsSortedBy}
use Rattle.std.specs.Str.{bytes_eq}
use Rattle.std.proofs.lemmas.Bool.{and_from, and_parts, cond-false, cond-true, true≢false}
use Rattle.std.proofs.lemmas.List.{get_or-map, length-map}
use Rattle.std.proofs.lemmas.List.Sorted.{Contains-permutation, IsPermutation-sym, sorted_far}
use Rattle.elf_tables.specs.Strings.{IsTableOf, Strings, distinct, place_of, size_of_text, stands_alone, table_length}
use Rattle.elf_tables.specs.StringSteps.{IsLaid, Numbered, appended, is_before, laid_length, texts_in}
use Rattle.elf_tables.proofs.TextLists.{Contains-from_Holds, Holds, HoldsOnce, Holds-behind, Holds-cases, Holds-distinct, Holds-filter, Holds-first, Holds-from_Contains, Holds-from_any, Holds-nothing, HoldsOnce-cons, HoldsOnce-distinct, HoldsOnce-filter, HoldsOnce-nil, any_from_Holds, by_test, distinct-held, filter-held, same_or_apart, sum_by-same_texts}
use Rattle.elf_tables.proofs.TextOrder.{IsEnd, IsEnd-empty, IsEnd-from, IsEnd-refl, NotBefore, between_texts, end_not_before, end_of_empty, ends_with-from, is_before-NotBefore, is_before-order}

-- ## Texts in their order

-- no text stands before one that it ends, or that is above it
pub Falls : List (List ℕ) → Type 0
Falls [] = Unit {0}
Falls (t ∷ ts) = ((u : List ℕ) → Holds ts u → NotBefore t u) × Falls ts

falls_first : (t : List ℕ) (ts : List (List ℕ)) → Falls (t ∷ ts) → (u : List ℕ) → Holds ts u → NotBefore t u
unfolding Falls
falls_first t ts falls = falls.0

falls_behind : (t : List ℕ) (ts : List (List ℕ)) → Falls (t ∷ ts) → Falls ts
unfolding Falls
falls_behind t ts falls = falls.1

falls_from_places : (ts : List (List ℕ)) → ((i j : ℕ) (d : List ℕ) → i < j → j < length ts → NotBefore (get_or ts i d) (get_or ts j d)) → Falls ts
unfolding Falls
falls_from_places [] at = tt
falls_from_places (t ∷ ts) at = (
  (λ u h. let (k, within, e) = Contains-from_Holds ts u h in subst (NotBefore t) e (at 0 (suc k) u (omega arith) (omega arith))),
  falls_from_places ts (λ i j d order within. at (suc i) (suc j) d (omega arith) (omega arith)),
)

pub falls_from_sorted : (ts : List (List ℕ)) → IsSortedBy is_before ts → Falls ts
falls_from_sorted ts sorted = falls_from_places ts (λ i j d order within.
    is_before-NotBefore (get_or ts j d) (get_or ts i d) (sorted_far is_before (is_before-order (λ t. t)) ts sorted i j d (omega arith) within))

pub sorted-map : {A : Type 0} (f : A → List ℕ) (ys : List A) → IsSortedBy (λ x y. is_before (f x) (f y)) ys → IsSortedBy is_before (map f ys)
sorted-map f [] sorted k d low high = absurd (omega arith)
sorted-map f (y ∷ ys) sorted k d low high =
    let within : k + 1 < length (y ∷ ys) = omega (arith, length-map (y ∷ ys) f) in
    rw (get_or-map f (y ∷ ys) (k + 1) y d within, get_or-map f (y ∷ ys) k y d (omega arith)) (sorted k y low within)

-- ## The texts that are put behind the table

pub appended-here : (last t : List ℕ) (ts : List (List ℕ)) → ends_with nat_eq last t ≡ false → appended last (t ∷ ts) ≡ t ∷ appended t ts
appended-here last t ts e = cond-false (ends_with nat_eq last t) (appended t ts) (t ∷ appended t ts) e

pub appended-shared : (last t : List ℕ) (ts : List (List ℕ)) → ends_with nat_eq last t ≡ true → appended last (t ∷ ts) ≡ appended t ts
appended-shared last t ts e = cond-true (ends_with nat_eq last t) (appended t ts) (t ∷ appended t ts) e

-- the texts that are put behind the table are among the texts
appended-held : (last x : List ℕ) (ts : List (List ℕ)) → Holds (appended last ts) x → Holds ts x
appended-held last x [] h = h
appended-held last x (t ∷ ts) h = by_test (ends_with nat_eq last t)
    (λ shared. Holds-behind t x ts (appended-held t x ts (subst (λ (l : List (List ℕ)). Holds l x) (appended-shared last t ts shared) h)))
    (λ here. elim (Holds-cases t x (appended t ts) (subst (λ (l : List (List ℕ)). Holds l x) (appended-here last t ts here) h)) [
      | inl e ↦ subst (λ (y : List ℕ). Holds (t ∷ ts) y) (sym e) (Holds-first t ts)
      | inr g ↦ Holds-behind t x ts (appended-held t x ts g)
    ])

-- a text that doesn't stand within another: neither the text before ends with it nor another of the list
record NeedsBytes (last : List ℕ) (ts : List (List ℕ)) (x : List ℕ) : Type 0 where
  first : IsEnd last x → ⊥
  others : (u : List ℕ) → Holds ts u → IsEnd u x → u ≡ x

-- one text more in front, of which each text ends that the text before it ends with
needs_step : (last t : List ℕ) (ts : List (List ℕ)) → ((x : List ℕ) → Holds ts x → IsEnd last x → IsEnd t x) → Falls (t ∷ ts)
    → ((x : List ℕ) → Holds (appended t ts) x → NeedsBytes t ts x) → (x : List ℕ) → Holds (appended last (t ∷ ts)) x → NeedsBytes last (t ∷ ts) x
needs_step last t ts covers falls inner x h = by_test (ends_with nat_eq last t)
    (λ shared. later (subst (λ (l : List (List ℕ)). Holds l x) (appended-shared last t ts shared) h))
    (λ here. elim (Holds-cases t x (appended t ts) (subst (λ (l : List (List ℕ)). Holds l x) (appended-here last t ts here) h)) [
      | inl e ↦ subst (NeedsBytes last (t ∷ ts)) (sym e) (itself here)
      | inr g ↦ later g
    ])
  where
    later : Holds (appended t ts) x → NeedsBytes last (t ∷ ts) x
    later g = let needs : NeedsBytes t ts x = inner x g in record {
      first = λ end. needs.first (covers x (appended-held t x ts g) end);
      others = λ u held end. elim (Holds-cases t u ts held) [
        | inl e ↦ absurd (needs.first (subst (λ (y : List ℕ). IsEnd y x) e end))
        | inr k ↦ needs.others u k end
      ];
    }

    itself : ends_with nat_eq last t ≡ false → NeedsBytes last (t ∷ ts) t
    itself here = record {
      first = λ end. true≢false (sym (ends_with-from last t end) ∙ here);
      others = λ u held end. elim (Holds-cases t u ts held) [
        | inl e ↦ e
        | inr k ↦ end_not_before u t (falls_first t ts falls u k) end
      ];
    }

needs_behind : (last : List ℕ) (ts : List (List ℕ)) → Falls (last ∷ ts) → (x : List ℕ) → Holds (appended last ts) x → NeedsBytes last ts x
needs_behind last [] falls x h = absurd (Holds-nothing x h)
needs_behind last (t ∷ ts) falls x h =
    let rest : Falls (t ∷ ts) = falls_behind last (t ∷ ts) falls in
    needs_step last t ts
    (λ y held end. between_texts y t last (falls_first t ts rest y held) (falls_first last (t ∷ ts) falls t (Holds-first t ts)) end)
    rest (needs_behind t ts rest) x h

-- the texts that are put behind the table need bytes of their own
appended-needs : (ts : List (List ℕ)) → Falls ts → (x : List ℕ) → Holds (appended [] ts) x → NeedsBytes [] ts x
appended-needs [] falls x h = absurd (Holds-nothing x h)
appended-needs (t ∷ ts) falls x h =
    needs_step [] t ts (λ y held end. subst (IsEnd t) (sym (end_of_empty y end)) (IsEnd-empty t)) falls (needs_behind t ts falls) x h

-- each text that needs bytes of its own is put behind the table
first-appended : (last t : List ℕ) (ts : List (List ℕ)) → NeedsBytes last (t ∷ ts) t → Holds (appended last (t ∷ ts)) t
first-appended last t ts own = by_test (ends_with nat_eq last t)
    (λ shared. absurd (own.first (IsEnd-from last t shared)))
    (λ here. subst (λ (l : List (List ℕ)). Holds l t) (sym (appended-here last t ts here)) (Holds-first t (appended t ts)))

behind-appended : (last t x : List ℕ) (ts : List (List ℕ)) → Holds (appended t ts) x → Holds (appended last (t ∷ ts)) x
behind-appended last t x ts behind = by_test (ends_with nat_eq last t)
    (λ shared. subst (λ (l : List (List ℕ)). Holds l x) (sym (appended-shared last t ts shared)) behind)
    (λ here. subst (λ (l : List (List ℕ)). Holds l x) (sym (appended-here last t ts here)) (Holds-behind t x (appended t ts) behind))

needs-behind : (last t x : List ℕ) (ts : List (List ℕ)) → NeedsBytes last (t ∷ ts) x → x ≢ t → NeedsBytes t ts x
needs-behind last t x ts needs ne = record {
  first = λ end. ne (sym (needs.others t (Holds-first t ts) end));
  others = λ u k end. needs.others u (Holds-behind t u ts k) end;
}

needs-appended : (last : List ℕ) (ts : List (List ℕ)) (x : List ℕ) → Holds ts x → NeedsBytes last ts x → Holds (appended last ts) x
needs-appended last [] x h needs = h
needs-appended last (t ∷ ts) x h needs = elim (same_or_apart x t) [
  | inl e ↦ subst (λ (y : List ℕ). Holds (appended last (t ∷ ts)) y) (sym e) (first-appended last t ts (subst (NeedsBytes last (t ∷ ts)) e needs))
  | inr ne ↦ behind-appended last t x ts (needs-appended t ts x (elim (Holds-cases t x ts h) [ inl e ↦ absurd (ne e) | inr k ↦ k ]) (needs-behind last t x ts needs ne))
]

-- each is put there once
once_behind_first : (t : List ℕ) (ts : List (List ℕ)) → Falls (t ∷ ts) → Holds (appended t ts) t → ⊥
once_behind_first t ts falls h = let needs : NeedsBytes t ts t = needs_behind t ts falls t h in needs.first (IsEnd-refl t)

appended-once : (last : List ℕ) (ts : List (List ℕ)) → Falls ts → HoldsOnce (appended last ts)
appended-once last [] falls = HoldsOnce-nil
appended-once last (t ∷ ts) falls =
    let rest : HoldsOnce (appended t ts) = appended-once t ts (falls_behind t ts falls) in
    by_test (ends_with nat_eq last t)
    (λ shared. subst HoldsOnce (sym (appended-shared last t ts shared)) rest)
    (λ here. subst HoldsOnce (sym (appended-here last t ts here)) (HoldsOnce-cons t (appended t ts) (once_behind_first t ts falls) rest))

-- ## The length

others_from : (ts : List (List ℕ)) (x : List ℕ) → list_all (λ u. bytes_eq u x || not (ends_with nat_eq u x)) ts ≡ true → (u : List ℕ) → Holds ts u → IsEnd u x → u ≡ x
others_from [] x e u h end = absurd (Holds-nothing u h)
others_from (t ∷ ts) x e u h end =
    let parts = and_parts (bytes_eq t x || not (ends_with nat_eq t x)) (list_all (λ v. bytes_eq v x || not (ends_with nat_eq v x)) ts) e in
    elim (Holds-cases t u ts h) [
      | inl same ↦ same ∙ by_test (bytes_eq t x)
          (λ yes. (bytes_decides t x).0 yes)
          (λ no. absurd (true≢false (sym parts.0 ∙ ap (λ b. b || not (ends_with nat_eq t x)) no ∙ ap not (ends_with-from t x (subst (λ (y : List ℕ). IsEnd y x) same end)))))
      | inr k ↦ others_from ts x parts.1 u k end
    ]

all_from_others : (ts : List (List ℕ)) (x : List ℕ) → ((u : List ℕ) → Holds ts u → IsEnd u x → u ≡ x) → list_all (λ u. bytes_eq u x || not (ends_with nat_eq u x)) ts ≡ true
all_from_others [] x others = refl
all_from_others (t ∷ ts) x others =
    and_from (bytes_eq t x || not (ends_with nat_eq t x)) (list_all (λ v. bytes_eq v x || not (ends_with nat_eq v x)) ts)
    (by_test (ends_with nat_eq t x)
    (λ yes. ap (λ b. b || not (ends_with nat_eq t x)) ((bytes_decides t x).1 (others t (Holds-first t ts) (IsEnd-from t x yes))))
    (λ no. by_test (bytes_eq t x)
    (λ same. ap (λ b. b || not (ends_with nat_eq t x)) same)
    (λ differs. ap (λ b. b || not (ends_with nat_eq t x)) differs ∙ ap not no)))
    (all_from_others ts x (λ u h end. others u (Holds-behind t u ts h) end))

alone_from_needs : (texts ts : List (List ℕ)) (x : List ℕ) → ((u : List ℕ) → Holds texts u → Holds ts u) → NeedsBytes [] ts x → stands_alone texts x ≡ true
alone_from_needs texts ts x there needs =
    and_from (not (bytes_eq x [])) (list_all (λ u. bytes_eq u x || not (ends_with nat_eq u x)) texts)
    (by_test (bytes_eq x [])
    (λ empty. absurd (needs.first (subst (IsEnd []) (sym ((bytes_decides x []).0 empty)) (IsEnd-refl []))))
    (λ filled. ap not filled))
    (all_from_others texts x (λ u h end. needs.others u (there u h) end))

needs_from_alone : (texts ts : List (List ℕ)) (x : List ℕ) → ((u : List ℕ) → Holds ts u → Holds texts u) → stands_alone texts x ≡ true → NeedsBytes [] ts x
needs_from_alone texts ts x back alone =
    let parts = and_parts (not (bytes_eq x [])) (list_all (λ u. bytes_eq u x || not (ends_with nat_eq u x)) texts) alone in
    record {
      first = λ end. true≢false (sym parts.0 ∙ ap not ((bytes_decides x []).1 (end_of_empty x end)));
      others = λ u h end. others_from texts x parts.1 u (back u h) end;
    }

-- the table of texts in their order is as long as the table of the texts
pub laid_length-sorted : (texts ts : List (List ℕ)) → IsPermutation texts ts → Falls ts → laid_length ts ≡ table_length texts
unfolding table_length
laid_length-sorted texts ts moved falls =
    let there : (x : List ℕ) → Holds texts x → Holds ts x = λ x h. Holds-from_Contains ts x (Contains-permutation texts ts x moved (Contains-from_Holds texts x h)) in
    let back : (x : List ℕ) → Holds ts x → Holds texts x = λ x h. Holds-from_Contains texts x (Contains-permutation ts texts x (IsPermutation-sym texts ts moved) (Contains-from_Holds ts x h)) in
    ap (λ n. 1 + n) (sum_by-same_texts size_of_text (appended [] ts) (filter (stands_alone texts) (distinct texts))
    (appended-once [] ts falls)
    (HoldsOnce-filter (stands_alone texts) (distinct texts) (HoldsOnce-distinct texts))
    (λ x h. Holds-filter (stands_alone texts) (distinct texts) x (Holds-distinct texts x (back x (appended-held [] x ts h))) (alone_from_needs texts ts x there (appended-needs ts falls x h)))
    (λ x h. let (held, alone) = filter-held (stands_alone texts) (distinct texts) x h in needs-appended [] ts x (there x (distinct-held texts x held)) (needs_from_alone texts ts x back alone)))

-- ## The table of the texts

pub table_of_laid : (texts : List (List ℕ)) (ks : List Numbered) (table : Strings) → IsPermutation texts (texts_in ks) → Falls (texts_in ks) → IsLaid ks table
    → map Some table.in_order ≡ map (place_of table) texts → IsTableOf texts table × (table_length texts ≤ 2 ^ 32)
table_of_laid texts ks table moved falls laid in_order =
    let ts : List (List ℕ) = texts_in ks in
    let long : laid_length ts ≡ table_length texts = laid_length-sorted texts ts moved falls in (
      record {
        added = λ text h. laid.known text ∙ any_from_Holds ts text (Holds-from_Contains ts text (Contains-permutation texts ts text moved h));
        others = λ text h. Contains-permutation ts texts text (IsPermutation-sym texts ts moved) (Contains-from_Holds ts text (Holds-from_any ts text (sym (laid.known text) ∙ h)));
        long = laid.long ∙ long;
        first = laid.first;
        in_order = in_order;
      },
      subst (λ (n : ℕ). n ≤ 2 ^ 32) long laid.fits,
    )
