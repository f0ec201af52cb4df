-- Steps of shrinking a run path: one more directory.
use Rattle.std.proofs.Common.{◌≡◌, ℕ, ◌+◌, ◌<◌, Bool, true, false, not, List, [], ◌∷◌, ◌++◌, length, take, get_or, map, filter, refl, sym, ap, ◌∙◌, Option, Some, None, Bor}
use Rattle.std.specs.Prelude.{if◌then◌else◌}
use Rattle.std.specs.List.{cons_option, filter_map}
use Rattle.std.proofs.lemmas.Bool.{cond-true, cond-false, true≢false}
use Rattle.std.proofs.lemmas.List.{append_assoc, append-nil, map-append}
use Rattle.std.proofs.lemmas.List.Elements.{filter-append, filter_map-append}
use Rattle.elf_edits.specs.declared.constants.TheConstants.{COLON}
use Rattle.elf_edits.specs.Shrunk.{Removal, Search, reason_of, stays}
use Rattle.elf_edits_shrink.specs.ShrinkModel.{removal_if}
use Rattle.elf_edits.specs.Texts.{has_some, joined_by_colons}
use Rattle.std.proofs.Math.Path.{fun_ext}
use Rattle.elf_edits.proofs.ForCallers.{one_more}

-- one text more behind a colon, or alone
joined_more : (text : List ℕ) (texts : List (List ℕ)) (p : List ℕ) → joined_by_colons ((text ∷ texts) ++ p ∷ []) ≡ joined_by_colons (text ∷ texts) ++ COLON ∷ p
joined_more text [] p = refl
joined_more text (next ∷ texts) p = ap (λ l. text ++ COLON ∷ l) (joined_more next texts p) ∙ sym (append_assoc text (COLON ∷ joined_by_colons (next ∷ texts)) (COLON ∷ p))

joined_push : (texts : List (List ℕ)) (first : Bool) (p : List ℕ) → first ≡ not (has_some texts) → joined_by_colons (texts ++ p ∷ []) ≡ (if first then joined_by_colons texts ++ p else joined_by_colons texts ++ COLON ∷ p)
joined_push [] true p h = refl
joined_push [] false p h = absurd (true≢false (sym h))
joined_push (text ∷ texts) true p h = absurd (true≢false h)
joined_push (text ∷ texts) false p h = joined_more text texts p

some_more : (texts : List (List ℕ)) (p : List ℕ) → has_some (texts ++ p ∷ []) ≡ true
some_more [] p = refl
some_more (text ∷ texts) p = refl

module _ (s : Search) (parts : List (Bor (List ℕ))) (i : ℕ) (x : Bor (List ℕ)) (here : i < length parts) (is : x ≡ get_or parts i x) where
  so_far : List (List ℕ)
  so_far = map (λ (p : Bor (List ℕ)). p.now) (take i parts)

  more : map (λ (p : Bor (List ℕ)). p.now) (take (i + 1) parts) ≡ so_far ++ x.now ∷ []
  unfolding so_far
  more = ap (λ (l : List (Bor (List ℕ))). map (λ (p : Bor (List ℕ)). p.now) l) (one_more parts i x here is) ∙ map-append (λ (p : Bor (List ℕ)). p.now) (take i parts) (x ∷ [])

  kept_more : stays s x.now ≡ true → filter (stays s) (map (λ (p : Bor (List ℕ)). p.now) (take (i + 1) parts)) ≡ filter (stays s) so_far ++ x.now ∷ []
  kept_more h = ap (filter (stays s)) more ∙ filter-append (stays s) so_far (x.now ∷ []) ∙ ap (λ (l : List (List ℕ)). filter (stays s) so_far ++ l) (cond-true (stays s x.now) (x.now ∷ []) [] h)

  left_out : stays s x.now ≡ false → filter (stays s) (map (λ (p : Bor (List ℕ)). p.now) (take (i + 1) parts)) ≡ filter (stays s) so_far
  left_out h = ap (filter (stays s)) more ∙ filter-append (stays s) so_far (x.now ∷ []) ∙ ap (λ (l : List (List ℕ)). filter (stays s) so_far ++ l) (cond-false (stays s x.now) (x.now ∷ []) [] h) ∙ append-nil (filter (stays s) so_far)

  gone_more : (o : Option Removal) → removal_if s x.now ≡ o → filter_map (removal_if s) (map (λ (p : Bor (List ℕ)). p.now) (take (i + 1) parts)) ≡ filter_map (removal_if s) so_far ++ cons_option o []
  gone_more o h = ap (filter_map (removal_if s)) more ∙ filter_map-append (removal_if s) so_far (x.now ∷ []) ∙ ap (λ (r : Option Removal). filter_map (removal_if s) so_far ++ cons_option r []) h

  -- what holds of the loop: the text, whether none stays so far, the directories that go
  pub text_stays : stays s x.now ≡ true → (made : List ℕ) (first : Bool) → made ≡ joined_by_colons (filter (stays s) (map (λ (p : Bor (List ℕ)). p.now) (take i parts))) → first ≡ not (has_some (filter (stays s) (map (λ (p : Bor (List ℕ)). p.now) (take i parts))))
      → (if first then made ++ x.now else made ++ COLON ∷ x.now) ≡ joined_by_colons (filter (stays s) (map (λ (p : Bor (List ℕ)). p.now) (take (i + 1) parts)))
  unfolding so_far
  text_stays h made first text none =
      ap (λ t. if first then t ++ x.now else t ++ COLON ∷ x.now) text ∙ sym (ap joined_by_colons (kept_more h) ∙ joined_push (filter (stays s) so_far) first x.now none)

  pub first_stays : stays s x.now ≡ true → false ≡ not (has_some (filter (stays s) (map (λ (p : Bor (List ℕ)). p.now) (take (i + 1) parts))))
  first_stays h = sym (ap (λ (l : List (List ℕ)). not (has_some l)) (kept_more h) ∙ ap not (some_more (filter (stays s) so_far) x.now))

  pub gone_stays : stays s x.now ≡ true → (old gone : List Removal) → gone ≡ old ++ filter_map (removal_if s) (map (λ (p : Bor (List ℕ)). p.now) (take i parts)) → gone ≡ old ++ filter_map (removal_if s) (map (λ (p : Bor (List ℕ)). p.now) (take (i + 1) parts))
  unfolding so_far
  gone_stays h old gone e = e ∙ sym (ap (λ l. old ++ l) (gone_more None (cond-true (stays s x.now) None (Some (record { directory = x.now; reason = reason_of s x.now })) h) ∙ append-nil (filter_map (removal_if s) so_far)))

  pub same_goes : stays s x.now ≡ false → filter (stays s) (map (λ (p : Bor (List ℕ)). p.now) (take i parts)) ≡ filter (stays s) (map (λ (p : Bor (List ℕ)). p.now) (take (i + 1) parts))
  unfolding so_far
  same_goes h = sym (left_out h)

  pub gone_goes : stays s x.now ≡ false → (old gone : List Removal) → gone ≡ old ++ filter_map (removal_if s) (map (λ (p : Bor (List ℕ)). p.now) (take i parts))
      → gone ++ record { directory = x.now; reason = reason_of s x.now } ∷ [] ≡ old ++ filter_map (removal_if s) (map (λ (p : Bor (List ℕ)). p.now) (take (i + 1) parts))
  unfolding so_far
  gone_goes h old gone e =
      ap (λ (l : List Removal). l ++ record { directory = x.now; reason = reason_of s x.now } ∷ []) e
      ∙ append_assoc old (filter_map (removal_if s) so_far) (record { directory = x.now; reason = reason_of s x.now } ∷ [])
      ∙ sym (ap (λ l. old ++ l) (gone_more (Some (record { directory = x.now; reason = reason_of s x.now })) (cond-false (stays s x.now) None (Some (record { directory = x.now; reason = reason_of s x.now })) h)))

-- what directories are judged by, of its parts
abbrev pub search_with : List (List ℕ) → List (List ℕ) → ℕ → (List ℕ → List ℕ → Option ℕ) → Search
search_with prefixes needed machine found = record { prefixes = prefixes; needed = needed; machine = machine; found = found }

pub same_search : (prefixes needed names : List (List ℕ)) (machine : ℕ) (found told : List ℕ → List ℕ → Option ℕ) → names ≡ needed → ((d n : List ℕ) → found d n ≡ told d n)
    → search_with prefixes names machine found ≡ search_with prefixes needed machine told
same_search prefixes needed names machine found told e h =
    ap (λ l. search_with prefixes l machine found) e ∙ ap (search_with prefixes needed machine) (fun_ext (λ d. fun_ext (λ n. h d n)))
