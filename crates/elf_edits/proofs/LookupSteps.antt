-- Steps of gathering names into sets and maps, and of looking them up.
use Rattle.std.proofs.Common.{◌≡◌, ℕ, ◌+◌, ◌<◌, Bool, true, false, cond, ◌||◌, List, [], ◌∷◌, ◌++◌, length, take, get_or, map, refl, sym, ap, ◌∙◌, Option, Some, None, is_some, option_map, Bor}
use Rattle.std.specs.Prelude.{if◌then◌else◌, ◌==◌, unwrap_or}
use Rattle.std.specs.List.{list_any}
use Rattle.std.specs.Map.{lookup}
use Rattle.std.specs.Str.{bytes_eq}
use Rattle.std.proofs.lemmas.Bool.{both_ways, cond-true, cond-false, eq-eqb}
use Rattle.std.proofs.lemmas.List.{append-nil, map-append, take_more}
use Rattle.std.proofs.lemmas.List.Concat.{flat_map-append}
use Rattle.std.proofs.lemmas.List.Folds.{list_any-append}
use Rattle.std.proofs.lemmas.Slice.Eq.{bytes_eq-Decides}
use Rattle.elf_format.specs.declared.constants.TheConstants.{DT_NEEDED}
use Rattle.elf_image.specs.declared.dynamic.Dynamic.{Dynamic}
use Rattle.elf_image.specs.Dynamic.{Auto, Entry, Integer, Text}
use Rattle.elf_image.specs.ImageModel.{entry_model}
use Rattle.elf_image.specs.Options.{first_there}
use Rattle.elf_edits.specs.Changes.{gets_name, has_name, name_for, needs_one_of}
use Rattle.elf_edits.specs.TextModel.{Bytes, bytes_of, pair_model, pairs_model, texts_model}
use Rattle.elf_edits.specs.Entries.{first_needed, has_tag, needed_names, text_if}
use Rattle.elf_edits.specs.Texts.{first_in, is_among, value_of}
use Rattle.elf_edits.proofs.ListLaws.{by_test, first_of_three, there_or_none}

-- one more element of a list
pub one_more : {A : Type 0} (xs : List A) (i : ℕ) (x : A) → i < length xs → x ≡ get_or xs i x → take (i + 1) xs ≡ take i xs ++ x ∷ []
one_more xs i x here e = take_more xs i x here ∙ ap (λ y. take i xs ++ y ∷ []) (sym e)

pub or_none : (b : Bool) → (b || false) ≡ b
or_none true = refl
or_none false = refl

-- ## Libraries that are needed

one_text : (e : Entry) (text : List ℕ) → Some text ≡ first_needed e → text_if (has_tag DT_NEEDED) e ≡ text ∷ []
one_text (Auto tag) text h = absurd (cc)
one_text (Integer tag value) text h = absurd (cc)
one_text (Text tag t) text h = by_test (has_tag DT_NEEDED (Text tag t))
    (λ holds.
    let all : text_if (has_tag DT_NEEDED) (Text tag t) ≡ t ∷ [] = cond-true (has_tag DT_NEEDED (Text tag t)) (t ∷ []) [] holds in
    let same : Some text ≡ Some t = h ∙ ap first_in all in
    all ∙ (cc))
    (λ fails. let same : Some text ≡ None = h ∙ ap first_in (cond-false (has_tag DT_NEEDED (Text tag t)) (t ∷ []) [] fails) in absurd (cc))

no_text : (e : Entry) → None ≡ first_needed e → text_if (has_tag DT_NEEDED) e ≡ []
no_text (Auto tag) h = refl
no_text (Integer tag value) h = refl
no_text (Text tag t) h = by_test (has_tag DT_NEEDED (Text tag t))
    (λ holds. let same : None ≡ Some t = h ∙ ap first_in (cond-true (has_tag DT_NEEDED (Text tag t)) (t ∷ []) [] holds) in absurd (cc))
    (λ fails. cond-false (has_tag DT_NEEDED (Text tag t)) (t ∷ []) [] fails)

pub other_way : (a b : List ℕ) → bytes_eq a b ≡ bytes_eq b a
other_way a b = by_test (bytes_eq a b)
    (λ holds. holds ∙ sym ((bytes_eq-Decides b a).1 (sym ((bytes_eq-Decides a b).0 holds))))
    (λ fails. by_test (bytes_eq b a) (λ back. absurd (both_ways (bytes_eq a b) fails ((bytes_eq-Decides a b).1 (sym ((bytes_eq-Decides b a).0 back))))) (λ back. fails ∙ sym back))

pub true_or : (b c : Bool) → cond b true c ≡ (c || b)
true_or true true = refl
true_or true false = refl
true_or false true = refl
true_or false false = refl

module _ (es : List Dynamic) (i : ℕ) (x : Dynamic) (here : i < length es) (is : x ≡ get_or es i x) where
  names_more : needed_names (map entry_model (take (i + 1) es)) ≡ needed_names (map entry_model (take i es)) ++ text_if (has_tag DT_NEEDED) (entry_model x)
  names_more =
      ap (λ (l : List Dynamic). needed_names (map entry_model l)) (one_more es i x here is)
      ∙ ap needed_names (map-append entry_model (take i es) (x ∷ []))
      ∙ flat_map-append (text_if (has_tag DT_NEEDED)) (map entry_model (take i es)) (entry_model x ∷ [])
      ∙ ap (λ l. needed_names (map entry_model (take i es)) ++ l) (append-nil (text_if (has_tag DT_NEEDED) (entry_model x)))

  pub set_more : (old new : List (Bor (List ℕ))) (k : Bor (List ℕ)) (name : List ℕ) → has_name old name ≡ is_among (needed_names (map entry_model (take i es))) name
      → Some k.now ≡ first_needed (entry_model x) → has_name new name ≡ cond (bytes_eq k.now name) true (has_name old name)
      → has_name new name ≡ is_among (needed_names (map entry_model (take (i + 1) es))) name
  set_more old new k name so_far text put =
      put ∙ true_or (bytes_eq k.now name) (has_name old name)
      ∙ ap (λ b. b || bytes_eq k.now name) so_far
      ∙ ap (λ b. is_among (needed_names (map entry_model (take i es))) name || b) (other_way k.now name ∙ sym (or_none (bytes_eq name k.now)))
      ∙ sym (list_any-append (λ other. bytes_eq name other) (needed_names (map entry_model (take i es))) (k.now ∷ []))
      ∙ sym (ap (λ l. is_among l name) (names_more ∙ ap (λ l. needed_names (map entry_model (take i es)) ++ l) (one_text (entry_model x) k.now text)))

  pub set_kept : (keys : List (Bor (List ℕ))) (name : List ℕ) → has_name keys name ≡ is_among (needed_names (map entry_model (take i es))) name
      → None ≡ first_needed (entry_model x) → has_name keys name ≡ is_among (needed_names (map entry_model (take (i + 1) es))) name
  set_kept keys name so_far none =
      so_far ∙ sym (ap (λ l. is_among l name) (names_more ∙ ap (λ l. needed_names (map entry_model (take i es)) ++ l) (no_text (entry_model x) none) ∙ append-nil (needed_names (map entry_model (take i es)))))

-- ## Sets of names

-- a set of names with one name more
pub set_more_name : (names : List Bytes) (i : ℕ) (x : Bytes) → i < length names → x ≡ get_or names i x → (old new : List (Bor (List ℕ))) (k name : List ℕ) → k ≡ x.items
    → has_name old name ≡ is_among (texts_model (take i names)) name
    → has_name new name ≡ cond (bytes_eq k name) true (has_name old name)
    → has_name new name ≡ is_among (texts_model (take (i + 1) names)) name
set_more_name names i x here is old new k name same so_far put =
    put ∙ true_or (bytes_eq k name) (has_name old name) ∙ ap (λ b. b || bytes_eq k name) so_far
    ∙ ap (λ b. is_among (texts_model (take i names)) name || b) (other_way k name ∙ ap (bytes_eq name) same ∙ sym (or_none (bytes_eq name x.items)))
    ∙ sym (ap (λ (l : List Bytes). is_among (texts_model l) name) (one_more names i x here is) ∙ ap (λ l. is_among l name) (map-append bytes_of (take i names) (x ∷ [])) ∙ list_any-append (λ other. bytes_eq name other) (texts_model (take i names)) (x.items ∷ []))

-- an entry that needs a library is asked for its name
pub needed_among : (names : List (Bor (List ℕ))) (tag : ℕ) (text : List ℕ) → tag ≡ DT_NEEDED → has_name names text ≡ needs_one_of names (Text tag text)
needed_among names tag text is =
    sym (ap (list_any (has_name names)) (cond-true (tag == DT_NEEDED) (text ∷ []) [] (eq-eqb tag DT_NEEDED is)) ∙ or_none (has_name names text))

-- ## Maps of names

unfoldable found_in : List ℕ → List ℕ × List ℕ → Option (List ℕ)
found_in text pair = if bytes_eq text pair.0 then Some pair.1 else None

-- pairs with one more behind all
value_of-push : (pairs : List (List ℕ × List ℕ)) (pair : List ℕ × List ℕ) (text : List ℕ) → value_of (pairs ++ pair ∷ []) text ≡ first_there (found_in text pair) (value_of pairs text)
unfolding found_in
value_of-push [] pair text = sym (there_or_none (found_in text pair))
value_of-push (x ∷ pairs) pair text = ap (λ o. first_there o (found_in text x)) (value_of-push pairs pair text) ∙ first_of_three (found_in text pair) (value_of pairs text) (found_in text x)

first_or : (b : Bool) (v : List ℕ) (o : Option (List ℕ)) → first_there (if b then Some v else None) o ≡ cond b (Some v) o
first_or true v o = refl
first_or false v o = refl

text_if_put : (b : Bool) (v : Bor (List ℕ)) (o : Option (Bor (List ℕ))) → option_map (λ (t : Bor (List ℕ)). t.now) (cond b (Some v) o) ≡ cond b (Some v.now) (option_map (λ (t : Bor (List ℕ)). t.now) o)
text_if_put true v o = refl
text_if_put false v o = refl

-- a map of names with one pair more
pub map_more_pair : (pairs : List (Bytes × Bytes)) (i : ℕ) (x : Bytes × Bytes) → i < length pairs → x ≡ get_or pairs i x → (old new : List (Bor (List ℕ) × Bor (List ℕ))) (k : List ℕ) (v : Bor (List ℕ)) (name : List ℕ) → k ≡ x.0.items → v.now ≡ x.1.items
    → name_for old name ≡ value_of (pairs_model (take i pairs)) name
    → lookup (λ (y : Bor (List ℕ)). bytes_eq name y.now) new ≡ cond (bytes_eq k name) (Some v) (lookup (λ (y : Bor (List ℕ)). bytes_eq name y.now) old)
    → name_for new name ≡ value_of (pairs_model (take (i + 1) pairs)) name
unfolding found_in
map_more_pair pairs i x here is old new k v name key value so_far put =
    ap (option_map (λ (t : Bor (List ℕ)). t.now)) put ∙ text_if_put (bytes_eq k name) v (lookup (λ (y : Bor (List ℕ)). bytes_eq name y.now) old)
    ∙ ap (cond (bytes_eq k name) (Some v.now)) so_far
    ∙ ap (λ b. cond b (Some v.now) (value_of (pairs_model (take i pairs)) name)) (other_way k name ∙ ap (bytes_eq name) key)
    ∙ ap (λ l. cond (bytes_eq name x.0.items) (Some l) (value_of (pairs_model (take i pairs)) name)) value
    ∙ sym (ap (λ (l : List (Bytes × Bytes)). value_of (pairs_model l) name) (one_more pairs i x here is) ∙ ap (λ l. value_of l name) (map-append pair_model (take i pairs) (x ∷ []))
    ∙ value_of-push (pairs_model (take i pairs)) (pair_model x) name ∙ first_or (bytes_eq name x.0.items) x.1.items (value_of (pairs_model (take i pairs)) name))

pub is_some-map : {A B : Type 0} (f : A → B) (o : Option A) → is_some (option_map f o) ≡ is_some o
is_some-map f None = refl
is_some-map f (Some x) = refl

-- an entry that needs a library is asked for its name
pub named_among : (names : List (Bor (List ℕ) × Bor (List ℕ))) (tag : ℕ) (text : List ℕ) → tag ≡ DT_NEEDED → is_some (lookup (λ (k : Bor (List ℕ)). bytes_eq text k.now) names) ≡ gets_name names (Text tag text)
named_among names tag text is =
    sym (ap (list_any (λ name. is_some (name_for names name))) (cond-true (tag == DT_NEEDED) (text ∷ []) [] (eq-eqb tag DT_NEEDED is)) ∙ or_none (is_some (name_for names text))
    ∙ is_some-map (λ (t : Bor (List ℕ)). t.now) (lookup (λ (k : Bor (List ℕ)). bytes_eq text k.now) names))

-- the new name of one that is no key, and of one that is
pub name_stays : (names : List (Bor (List ℕ) × Bor (List ℕ))) (name : List ℕ) → None ≡ lookup (λ (k : Bor (List ℕ)). bytes_eq name k.now) names → unwrap_or (name_for names name) name ≡ name
name_stays names name e = ap (λ (o : Option (Bor (List ℕ))). unwrap_or (option_map (λ t. t.now) o) name) (sym e)

pub name_changes : (names : List (Bor (List ℕ) × Bor (List ℕ))) (name : List ℕ) (other : Bor (List ℕ)) → Some other ≡ lookup (λ (k : Bor (List ℕ)). bytes_eq name k.now) names → unwrap_or (name_for names name) name ≡ other.now
name_changes names name other e = ap (λ (o : Option (Bor (List ℕ))). unwrap_or (option_map (λ t. t.now) o) name) (sym e)
