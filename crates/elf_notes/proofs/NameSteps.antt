-- Names that are put into a set and taken out of it, one after another.
use Rattle.std.proofs.Common.{◌≡◌, ℕ, ◌+◌, ◌<◌, Bool, true, false, cond, ◌||◌, not, List, [], ◌∷◌, ◌++◌, length, take, get_or, map, filter, refl, sym, ap, ◌∙◌, Option, Some, None, option_map, Bor, arith}
use Rattle.std.specs.Prelude.{◌&&◌, ◌==◌, is_none, is_some}
use Rattle.std.specs.Str.{bytes_eq}
use Rattle.std.proofs.lemmas.Bool.{eqb-true}
use Rattle.std.proofs.lemmas.List.{append_assoc, map-append, take_more}
use Rattle.std.proofs.lemmas.List.Folds.{list_any-append}
use Rattle.std.proofs.lemmas.Slice.Eq.{bytes_eq-Decides}
use Rattle.elf_edits.proofs.ForCallers.{other_way}
use Rattle.elf_edits.specs.Changes.{has_name}
use Rattle.elf_edits.specs.Texts.{is_among}
use Rattle.elf_format.specs.Image.{Image}
use Rattle.elf_notes.specs.Notes.{Name, needed_of, old_needs, versioned_of}

abbrev pub now_of : Bor Name → Name
now_of n = n.now

itself : (a : Name) → bytes_eq a a ≡ true
itself a = (bytes_eq-Decides a a).1 refl

or_none : (b : Bool) → (b || false) ≡ b
or_none true = refl
or_none false = refl

-- one name more
among_more : (names : List Name) (other name : Name) → is_among (names ++ other ∷ []) name ≡ (is_among names name || bytes_eq name other)
among_more names other name =
    list_any-append (λ y. bytes_eq name y) names (other ∷ []) ∙ ap (λ b. is_among names name || b) (or_none (bytes_eq name other))

one_more : (names : List (Bor Name)) (i : ℕ) (x : Bor Name) → i < length names → x ≡ get_or names i x → map now_of (take (i + 1) names) ≡ map now_of (take i names) ++ x.now ∷ []
one_more names i x here is =
    ap (map now_of) (take_more names i x here ∙ ap (λ y. take i names ++ y ∷ []) (sym is)) ∙ map-append now_of (take i names) (x ∷ [])

put : (b c d : Bool) → c ≡ d → cond b true c ≡ (d || b)
put true true d same = ap (λ e. e || true) same
put true false d same = ap (λ e. e || true) same
put false true d same = ap (λ e. e || false) same
put false false d same = ap (λ e. e || false) same

gone : (e a t : Bool) → cond e false (a && not t) ≡ (a && not (t || e))
gone true true true = refl
gone true true false = refl
gone true false true = refl
gone true false false = refl
gone false true true = refl
gone false true false = refl
gone false false true = refl
gone false false false = refl

module _ (names : List (Bor Name)) (i : ℕ) (x : Bor Name) (here : i < length names) (is : x ≡ get_or names i x) where
  -- one more name is put into the set
  pub put_more : (old new : List (Bor Name)) (name : Name) → has_name old name ≡ is_among (map now_of (take i names)) name
      → has_name new name ≡ cond (bytes_eq x.now name) true (has_name old name)
      → has_name new name ≡ is_among (map now_of (take (i + 1) names)) name
  put_more old new name so_far step =
      step ∙ put (bytes_eq x.now name) (has_name old name) (is_among (map now_of (take i names)) name) so_far
      ∙ ap (λ b. is_among (map now_of (take i names)) name || b) (other_way x.now name)
      ∙ sym (ap (λ l. is_among l name) (one_more names i x here is) ∙ among_more (map now_of (take i names)) x.now name)

  -- one more name is taken out of the set
  pub take_out_more : (all : Bool) (old new : List (Bor Name)) (name : Name) → has_name old name ≡ (all && not (is_among (map now_of (take i names)) name))
      → has_name new name ≡ cond (bytes_eq x.now name) false (has_name old name)
      → has_name new name ≡ (all && not (is_among (map now_of (take (i + 1) names)) name))
  take_out_more all old new name so_far step =
      step ∙ ap (λ b. cond (bytes_eq x.now name) false b) so_far
      ∙ gone (bytes_eq x.now name) all (is_among (map now_of (take i names)) name)
      ∙ ap (λ b. all && not (is_among (map now_of (take i names)) name || b)) (other_way x.now name)
      ∙ sym (ap (λ l. all && not (is_among l name)) (one_more names i x here is) ∙ ap (λ b. all && not b) (among_more (map now_of (take i names)) x.now name))

-- a name behind others is taken out of the set
pub take_out_last : (names : List Name) (x : Name) (all : Bool) (old new : List (Bor Name)) (name : Name) → has_name old name ≡ (all && not (is_among names name))
    → has_name new name ≡ cond (bytes_eq x name) false (has_name old name)
    → has_name new name ≡ (all && not (is_among (names ++ x ∷ []) name))
take_out_last names x all old new name so_far step =
    step ∙ ap (λ b. cond (bytes_eq x name) false b) so_far
    ∙ gone (bytes_eq x name) all (is_among names name)
    ∙ ap (λ b. all && not (is_among names name || b)) (other_way x name)
    ∙ sym (ap (λ b. all && not b) (among_more names x name))

-- nothing was taken out yet
pub all_there : (b : Bool) → b ≡ (b && not false)
all_there true = refl
all_there false = refl

-- ## Names of a list that are in a set

or_right : (b c : Bool) → c ≡ true → (b || c) ≡ true
or_right true c h = refl
or_right false c h = h

filter_within : (p q : Name → Bool) (all rest : List Name) → ((y : Name) → is_among rest y ≡ true → is_among all y ≡ true)
    → ((y : Name) → is_among all y ≡ true → p y ≡ q y) → filter p rest ≡ filter q rest
filter_within p q all [] within same = refl
filter_within p q all (y ∷ ys) within same =
    ap (λ b. cond b (y ∷ filter p ys) (filter p ys)) (same y (within y (ap (λ b. b || is_among ys y) (itself y))))
    ∙ ap (λ l. cond (q y) (y ∷ l) l) (filter_within p q all ys (λ z there. within z (or_right (bytes_eq z y) (is_among ys z) there)) same)

-- a set of some names, without those for which one of two tests holds
pub two_left_out : (set : List (Bor Name)) (a b : Name → Bool) (names : List Name)
    → ((name : Name) → has_name set name ≡ ((is_among names name && not (a name)) && not (b name)))
    → filter (has_name set) names ≡ filter (λ name. not (a name) && not (b name)) names
two_left_out set a b names has =
    filter_within (has_name set) (λ name. not (a name) && not (b name)) names names (λ y there. there)
    (λ y there. has y ∙ ap (λ c. (c && not (a y)) && not (b y)) there)

-- a set that has a name just where a test holds
pub by_set : (set : List (Bor Name)) (test : Name → Bool) (names : List Name) → ((name : Name) → has_name set name ≡ test name)
    → filter (has_name set) names ≡ filter test names
by_set set test [] has = refl
by_set set test (y ∷ ys) has =
    ap (λ b. cond b (y ∷ filter (has_name set) ys) (filter (has_name set) ys)) (has y)
    ∙ ap (λ l. cond (test y) (y ∷ l) l) (by_set set test ys has)

-- ## No library was dropped

none_among : (test : Name → Bool) (all : List Name) → filter (λ name. is_among [] name && test name) all ≡ []
none_among test [] = refl
none_among test (y ∷ ys) = none_among test ys

pub none_dropped : (names : List (Bor Name)) (edited : Image) → (length names == 0) ≡ true → [] ≡ old_needs (map now_of names) edited
none_dropped [] edited none = sym (none_among (λ name. not (is_among (needed_of edited) name)) (versioned_of edited))
none_dropped (x ∷ names) edited none = let e : length (x ∷ names) ≡ 0 = eqb-true (length (x ∷ names)) 0 none in absurd (omega (arith, e))

-- ## Answers

-- there is no answer, whatever is made of it
pub none_made : {A B : Type 0} (f : A → B) (o : Option A) (answer : Bool) → is_some o ≡ not answer → answer ≡ is_none (option_map f o)
none_made f None true is = refl
none_made f None false is = is
none_made f (Some a) true is = is
none_made f (Some a) false is = refl

-- two texts, one behind another
pub two_more : (text a last x y : List ℕ) → a ≡ text ++ x → last ≡ a ++ y → last ≡ text ++ (x ++ y)
two_more text a last x y first second = second ∙ ap (λ l. l ++ y) first ∙ append_assoc text x y

-- three texts, one behind another
pub three_more : (text a b last x y z : List ℕ) → a ≡ text ++ x → b ≡ a ++ y → last ≡ b ++ z → last ≡ text ++ (x ++ y ++ z)
three_more text a b last x y z first second third =
    third
    ∙ ap (λ l. l ++ z) (second ∙ ap (λ l. l ++ y) first ∙ append_assoc text x y)
    ∙ append_assoc text (x ++ y) z

-- six texts, one behind another
pub six_more : (text a b c d e last x y z w u v : List ℕ) → a ≡ text ++ x → b ≡ a ++ y → c ≡ b ++ z → d ≡ c ++ w → e ≡ d ++ u → last ≡ e ++ v
    → last ≡ text ++ (x ++ y ++ z ++ w ++ u ++ v)
six_more text a b c d e last x y z w u v first second third fourth fifth sixth =
    three_more c d e last w u v fourth fifth sixth
    ∙ ap (λ l. l ++ (w ++ u ++ v)) (three_more text a b c x y z first second third)
    ∙ simp append_assoc

-- seven texts, one behind another
pub seven_more : (text a b last : List ℕ) → (x y f g h i j : List ℕ) → a ≡ text ++ x → b ≡ a ++ y → last ≡ b ++ f ++ g ++ h ++ i ++ j
    → last ≡ text ++ (x ++ y ++ f ++ g ++ h ++ i ++ j)
seven_more text a b last x y f g h i j first second third =
    third
    ∙ ap (λ l. l ++ f ++ g ++ h ++ i ++ j) (second ∙ ap (λ l. l ++ y) first ∙ append_assoc text x y)
    ∙ ap (λ l. l ++ g ++ h ++ i ++ j) (append_assoc text (x ++ y) f)
    ∙ ap (λ l. l ++ h ++ i ++ j) (append_assoc text (x ++ y ++ f) g)
    ∙ ap (λ l. l ++ i ++ j) (append_assoc text (x ++ y ++ f ++ g) h)
    ∙ ap (λ l. l ++ j) (append_assoc text (x ++ y ++ f ++ g ++ h) i)
    ∙ append_assoc text (x ++ y ++ f ++ g ++ h ++ i) j
