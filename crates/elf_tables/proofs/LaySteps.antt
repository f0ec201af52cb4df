-- A table that grows text by text: what it holds, and how long it still gets.
use Rattle.std.proofs.Common.{◌≡◌, ℕ, zero, suc, ◌+◌, ◌<◌, ◌≤◌, ◌^◌, Bool, true, false, cond, List, [], ◌∷◌, ◌++◌, length, drop, take, get_or, refl, sym, subst, ap, ◌∙◌, nat_eq, Option, Some, None, add-zero, lit≤, arith}
use Rattle.std.specs.Prelude.{◌||◌, IfSome, is_some, sum_by, slice_get}
use Rattle.std.specs.Borrow.{Bor}
use Rattle.std.specs.Cmp.Lexicographic.{bytes_decides}
use Rattle.std.specs.List.{ends_with, list_any}
use Rattle.std.specs.List.Sorted.{IsSortedBy}
use Rattle.std.specs.Map.{lookup}
use Rattle.std.specs.Str.{bytes_eq}
use Rattle.std.proofs.lemmas.Bool.{cond-false, cond-true, true≢false}
use Rattle.std.proofs.lemmas.List.{append-nil, drop_all, drop_more, get_or_default, length-append, length-map, take_all}
use Rattle.std.proofs.lemmas.Option.{same_Some}
use Rattle.std.proofs.lemmas.List.Folds.{list_any_more}
use Rattle.std.proofs.lemmas.List.Sums.{sum_by-cons}
use Rattle.elf_tables.specs.Strings.{PlacesStand, StandsAt, Strings, holds_nul, place_of, size_of_text}
use Rattle.elf_tables.specs.StringSteps.{AreLaid, AreTold, Numbered, PutsText, StandsWith, appended, by_bytes, is_before, laid_length, texts_in, with_places}
use Rattle.elf_tables.proofs.LaidPairs.{eq-itself, last_again, lookup-behind, lookup-front, told_behind, told_push}
use Rattle.elf_tables.proofs.StandingTexts.{stands-at-more, stands-first, stands-from}
use Rattle.elf_tables.proofs.TableLaws.{appended-here, appended-shared}
use Rattle.elf_tables.proofs.TextLists.{by_test}

-- ## How long the table still gets

pub left-shared : (last text : List ℕ) (ts : List (List ℕ)) (i : ℕ) (d : List ℕ) → i < length ts → get_or ts i d ≡ text → ends_with nat_eq last text ≡ true
    → sum_by size_of_text (appended last (drop i ts)) ≡ sum_by size_of_text (appended text (drop (i + 1) ts))
left-shared last text ts i d within e ends =
    ap (λ l. sum_by size_of_text (appended last l)) (drop_more ts i d within ∙ ap (λ t. t ∷ drop (i + 1) ts) e)
    ∙ ap (sum_by size_of_text) (appended-shared last text (drop (i + 1) ts) ends)

pub left-here : (last text : List ℕ) (ts : List (List ℕ)) (i : ℕ) (d : List ℕ) → i < length ts → get_or ts i d ≡ text → ends_with nat_eq last text ≡ false
    → sum_by size_of_text (appended last (drop i ts)) ≡ (length text + 1) + sum_by size_of_text (appended text (drop (i + 1) ts))
left-here last text ts i d within e ends =
    ap (λ l. sum_by size_of_text (appended last l)) (drop_more ts i d within ∙ ap (λ t. t ∷ drop (i + 1) ts) e)
    ∙ ap (sum_by size_of_text) (appended-here last text (drop (i + 1) ts) ends)
    ∙ sum_by-cons size_of_text text (appended text (drop (i + 1) ts))

-- ## The places of texts

pub lookup-by_bytes : (text : List ℕ) (entries : List (Bor (List ℕ) × ℕ)) → lookup (bytes_eq text) (by_bytes entries) ≡ lookup (λ key. bytes_eq text key.now) entries
lookup-by_bytes text [] = refl
lookup-by_bytes text (e ∷ es) = ap (λ o. cond (bytes_eq text e.0.now) (Some e.1) o) (lookup-by_bytes text es)

-- the places after one more text was put into them
unfoldable pub PutsPlace : List (List ℕ × ℕ) → List (List ℕ × ℕ) → List ℕ → ℕ → Type 0
PutsPlace old new text place = (q : List ℕ) → lookup (bytes_eq q) new ≡ cond (bytes_eq text q) (Some place) (lookup (bytes_eq q) old)

-- a pair put behind the others, of which those with the same text tell the same place
pub puts-behind-pairs : (old : List (List ℕ × ℕ)) (text : List ℕ) (place : ℕ) → ((p : ℕ) → lookup (bytes_eq text) old ≡ Some p → p ≡ place)
    → PutsPlace old (old ++ (text, place) ∷ []) text place
unfolding PutsPlace
puts-behind-pairs old text place same q = told_behind old text place same q

-- a place that is put into pairs, where other pairs stand behind
pub puts-joined : (old new behind : List (List ℕ × ℕ)) (text : List ℕ) (place : ℕ) → PutsPlace old new text place → PutsPlace (old ++ behind) (new ++ behind) text place
unfolding PutsPlace
puts-joined old new behind text place puts q = by_test (bytes_eq text q)
    (λ yes.
    lookup-front (bytes_eq q) new behind place (puts q ∙ cond-true (bytes_eq text q) (Some place) (lookup (bytes_eq q) old) yes)
    ∙ sym (cond-true (bytes_eq text q) (Some place) (lookup (bytes_eq q) (old ++ behind)) yes))
    (λ no.
    same-joined q (lookup (bytes_eq q) old) refl (puts q ∙ cond-false (bytes_eq text q) (Some place) (lookup (bytes_eq q) old) no)
    ∙ sym (cond-false (bytes_eq text q) (Some place) (lookup (bytes_eq q) (old ++ behind)) no))
  where
    same-joined : (q : List ℕ) (o : Option ℕ) → lookup (bytes_eq q) old ≡ o → lookup (bytes_eq q) new ≡ lookup (bytes_eq q) old
        → lookup (bytes_eq q) (new ++ behind) ≡ lookup (bytes_eq q) (old ++ behind)
    same-joined q None e same = lookup-behind (bytes_eq q) new behind (same ∙ e) ∙ sym (lookup-behind (bytes_eq q) old behind e)
    same-joined q (Some v) e same = lookup-front (bytes_eq q) new behind v (same ∙ e) ∙ sym (lookup-front (bytes_eq q) old behind v e)

pub puts-from : (old new : List (Bor (List ℕ) × ℕ)) (text : List ℕ) (place : ℕ)
    → ((q : List ℕ) → lookup (λ key. bytes_eq q key.now) new ≡ cond (bytes_eq text q) (Some place) (lookup (λ key. bytes_eq q key.now) old))
    → PutsPlace (by_bytes old) (by_bytes new) text place
unfolding PutsPlace
puts-from old new text place says q = lookup-by_bytes q new ∙ says q ∙ ap (λ o. cond (bytes_eq text q) (Some place) o) (sym (lookup-by_bytes q old))

-- each text of which a place is told stands there, also after one more was put behind the table
pub stand_step : (bytes more : List ℕ) (old new : List (List ℕ × ℕ)) (text : List ℕ) (place : ℕ)
    → ((q : List ℕ) (p : ℕ) → lookup (bytes_eq q) old ≡ Some p → StandsAt bytes p q) → PutsPlace old new text place → StandsAt (bytes ++ more) place text
    → (q : List ℕ) (p : ℕ) → lookup (bytes_eq q) new ≡ Some p → StandsAt (bytes ++ more) p q
unfolding PutsPlace
stand_step bytes more old new text place stand puts here q p e = by_test (bytes_eq text q)
    (λ yes.
    let at : place ≡ p = same_Some place p (sym (puts q ∙ cond-true (bytes_eq text q) (Some place) (lookup (bytes_eq q) old) yes) ∙ e) in
    subst (λ (n : ℕ). StandsAt (bytes ++ more) n q) at (subst (StandsAt (bytes ++ more) place) ((bytes_decides text q).0 yes) here))
    (λ no. stands-at-more bytes more p q (stand q p (sym (puts q ∙ cond-false (bytes_eq text q) (Some place) (lookup (bytes_eq q) old) no) ∙ e)))

-- each text of which a place is told stands there, also where the table stays
pub stand_shared : (bytes : List ℕ) (old new : List (List ℕ × ℕ)) (text : List ℕ) (place : ℕ)
    → ((q : List ℕ) (p : ℕ) → lookup (bytes_eq q) old ≡ Some p → StandsAt bytes p q) → PutsPlace old new text place → StandsAt bytes place text
    → (q : List ℕ) (p : ℕ) → lookup (bytes_eq q) new ≡ Some p → StandsAt bytes p q
stand_shared bytes old new text place stand puts here q p e =
    let none : bytes ++ [] ≡ bytes = append-nil bytes in
    subst (λ (l : List ℕ). StandsAt l p q) none (stand_step bytes [] old new text place stand puts (subst (λ (l : List ℕ). StandsAt l place text) (sym none) here) q p e)

or-true : (b : Bool) → (b || true) ≡ true
or-true true = refl
or-true false = refl

or-false : (b : Bool) → (b || false) ≡ b
or-false true = refl
or-false false = refl

-- the texts of which a place is told are those that were put there
pub known_step : (old new : List (List ℕ × ℕ)) (ts : List (List ℕ)) (i : ℕ) (d text : List ℕ) (place : ℕ) → i < length ts → get_or ts i d ≡ text
    → ((q : List ℕ) → is_some (lookup (bytes_eq q) old) ≡ list_any (bytes_eq q) (take i ts)) → PutsPlace old new text place
    → (q : List ℕ) → is_some (lookup (bytes_eq q) new) ≡ list_any (bytes_eq q) (take (i + 1) ts)
unfolding PutsPlace
known_step old new ts i d text place within e known puts q =
    let more : list_any (bytes_eq q) (take (i + 1) ts) ≡ (list_any (bytes_eq q) (take i ts) || bytes_eq q text) =
    list_any_more (bytes_eq q) ts i d within ∙ ap (λ t. list_any (bytes_eq q) (take i ts) || bytes_eq q t) e in
    by_test (bytes_eq text q)
    (λ yes.
    let itself : bytes_eq q text ≡ true = (bytes_decides q text).1 (sym ((bytes_decides text q).0 yes)) in
    ap is_some (puts q ∙ cond-true (bytes_eq text q) (Some place) (lookup (bytes_eq q) old) yes)
    ∙ sym (more ∙ ap (λ b. list_any (bytes_eq q) (take i ts) || b) itself ∙ or-true (list_any (bytes_eq q) (take i ts))))
    (λ no.
    let other : bytes_eq q text ≡ false = by_test (bytes_eq q text) (λ so. absurd (true≢false (sym ((bytes_decides text q).1 (sym ((bytes_decides q text).0 so))) ∙ no))) (λ not_so. not_so) in
    ap is_some (puts q ∙ cond-false (bytes_eq text q) (Some place) (lookup (bytes_eq q) old) no)
    ∙ known q
    ∙ sym (more ∙ ap (λ b. list_any (bytes_eq q) (take i ts) || b) other ∙ or-false (list_any (bytes_eq q) (take i ts))))

-- what a table tells of a text
pub told_stands : (r : Option ℕ) (table : Strings) (text : List ℕ) → PlacesStand table → r ≡ place_of table text → IfSome r (λ place. StandsAt table.bytes place text)
told_stands None table text stand e = tt
told_stands (Some place) table text stand e = stand text place (sym e)

-- ## The whole table

-- the table of the first texts, the last of which stands at a place
pub record Growing (ts : List (List ℕ)) (i : ℕ) (bytes last : List ℕ) (place : ℕ) (pairs : List (List ℕ × ℕ)) : Type 0 where
  pub fits : length bytes ≤ 2 ^ 32
  pub first : slice_get bytes 0 ≡ Some 0
  pub last_stands : StandsWith bytes place last
  pub stand : (q : List ℕ) (p : ℕ) → lookup (bytes_eq q) pairs ≡ Some p → StandsAt bytes p q
  pub known : (q : List ℕ) → is_some (lookup (bytes_eq q) pairs) ≡ list_any (bytes_eq q) (take i ts)
  pub long : length bytes + sum_by size_of_text (appended last (drop i ts)) ≡ laid_length ts
  pub told : AreTold pairs
  pub before : (k : ℕ) (d : List ℕ) → k + 1 ≡ i → (get_or ts k d ≡ last) × (lookup (bytes_eq last) pairs ≡ Some place)

pub growing-start : (ts : List (List ℕ)) (bytes : List ℕ) (pairs : List (List ℕ × ℕ)) → bytes ≡ 0 ∷ [] → pairs ≡ [] → Growing ts 0 bytes [] 0 pairs
growing-start ts bytes pairs one none =
    subst (λ (l : List ℕ). Growing ts 0 l [] 0 pairs) (sym one) (subst (λ (es : List (List ℕ × ℕ)). Growing ts 0 (0 ∷ []) [] 0 es) (sym none) (record {
      fits = lit≤ tt;
      first = refl;
      last_stands = stands-first;
      stand = λ q p e. absurd (none_some p e);
      known = λ q. refl;
      long = refl;
      told = λ k d within. absurd (omega (arith, within));
      before = λ k d e. absurd (omega (arith, e));
    }))
  where
    none_some : (p : ℕ) → None ≡ Some p → ⊥
    none_some p e = cc

first_kept : (bytes more : List ℕ) → slice_get bytes 0 ≡ Some 0 → slice_get (bytes ++ more) 0 ≡ Some 0
first_kept [] more e = cc
first_kept (x ∷ bytes) more e = e

still_left : (last text bytes more : List ℕ) (ts : List (List ℕ)) (i n : ℕ) (d : List ℕ) → i < length ts → get_or ts i d ≡ text
    → length more ≡ cond (ends_with nat_eq last text) 0 (length text + 1)
    → length bytes + sum_by size_of_text (appended last (drop i ts)) ≡ n → length (bytes ++ more) + sum_by size_of_text (appended text (drop (i + 1) ts)) ≡ n
still_left last text bytes more ts i n d within e size long = by_test (ends_with nat_eq last text)
    (λ shared.
    let none : length more ≡ 0 = size ∙ cond-true (ends_with nat_eq last text) 0 (length text + 1) shared in
    omega (arith, none, left-shared last text ts i d within e shared, length-append bytes more))
    (λ here.
    let some : length more ≡ length text + 1 = size ∙ cond-false (ends_with nat_eq last text) 0 (length text + 1) here in
    omega (arith, some, left-here last text ts i d within e here, length-append bytes more))

-- a text that was put into the table already is the last one, so it stands at the same place
same_place : (ts : List (List ℕ)) (i : ℕ) (bytes last text d : List ℕ) (place at : ℕ) (old : List (List ℕ × ℕ)) → Growing ts i bytes last place old
    → IsSortedBy is_before ts → i < length ts → get_or ts i d ≡ text → (last ≡ text → at ≡ place) → (p : ℕ) → lookup (bytes_eq text) (old) ≡ Some p → p ≡ at
same_place ts i bytes last text d place at old so_far sorted within e same p told =
    let again : list_any (bytes_eq text) (take i ts) ≡ true = sym (so_far.known text) ∙ ap is_some told in
    let (k, next) = before_of i again in
    let itself : last ≡ text = last_again ts i k last text d sorted within e next (so_far.before k d next).0 again in
    let there : lookup (bytes_eq text) (old) ≡ Some place = subst (λ (t : List ℕ). lookup (bytes_eq t) (old) ≡ Some place) itself (so_far.before k d next).1 in
    same_Some p place (sym told ∙ there) ∙ sym (same itself)
  where
    before_of : (n : ℕ) → list_any (bytes_eq text) (take n ts) ≡ true → (k : ℕ) × (k + 1 ≡ n)
    before_of zero again = absurd (true≢false (sym again))
    before_of (suc n) again = (n, omega arith)

pub growing-more : (ts : List (List ℕ)) (i : ℕ) (bytes new last d text : List ℕ) (place at : ℕ) (old pairs : List (List ℕ × ℕ)) → Growing ts i bytes last place old
    → IsSortedBy is_before ts → i < length ts → get_or ts i d ≡ text → holds_nul text ≡ false → PutsText bytes new last text at → (last ≡ text → at ≡ place)
    → pairs ≡ old ++ (text, at) ∷ [] → Growing ts (i + 1) new text at pairs
unfolding PutsPlace
growing-more ts i bytes new last d text place at old pairs so_far sorted within e none puts again more =
    let same : (p : ℕ) → lookup (bytes_eq text) old ≡ Some p → p ≡ at = same_place ts i bytes last text d place at old so_far sorted within e again in
    let told : PutsPlace old pairs text at =
    subst (λ (l : List (List ℕ × ℕ)). PutsPlace old l text at) (sym more) (puts-behind-pairs old text at same) in
    let stands : StandsAt (bytes ++ puts.more) at text = stands-from (bytes ++ puts.more) at text none (subst (λ (l : List ℕ). StandsWith l at text) puts.grown puts.stands) in
    record {
      fits = puts.fits;
      first = ap (λ l. slice_get l 0) puts.grown ∙ first_kept bytes puts.more so_far.first;
      last_stands = puts.stands;
      stand = λ q p found. subst (λ (l : List ℕ). StandsAt l p q) (sym puts.grown) (stand_step bytes puts.more old pairs text at so_far.stand told stands q p found);
      known = known_step old pairs ts i d text at within e so_far.known told;
      long = ap (λ l. length l + sum_by size_of_text (appended text (drop (i + 1) ts))) puts.grown ∙ still_left last text bytes puts.more ts i (laid_length ts) d within e puts.size so_far.long;
      told = subst AreTold (sym more) (told_push old text at so_far.told same);
      before = λ k f next.
          let here : k ≡ i = omega (arith, next) in (
            subst (λ (n : ℕ). get_or ts n f ≡ text) (sym here) (get_or_default ts i f d within ∙ e),
            itself_told old pairs text at told,
          );
    }
  where
    itself_told : (old new : List (List ℕ × ℕ)) (text : List ℕ) (at : ℕ) → PutsPlace old new text at → lookup (bytes_eq text) new ≡ Some at
    itself_told old new text at puts = puts text ∙ cond-true (bytes_eq text text) (Some at) (lookup (bytes_eq text) old) (eq-itself text)

-- a text that doesn't fit makes the whole too long
pub growing-too_long : (ts : List (List ℕ)) (i : ℕ) (bytes last text d : List ℕ) (place : ℕ) (pairs : List (List ℕ × ℕ)) → Growing ts i bytes last place pairs
    → i < length ts → get_or ts i d ≡ text → ends_with nat_eq last text ≡ false → 2 ^ 32 < length bytes + (length text + 1) → 2 ^ 32 < laid_length ts
growing-too_long ts i bytes last text d place pairs so_far within e ends long =
    let whole : length bytes + sum_by size_of_text (appended last (drop i ts)) ≡ laid_length ts = so_far.long in
    let part : sum_by size_of_text (appended last (drop i ts)) ≡ (length text + 1) + sum_by size_of_text (appended text (drop (i + 1) ts)) = left-here last text ts i d within e ends in
    omega (arith, whole, part, long)

-- where all were put, the table is laid
pub growing-all : (ks : List Numbered) (i : ℕ) (bytes last : List ℕ) (place : ℕ) (places : List ℕ) → Growing (texts_in ks) i bytes last place (with_places (take i ks) places)
    → length places ≡ i → length ks ≡ i → AreLaid ks bytes places
growing-all ks i bytes last place places so_far many whole =
    let ts : List (List ℕ) = texts_in ks in
    let past : length ts ≤ i = omega (arith, length-map ks (λ (k : Numbered). k.text), whole) in
    let all : with_places (take i ks) places ≡ with_places ks places = ap (λ (l : List Numbered). with_places l places) (take_all i ks (omega (arith, whole))) in
    let long : length bytes ≡ laid_length ts =
    sym (add-zero (length bytes)) ∙ ap (λ l. length bytes + sum_by size_of_text (appended last l)) (sym (drop_all i ts past)) ∙ so_far.long in
    record {
      known = λ q.
          ap (λ (l : List (List ℕ × ℕ)). is_some (lookup (bytes_eq q) l)) (sym all) ∙ so_far.known q ∙ ap (list_any (bytes_eq q)) (take_all i ts past);
      long = long;
      fits = subst (λ (n : ℕ). n ≤ 2 ^ 32) long so_far.fits;
      first = so_far.first;
      stand = λ q p found. so_far.stand q p (ap (lookup (bytes_eq q)) all ∙ found);
      told = subst AreTold all so_far.told;
      many = many ∙ sym whole;
    }
