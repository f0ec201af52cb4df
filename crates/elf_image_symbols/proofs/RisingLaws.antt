-- Numbers that rise.
use Rattle.std.proofs.Common.{◌≡◌, ◌≢◌, ℕ, zero, suc, ◌+◌, ◌<◌, ◌≤◌, Bool, true, false, cond, List, [], ◌∷◌, ◌++◌, length, map, get_or, filter, refl, sym, ap, ◌∙◌, arith}
use Rattle.std.specs.Prelude.{not, remove}
use Rattle.std.proofs.lemmas.List.{append-nil, ext_get_or}
use Rattle.std.proofs.lemmas.List.Elements.{filter-append}
use Rattle.elf_format.specs.Image.{counted}
use Rattle.elf_format.specs.Options.{is_one_of}
use Rattle.elf_image_symbols.proofs.ForCallers.Lengths.{length-counted, slice_index-counted}
use Rattle.elf_image_symbols.specs.EditedList.{changed_at, stays}
use Rattle.elf_image_symbols.specs.Rising.{AreRising, numbers_there}

-- ## What is known of them

pub rising_from : (low less high : ℕ) (ns : List ℕ) → less ≤ low → AreRising low high ns → AreRising less high ns
rising_from low less high [] le rising = tt
rising_from low less high (n ∷ ns) le rising = (omega (arith, le, rising.0), rising.1, rising.2)

-- each is as far above the first bound as it has others before it, and below the second
pub rising_at : (low high : ℕ) (ns : List ℕ) (i : ℕ) → AreRising low high ns → i < length ns → (low + i ≤ get_or ns i 0) × (get_or ns i 0 < high)
rising_at low high [] i rising less = absurd (omega (arith, less))
rising_at low high (n ∷ ns) zero rising less = (omega (arith, rising.0), rising.1)
rising_at low high (n ∷ ns) (suc i) rising less =
    let at = rising_at (n + 1) high ns i rising.2 (omega (arith, less)) in (omega (arith, rising.0, at.0), at.1)

pub rising_ordered : (low high : ℕ) (ns : List ℕ) (i j : ℕ) → AreRising low high ns → i < j → j < length ns → get_or ns i 0 < get_or ns j 0
rising_ordered low high [] i j rising before less = absurd (omega (arith, less))
rising_ordered low high (n ∷ ns) i zero rising before less = absurd (omega (arith, before))
rising_ordered low high (n ∷ ns) zero (suc j) rising before less =
    let at = rising_at (n + 1) high ns j rising.2 (omega (arith, less)) in omega (arith, at.0)
rising_ordered low high (n ∷ ns) (suc i) (suc j) rising before less = rising_ordered (n + 1) high ns i j rising.2 (omega (arith, before)) (omega (arith, less))

-- there are no more than fit between the bounds
pub rising_long : (low high : ℕ) (ns : List ℕ) → AreRising low high ns → low ≤ high → low + length ns ≤ high
rising_long low high [] rising le = omega (arith, le)
rising_long low high (n ∷ ns) rising le =
    let rest = rising_long (n + 1) high ns rising.2 (omega (arith, rising.1)) in omega (arith, rising.0, rest)

-- each has as many behind it as fit up to the second bound
rising_below : (low high : ℕ) (ns : List ℕ) (i : ℕ) → AreRising low high ns → i < length ns → get_or ns i 0 + length ns ≤ high + i
rising_below low high [] i rising less = absurd (omega (arith, less))
rising_below low high (n ∷ ns) zero rising less =
    let rest = rising_long (n + 1) high ns rising.2 (omega (arith, rising.1)) in omega (arith, rest)
rising_below low high (n ∷ ns) (suc i) rising less =
    let rest = rising_below (n + 1) high ns i rising.2 (omega (arith, less)) in omega (arith, rest)

-- ## Numbers from 0 on

-- as many rising numbers as fit are all of them
pub rising_whole : (count : ℕ) (ns : List ℕ) → AreRising 0 count ns → length ns ≡ count → ns ≡ counted count
rising_whole count ns rising long =
    ext_get_or 0 ns (counted count) (long ∙ sym (length-counted count))
    (λ i less.
    let at = rising_at 0 count ns i rising less in
    let below = rising_below 0 count ns i rising less in
    let here : get_or ns i 0 ≡ i = omega (arith, at.0, below, long) in
    here ∙ sym (slice_index-counted count i (omega (arith, less, long))))

rising_push : (low high top n : ℕ) (ns : List ℕ) → AreRising low high ns → low ≤ n → high ≤ n → n < top → AreRising low top (ns ++ n ∷ [])
rising_push low high top n [] rising le above below = (le, below, tt)
rising_push low high top n (m ∷ ns) rising le above below =
    (rising.0, omega (arith, rising.1, above, below), rising_push (m + 1) high top n ns rising.2 (omega (arith, rising.1, above)) above below)

pub rising_counted : (count : ℕ) → AreRising 0 count (counted count)
unfolding counted
rising_counted zero = tt
rising_counted (suc n) = rising_push 0 n (suc n) n (counted n) (rising_counted n) (omega arith) (omega arith) (omega arith)

-- the numbers of what is there
pub rising_there : (are_all : Bool) (count : ℕ) (kept : List ℕ) → AreRising 0 count kept → AreRising 0 count (numbers_there are_all count kept)
rising_there true count kept rising = rising_counted count
rising_there false count kept rising = rising

-- ## Some of them

pub counted-more : (n : ℕ) → counted (n + 1) ≡ counted n ++ n ∷ []
unfolding counted
counted-more n = let next : n + 1 ≡ suc n = omega arith in ap counted next

-- one number more, which stays or goes
stays-more : (gone : List ℕ) (n : ℕ) (b : Bool) → is_one_of gone n ≡ b → filter (stays gone) (counted (n + 1)) ≡ filter (stays gone) (counted n) ++ cond b [] (n ∷ [])
stays-more gone n b is =
    ap (filter (stays gone)) (counted-more n) ∙ filter-append (stays gone) (counted n) (n ∷ []) ∙ ap (λ (l : List ℕ). filter (stays gone) (counted n) ++ l) (by_test (is_one_of gone n) b is)
  where
    by_test : (t c : Bool) → t ≡ c → cond (not t) (n ∷ []) [] ≡ cond c [] (n ∷ [])
    by_test true c e = ap (λ (u : Bool). cond u [] (n ∷ [])) e
    by_test false c e = ap (λ (u : Bool). cond u [] (n ∷ [])) e

pub one_stays : (gone : List ℕ) (n : ℕ) → is_one_of gone n ≡ false → filter (stays gone) (counted n) ++ n ∷ [] ≡ filter (stays gone) (counted (n + 1))
one_stays gone n is = sym (stays-more gone n false is)

pub one_goes : (gone : List ℕ) (n : ℕ) → is_one_of gone n ≡ true → filter (stays gone) (counted n) ≡ filter (stays gone) (counted (n + 1))
one_goes gone n is = sym (append-nil (filter (stays gone) (counted n))) ∙ sym (stays-more gone n true is)

pub rising_remove : (low high : ℕ) (ns : List ℕ) (i : ℕ) → AreRising low high ns → AreRising low high (remove ns i)
rising_remove low high [] zero rising = tt
rising_remove low high [] (suc i) rising = tt
rising_remove low high (n ∷ ns) zero rising = rising_from (n + 1) low high ns (omega (arith, rising.0)) rising.2
rising_remove low high (n ∷ ns) (suc i) rising = (rising.0, rising.1, rising_remove (n + 1) high ns i rising.2)

pub rising_filter : (low high : ℕ) (test : ℕ → Bool) (ns : List ℕ) → AreRising low high ns → AreRising low high (filter test ns)
rising_filter low high test [] rising = tt
rising_filter low high test (n ∷ ns) rising = by_test (test n) (rising_filter (n + 1) high test ns rising.2)
  where
    by_test : (b : Bool) → AreRising (n + 1) high (filter test ns) → AreRising low high (cond b (n ∷ filter test ns) (filter test ns))
    by_test true rest = (rising.0, rising.1, rest)
    by_test false rest = rising_from (n + 1) low high (filter test ns) (omega (arith, rising.0)) rest

-- ## What is made of them

-- functions that agree from a number on
map-agree : {X : Type 0} (f g : ℕ → X) (low high : ℕ) (ns : List ℕ) → AreRising low high ns → ((m : ℕ) → low ≤ m → g m ≡ f m) → map g ns ≡ map f ns
map-agree f g low high [] rising agree = refl
map-agree f g low high (n ∷ ns) rising agree =
    ap (λ x. x ∷ map g ns) (agree n rising.0) ∙ ap (λ l. f n ∷ l) (map-agree f g (n + 1) high ns rising.2 (λ m le. agree m (omega (arith, le, rising.0))))

-- functions that agree but for one of them
pub map-but_one : {X : Type 0} (f g : ℕ → X) (h : X → X) (low high : ℕ) (ns : List ℕ) (i : ℕ) → AreRising low high ns → i < length ns
    → ((m : ℕ) → m ≢ get_or ns i 0 → g m ≡ f m) → g (get_or ns i 0) ≡ h (f (get_or ns i 0)) → map g ns ≡ changed_at i h (map f ns)
map-but_one f g h low high [] i rising less others here = absurd (omega (arith, less))
map-but_one f g h low high (n ∷ ns) zero rising less others here =
    ap (λ x. x ∷ map g ns) here ∙ ap (λ l. h (f n) ∷ l) (map-agree f g (n + 1) high ns rising.2 (λ m le. others m (λ (e : m ≡ n). omega (arith, le, e))))
map-but_one f g h low high (n ∷ ns) (suc i) rising less others here =
    let at = rising_at (n + 1) high ns i rising.2 (omega (arith, less)) in
    ap (λ x. x ∷ map g ns) (others n (λ (e : n ≡ get_or ns i 0). omega (arith, at.0, e)))
    ∙ ap (λ l. f n ∷ l) (map-but_one f g h (n + 1) high ns i rising.2 (omega (arith, less)) others here)
