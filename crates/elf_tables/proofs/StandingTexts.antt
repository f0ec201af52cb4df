-- Texts that stand in a table, as the table grows.
use Rattle.std.proofs.Common.{◌≡◌, ℕ, zero, suc, ◌+◌, ◌-◌, ◌<◌, ◌≤◌, ◌^◌, true, false, List, [], ◌∷◌, ◌++◌, length, drop, take, refl, sym, subst, ap, ◌∙◌, nat_eq, Option, Some, arith}
use Rattle.std.specs.Prelude.{◌||◌, slice_get}
use Rattle.std.specs.List.{ends_with}
use Rattle.std.proofs.lemmas.Bool.{cond-false, cond-true, ne_eqb, true≢false}
use Rattle.std.proofs.lemmas.List.{append-nil, append_assoc, drop-append-le, drop-drop, drop-take, drop_at, length-append, length-drop, length-take, take-append-le, take_all}
use Rattle.patch_bytes.specs.Memory.{◌>>=◌, Keeps, memory_of, text_at}
use Rattle.patch_bytes.proofs.MemoryLaws.{some_bind, text_at-keeps}
use Rattle.elf_tables.specs.StringSteps.{PutsText, StandsWith}
use Rattle.elf_tables.specs.Strings.{StandsAt, holds_nul}
use Rattle.elf_tables.proofs.TextOrder.{IsEnd, IsEnd-from}

pub stands-with : (table : List ℕ) (place : ℕ) (text : List ℕ) → StandsAt table place text → StandsWith table place text
unfolding StandsWith
stands-with table place text stands = stands.bytes

-- a text that stands in a table lies within it
pub stands-within : (table : List ℕ) (place : ℕ) (text : List ℕ) → StandsWith table place text → place + length text + 1 ≤ length table
unfolding StandsWith
stands-within table place text stands =
    let long : length (take (length text + 1) (drop place table)) ≡ length text + 1 = ap length stands ∙ length-append text (0 ∷ []) in
    omega (arith, long, length-take (length text + 1) (drop place table), length-drop place table)

-- ## What a reader finds

first_of_field : (n p : ℕ) (table : List ℕ) (x : ℕ) (xs : List ℕ) → take (suc n) (drop p table) ≡ x ∷ xs → (slice_get table p ≡ Some x) × (take n (drop (p + 1) table) ≡ xs)
first_of_field n zero [] x xs e = cc
first_of_field n zero (y ∷ ys) x xs e = (cc, cc)
first_of_field n (suc p) [] x xs e = cc
first_of_field n (suc p) (y ∷ ys) x xs e =
    let k : suc p + 1 ≡ suc (p + 1) = omega arith in
    rw k (first_of_field n p ys x xs e)

no_nul_behind : (x : ℕ) (text : List ℕ) → holds_nul (x ∷ text) ≡ false → holds_nul text ≡ false
no_nul_behind zero text e = absurd (true≢false e)
no_nul_behind (suc x) text e = sym (ap (λ b. b || holds_nul text) (ne_eqb (suc x) 0 (λ none. absurd (omega arith)))) ∙ e

after : ℕ → List ℕ → ℕ → ℕ → Option (List ℕ)
after room table place byte = elim byte [ zero ↦ Some [] | suc b ↦ text_at room (memory_of table) (place + 1) >>= (λ rest. Some (suc b ∷ rest)) ]

goes_on : (room : ℕ) (table : List ℕ) (place x : ℕ) (text : List ℕ) → holds_nul (x ∷ text) ≡ false → text_at room (memory_of table) (place + 1) ≡ Some text → after room table place x ≡ Some (x ∷ text)
unfolding after
goes_on room table place zero text e more = absurd (true≢false e)
goes_on room table place (suc x) text e more = some_bind (text_at room (memory_of table) (place + 1)) (λ rest. Some (suc x ∷ rest)) text more

pub read-from : (table : List ℕ) (place : ℕ) (text : List ℕ) → holds_nul text ≡ false → StandsWith table place text → (room : ℕ) → length text < room → text_at room (memory_of table) place ≡ Some text
unfolding StandsWith text_at after
read-from table place text none stands zero within = absurd (omega arith)
read-from table place [] none stands (suc room) within =
    let (here, _) = first_of_field 0 place table 0 [] stands in
    some_bind (slice_get table place) (after room table place) 0 here
read-from table place (x ∷ text) none stands (suc room) within =
    let k : length (x ∷ text) + 1 ≡ suc (length text + 1) = omega arith in
    let whole : take (suc (length text + 1)) (drop place table) ≡ x ∷ (text ++ 0 ∷ []) = rw k at stands in
    let (here, rest) = first_of_field (length text + 1) place table x (text ++ 0 ∷ []) whole in
    some_bind (slice_get table place) (after room table place) x here
    ∙ goes_on room table place x text none (read-from table (place + 1) text (no_nul_behind x text none) rest room (omega arith))

pub stands-from : (table : List ℕ) (place : ℕ) (text : List ℕ) → holds_nul text ≡ false → StandsWith table place text → StandsAt table place text
unfolding StandsWith
stands-from table place text none stands = record { bytes = stands; read = read-from table place text none stands }

-- ## A table that grows

-- bytes behind a table leave its texts where they are
pub stands-more : (table more : List ℕ) (place : ℕ) (text : List ℕ) → StandsWith table place text → StandsWith (table ++ more) place text
unfolding StandsWith
stands-more table more place text stands =
    let within : place + length text + 1 ≤ length table = stands-within table place text stands in
    ap (take (length text + 1)) (drop-append-le place table more (omega arith))
    ∙ take-append-le (length text + 1) (drop place table) more (omega (arith, length-drop place table))
    ∙ stands

bytes-more : (table more : List ℕ) → Keeps (memory_of table) (memory_of (table ++ more))
bytes-more [] more a x e = cc
bytes-more (y ∷ table) more zero x e = e
bytes-more (y ∷ table) more (suc a) x e = bytes-more table more a x e

pub stands-at-more : (table more : List ℕ) (place : ℕ) (text : List ℕ) → StandsAt table place text → StandsAt (table ++ more) place text
unfolding StandsWith
stands-at-more table more place text stands = record {
  bytes = stands-more table more place text stands.bytes;
  read = λ room within. text_at-keeps room room (omega arith) (memory_of table) (memory_of (table ++ more)) (bytes-more table more) place text (stands.read room within);
}

-- a text that is put behind a table stands there
pub stands-behind : (table text : List ℕ) → StandsWith (table ++ (text ++ 0 ∷ [])) (length table) text
unfolding StandsWith
stands-behind table text =
    ap (take (length text + 1)) (drop_at table (text ++ 0 ∷ []) (length table) refl)
    ∙ take_all (length text + 1) (text ++ 0 ∷ []) (omega (arith, length-append text (0 ∷ [])))

-- a text that ends another stands at its end
pub stands-shared : (table last text : List ℕ) (place : ℕ) → StandsWith table place last → ends_with nat_eq last text ≡ true → StandsWith table (place + (length last - length text)) text
unfolding StandsWith
stands-shared table last text place stands ends =
    let h : IsEnd last text = IsEnd-from last text ends in
    let k : ℕ = length h.front in
    let long : length last ≡ k + length text = ap length h.is ∙ length-append h.front text in
    let at : place + (length last - length text) ≡ place + k = omega arith in
    let whole : take (k + (length text + 1)) (drop place table) ≡ last ++ 0 ∷ [] =
    ap (λ n. take n (drop place table)) (let same : k + (length text + 1) ≡ length last + 1 = omega arith in same) ∙ stands in
    rw at
    (ap (take (length text + 1)) (sym (drop-drop k place table))
    ∙ sym (drop-take k (length text + 1) (drop place table))
    ∙ ap (drop k) (whole ∙ ap (λ l. l ++ 0 ∷ []) h.is ∙ append_assoc h.front text (0 ∷ []))
    ∙ drop_at h.front (text ++ 0 ∷ []) k refl)

-- the empty text stands in a table of one NUL
pub stands-first : StandsWith (0 ∷ []) 0 []
unfolding StandsWith
stands-first = refl

-- ## One more text

pub puts-shared : (bytes last text : List ℕ) (place : ℕ) → length bytes ≤ 2 ^ 32 → StandsWith bytes place last → ends_with nat_eq last text ≡ true
    → PutsText bytes bytes last text (place + (length last - length text))
puts-shared bytes last text place fits stands ends = record {
  more = [];
  grown = sym (append-nil bytes);
  stands = stands-shared bytes last text place stands ends;
  size = sym (cond-true (ends_with nat_eq last text) 0 (length text + 1) ends);
  fits = fits;
}

pub puts-behind : (bytes new last text : List ℕ) → new ≡ bytes ++ (text ++ 0 ∷ []) → length bytes + (length text + 1) ≤ 2 ^ 32 → ends_with nat_eq last text ≡ false
    → PutsText bytes new last text (length bytes)
puts-behind bytes new last text grown fits ends = record {
  more = text ++ 0 ∷ [];
  grown = grown;
  stands = subst (λ (l : List ℕ). StandsWith l (length bytes) text) (sym grown) (stands-behind bytes text);
  size = length-append text (0 ∷ []) ∙ sym (cond-false (ends_with nat_eq last text) 0 (length text + 1) ends);
  fits = omega (arith, ap length grown, length-append bytes (text ++ 0 ∷ []), length-append text (0 ∷ []));
}
