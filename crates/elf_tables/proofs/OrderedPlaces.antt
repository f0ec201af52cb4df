-- The places of texts in the order in which they were added.
use Rattle.std.proofs.Common.{◌≡◌, ℕ, ◌+◌, ◌<◌, List, [], length, map, sym, subst, ap, ◌∙◌, Some, inl, inr, arith}
use Rattle.std.specs.Prelude.{All, slice_index, slice_set}
use Rattle.std.specs.List.Sorted.{IsPermutation}
use Rattle.std.specs.Map.{lookup}
use Rattle.std.specs.Str.{bytes_eq}
use Rattle.std.proofs.Math.Seq.{ext_get_or}
use Rattle.std.proofs.lemmas.List.{get_or-map, get_or-set_other, get_or-set_same, get_or_default, length-map, length-set}
use Rattle.std.proofs.lemmas.List.Sorted.{All-permutation, Contains-permutation, length_permutation}
use Rattle.elf_tables.specs.Strings.{Strings, place_of}
use Rattle.elf_tables.specs.StringSteps.{AreInOrder, AreLaid, AreOrdered, IsLaid, Numbered, StandsInOrder, text_numbered, texts_in, with_places}
use Rattle.elf_tables.proofs.LaidPairs.{eq-itself, told_at}
use Rattle.elf_tables.proofs.TextLists.{same_number}

abbrev nothing : Numbered
nothing = record { text = []; nth = 0 }

-- one place more is put where the number of its text says
pub ordered_more : (ks : List Numbered) (places order new : List ℕ) (i nth place : ℕ) → AreOrdered ks places order i → nth ≡ (text_numbered ks i).nth
    → nth < length order → place ≡ slice_index places i → new ≡ slice_set order nth place → AreOrdered ks places new (i + 1)
ordered_more ks places order new i nth place so_far is within placed set =
    record {
      many = ap length set ∙ length-set order nth place ∙ so_far.many;
      each = λ k low. elim (same_number (text_numbered ks k).nth nth) [
        | inl same ↦ record {
          at = i;
          within = omega arith;
          numbered = sym is ∙ sym same;
          place =
              ap (λ (n : ℕ). slice_index new n) same ∙ ap (λ (l : List ℕ). slice_index l nth) set ∙ get_or-set_same order nth place 0 within ∙ placed;
        }
        | inr other ↦
            let before : k < i = behind k low (λ here. other (ap (λ (n : ℕ). (text_numbered ks n).nth) here ∙ sym is)) in
            let old = so_far.each k before in
            record {
              at = old.at;
              within = omega (arith, old.within);
              numbered = old.numbered;
              place = ap (λ (l : List ℕ). slice_index l (text_numbered ks k).nth) set ∙ get_or-set_other order nth (text_numbered ks k).nth place 0 other ∙ old.place;
            }
      ];
    }
  where
    behind : (k : ℕ) → k < i + 1 → (k ≡ i → ⊥) → k < i
    behind k low apart = elim (same_number k i) [ inl here ↦ absurd (apart here) | inr other ↦ omega (arith, low, other) ]

-- what stands by the numbers, where all were put
pub stands_in_order : (ks : List Numbered) (bytes places order : List ℕ) (table : Strings) → AreLaid ks bytes places → AreOrdered ks places order (length ks)
    → table.places ≡ with_places ks places → table.in_order ≡ order → (k : ℕ) → k < length ks → StandsInOrder ks table (text_numbered ks k).nth
stands_in_order ks bytes places order table laid ordered told by_number k low =
    let o = ordered.each k low in
    record {
      at = o.at;
      within = o.within;
      numbered = o.numbered;
      place =
          ap (lookup (bytes_eq (text_numbered ks o.at).text)) told
          ∙ told_at (text_numbered ks o.at).text ks places o.at nothing 0 laid.told o.within (omega (arith, o.within, laid.many)) (eq-itself (text_numbered ks o.at).text)
          ∙ ap Some (sym o.place)
          ∙ ap (λ (l : List ℕ). Some (slice_index l (text_numbered ks k).nth)) (sym by_number);
    }

-- the numbers of texts are below their count
pub numbered_below : (old ks : List Numbered) → AreInOrder old → IsPermutation old ks → All (λ k. k.nth < length ks) ks
numbered_below old ks in_order moved =
    All-permutation (λ (k : Numbered). k.nth < length ks) old ks moved
    (λ i d within. omega (arith, in_order i d within, length_permutation old ks moved, within))

-- a text by the number that it has
same_text : (old ks : List Numbered) → AreInOrder old → IsPermutation old ks → All (λ k. k.text ≡ (text_numbered old k.nth).text) ks
same_text old ks in_order moved =
    All-permutation (λ (k : Numbered). k.text ≡ (text_numbered old k.nth).text) old ks moved
    (λ i d within. ap (λ (k : Numbered). k.text) (get_or_default old i d nothing within)
    ∙ ap (λ (n : ℕ). (text_numbered old n).text) (sym (in_order i d within)))

-- each text that was added stands at the place that the order tells
told_in_order : (old ks : List Numbered) (table : Strings) → AreInOrder old → IsPermutation old ks → IsLaid ks table → (i : ℕ) → i < length old
    → place_of table (text_numbered old i).text ≡ Some (slice_index table.in_order i)
told_in_order old ks table in_order moved laid i within =
    let o : Numbered = text_numbered old i in
    let (k, low, e) = Contains-permutation old ks o moved (i, within, get_or_default old i o nothing within) in
    let here : text_numbered ks k ≡ o = get_or_default ks k nothing o low ∙ e in
    let nth : (text_numbered ks k).nth ≡ i = ap (λ (n : Numbered). n.nth) here ∙ in_order i nothing within in
    let s : StandsInOrder ks table i = subst (StandsInOrder ks table) nth (laid.ordered k low) in
    let same : (text_numbered ks s.at).text ≡ o.text =
    same_text old ks in_order moved s.at nothing s.within ∙ ap (λ (n : ℕ). (text_numbered old n).text) s.numbered in
    ap (place_of table) (sym same) ∙ s.place

pub in_order_of : (old ks : List Numbered) (table : Strings) → AreInOrder old → IsPermutation old ks → IsLaid ks table
    → map Some table.in_order ≡ map (place_of table) (texts_in old)
in_order_of old ks table in_order moved laid =
    let texts : List (List ℕ) = texts_in old in
    let many : length table.in_order ≡ length old = laid.many ∙ length_permutation old ks moved in
    let left : length (map Some table.in_order) ≡ length table.in_order = length-map table.in_order Some in
    let right : length (map (place_of table) texts) ≡ length old = length-map texts (place_of table) ∙ length-map old (λ (k : Numbered). k.text) in
    ext_get_or (Some 0) (map Some table.in_order) (map (place_of table) texts) (left ∙ many ∙ sym right) (λ i low.
    let within : i < length old = omega (arith, low, left, many) in
    get_or-map Some table.in_order i 0 (Some 0) (omega (arith, within, many))
    ∙ sym (told_in_order old ks table in_order moved laid i within)
    ∙ sym (get_or-map (place_of table) texts i [] (Some 0) (omega (arith, within, length-map old (λ (k : Numbered). k.text)))
    ∙ ap (place_of table) (get_or-map (λ (k : Numbered). k.text) old i nothing [] within)))
