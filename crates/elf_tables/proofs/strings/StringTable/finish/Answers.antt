use Rattle.std.proofs.Common.{◌≡◌, ◌<◌, ℕ, List, false, map, reverse, subst, sym, ap, ◌∙◌, rules}
use Rattle.std.specs.Cmp.Lexicographic.{slice_cmp}
use Rattle.std.specs.List.Sorted.{IsPermutation, IsSortedBy}
use Rattle.std.specs.Ordering.{is_lt, nat_cmp}
use Rattle.std.proofs.lemmas.List.Sorted.{All-permutation, IsPermutation-map, answers_always}
use Rattle.std.proofs.lemmas.Result.{MatchResult-weaker}
use Rattle.elf_tables.specs.Strings.{HoldNoNul, holds_nul}
use Rattle.elf_tables.specs.StringSteps.{Numbered, is_before, texts_in}
use Rattle.elf_tables.proofs.OrderedPlaces.{in_order_of, numbered_below}
use Rattle.elf_tables.proofs.TableLaws.{Falls, falls_from_sorted, laid_length-sorted, sorted-map, table_of_laid}
use Rattle.elf_tables.proofs.TextOrder.{is_before-order}
use Rattle.elf_tables.proofs.strings.StringTable.finish.Goals as goal

-- the same texts in another order
moved : (old new : List Numbered) → IsPermutation old new → IsPermutation (texts_in old) (texts_in new)
moved old new other = IsPermutation-map (λ (k : Numbered). k.text) old new other

pub lay-requires-clause-none : goal.lay-requires-clause-none
lay-requires-clause-none c =
    let old : List Numbered = c.self.inside.texts.items in
    let new : List Numbered = c.sort_unstable_by.new.self.items in
    All-permutation (λ text. holds_nul text ≡ false) (texts_in old) (texts_in new) (moved old new c.sort_unstable_by.ensures.permutation)
    (subst HoldNoNul (sym c.self.view_is) c.requires)

-- the texts are sorted by their order from their ends
pub lay-requires-clause-sorted : goal.lay-requires-clause-sorted
lay-requires-clause-sorted c =
    let new : List Numbered = c.sort_unstable_by.new.self.items in
    sorted-map (λ (k : Numbered). k.text) new
    (c.sort_unstable_by.ensures.sorted (λ (k n : Numbered). is_before k.text n.text) (is_before-order (λ (k : Numbered). k.text))
    (answers_always _ (λ a r. is_lt r ≡ is_before a.0.now.text a.1.0.now.text) _ (λ f a r g k.
    let e : r ≡ slice_cmp nat_cmp (reverse a.1.0.now.text) (reverse a.0.now.text) = search rules in ap is_lt e)))

pub lay-requires-clause-numbered : goal.lay-requires-clause-numbered
lay-requires-clause-numbered c =
    numbered_below c.self.inside.texts.items c.sort_unstable_by.new.self.items c.self.invariant c.sort_unstable_by.ensures.permutation

pub returns-clause-table : goal.returns-clause-table
returns-clause-table c =
    let old : List Numbered = c.self.inside.texts.items in
    let new : List Numbered = c.sort_unstable_by.new.self.items in
    let sorted : IsSortedBy is_before (texts_in new) = sorted-map (λ (k : Numbered). k.text) new
    (c.sort_unstable_by.ensures.sorted (λ (k n : Numbered). is_before k.text n.text) (is_before-order (λ (k : Numbered). k.text))
    (answers_always _ (λ a r. is_lt r ≡ is_before a.0.now.text a.1.0.now.text) _ (λ f a r g k.
    let e : r ≡ slice_cmp nat_cmp (reverse a.1.0.now.text) (reverse a.0.now.text) = search rules in ap is_lt e))) in
    let falls : Falls (texts_in new) = falls_from_sorted (texts_in new) sorted in
    let shuffled : IsPermutation c.args.self (texts_in new) =
    subst (λ (l : List (List ℕ)). IsPermutation l (texts_in new)) c.self.view_is (moved old new c.sort_unstable_by.ensures.permutation) in
    MatchResult-weaker c.lay.result c.lay.ensures
    (λ table is_laid. table_of_laid c.args.self new table shuffled falls is_laid
    (in_order_of old new table c.self.invariant c.sort_unstable_by.ensures.permutation is_laid ∙ ap (map _) c.self.view_is))
    (λ fault too_long large. subst (λ (n : ℕ). 4294967296 < n) (laid_length-sorted c.args.self (texts_in new) shuffled falls) (too_long large))

pub returns-clause-stands : goal.returns-clause-stands
returns-clause-stands c = MatchResult-weaker c.lay.result c.lay.ensures (λ table laid. laid.stand) (λ fault too_long. tt)
