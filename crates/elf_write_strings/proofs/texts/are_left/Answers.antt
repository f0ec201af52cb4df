-- One entry more, and at the end no text is left.
use Rattle.std.proofs.Common.{◌≡◌, ◌≤◌, ◌<◌, ◌+◌, ℕ, List, map, length, Bool, true, false, cond, arith, subst, refl, sym, ◌∙◌}
use Rattle.std.specs.Prelude.{◌==◌}
use Rattle.std.proofs.lemmas.Bool.{false≢true}
use Rattle.std.proofs.lemmas.List.{length-map}
use Rattle.elf_format.specs.Answers.{borrowed}
use Rattle.elf_image.specs.ImageModel.{entry_model}
use Rattle.elf_layout_plan.specs.Texts.{is_subsequence, texts_of_entries}
use Rattle.elf_write_strings.proofs.TextsPlaced.{left_end, left_next, next_within}
use Rattle.elf_write_strings.proofs.texts.are_left.Goals as goal
use Rattle.elf_write_strings.proofs.texts.are_left.Goals.{then-is_next, else-is_next}

chosen : (b : Bool) (n : ℕ) → b ≡ true → cond b (n + 1) n ≡ n + 1
chosen true n is = refl
chosen false n is = absurd (false≢true is)

passed : (b : Bool) (n : ℕ) → b ≡ false → cond b (n + 1) n ≡ n
passed false n is = refl
passed true n is = absurd (false≢true (sym is))

within_next : (ts : List (List ℕ)) (n m k : ℕ) → length ts ≡ k → n < length ts → m ≡ n + 1 → m ≤ k
within_next ts n m k long within next = omega (arith, long, within, next)

pub loop-entry-preserved : goal.loop-entry-preserved
loop-entry-preserved c =
    let ts : List (List ℕ) = map borrowed c.args.texts.now in
    let long : length ts ≡ length c.args.texts.now = length-map c.args.texts.now borrowed in
    elim c.if-is_next.branch [
      | then-is_next w ↦ record {
        so_far = left_next ts c.args.entries.now c.loop-entry.next c.if-is_next.next c.loop-entry.entry-index c.entry-item.result c.is_next.result
            (is_subsequence ts (texts_of_entries (map entry_model c.args.entries.now))) c.loop-entry-test.true c.entry-item.is c.is_next.ensures
            (w.next-is ∙ sym (chosen c.is_next.result c.loop-entry.next w.if-is_next.true)) c.loop-entry.invariant.so_far;
        inside = within_next ts c.loop-entry.next c.if-is_next.next (length c.args.texts.now) long
            (next_within ts c.loop-entry.next (entry_model c.entry-item.result) (sym c.is_next.ensures ∙ w.if-is_next.true)) w.next-is;
      }
      | else-is_next w ↦ record {
        so_far = left_next ts c.args.entries.now c.loop-entry.next c.if-is_next.next c.loop-entry.entry-index c.entry-item.result c.is_next.result
            (is_subsequence ts (texts_of_entries (map entry_model c.args.entries.now))) c.loop-entry-test.true c.entry-item.is c.is_next.ensures
            (w.next-is ∙ sym (passed c.is_next.result c.loop-entry.next w.if-is_next.false)) c.loop-entry.invariant.so_far;
        inside = subst (λ (n : ℕ). n ≤ length c.args.texts.now) (sym w.next-is) c.loop-entry.invariant.inside;
      }
    ]

pub returns : goal.returns
returns c =
    let ts : List (List ℕ) = map borrowed c.args.texts.now in
    let long : length ts ≡ length c.args.texts.now = length-map c.args.texts.now borrowed in
    subst (λ (n : ℕ). (c.loop-entry.next == n) ≡ is_subsequence ts (texts_of_entries (map entry_model c.args.entries.now))) long
    (left_end ts c.args.entries.now c.loop-entry.next c.loop-entry.entry-index
    (is_subsequence ts (texts_of_entries (map entry_model c.args.entries.now))) (omega arith) c.loop-entry.invariant.so_far
    (subst (λ (n : ℕ). c.loop-entry.next ≤ n) (sym long) c.loop-entry.invariant.inside))
