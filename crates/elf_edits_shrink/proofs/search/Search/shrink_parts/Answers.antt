-- A directory stays and is put behind those that stay, or goes and is noted.
use Rattle.std.proofs.Common.{◌≡◌, ◌∙◌, Bor, List, [], ap, get_or, map, not, sym, ℕ}
use Rattle.std.proofs.lemmas.List.{get_or_default}
use Rattle.elf_edits_shrink.specs.ShrinkModel.{search_model, removal_model}
use Rattle.elf_edits.specs.Texts.{has_some, joined_by_colons}
use Rattle.elf_edits_shrink.proofs.ShrinkSteps.{first_stays, gone_goes, gone_stays, same_goes, text_stays}
use Rattle.elf_edits_shrink.proofs.search.Search.shrink_parts.Goals.{then-keeps+in_ok-put_part, else-keeps+in_ok-note_removal}
use Rattle.elf_edits_shrink.proofs.search.Search.shrink_parts.Goals as goal

pub loop-part-preserved : goal.loop-part-preserved
loop-part-preserved c =
    let s = search_model c.args.self.now in
    let parts = c.args.parts.now in
    let i = c.loop-part.part-index in
    let x : Bor (List ℕ) = get_or parts i (record { ref_ptr = (0, 0); now = [] }) in
    let here = c.loop-part-test.true in
    let item : x ≡ get_or parts i x = get_or_default parts i (record { ref_ptr = (0, 0); now = [] }) x here in
    let old = map removal_model c.args.removed.now.items in
    elim c.if-keeps.branch [
      | then-keeps+in_ok-put_part w ↦
          let stays = sym c.keeps.ensures ∙ w.if-keeps.true in
          record {
            text = ap (λ v. v.items) w.made-is ∙ w.in_ok-put_part.ensures ∙ text_stays s parts i x here item stays c.loop-part.made.items c.loop-part.is_first c.loop-part.invariant.text c.loop-part.invariant.first;
            first = w.is_first-is ∙ first_stays s parts i x here item stays;
            gone = ap (λ v. map removal_model v.items) w.removed-is ∙ gone_stays s parts i x here item stays old (map removal_model c.loop-part.removed.items) c.loop-part.invariant.gone;
          }
      | else-keeps+in_ok-note_removal w ↦
          let goes = sym c.keeps.ensures ∙ w.if-keeps.false in
          record {
            text = ap (λ v. v.items) w.made-is ∙ c.loop-part.invariant.text ∙ ap joined_by_colons (same_goes s parts i x here item goes);
            first = w.is_first-is ∙ c.loop-part.invariant.first ∙ ap (λ (l : List (List ℕ)). not (has_some l)) (same_goes s parts i x here item goes);
            gone = ap (λ v. map removal_model v.items) w.removed-is ∙ w.in_ok-note_removal.ensures ∙ gone_goes s parts i x here item goes old (map removal_model c.loop-part.removed.items) c.loop-part.invariant.gone;
          }
    ]
