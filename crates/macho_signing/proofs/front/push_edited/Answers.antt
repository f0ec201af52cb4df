-- One page more.
use Rattle.std.proofs.Common.{◌≡◌, ◌∙◌, ◌++◌, List, ℕ, ap, arith}
use Rattle.macho_signatures.specs.declared.directory.Directory.{Directory}
use Rattle.macho_signatures.proofs.RenewalSteps.{slot_left, slot_pushed, slots_all}
use Rattle.macho_signing.specs.Thin.{differences}
use Rattle.macho_signing.proofs.FrontLaws.{hash_within}
use Rattle.macho_signing.proofs.front.push_edited.Goals as goal
use Rattle.macho_signing.proofs.front.push_edited.Goals.{then-is_edited+in_ok-push, else-is_edited}

pub returns : goal.returns
returns c = λ rest.
    slots_all c.args.directory.now (differences (c.args.old.now ++ rest) (c.args.new.now ++ rest)) (c.args.new.now ++ rest) c.loop-page.page c.args.slots.now.items c.loop-page.slots.items c.loop-page.auto.page-end c.loop-page-test.false (c.loop-page.invariant rest)

pub loop-page-preserved : goal.loop-page-preserved
loop-page-preserved c = λ rest.
    let d : Directory = c.args.directory.now in
    let new : List ℕ = c.args.new.now in
    let touched = differences (c.args.old.now ++ rest) (new ++ rest) in
    elim c.if-is_edited.branch [
      | then-is_edited+in_ok-push w ↦
          slot_pushed d touched (new ++ rest) c.loop-page.page w.slot_place.result w.hash.result c.args.slots.now.items c.loop-page.slots.items c.if-is_edited.slots.items c.is_edited.result (c.loop-page.invariant rest)
          (ap (λ v. v.items) w.slots-is ∙ w.in_ok-push.ensures.items) w.slot_place.ensures.value
          (hash_within d c.loop-page.page w.page_start-start.result w.page_end-end.result new rest w.hash.result w.page_start-start.ensures.value w.page_end-end.ensures.value
          (omega (arith, w.page_end-end.ensures.filled, w.page_start-start.ensures.value, w.page_end-end.ensures.value, c.is_edited.ensures.within w.if-is_edited.true)) (omega (arith, w.page_end-end.ensures.value, c.is_edited.ensures.within w.if-is_edited.true)) w.hash.ensures)
          (c.is_edited.ensures.touched rest) w.if-is_edited.true
      | else-is_edited w ↦
          let same : c.if-is_edited.slots.items ≡ c.loop-page.slots.items = ap (λ v. v.items) w.slots-is in
          same
          ∙ slot_left d touched (new ++ rest) c.loop-page.page c.args.slots.now.items c.loop-page.slots.items c.is_edited.result (c.loop-page.invariant rest) (c.is_edited.ensures.touched rest) w.if-is_edited.false
    ]
