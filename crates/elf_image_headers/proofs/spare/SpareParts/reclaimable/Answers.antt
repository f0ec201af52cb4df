use Rattle.std.proofs.Common.{◌≡◌, ◌∙◌, Bool, Some, None, ap, false, sym, true}
use Rattle.std.specs.Prelude.{if◌then◌else◌}
use Rattle.elf_image_headers.specs.declared.spare.SpareFrom.{SpareFrom}
use Rattle.elf_image_headers.specs.Spare.{SpareFacts, can_reclaim}
use Rattle.elf_image_headers.specs.SpareFrom.{can_reclaim_from, facts_of, spare_from}
use Rattle.elf_image_headers.proofs.SpareSteps.{told_from}
use Rattle.elf_image_headers.proofs.spare.SpareParts.reclaimable.Goals as goal

pub returns-then-can_reclaim : goal.returns-then-can_reclaim
returns-then-can_reclaim c =
    let f : SpareFacts = facts_of c.args.self.now in
    let told : true ≡ can_reclaim f =
    sym c.if-can_reclaim.true ∙ c.can_reclaim.ensures ∙ ap (λ (from : SpareFrom). can_reclaim_from from f) c.spare_from-from.ensures ∙ told_from f in
    ap (λ (from : SpareFrom). Some from) c.spare_from-from.ensures ∙ ap (λ (b : Bool). if b then Some (spare_from f) else None) told

pub returns-else-can_reclaim : goal.returns-else-can_reclaim
returns-else-can_reclaim c =
    let f : SpareFacts = facts_of c.args.self.now in
    let told : false ≡ can_reclaim f =
    sym c.if-can_reclaim.false ∙ c.can_reclaim.ensures ∙ ap (λ (from : SpareFrom). can_reclaim_from from f) c.spare_from-from.ensures ∙ told_from f in
    ap (λ (b : Bool). if b then Some (spare_from f) else None) told
