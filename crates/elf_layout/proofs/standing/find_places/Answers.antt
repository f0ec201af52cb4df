use Rattle.std.proofs.Common.{◌≡◌, ◌∙◌, List, Option, refl, ap}
use Rattle.std.specs.List.{flat_map}
use Rattle.std.proofs.lemmas.List.{take_at}
use Rattle.std.proofs.lemmas.Result.{err_from_is_err_and}
use Rattle.elf_layout_plan.specs.Added.{added_loads}
use Rattle.elf_layout.specs.declared.slots.At.{At}
use Rattle.elf_layout.specs.Slots.{none_yet, with_slots}
use Rattle.elf_layout.proofs.StandingSteps.{all_stands, behind_fault}
use Rattle.elf_layout.proofs.standing.find_places.Goals as goal

pub returns-clause-stands : goal.returns-clause-stands
returns-clause-stands c =
    let placed = λ (l : List (Option At)). with_slots l (flat_map (λ load. load.slots) (added_loads c.args.r.now c.args.moved.now)) in
    let slots : c.deref.result.now ≡ placed (none_yet c.args.r.now) =
    c.deref.ensures.value ∙ take_at c.place_added.new.slots _ c.in_ok-slots.slots.len (c.place_added.auto.slots ∙ c.deref_mut.ensures.len)
    ∙ c.in_ok-added.ensures.slots ∙ ap placed (c.deref_mut.ensures.value ∙ c.in_ok-slots.ensures) in
    all_stands c.args.r.now c.args.moved.now c.deref.result.now c.in_ok-added.added.end c.args.headers _ c.in_ok-behind.behind slots
    c.in_ok-added.ensures.added.end c.requires.headers
    c.in_ok-behind.ensures.behind c.in_ok-added.ensures.added.loads refl refl refl

pub returns-in_err-behind-clause-fault : goal.returns-in_err-behind-clause-fault
returns-in_err-behind-clause-fault c =
    let placed = λ (l : List (Option At)). with_slots l (flat_map (λ load. load.slots) (added_loads c.args.r.now c.args.moved.now)) in
    let slots : c.deref.result.now ≡ placed (none_yet c.args.r.now) =
    c.deref.ensures.value ∙ take_at c.place_added.new.slots _ c.in_ok-slots.slots.len (c.place_added.auto.slots ∙ c.deref_mut.ensures.len)
    ∙ c.in_ok-added.ensures.slots ∙ ap placed (c.deref_mut.ensures.value ∙ c.in_ok-slots.ensures) in
    let fault = behind_fault c.args.r.now c.args.moved.now c.deref.result.now c.in_ok-added.added.end c.args.headers
    c.in_err-behind.field-0.0 slots c.in_ok-added.ensures.added.end c.requires.headers
    c.in_err-behind.ensures.fault in
    let p = err_from_is_err_and c.from_residual-in_err-behind.result c.from_residual-in_err-behind.ensures.1 in
    rw (p.1, p.2) fault
