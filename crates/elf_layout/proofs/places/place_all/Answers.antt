use Rattle.std.proofs.Common.{◌≡◌, ◌≤◌, ◌^◌, ◌∙◌, ℕ, List, Option, map, sym, ap, subst, arith}
use Rattle.std.specs.Prelude.{option_map, slice_get}
use Rattle.std.proofs.lemmas.List.{map_push}
use Rattle.std.proofs.lemmas.Option.{slice_get-map}
use Rattle.elf_format.specs.Places.{Place}
use Rattle.elf_layout_plan.specs.Memory.{SizedSection, sized_sections}
use Rattle.elf_layout_plan.specs.PlanModel.{place_model}
use Rattle.elf_layout_plan.specs.declared.plan.SectionPlace.{SectionPlace}
use Rattle.elf_layout.specs.declared.slots.At.{At}
use Rattle.elf_layout.specs.Unloaded.{kept_for, place_by}
use Rattle.elf_layout.proofs.SlotSteps.{found_some, own_position}
use Rattle.elf_layout.proofs.TableSteps.{places_all, places_more}
use Rattle.elf_layout.proofs.places.place_all.Goals as goal

-- the place by what is kept for the section's own position
abbrev by : ℕ → List (Option At) → List (Option ℕ) → SizedSection → Place
by end slots offsets s = place_by end s (kept_for (slice_get slots s.kept.position)) (kept_for (slice_get offsets s.kept.position))

kept_segment : (end : ℕ) (slots : List (Option At)) (offsets : List (Option ℕ)) (s : SizedSection) (i : ℕ) (slot : Option At) (unloaded : Option ℕ)
    → s.kept.position ≡ i → slot ≡ kept_for (slice_get slots i) → unloaded ≡ kept_for (slice_get offsets i)
    → place_by end s slot unloaded ≡ by end slots offsets s
kept_segment end slots offsets s i slot unloaded own is_slot is_unloaded =
    ap (λ (o : Option At). place_by end s o unloaded) is_slot ∙ ap (λ (o : Option ℕ). place_by end s (kept_for (slice_get slots i)) o) is_unloaded
    ∙ ap (λ (k : ℕ). place_by end s (kept_for (slice_get slots k)) (kept_for (slice_get offsets k))) (sym own)

pub returns-in_default-clause-fault : goal.returns-in_default-clause-fault
returns-in_default-clause-fault c =
    let all : List SizedSection = sized_sections c.args.r.now in
    let i : ℕ = c.loop-position.position in
    let found = found_some (slice_get all i) c.section_here-section.result c.section_here-section.ensures in
    let s : SizedSection = found.0 in
    let f : SizedSection → Place = by c.args.end c.args.slots.now c.args.offsets.now in
    let same : place_by c.args.end s c.slot_at-slot.result c.unloaded_at-unloaded.result ≡ f s =
    kept_segment c.args.end c.args.slots.now c.args.offsets.now s i c.slot_at-slot.result c.unloaded_at-unloaded.result
    (own_position c.args.r.now i s found.1) c.slot_at-slot.ensures c.unloaded_at-unloaded.ensures in
    let past : 2 ^ 64 ≤ (f s).sh_addr = subst (λ (q : Place). 2 ^ 64 ≤ q.sh_addr) same (c.in_default.ensures.far s found.2) in
    (i, f s, slice_get-map f all i ∙ ap (option_map f) found.1, past)

pub loop-position-preserved : goal.loop-position-preserved
loop-position-preserved c =
    let all : List SizedSection = sized_sections c.args.r.now in
    let i : ℕ = c.loop-position.position in
    let found = found_some (slice_get all i) c.section_here-section.result c.section_here-section.ensures in
    let s : SizedSection = found.0 in
    let f : SizedSection → Place = by c.args.end c.args.slots.now c.args.offsets.now in
    let same : place_by c.args.end s c.slot_at-slot.result c.unloaded_at-unloaded.result ≡ f s =
    kept_segment c.args.end c.args.slots.now c.args.offsets.now s i c.slot_at-slot.result c.unloaded_at-unloaded.result
    (own_position c.args.r.now i s found.1) c.slot_at-slot.ensures c.unloaded_at-unloaded.ensures in
    places_more f all (map place_model c.loop-position.places.items) i s (place_model c.in-Some.place)
    (map place_model c.push.new.self.items) found.1 c.loop-position.invariant
    (c.in-Some.ensures.place s found.2 ∙ same)
    (ap (λ (l : List SectionPlace). map place_model l) c.in_ok-push.ensures.items
    ∙ map_push place_model c.loop-position.places.items c.in-Some.place)

pub returns-clause-places : goal.returns-clause-places
returns-clause-places c =
    places_all (by c.args.end c.args.slots.now c.args.offsets.now) (sized_sections c.args.r.now)
    (map place_model c.loop-position.places.items) c.loop-position.position
    (omega (arith, c.section_count-position-end.ensures, c.loop-position-test.false)) c.loop-position.invariant
