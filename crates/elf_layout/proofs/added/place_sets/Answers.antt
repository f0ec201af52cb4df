use Rattle.std.proofs.Common.{◌≡◌, ◌+◌, ◌∷◌, ◌++◌, [], ◌∙◌, ℕ, List, drop, get_or, map, refl, ap, subst, arith}
use Rattle.std.specs.List.{flat_map}
use Rattle.std.proofs.lemmas.List.{drop_all, drop_more}
use Rattle.elf_format.specs.Placement.{file_part, memory_part}
use Rattle.elf_format.specs.Ranges.{end_of}
use Rattle.elf_layout_plan.specs.Added.{AddedLoad, added_loads}
use Rattle.elf_layout.specs.declared.slots.At.{At}
use Rattle.elf_layout.specs.Slots.{IsFar, load_here, with_slots}
use Rattle.elf_layout.proofs.LoadSteps.{ArePlacedLoads, header_of, load_of, loads_all, loads_behind, loads_end, loads_more, loads_start, next_load, slots_of}
use Rattle.elf_layout.proofs.FirstSteps.{past_load}
use Rattle.elf_layout.proofs.added.place_sets.Goals as goal

pub loop-flags-init : goal.loop-flags-init
loop-flags-init c =
    loads_start c.args.r.now c.args.moved.now c.args.slots.now (record { offset = c.args.kept_end; address = c.memory_end.result })
    c.new-loads.result.items c.args.sets.now
    c.requires.sets c.new-loads.ensures.items c.requires.end c.memory_end.ensures.end c.memory_end.ensures.near (omega arith)

pub loop-flags-preserved : goal.loop-flags-preserved
loop-flags-preserved c =
    let i : ℕ = c.loop-flags.flags-index in
    let sets : List ℕ = c.args.sets.now in
    let f : ℕ = get_or sets i 0 in
    let at : At = c.loop-flags.at in
    let placed : ArePlacedLoads c.args.r.now c.args.moved.now c.args.slots.now at c.loop-flags.loads.items c.loop-flags.slots
    (f ∷ drop (i + 1) sets) =
    subst (λ (l : List ℕ). ArePlacedLoads c.args.r.now c.args.moved.now c.args.slots.now at c.loop-flags.loads.items c.loop-flags.slots l)
    (drop_more sets i 0 c.loop-flags-test.true) c.loop-flags.invariant in
    loads_more c.args.r.now c.args.moved.now c.args.slots.now at c.loop-flags.loads.items c.loop-flags.slots f (drop (i + 1) sets)
    c.in-Some.load _ c.push.new.self.items
    c.place_load.new.slots placed
    (c.in-Some.ensures.header ∙ ap (λ (n : ℕ). (load_here c.args.r.now c.args.moved.now n at.offset at.address f).header)
    c.load_alignment-align.ensures)
    (c.in-Some.ensures.slots ∙ ap (λ (n : ℕ). with_slots c.loop-flags.slots
    (load_here c.args.r.now c.args.moved.now n at.offset at.address f).slots) c.load_alignment-align.ensures)
    c.in_ok-push.ensures.items refl (omega (arith, c.from.ensures, c.from-in-loop-flags.ensures))
    (omega (arith, c.from.ensures, c.from-in-loop-flags.ensures, c.in-Some.ensures.near)) c.in-Some.ensures.fits

pub returns-in_default-clause-fault : goal.returns-in_default-clause-fault
returns-in_default-clause-fault c =
    let i : ℕ = c.loop-flags.flags-index in
    let sets : List ℕ = c.args.sets.now in
    let f : ℕ = get_or sets i 0 in
    let at : At = c.loop-flags.at in
    let load : AddedLoad = load_of c.args.r.now c.args.moved.now at f in
    let next : At = record { offset = end_of (file_part load.header); address = end_of (memory_part load.header) } in
    let rest : List ℕ = drop (i + 1) sets in
    let before : List AddedLoad = c.loop-flags.invariant.before in
    let all : added_loads c.args.r.now c.args.moved.now ≡ before ++ load ∷ loads_behind c.args.r.now c.args.moved.now next rest =
    c.loop-flags.invariant.all ∙ ap (λ (l : List ℕ). before ++ loads_behind c.args.r.now c.args.moved.now at l)
    (drop_more sets i 0 c.loop-flags-test.true)
    ∙ ap (λ (l : List AddedLoad). before ++ l) (next_load c.args.r.now c.args.moved.now at f rest next refl refl) in
    let far : IsFar load = subst (λ (n : ℕ). IsFar (load_here c.args.r.now c.args.moved.now n at.offset at.address f))
    c.load_alignment-align.ensures c.in_default.ensures.far in
    past_load c.args.r.now c.args.moved.now at f before (loads_behind c.args.r.now c.args.moved.now next rest) all far

pub returns-clause-added : goal.returns-clause-added
returns-clause-added c =
    let none : drop c.loop-flags.flags-index c.args.sets.now ≡ [] =
    drop_all c.loop-flags.flags-index c.args.sets.now c.loop-flags-test.false in
    let placed : ArePlacedLoads c.args.r.now c.args.moved.now c.args.slots.now c.loop-flags.at c.loop-flags.loads.items c.loop-flags.slots
    [] =
    subst (λ (l : List ℕ). ArePlacedLoads c.args.r.now c.args.moved.now c.args.slots.now c.loop-flags.at c.loop-flags.loads.items
    c.loop-flags.slots l) none c.loop-flags.invariant in
    record {
      loads =
          placed.loads
          ∙ ap (λ (l : List AddedLoad). map header_of l)
          (loads_all c.args.r.now c.args.moved.now c.args.slots.now c.loop-flags.at c.loop-flags.loads.items c.loop-flags.slots placed);
      end = loads_end c.args.r.now c.args.moved.now c.args.slots.now c.loop-flags.at c.loop-flags.loads.items c.loop-flags.slots placed;
    }

pub returns-clause-slots : goal.returns-clause-slots
returns-clause-slots c =
    let none : drop c.loop-flags.flags-index c.args.sets.now ≡ [] =
    drop_all c.loop-flags.flags-index c.args.sets.now c.loop-flags-test.false in
    let placed : ArePlacedLoads c.args.r.now c.args.moved.now c.args.slots.now c.loop-flags.at c.loop-flags.loads.items c.loop-flags.slots
    [] =
    subst (λ (l : List ℕ). ArePlacedLoads c.args.r.now c.args.moved.now c.args.slots.now c.loop-flags.at c.loop-flags.loads.items
    c.loop-flags.slots l) none c.loop-flags.invariant in
    placed.slots
    ∙ ap (λ (l : List AddedLoad). with_slots c.args.slots.now (flat_map slots_of l))
    (loads_all c.args.r.now c.args.moved.now c.args.slots.now c.loop-flags.at c.loop-flags.loads.items c.loop-flags.slots placed)
