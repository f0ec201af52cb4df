use Rattle.std.proofs.Common.{◌≡◌, ◌+◌, ◌<◌, ◌∙◌, ℕ, List, ap, arith, length, sym, true}
use Rattle.std.proofs.lemmas.List.{length-map}
use Rattle.std.proofs.lemmas.Result.{err_from_is_err_and}
use Rattle.elf_layout_plan.specs.Anchors.{anchor_of}
use Rattle.elf_layout_plan.specs.Memory.{Resized}
use Rattle.elf_layout_plan.specs.Rounds.{are_chosen, do_move, headers_needed}
use Rattle.elf_layout_moves.specs.Limits.{Covers, end_with}
use Rattle.elf_layout_segments.specs.declared.forecasts.Forecast.{Forecast}
use Rattle.elf_layout_segments.specs.AnchorPositions.{anchor_model, anchor_position}
use Rattle.elf_layout_segments.specs.Forecasts.{IsForecast, needed_at}
use Rattle.elf_layout_segments.proofs.RoundSteps.{ended, ended_by, few, few_needed, nearer, none_so_far, one_more}
use Rattle.elf_layout_segments.proofs.rounds.look_in_rounds.Goals as goal

-- what a forecast says is what the sections that move need
need : (r : Resized) (f : Forecast) (looked end needed : ℕ) (moved : List ℕ) → IsForecast r f → Covers r f.from f.bound looked → end ≡ end_with r looked → needed ≡ needed_at f end
    → do_move r looked moved ≡ true → are_chosen r looked moved ≡ true → needed ≡ headers_needed r moved
need r f looked end needed moved is covers at says move chosen = says ∙ ap (needed_at f) at ∙ is.needs looked moved covers move chosen

pub loop-known-init : goal.loop-known-init
loop-known-init c = record { so = none_so_far c.args.r.now; known = c.in_ok-known.ensures.is }

pub returns-in_err-known-clause-fault : goal.returns-in_err-known-clause-fault
returns-in_err-known-clause-fault c =
    let p = err_from_is_err_and c.from_residual.result c.from_residual.ensures.1 in
    rw (p.1, p.2) (ended_by c.args.r.now 0 1 _ (none_so_far c.args.r.now) c.in_err-known.ensures.fault)

pub returns-in_err-renew-clause-fault : goal.returns-in_err-renew-clause-fault
returns-in_err-renew-clause-fault c =
    let p = err_from_is_err_and c.from_residual-in_err-renew.result c.from_residual-in_err-renew.ensures.1 in
    rw (p.1, p.2) (ended_by c.args.r.now c.loop-known.looked c.loop-known.count _ c.loop-known.invariant.so c.in_err-renew.ensures.fault)

pub returns-in_err-moved-clause-fault : goal.returns-in_err-moved-clause-fault
returns-in_err-moved-clause-fault c =
    let p = err_from_is_err_and c.from_residual-in_err-moved.result c.from_residual-in_err-moved.ensures.1 in
    rw (p.1, p.2) (ended_by c.args.r.now c.loop-known.looked c.loop-known.count _ c.loop-known.invariant.so c.in_err-moved.ensures.fault)

pub needed-needed-requires : goal.needed-needed-requires
needed-needed-requires c = omega (arith, c.table_end_from-end.ensures.near)

pub returns-then-needed-looked-clause-ended : goal.returns-then-needed-looked-clause-ended
returns-then-needed-looked-clause-ended c =
    ended c.args.r.now c.loop-known.looked c.loop-known.count c.needed-needed.result c.in_ok-moved.moved.items c.loop-known.invariant.so c.in_ok-moved.ensures.moved c.in_ok-moved.ensures.chosen
    (need c.args.r.now c.renew.new.self c.loop-known.looked c.table_end_from-end.result c.needed-needed.result c.in_ok-moved.moved.items c.in_ok-renew.ensures.is c.in_ok-renew.ensures.covers c.table_end_from-end.ensures.value c.needed-needed.ensures
    c.in_ok-moved.ensures.moved c.in_ok-moved.ensures.chosen)
    c.if-needed-looked.true

-- no more are needed than there are program headers, and four
few_there : (r : Resized) (f : Forecast) (looked end needed : ℕ) → IsForecast r f → Covers r f.from f.bound looked → end ≡ end_with r looked → needed ≡ needed_at f end → needed < length r.image.segments + 5
few_there r f looked end needed is covers at says =
    let (moved, move, chosen) = is.lists looked covers in
    omega (arith, need r f looked end needed moved is covers at says move chosen, few_needed r moved)

pub overflow_cast-looked : goal.overflow_cast-looked
overflow_cast-looked c =
    let r = c.args.r.now in
    let fits = few_there r c.renew.new.self c.loop-known.looked c.table_end_from-end.result c.needed-needed.result c.in_ok-renew.ensures.is c.in_ok-renew.ensures.covers c.table_end_from-end.ensures.value c.needed-needed.ensures in
    let many : length c.args.anchors.now ≡ length r.image.segments =
    sym (length-map c.args.anchors.now anchor_model) ∙ ap length c.requires ∙ length-map r.image.segments (λ p. anchor_position p (anchor_of r.read r.image p)) in
    omega arith

pub overflow_add-count : goal.overflow_add-count
overflow_add-count c =
    let r = c.args.r.now in
    let few_rounds = (few r c.loop-known.looked c.loop-known.count c.loop-known.invariant.so).1 in
    let many : length c.args.anchors.now ≡ length r.image.segments =
    sym (length-map c.args.anchors.now anchor_model) ∙ ap length c.requires ∙ length-map r.image.segments (λ p. anchor_position p (anchor_of r.read r.image p)) in
    omega arith

pub loop-known-preserved : goal.loop-known-preserved
loop-known-preserved c =
    let r : Resized = c.args.r.now in
    let (moved, move, chosen) = c.in_ok-renew.ensures.is.lists c.loop-known.looked c.in_ok-renew.ensures.covers in
    record {
      so = one_more r c.loop-known.looked c.loop-known.count c.needed-needed.result moved c.loop-known.invariant.so move chosen
          (need r c.renew.new.self c.loop-known.looked c.table_end_from-end.result c.needed-needed.result moved c.in_ok-renew.ensures.is c.in_ok-renew.ensures.covers c.table_end_from-end.ensures.value c.needed-needed.ensures move chosen) c.if-needed-looked.false;
      known = c.in_ok-renew.ensures.is;
    }

pub loop-known-smaller : goal.loop-known-smaller
loop-known-smaller c =
    let r : Resized = c.args.r.now in
    let (moved, move, chosen) = c.in_ok-renew.ensures.is.lists c.loop-known.looked c.in_ok-renew.ensures.covers in
    nearer r c.loop-known.looked c.needed-needed.result moved
    (need r c.renew.new.self c.loop-known.looked c.table_end_from-end.result c.needed-needed.result moved c.in_ok-renew.ensures.is c.in_ok-renew.ensures.covers c.table_end_from-end.ensures.value c.needed-needed.ensures move chosen) c.if-needed-looked.false
