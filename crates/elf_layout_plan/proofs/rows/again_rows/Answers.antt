-- Each row is computed.
use Rattle.std.specs.Prelude.{[], ◌∷◌}
use Rattle.std.proofs.Common.{refl}
use Rattle.elf_layout_plan.proofs.Computing.{computing}
use Rattle.elf_layout_plan.proofs.rows.again_rows.Goals as goal

pub returns : goal.returns
unfolding computing
returns c = record {
  shorter = record { before = []; moved = []; ended = record { lead = refl; move = refl; chosen = refl; enough = refl }; counted = refl; follows = refl; fits = refl };
  longer = record { before = (1 ∷ []) ∷ []; looked = 1; lead = refl; stuck = refl };
  fits = record { before = []; moved = []; ended = record { lead = refl; move = refl; chosen = refl; enough = refl }; counted = refl; follows = refl; fits = refl };
  too_large = record { before = (1 ∷ []) ∷ []; moved = 1 ∷ []; looked = 1; ended = record { lead = refl; move = refl; chosen = refl; enough = refl }; too_large = refl };
}
