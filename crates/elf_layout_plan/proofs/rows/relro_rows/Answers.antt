-- Each row is computed.
use Rattle.std.specs.Prelude.{[], ◌∷◌}
use Rattle.std.proofs.Common.{refl}
use Rattle.elf_layout_plan.proofs.Computing.{computing}
use Rattle.elf_layout_plan.proofs.rows.relro_rows.Goals as goal

pub returns : goal.returns
unfolding computing
returns c = record {
  relro_stays = record { before = (2 ∷ []) ∷ []; moved = 2 ∷ []; ended = record { lead = refl; move = refl; chosen = refl; enough = refl }; counted = refl; follows = refl; fits = refl };
  other_goes = record { before = (2 ∷ []) ∷ []; moved = 2 ∷ []; ended = record { lead = refl; move = refl; chosen = refl; enough = refl }; counted = refl; follows = refl; fits = refl };
  strings_go_along = record { before = (1 ∷ 2 ∷ []) ∷ []; moved = 1 ∷ 2 ∷ []; ended = record { lead = refl; move = refl; chosen = refl; enough = refl }; counted = refl; follows = refl; fits = refl };
}
