-- Each row is computed.
use Rattle.std.specs.Prelude.{[], ◌∷◌}
use Rattle.std.proofs.Common.{refl}
use Rattle.elf_layout_plan.proofs.Computing.{computing}
use Rattle.elf_layout_plan.proofs.rows.small_rows.Goals as goal

pub returns : goal.returns
unfolding computing
returns c = record {
  sizes = refl;
  none_moves = refl;
  unedited = record { before = []; moved = []; ended = record { lead = refl; move = refl; chosen = refl; enough = refl }; counted = refl; follows = refl; fits = refl };
  longer = record { before = []; moved = []; ended = record { lead = refl; move = refl; chosen = refl; enough = refl }; counted = refl; follows = refl; fits = refl };
  longest = record { before = []; moved = []; ended = record { lead = refl; move = refl; chosen = refl; enough = refl }; counted = refl; follows = refl; fits = refl };
  shared = record { before = []; moved = []; ended = record { lead = refl; move = refl; chosen = refl; enough = refl }; counted = refl; follows = refl; fits = refl };
  copied = record { before = []; moved = []; ended = record { lead = refl; move = refl; chosen = refl; enough = refl }; counted = refl; follows = refl; fits = refl };
  renamed = record { before = []; moved = []; ended = record { lead = refl; move = refl; chosen = refl; enough = refl }; counted = refl; follows = refl; fits = refl };
  moves = record { before = (1 ∷ []) ∷ []; moved = 1 ∷ []; ended = record { lead = refl; move = refl; chosen = refl; enough = refl }; counted = refl; follows = refl; fits = refl };
  list_grows = record { before = []; looked = 0; lead = refl; stuck = refl };
  from_nothing = record { before = (1 ∷ []) ∷ []; moved = 1 ∷ []; ended = record { lead = refl; move = refl; chosen = refl; enough = refl }; counted = refl; follows = refl; fits = refl };
  stack = record { before = (1 ∷ []) ∷ []; looked = 1; lead = refl; stuck = refl };
}
