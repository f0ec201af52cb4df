-- Each row is computed.
use Rattle.std.specs.Prelude.{[]}
use Rattle.std.proofs.Common.{refl}
use Rattle.elf_layout_plan.proofs.Computing.{computing}
use Rattle.elf_layout_plan.proofs.rows.table_rows.Goals as goal

pub returns : goal.returns
unfolding computing
returns c = record {
  over_section = record { before = []; moved = []; ended = record { lead = refl; move = refl; chosen = refl; enough = refl }; counted = refl; follows = refl; fits = refl };
  over_table = record { before = []; moved = []; ended = record { lead = refl; move = refl; chosen = refl; enough = refl }; counted = refl; follows = refl; fits = refl };
  over_nothing = record { before = []; moved = []; ended = record { lead = refl; move = refl; chosen = refl; enough = refl }; counted = refl; follows = refl; fits = refl };
}
