-- Each row is computed.
use Rattle.std.specs.Prelude.{[]}
use Rattle.std.proofs.Common.{refl}
use Rattle.elf_layout_plan.proofs.Computing.{computing}
use Rattle.elf_layout_plan.proofs.rows.section_rows.Goals as goal

pub returns : goal.returns
unfolding computing
returns c = record {
  closes_up = record { before = []; moved = []; ended = record { lead = refl; move = refl; chosen = refl; enough = refl }; counted = refl; follows = refl; fits = refl };
  empty_last = record { before = []; moved = []; ended = record { lead = refl; move = refl; chosen = refl; enough = refl }; counted = refl; follows = refl; fits = refl };
  reserved_stays = record { before = []; moved = []; ended = record { lead = refl; move = refl; chosen = refl; enough = refl }; counted = refl; follows = refl; fits = refl };
  reserved_with_bytes = record { before = []; moved = []; ended = record { lead = refl; move = refl; chosen = refl; enough = refl }; counted = refl; follows = refl; fits = refl };
}
