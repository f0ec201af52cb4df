use Rattle.std.proofs.Common.{◌≡◌, ◌∙◌, ℕ, ap, filter}
use Rattle.elf_image_headers.specs.declared.spare.SpareFrom.{SpareFrom}
use Rattle.elf_image_headers.specs.Spare.{SpareFacts, fixed_end, others_end}
use Rattle.elf_image_headers.specs.SpareFrom.{end_after, facts_of, stays_loaded}
use Rattle.elf_image_headers.proofs.SpareSteps.{others_from}
use Rattle.elf_image_headers.proofs.spare.SpareParts.spare_from.Goals as goal

from_there : ℕ → ℕ → ℕ → SpareFrom
from_there fixed others table = record { fixed = fixed; others = others; table = table }

pub returns : goal.returns
unfolding from_there
returns c =
    let f : SpareFacts = facts_of c.args.self.now in
    let fixed : c.fixed_end-fixed.result ≡ fixed_end f = c.fixed_end-fixed.ensures in
    let others : c.left_end-others.result ≡ others_end f =
    c.left_end-others.ensures.end ∙ ap (λ (n : ℕ). end_after 0 (filter (stays_loaded (record { fixed = n; others = 0; table = f.table })) f.segments)) fixed ∙ others_from f in
    ap (λ (n : ℕ). from_there n c.left_end-others.result f.table) fixed ∙ ap (λ (n : ℕ). from_there (fixed_end f) n f.table) others
