-- The links are the image's, what stays is what is written, and what is told of symbols is so.
use Rattle.std.proofs.Common.{◌≡◌, Bool, true, false, refl, ap, ◌∙◌}
use Rattle.std.specs.Prelude.{not}
use Rattle.elf_layout_plan.specs.Texts.{are_names_changed}
use Rattle.elf_layout_plan.proofs.ForCallers.NeedSteps.{at_read}
use Rattle.elf_layout_sizes.proofs.users.Users.new.Goals as goal

not_not : (b : Bool) → not (not b) ≡ b
not_not true = refl
not_not false = refl

pub invariant_of-result : goal.invariant_of-result
invariant_of-result c =
    let is_read = at_read c.args.image.now c.args.read.now c.source-source.ensures.edited c.requires in
    record {
      links = c.links_of.ensures;
      needs = c.in_ok-staying.ensures.needs;
      entries = c.in_ok-staying.ensures.entries;
      names = ap not (c.keeps_dynamic_names.ensures c.args.read.now is_read) ∙ not_not (are_names_changed c.args.read.now c.args.image.now);
      static = (c.keeps_static_symbols.ensures c.args.read.now is_read).0;
    }
