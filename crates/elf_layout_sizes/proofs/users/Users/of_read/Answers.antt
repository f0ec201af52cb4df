-- All is as it was read.
use Rattle.std.proofs.Common.{refl, sym}
use Rattle.elf_layout_plan.proofs.ForCallers.SameTexts.{names_same}
use Rattle.elf_layout_sizes.proofs.users.Users.of_read.Goals as goal

pub invariant_of-result : goal.invariant_of-result
invariant_of-result c = record {
  links = c.links_of.ensures;
  needs = (c.all.ensures c.args.read.now).needs;
  entries = (c.all.ensures c.args.read.now).entries;
  names = sym (names_same c.args.read.now c.args.read.now refl);
  static = λ _. record { symbols = refl; numbers = refl };
}
