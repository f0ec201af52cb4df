-- As many texts of each kind, and other names among them.
use Rattle.std.proofs.Common.{refl}
use Rattle.elf_layout_sizes.proofs.OtherSteps.{copied_by_counts}
use Rattle.elf_layout_sizes.proofs.users.Users.is_copied_by_counts.Goals as goal

pub returns-then-have_same_counts : goal.returns-then-have_same_counts
returns-then-have_same_counts c =
    copied_by_counts c.args.self.now c.args.read_users.now c.args.number c.args.now.now c.args.at_read.now c.requires.users
    (c.if-keeps_static_names.ensures refl) (c.if-has_other_dynamic_names.ensures refl) c.requires.now c.requires.at_read (c.if-have_same_counts.ensures refl)
