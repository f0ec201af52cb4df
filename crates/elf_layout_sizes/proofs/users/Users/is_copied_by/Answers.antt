use Rattle.std.proofs.Common.{refl}
use Rattle.elf_layout_sizes.proofs.OtherSteps.{copied_if_known}
use Rattle.elf_layout_sizes.proofs.users.Users.is_copied_by.Goals as goal

pub returns : goal.returns
returns c =
    copied_if_known c.args.self.now c.args.read_users.now c.args.number c.is_known_copied.result c.args.now.now c.args.at_read.now c.requires.users
    (c.if-not-keeps_names.ensures refl) c.requires.now c.requires.at_read c.is_known_copied.ensures
