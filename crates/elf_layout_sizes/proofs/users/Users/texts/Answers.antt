-- No text has a NUL.
use Rattle.std.proofs.Common.{subst}
use Rattle.elf_image.specs.Edited.{IsEdited}
use Rattle.elf_layout_sizes.specs.Inner.{Edit}
use Rattle.elf_layout_sizes.proofs.WholeTexts.{texts_whole}
use Rattle.elf_layout_sizes.proofs.users.Users.texts.Goals as goal

pub returns-in_err-push_all-clause-whole : goal.returns-in_err-push_all-clause-whole
returns-in_err-push_all-clause-whole c =
    texts_whole c.args.self.now.read c.args.self.now.image c.args.number (subst (λ (e : Edit). IsEdited e.image) c.self.view_is c.source-source.ensures.edited)

pub returns-clause-whole : goal.returns-clause-whole
returns-clause-whole c =
    texts_whole c.args.self.now.read c.args.self.now.image c.args.number (subst (λ (e : Edit). IsEdited e.image) c.self.view_is c.source-source.ensures.edited)
