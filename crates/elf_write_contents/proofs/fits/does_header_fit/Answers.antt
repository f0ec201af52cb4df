-- The words of the class decide.
use Rattle.std.proofs.Common.{rules, ◌∙◌}
use Rattle.elf_write_contents.proofs.FitsFields.{header_words}
use Rattle.elf_write_contents.proofs.fits.does_header_fit.Goals as goal

pub returns : goal.returns
returns c =
    c.do_words_fit.ensures
    ∙ header_words c.args.form c.args.h (search rules) (search rules) (search rules) (search rules) (search rules) (search rules)
    (search rules) (search rules) (search rules) (search rules)
