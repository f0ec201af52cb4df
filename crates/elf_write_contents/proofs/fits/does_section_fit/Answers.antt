-- The words of the class decide.
use Rattle.std.proofs.Common.{rules, ◌∙◌}
use Rattle.elf_write_contents.proofs.FitsFields.{section_words, unnamed_words}
use Rattle.elf_write_contents.proofs.fits.does_section_fit.Goals as goal

pub returns-clause-fit : goal.returns-clause-fit
returns-clause-fit c = c.do_words_fit.ensures ∙ section_words c.args.form c.args.s (search rules) (search rules) (search rules) (search rules)

pub returns-clause-unnamed : goal.returns-clause-unnamed
returns-clause-unnamed c = c.do_words_fit.ensures ∙ unnamed_words c.args.form c.args.s (search rules) (search rules) (search rules)
