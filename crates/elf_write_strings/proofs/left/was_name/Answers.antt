use Rattle.std.proofs.Common.{◌∙◌, ap}
use Rattle.std.specs.Str.{bytes_eq}
use Rattle.elf_write_strings.proofs.NamesLeft.{was_named, was_nowhere}
use Rattle.elf_write_strings.proofs.left.was_name.Goals as goal

pub returns-in-Some : goal.returns-in-Some
returns-in-Some c =
    c.eq.ensures ∙ ap (bytes_eq c.args.name.now) c.as_slice.ensures
    ∙ was_named c.args.read.now c.args.number c.in-Some.section.now c.args.name.now c.in-Some.ensures.lookup.0 c.in-Some.ensures.lookup.1

pub returns-in-None : goal.returns-in-None
returns-in-None c = was_nowhere c.args.read.now c.args.number c.args.name.now c.in-None.ensures.lookup.0
