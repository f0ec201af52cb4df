-- What a forecast says is what a round needs.
use Rattle.elf_layout_reasons.proofs.RoundsEnd.{round_of}
use Rattle.elf_layout_reasons.proofs.rounds.needed_with.Goals as goal

pub returns-in-Ok-clause-needed : goal.returns-in-Ok-clause-needed
returns-in-Ok-clause-needed c =
    round_of c.args.r.now c.renew.new.self c.args.looked c.args.end c.needed.result c.in-Ok.ensures.is c.in-Ok.ensures.covers c.requires.end c.needed.ensures
