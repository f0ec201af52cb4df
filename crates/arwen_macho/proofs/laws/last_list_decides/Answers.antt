use Rattle.arwen_macho.proofs.ShorterLaws.{last_decides, middle_may_overflow}
use Rattle.arwen_macho.proofs.laws.last_list_decides.Goals as goal

pub returns-clause-last : goal.returns-clause-last
returns-clause-last c = last_decides

pub returns-clause-middle : goal.returns-clause-middle
returns-clause-middle c = middle_may_overflow
