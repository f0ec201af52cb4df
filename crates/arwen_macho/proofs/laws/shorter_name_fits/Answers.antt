use Rattle.arwen_macho.proofs.FatGiveBackLaws.{fat_shorter_fits}
use Rattle.arwen_macho.proofs.ShorterLaws.{shorter_fits}
use Rattle.arwen_macho.proofs.laws.shorter_name_fits.Goals as goal

pub returns-clause-thin : goal.returns-clause-thin
returns-clause-thin c = shorter_fits

pub returns-clause-fat : goal.returns-clause-fat
returns-clause-fat c = fat_shorter_fits
