use Rattle.arwen_macho.proofs.FatGiveBackLaws.{fat_remove_gives_back}
use Rattle.arwen_macho.proofs.GiveBackLaws.{batch_gives_back, remove_gives_back}
use Rattle.arwen_macho.proofs.laws.removing_gives_back.Goals as goal

pub returns-clause-calls : goal.returns-clause-calls
returns-clause-calls c = remove_gives_back

pub returns-clause-batch : goal.returns-clause-batch
returns-clause-batch c = batch_gives_back

pub returns-clause-fat : goal.returns-clause-fat
returns-clause-fat c = fat_remove_gives_back
