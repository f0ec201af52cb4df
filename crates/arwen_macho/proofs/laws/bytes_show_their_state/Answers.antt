use Rattle.arwen_macho.proofs.StatesLaws.{fat_bytes_show, file_bytes_show, thin_bytes_show}
use Rattle.arwen_macho.proofs.laws.bytes_show_their_state.Goals as goal

pub returns-clause-thin : goal.returns-clause-thin
returns-clause-thin c = thin_bytes_show

pub returns-clause-fat : goal.returns-clause-fat
returns-clause-fat c = fat_bytes_show

pub returns-clause-either : goal.returns-clause-either
returns-clause-either c = file_bytes_show
