use Rattle.arwen_c_edits.proofs.TextSteps.{no_word, word_there}
use Rattle.arwen_c_edits.proofs.texts.word_of.Goals as goal

pub returns-in-Ok : goal.returns-in-Ok
returns-in-Ok c = word_there c.args.bytes.now c.in-Ok.word.now c.in-Ok.ensures.cases.1 c.in-Ok.ensures.cases.0

pub returns-in-Err : goal.returns-in-Err
returns-in-Err c = no_word c.args.bytes.now c.in-Err.ensures.cases.0
