use Rattle.std.proofs.Common.{arith}
use Rattle.arwen_c.proofs.WordSteps.{all_words, no_word, word_more}
use Rattle.arwen_c.proofs.words.words_of.Goals as goal

pub returns-in_default-clause-err : goal.returns-in_default-clause-err
returns-in_default-clause-err c =
    no_word c.args.texts.now c.loop-index.index c.loop-index.group c.loop-index.words.items c.loop-index-test.true c.loop-index.invariant.words
    c.in_default.ensures.cases.0

pub loop-index-preserved : goal.loop-index-preserved
loop-index-preserved c = record {
  words = word_more c.args.texts.now c.loop-index.index c.loop-index.group c.loop-index.words.items c.loop-index-test.true c.loop-index.invariant.words
      c.push.new.self.items c.in-Ok.word c.group_behind-group.result c.in-Ok.ensures.cases.1 c.in-Ok.ensures.cases.0 c.in_ok-push.ensures.items
      c.group_behind-group.ensures.told;
  few = omega arith;
}

pub returns-clause-ok : goal.returns-clause-ok
returns-clause-ok c =
    all_words c.args.texts.now c.loop-index.index c.loop-index.group c.loop-index.words.items c.loop-index-test.false c.loop-index.invariant.words
