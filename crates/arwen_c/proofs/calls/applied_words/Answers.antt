use Rattle.std.proofs.Common.{Bor, List, map, subst, ℕ}
use Rattle.std.specs.Prelude.{IfErr}
use Rattle.std.specs.Str.Lossy.{utf8_lossy}
use Rattle.elf_image.specs.Rules.{has_magic}
use Rattle.arwen_c_edits.specs.Lent.{text_model}
use Rattle.arwen_c.specs.Calls.{TellsByWords}
use Rattle.arwen_c.specs.Made.{OrMemory}
use Rattle.arwen_c.proofs.WordSteps.{told_of_words}
use Rattle.arwen_c.proofs.calls.applied_words.Goals as goal

pub returns-in-Ok-clause-err : goal.returns-in-Ok-clause-err
returns-in-Ok-clause-err c =
    let file = c.args.bytes.now in
    let Told : List (Bor (List ℕ)) → Type 0 = λ l. IfErr c.by_words.result
    (OrMemory (TellsByWords (has_magic file) (map (λ (w : Bor (List ℕ)). w.now) l) (utf8_lossy c.args.name.now) c.args.flags file)) in
    told_of_words (map text_model c.args.words.now) (map (λ (w : Bor (List ℕ)). w.now) c.in-Ok.words.items) c.args.name.now c.args.flags file c.in-Ok.ensures.ok
    c.by_words.result (subst Told c.as_slice.ensures.value c.by_words.ensures.err)
