use Rattle.std.proofs.Common.{◌≡◌, ℕ, List, true, get_or, subst, sym, ap, ◌∙◌}
use Rattle.std.specs.Str.{bytes_eq}
use Rattle.elf_tables.specs.StringSteps.{Numbered}
use Rattle.elf_tables.proofs.LaidPairs.{told_at}
use Rattle.elf_tables.proofs.finished.place_at.Goals as goal

pub returns-then-eq : goal.returns-then-eq
returns-then-eq c =
    let ks : List Numbered = c.args.texts.now in
    let there : c.text.result.now ≡ (get_or ks c.args.i c.index-texts-i.result).text = c.text.ensures ∙ ap (λ (k : Numbered). k.text) c.index-texts-i.is in
    told_at c.args.text.now ks c.args.places.now c.args.i c.index-texts-i.result 0 c.requires c.if-i-texts.true c.if-i-places.true
    (subst (λ (t : List ℕ). bytes_eq c.args.text.now t ≡ true) there (sym c.eq.ensures ∙ c.if-eq.true))
