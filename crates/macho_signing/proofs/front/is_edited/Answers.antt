-- Where the fronts differ, the files differ.
use Rattle.std.proofs.Common.{◌≡◌, ◌-◌, ℕ, List, arith, drop, not, subst, take}
use Rattle.std.specs.Str.{bytes_eq}
use Rattle.macho_signatures.specs.Pages.{page_end}
use Rattle.macho_signatures.specs.declared.directory.Directory.{Directory}
use Rattle.macho_signing.proofs.FrontLaws.{touched_here, untouched}
use Rattle.macho_signing.proofs.front.is_edited.Goals as goal

pub returns-then-start-new-clause-touched : goal.returns-then-start-new-clause-touched
returns-then-start-new-clause-touched c = λ rest.
    untouched c.args.directory.now c.args.page c.args.old.now c.args.new.now rest c.requires.long (omega (arith, c.page_start-start.ensures.value, c.if-start-new.true))

pub returns-clause-touched : goal.returns-clause-touched
returns-clause-touched c = λ rest.
    let d : Directory = c.args.directory.now in
    let page : ℕ = c.args.page in
    let old : List ℕ = c.args.old.now in
    let new : List ℕ = c.args.new.now in
    let Told : ℕ → ℕ → Type 0 = λ s e. c.ne.result ≡ not (bytes_eq (take (e - s) (drop s old)) (take (e - s) (drop s new))) in
    let Start : ℕ → Type 0 = λ s. Told s (page_end d page) in
    let End : ℕ → Type 0 = Told c.page_start-start.result in
    touched_here d page old new rest c.ne.result c.requires.long (omega (arith, c.page_start-start.ensures.value, c.if-start-new.false)) (c.requires.ends page c.requires.inside (omega (arith, c.page_start-start.ensures.value, c.if-start-new.false)))
    (subst Start c.page_start-start.ensures.value (subst End c.page_end-end.ensures.value c.ne.ensures))
