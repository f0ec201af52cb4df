use Rattle.std.proofs.Common.{◌≡◌, ℕ, List, Option, true, false, ◌&&◌, subst, sym, ap, ◌∙◌}
use Rattle.elf_format.specs.Options.{first_there}
use Rattle.elf_format.specs.Places.{occupies_memory}
use Rattle.elf_format.specs.declared.range.Range.{Range}
use Rattle.elf_layout_segments.specs.Keys.{AreKeys, Key, is_just}
use Rattle.elf_layout_segments.specs.Sections.{first_at, is_just_over_at, place_at}
use Rattle.elf_layout_segments.proofs.KeyLaws.{just_any, just_loaded}
use Rattle.elf_layout_segments.proofs.anchor_search.find_under.Goals as goal

pub returns-in-Some : goal.returns-in-Some
returns-in-Some c = λ looked are.
    let keys : AreKeys true looked.kept c.deref.result.now = subst (λ (ks : List Key). AreKeys true looked.kept ks) (sym c.deref.ensures.value) are.loaded in
    let loaded : c.first_just.result ≡ first_at (λ s. is_just_over_at c.args.p s && occupies_memory (place_at s)) looked.kept =
    c.first_just.ensures true looked.kept are.rise keys ∙ ap (λ (q : Range). first_at (λ s. is_just true q s) looked.kept) c.file_part.ensures ∙ just_loaded c.args.p looked.kept in
    sym (ap (λ (o : Option ℕ). first_there o (first_at (is_just_over_at c.args.p) looked.kept)) (sym loaded ∙ c.in-Some.is))

pub returns-in-None : goal.returns-in-None
returns-in-None c = λ looked are.
    let keys : AreKeys true looked.kept c.deref.result.now = subst (λ (ks : List Key). AreKeys true looked.kept ks) (sym c.deref.ensures.value) are.loaded in
    let others : AreKeys false looked.kept c.deref-in-None.result.now = subst (λ (ks : List Key). AreKeys false looked.kept ks) (sym c.deref-in-None.ensures.value) are.all in
    let loaded : c.first_just.result ≡ first_at (λ s. is_just_over_at c.args.p s && occupies_memory (place_at s)) looked.kept =
    c.first_just.ensures true looked.kept are.rise keys ∙ ap (λ (q : Range). first_at (λ s. is_just true q s) looked.kept) c.file_part.ensures ∙ just_loaded c.args.p looked.kept in
    let any : c.first_just-in-None.result ≡ first_at (is_just_over_at c.args.p) looked.kept =
    c.first_just-in-None.ensures false looked.kept are.rise others ∙ ap (λ (q : Range). first_at (λ s. is_just false q s) looked.kept) c.file_part-in-None.ensures ∙ just_any c.args.p looked.kept in
    any ∙ sym (ap (λ (o : Option ℕ). first_there o (first_at (is_just_over_at c.args.p) looked.kept)) (sym loaded ∙ c.in-None.is))
