use Rattle.std.proofs.Common.{◌≡◌, ◌∙◌, List, ℕ, length, not, ap, subst, sym}
use Rattle.std.specs.Str.{bytes_eq}
use Rattle.macho_signatures.specs.declared.directory.Directory.{Directory}
use Rattle.macho_signatures.specs.Pages.{page_of}
use Rattle.macho_signatures.specs.Renewed.{is_touched}
use Rattle.macho_signing.specs.declared.scope.Scope.{Scope}
use Rattle.macho_signing.specs.Thin.{AreAsLong, pages_of, touched_by}
use Rattle.macho_signing.proofs.DifferenceLaws.{touched_differs}
use Rattle.macho_signing.proofs.thin.is_chosen.Goals as goal

pub returns-in-Since : goal.returns-in-Since
returns-in-Since c =
    let d : Directory = c.args.directory.now in
    let page : ℕ = c.args.page in
    let bytes : List ℕ = c.args.bytes.now in
    let old : List ℕ = c.in-Since.old.now in
    let P : Scope → Type 0 = λ s. AreAsLong (pages_of s) bytes in
    let long : length old ≡ length bytes = subst P c.in-Since.is c.requires.long in
    c.ne.ensures
    ∙ ap (λ (x : List ℕ). not (bytes_eq x c.page-in-Since.result.now)) c.page.ensures
    ∙ ap (λ (x : List ℕ). not (bytes_eq (page_of d page old) x)) c.page-in-Since.ensures
    ∙ touched_differs d old bytes page long
    ∙ ap (λ (s : Scope). is_touched d (touched_by (pages_of s) bytes) page) (sym c.in-Since.is)
