use Rattle.std.proofs.Common.{◌≡◌, ◌∙◌, List, ℕ, IfOk, Option, ap, subst}
use Rattle.macho_signatures.specs.Pages.{unfit_from}
use Rattle.macho_signatures.specs.declared.directory.Directory.{Directory}
use Rattle.macho_signatures.specs.declared.signature.Signature.{Signature}
use Rattle.macho_signing.specs.Check.{directories_in}
use Rattle.macho_signing.specs.Thin.{thin_directories}
use Rattle.macho_signing.proofs.CheckLaws.{holds_directories}
use Rattle.macho_signing.proofs.check.unfit_pages.Goals as goal

pub returns-in-Some : goal.returns-in-Some
returns-in-Some c =
    let bytes : List ℕ = c.args.bytes.now in
    let P : Option Signature → Type 0 = λ o. directories_in o ≡ thin_directories bytes in
    let same = subst P c.in-Some.is (holds_directories bytes c.args.signature.now c.requires) in
    let Q : List Directory → Type 0 = λ ds. IfOk c.unfit_pages.result (λ unfit. unfit.items ≡ unfit_from 0 ds bytes) in
    subst Q same c.unfit_pages.ensures

pub returns-in-None : goal.returns-in-None
returns-in-None c =
    let bytes : List ℕ = c.args.bytes.now in
    let P : Option Signature → Type 0 = λ o. directories_in o ≡ thin_directories bytes in
    let none = subst P c.in-None.is (holds_directories bytes c.args.signature.now c.requires) in
    c.new.ensures.items ∙ ap (λ (ds : List Directory). unfit_from 0 ds bytes) none
