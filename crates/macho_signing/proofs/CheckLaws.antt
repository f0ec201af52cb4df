-- What is told of the signatures of a file.
use Rattle.std.proofs.Common.{◌≡◌, ◌≢◌, ◌∙◌, ℕ, List, map, Option, Some, None, Result, Ok, Err, refl, sym, ap, subst}
use Rattle.std.specs.Result.{MatchResult}
use Rattle.std.specs.declared.alloc.Global.{Global}
use Rattle.std.specs.declared.vec.Vec.{Vec}
use Rattle.macho_signatures.specs.Pages.{unfit_from}
use Rattle.macho_signatures.specs.declared.pages.UnfitPage.{UnfitPage}
use Rattle.macho_signatures.specs.declared.signature.Signature.{Signature}
use Rattle.macho_signing.specs.declared.check.Checked.{Checked}
use Rattle.macho_signing.specs.declared.fault.SigningFault.{SigningFault}
use Rattle.macho_signing.specs.declared.fault.SigningFault.TheVariants.{Memory}
use Rattle.macho_signing.specs.declared.file.Part.{Part}
use Rattle.macho_signing.specs.Check.{checked_model, checking_fault, directories_in, is_signed_in, part_checked, parts_checked}
use Rattle.macho_signing.specs.File.{first_fault, part_bytes, parts_fault, parts_of}
use Rattle.macho_signing.specs.Thin.{Holds, has_identity, thin_directories, thin_fault}
use Rattle.macho_signing.proofs.ThinLaws.{held_identity, none_identity}

pub holds_directories : (bytes : List ℕ) (found : Option Signature) → Holds bytes found → directories_in found ≡ thin_directories bytes
unfolding thin_directories
holds_directories bytes None holds = rw holds refl
holds_directories bytes (Some found) holds = rw (holds.is, holds.tells.directories) refl

holds_identity : (bytes : List ℕ) (found : Option Signature) → Holds bytes found → is_signed_in found ≡ has_identity bytes
holds_identity bytes None holds = sym (none_identity bytes holds)
holds_identity bytes (Some found) holds = sym (held_identity bytes found holds)

found_here : (bytes : List ℕ) (part : Part) (found : Option Signature) (unfit : List UnfitPage) → Holds (part_bytes bytes part) found → unfit ≡ unfit_from 0 (thin_directories (part_bytes bytes part)) (part_bytes bytes part) → record { part = part; directories = directories_in found; has_identity = is_signed_in found; unfit = unfit } ≡ part_checked bytes part
found_here bytes part found unfit holds is = rw (holds_directories (part_bytes bytes part) found holds, holds_identity (part_bytes bytes part) found holds, is) refl

pub found_is : (bytes inner : List ℕ) (part : Part) (found : Option Signature) (unfit : List UnfitPage) → inner ≡ part_bytes bytes part → Holds inner found → unfit ≡ unfit_from 0 (thin_directories inner) inner → record { part = part; directories = directories_in found; has_identity = is_signed_in found; unfit = unfit } ≡ part_checked bytes part
found_is bytes inner part found unfit same holds is =
    let P : List ℕ → Type 0 = λ l. Holds l found in
    let Q : List ℕ → Type 0 = λ l. unfit ≡ unfit_from 0 (thin_directories l) l in
    found_here bytes part found unfit (subst P same holds) (subst Q same is)

abbrev Checks : List ℕ → List Part → Result (Vec Checked Global) SigningFault → Type 0
Checks bytes parts r =
    MatchResult r
    (λ checked. (first_fault (λ p. thin_fault (part_bytes bytes p)) parts ≡ None) × (map checked_model checked.items ≡ map (part_checked bytes) parts))
    (λ e. e ≢ Memory → first_fault (λ p. thin_fault (part_bytes bytes p)) parts ≡ Some e)

fault_is : (bytes : List ℕ) (parts : List Part) (found : Option SigningFault) → parts_fault bytes ≡ None → parts ≡ parts_of bytes → first_fault (λ p. thin_fault (part_bytes bytes p)) parts ≡ found → checking_fault bytes ≡ found
unfolding checking_fault
fault_is bytes parts found none is told =
    let P : List Part → Type 0 = λ l. first_fault (λ p. thin_fault (part_bytes bytes p)) l ≡ found in
    rw none (subst P is told)

pub checks_of : (bytes : List ℕ) (parts : List Part) (r : Result (Vec Checked Global) SigningFault) → parts_fault bytes ≡ None → parts ≡ parts_of bytes → Checks bytes parts r → MatchResult r (λ checked. (checking_fault bytes ≡ None) × (map checked_model checked.items ≡ parts_checked bytes)) (λ e. e ≢ Memory → checking_fault bytes ≡ Some e)
unfolding parts_checked
checks_of bytes parts (Ok checked) none is told = (fault_is bytes parts None none is told.0, told.1 ∙ ap (map (part_checked bytes)) is)
checks_of bytes parts (Err e) none is told = λ other. fault_is bytes parts (Some e) none is (told other)
