-- Laws of signed files.
use Rattle.std.specs.Prelude.{ℕ, ◌≡◌, List, length, All, None}
use Rattle.macho_signatures.specs.Pages.{AllFit}
use Rattle.macho_signing.specs.File.{IsSigned, part_bytes, parts_of, signing_fault}
use Rattle.macho_signing.specs.Thin.{adhoc_directories}
use Rattle.macho_signing.specs.Thin.Pages.{since}

-- In each part of edited bytes, the slots of its ad-hoc signature hold the hashes that their pages have in other bytes.
abbrev pub FitIn : List ℕ → List ℕ → Type 0
FitIn edited bytes = All (λ p. AllFit (adhoc_directories (part_bytes edited p)) (part_bytes bytes p)) (parts_of edited)

-- Where all slots fitted before an edit, and those of the pages in which it changed a byte were made anew, all fit again.
abbrev pub SignedFit : Type 0
SignedFit =
    (old edited new : List ℕ) → length old ≡ length edited → signing_fault (since old) edited ≡ None
    → IsSigned (since old) edited new → FitIn edited old → FitIn edited new
