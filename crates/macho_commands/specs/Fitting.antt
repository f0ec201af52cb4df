-- What commands leave of code signatures: that those fit again which fitted, and what a file tells of them.
use Rattle.std.specs.Prelude.{ℕ, ◌≡◌, ◌≢◌, true, false, List, All, None}
use Rattle.command_words.specs.Rows.{Text}
use Rattle.macho_commands_stores.specs.Kept.{DoAdhocFit, InEachPart, IsAdhocNamedApart, IsSignatureBehind, KeepsSignature, TellsSame, TellsSameLayout, TellsSamePlace}
use Rattle.macho_signing.specs.Check.{checking_fault, parts_checked}
use Rattle.macho_signing.specs.File.{part_bytes, parts_of}
use Rattle.macho_commands.specs.Engine.{IsSignedOutcome, signs_of}
use Rattle.macho_commands.specs.Meaning.{MachoMeaning, sign}
use Rattle.macho_commands.specs.Verifying.{do_pages_fit}
use Rattle.macho_commands.specs.declared.signing.Signing.{Signing}
use Rattle.macho_commands.specs.declared.signing.Signs.TheVariants.{Nothing}

-- the command makes slots of ad-hoc signatures anew
abbrev pub IsSigning : Signing → MachoMeaning → Type 0
IsSigning choice meaning = signs_of choice meaning ≢ Nothing

-- ---- slots that are made anew

-- where the signatures of a file are read, and no page fails to fit in a part that no identity signed, none does in the bytes that a
-- command makes of it which makes slots anew
abbrev pub SigningFits : Type 0
SigningFits =
    (choice : Signing) (meaning : MachoMeaning) (file new : List ℕ) → IsSigning choice meaning → IsSignedOutcome choice meaning file new
    → checking_fault file ≡ None → DoAdhocFit file → DoAdhocFit new

-- where slots are made anew, the new bytes of a command have the same parts, of which each tells of the same place of a signature, by an
-- identity or not, and of the same directories, apart from the lengths of their identifiers
abbrev pub SigningTellsSame : Type 0
SigningTellsSame =
    (choice : Signing) (meaning : MachoMeaning) (file new : List ℕ) → IsSigning choice meaning → IsSignedOutcome choice meaning file new
    → checking_fault file ≡ None → InEachPart TellsSameLayout file new

-- where no identity signed and all pages fit, all fit again
abbrev pub SigningVerifies : Type 0
SigningVerifies =
    (choice : Signing) (meaning : MachoMeaning) (file new : List ℕ) → IsSigning choice meaning → IsSignedOutcome choice meaning file new
    → checking_fault file ≡ None → All (λ found. found.has_identity ≡ false) (parts_checked file) → do_pages_fit file ≡ true
    → do_pages_fit new ≡ true

-- where besides in each part that no identity signed the identifiers stand in no slots, the signatures of the new bytes are read, and
-- their directories are the same
abbrev pub SigningReads : Type 0
SigningReads =
    (choice : Signing) (meaning : MachoMeaning) (file new : List ℕ) → IsSigning choice meaning → IsSignedOutcome choice meaning file new
    → checking_fault file ≡ None → All IsAdhocNamedApart (parts_checked file)
    → (checking_fault new ≡ None) × InEachPart TellsSame file new

-- where all slots are made anew, no page fails to fit in a part that no identity signed, whatever the file was
abbrev pub WholeFits : Type 0
WholeFits =
    (choice : Signing) (path : Text) (file new : List ℕ) → IsSignedOutcome choice (sign path) file new → DoAdhocFit new

-- ---- edits

-- whatever a command does, the new bytes have the same parts, and each tells of the same place of a signature
abbrev pub EditTellsPlace : Type 0
EditTellsPlace =
    (choice : Signing) (meaning : MachoMeaning) (file new : List ℕ) → IsSignedOutcome choice meaning file new
    → InEachPart TellsSamePlace file new

-- where the signatures of a file are read, and each begins where content does, or behind, those of the new bytes of a command that
-- leaves slots are read, and their bytes and directories are the same
abbrev pub EditKeepsSignatures : Type 0
EditKeepsSignatures =
    (choice : Signing) (meaning : MachoMeaning) (file new : List ℕ) → signs_of choice meaning ≡ Nothing → IsSignedOutcome choice meaning file new
    → checking_fault file ≡ None → All (λ p. IsSignatureBehind (part_bytes file p)) (parts_of file)
    → (checking_fault new ≡ None) × InEachPart KeepsSignature file new

-- the signatures of a file and of its new bytes are the same, with their directories, wherever those of the new bytes are read
abbrev pub ReadEditKeepsSignatures : Type 0
ReadEditKeepsSignatures =
    (choice : Signing) (meaning : MachoMeaning) (file new : List ℕ) → signs_of choice meaning ≡ Nothing → IsSignedOutcome choice meaning file new
    → checking_fault file ≡ None → checking_fault new ≡ None → InEachPart KeepsSignature file new
