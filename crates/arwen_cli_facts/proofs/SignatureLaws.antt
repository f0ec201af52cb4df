-- What is told of a signature that a file holds is what the file's bytes say.
use Rattle.std.proofs.Common.{◌≡◌, ℕ, List, Some, refl, subst, Option}
use Rattle.macho_signatures.specs.declared.signature.Signature.{Signature}
use Rattle.macho_signing.specs.Thin.{Holds, HoldsSignature, has_identity, thin_directories}
use Rattle.arwen_cli_facts.specs.SignatureFacts.{ContentsFacts, contents_facts, facts_in, readable}

-- the directories that are read are the file's, and so is whether an identity signed
directories_are : (bytes : List ℕ) (found : Signature) (holds : HoldsSignature bytes found) → thin_directories bytes ≡ found.directories.items
unfolding thin_directories
directories_are bytes found holds = rw (holds.is, holds.tells.directories) refl

identity_is : (bytes : List ℕ) (found : Signature) (holds : HoldsSignature bytes found) → has_identity bytes ≡ found.is_signed
unfolding has_identity
identity_is bytes found holds = rw (holds.is, holds.tells.signed) refl

facts_are : (bytes : List ℕ) (found : Signature) (told : ContentsFacts) → HoldsSignature bytes found → told ≡ contents_facts bytes found.is_signed found.directories.items → Some (readable told) ≡ facts_in bytes
facts_are bytes found told holds is = rw (is, holds.is, identity_is bytes found holds, directories_are bytes found holds) refl

pub facts_of_held : (bytes : List ℕ) (signature : Option Signature) (found : Signature) (told : ContentsFacts) → signature ≡ Some found → Holds bytes signature → told ≡ contents_facts bytes found.is_signed found.directories.items → Some (readable told) ≡ facts_in bytes
facts_of_held bytes signature found told some holds is =
    let P : Option Signature → Type 0 = λ o. Holds bytes o in
    facts_are bytes found told (subst P some holds) is
