-- The words for what is told of a code signature. Faults have the names that docs/FORMATS-MACHO.md lists.
use Rattle.std.specs.Prelude.{ℕ, List, codes}
use Rattle.macho_image.specs.declared.format.MachFault.{MachFault}
use Rattle.macho_image.specs.declared.format.MachFault.TheVariants as file
use Rattle.macho_signatures.specs.declared.directory.HashKind.{HashKind}
use Rattle.macho_signatures.specs.declared.directory.HashKind.TheVariants.{Sha1, Sha256}
use Rattle.macho_signatures.specs.declared.fault.SignatureFault.{SignatureFault}
use Rattle.macho_signatures.specs.declared.fault.SignatureFault.TheVariants as signature
use Rattle.macho_signing.specs.declared.fault.SigningFault.{SigningFault}
use Rattle.macho_signing.specs.declared.fault.SigningFault.TheVariants as signing
use Rattle.arwen_cli_facts.specs.declared.signature.SignatureKind.{SignatureKind}
use Rattle.arwen_cli_facts.specs.declared.signature.SignatureKind.TheVariants.{AdHoc, Identity, LinkerSigned}

abbrev pub kind_name : SignatureKind → List ℕ
kind_name AdHoc = codes "ad hoc"
kind_name LinkerSigned = codes "linker-signed ad hoc"
kind_name Identity = codes "by an identity"

abbrev pub hash_name : HashKind → List ℕ
hash_name Sha1 = codes "sha1"
hash_name Sha256 = codes "sha256"

abbrev pub file_fault_name : MachFault → List ℕ
file_fault_name file.BadMagic = codes "BadMagic"
file_fault_name file.Truncated = codes "Truncated"
file_fault_name file.BadCommandSize = codes "BadCommandSize"
file_fault_name file.BadNameOffset = codes "BadNameOffset"
file_fault_name file.CountsDisagree = codes "CountsDisagree"
file_fault_name file.SliceOutside = codes "SliceOutside"
file_fault_name file.SlicesOverlap = codes "SlicesOverlap"
file_fault_name file.TooLong = codes "TooLong"
file_fault_name file.Memory = codes "Memory"

abbrev pub signature_fault_name : SignatureFault → List ℕ
signature_fault_name signature.Outside = codes "Outside"
signature_fault_name signature.NoSuperBlob = codes "NoSuperBlob"
signature_fault_name signature.BadLength = codes "BadLength"
signature_fault_name signature.BadIndex = codes "BadIndex"
signature_fault_name signature.BadBlob = codes "BadBlob"
signature_fault_name signature.BadDirectory = codes "BadDirectory"
signature_fault_name signature.UnknownHash = codes "UnknownHash"
signature_fault_name signature.BadPageSize = codes "BadPageSize"
signature_fault_name signature.Scattered = codes "Scattered"
signature_fault_name signature.BadSlots = codes "BadSlots"
signature_fault_name signature.BadLimit = codes "BadLimit"
signature_fault_name signature.NoDirectory = codes "NoDirectory"
signature_fault_name signature.Memory = codes "Memory"

abbrev pub fault_name : SigningFault → List ℕ
fault_name (signing.File fault) = file_fault_name fault
fault_name signing.BadCommand = codes "BadCommand"
fault_name signing.SeveralSignatures = codes "SeveralSignatures"
fault_name signing.InCommands = codes "InCommands"
fault_name (signing.Signature fault) = signature_fault_name fault
fault_name signing.ChangedSignature = codes "ChangedSignature"
fault_name signing.Memory = codes "Memory"
