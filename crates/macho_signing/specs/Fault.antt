-- Which fault answers one of the crates below: want of memory is always its own.
use Rattle.macho_image.specs.declared.format.MachFault.{MachFault}
use Rattle.macho_image.specs.declared.format.MachFault.TheVariants as file
use Rattle.macho_signatures.specs.declared.fault.SignatureFault.{SignatureFault}
use Rattle.macho_signatures.specs.declared.fault.SignatureFault.TheVariants as signature
use Rattle.macho_signing.specs.declared.fault.SigningFault.{SigningFault}
use Rattle.macho_signing.specs.declared.fault.SigningFault.TheVariants.{File, Memory, Signature}

-- of a file that is not read
abbrev pub answer_to_file : MachFault → SigningFault
answer_to_file file.Memory = Memory
answer_to_file fault = File fault

-- of a signature that is not read
abbrev pub answer_to_signature : SignatureFault → SigningFault
answer_to_signature signature.Memory = Memory
answer_to_signature fault = Signature fault
