-- Where the load commands of a thin file say that its code signature lies (loader.h, `linkedit_data_command`).
use Rattle.std.specs.Prelude.{ℕ, ◌==◌, nat_lt, List, [], ◌∷◌, length, filter, Option, Some, None, Result, Ok, Err, if◌then◌else◌}
use Rattle.patch_bytes.specs.declared.number.ByteOrder2.{ByteOrder2}
use Rattle.patch_bytes.specs.Number.{number_at}
use Rattle.macho_image.specs.Command.{cmd_of}
use Rattle.macho_image.specs.Commands.{commands_of}
use Rattle.macho_image.specs.Form.{ctx_of}
use Rattle.macho_signing.specs.declared.fault.SigningFault.{SigningFault}
use Rattle.macho_signing.specs.declared.fault.SigningFault.TheVariants.{BadCommand, SeveralSignatures}
use Rattle.macho_signing.specs.declared.place.Place.{Place}
use Rattle.macho_signing.specs.declared.place.TheConstants.{LC_CODE_SIGNATURE, LINKEDIT_COMMAND_SIZE}

-- the commands that tell of a signature
abbrev pub signature_commands : ByteOrder2 → List (List ℕ) → List (List ℕ)
signature_commands order commands = filter (λ c. cmd_of order c == LC_CODE_SIGNATURE) commands

-- what such a command tells
abbrev pub place_of : ByteOrder2 → List ℕ → Place
place_of order c = record { dataoff = number_at order 4 8 c; datasize = number_at order 4 12 c }

-- what the one command that tells of a signature tells, if there is any
abbrev pub place_in : ByteOrder2 → List (List ℕ) → Result (Option Place) SigningFault
place_in order [] = Ok None
place_in order (c ∷ []) = if nat_lt (length c) LINKEDIT_COMMAND_SIZE then Err BadCommand else Ok (Some (place_of order c))
place_in order (c ∷ d ∷ rest) = Err SeveralSignatures

-- where the signature of a file lies, if it has one
unfoldable pub signature_place : List ℕ → Result (Option Place) SigningFault
signature_place bytes = place_in (ctx_of bytes).le (signature_commands (ctx_of bytes).le (commands_of bytes))
