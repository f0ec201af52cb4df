-- What the words of a line give.
use Rattle.std.proofs.Common.{◌≡◌, [], List, Result, Ok, Err, refl}
use Rattle.arwen_cli_options.specs.Options.{Asked, Wrong, ahead}

-- nothing was given before
pub ahead_of_none : (line : Result (List Asked) Wrong) → ahead [] line ≡ line
ahead_of_none (Ok rest) = refl
ahead_of_none (Err wrong) = refl
