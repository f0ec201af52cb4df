-- The file that was found so far.
use Rattle.std.proofs.Common.{◌∷◌, List, Option, None, Some}
use Rattle.std.specs.Borrow.{Bor}
use Rattle.arwen_cli_options.specs.Options.{Text}

-- a file that was found before others
abbrev pub with_found : Option (Bor Text) → List Text → List Text
with_found None rest = rest
with_found (Some path) rest = path.now ∷ rest
