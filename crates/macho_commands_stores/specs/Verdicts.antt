-- Whether the pages of a part of a file fit.
use Rattle.std.specs.Prelude.{◌==◌, Bool, length}
use Rattle.macho_signing.specs.Check.{Found}

-- no page of a part fails to fit
abbrev pub has_none : Found → Bool
has_none found = length found.unfit == 0
