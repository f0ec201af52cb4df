-- Laws of signatures.
use Rattle.std.specs.Prelude.{ℕ, List, length}
use Rattle.macho_signatures.specs.Pages.{AllFit}
use Rattle.macho_signatures.specs.Renewed.{DiffersWithin, EndBefore, IsRenewed}
use Rattle.macho_signatures.specs.Signature.{ArePlaced}
use Rattle.macho_signatures.specs.declared.directory.Directory.{Directory}
use Rattle.macho_signatures.specs.declared.renewal.ByteRange.{ByteRange}

-- Where all slots held the hashes of their pages, an edit changed bytes in ranges before the signature alone, and the slots of the
-- pages that these touch were made anew, all slots hold them again.
abbrev pub RenewedFit : Type 0
RenewedFit =
    (start : ℕ) (ds : List Directory) (touched : List ByteRange) (old edited new : List ℕ)
    → ArePlaced start (length old) ds → AllFit ds old → EndBefore start touched → DiffersWithin touched old edited
    → IsRenewed ds touched edited new → AllFit ds new
