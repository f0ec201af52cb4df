use Rattle.std.proofs.Common.{drop, map}
use Rattle.arwen_macho.specs.FatSlice.{slice_model}
use Rattle.macho_edits.specs.Batch.{calls_of}
use Rattle.arwen_cli_options.specs.Options.{given_model}
use Rattle.arwen_cli_install_names.specs.Naming.{AreCalls, slice_bytes}
use Rattle.arwen_cli_install_names.proofs.naming.are_edits_of.Given as goal

-- the edits are those of all slices where they are those of the slices that are left
abbrev pub invariant-loop-slice : goal.invariant-loop-slice
invariant-loop-slice l =
    AreCalls (map given_model l.given) (map slice_bytes (map slice_model (drop l.slice-index l.slices))) (calls_of l.edits)
    → AreCalls (map given_model l.given) (map slice_bytes (map slice_model l.slices)) (calls_of l.edits)
