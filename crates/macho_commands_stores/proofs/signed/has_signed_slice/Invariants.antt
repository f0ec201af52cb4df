use Rattle.std.proofs.Common.{◌≡◌, drop, map}
use Rattle.std.specs.List.{list_any}
use Rattle.arwen_macho.specs.FatSlice.{slice_model}
use Rattle.macho_commands_stores.specs.Signed.{is_signed_slice}
use Rattle.macho_commands_stores.proofs.signed.has_signed_slice.Given as goal

-- no slice so far is signed
abbrev pub invariant-loop-slice : goal.invariant-loop-slice
invariant-loop-slice l = list_any is_signed_slice (map slice_model (drop l.slice-index l.slices)) ≡ list_any is_signed_slice (map slice_model l.slices)
