-- The slices are those of the file.
use Rattle.std.proofs.Common.{List, map, subst, sym}
use Rattle.std.specs.Prelude.{IfErr}
use Rattle.arwen_macho.specs.declared.macho.MachoType.{MachoType}
use Rattle.arwen_macho.specs.FatState.{Slice}
use Rattle.arwen_cli_options.specs.Options.{Asked, given_model}
use Rattle.arwen_cli_install_names.specs.Naming.{TellsPartsUnnamed, parts_of, slice_bytes}
use Rattle.arwen_cli_install_names.proofs.naming.edits_in.Goals as goal

pub returns-in-Fat-clause-err : goal.returns-in-Fat-clause-err
returns-in-Fat-clause-err c =
    let given : List Asked = map given_model c.args.given.now in
    let Of : List Slice → Type 0 = λ slices. IfErr c.edits_of_slices.result (TellsPartsUnnamed given (map slice_bytes slices)) in
    let In : MachoType → Type 0 = λ file. IfErr c.edits_of_slices.result (TellsPartsUnnamed given (parts_of file)) in
    subst In (sym c.in-Fat.is) (subst Of c.archs.ensures c.edits_of_slices.ensures.err)
