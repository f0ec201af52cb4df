-- The edits are not those of this slice.
use Rattle.std.proofs.Common.{◌≡◌, List, false, map, true}
use Rattle.macho_edits.specs.Batch.{calls_of}
use Rattle.macho_edits.specs.Call.{Call}
use Rattle.arwen_cli_options.specs.Options.{Asked, given_model}
use Rattle.arwen_cli_install_names.proofs.CallLaws.{calls_of_slice}
use Rattle.arwen_cli_install_names.proofs.naming.are_edits_of.Goals as goal

pub returns-then-not-branch : goal.returns-then-not-branch
returns-then-not-branch c =
    let given : List Asked = map given_model c.args.given.now in
    let calls : List Call = calls_of c.args.edits.now in (
      λ no. cc,
      λ are.
          let same = calls_of_slice given c.args.slices.now calls c.loop-slice.slice-index c.slice-item.result are c.loop-slice-test.true c.slice-item.is in
          let told : c.in_ok-same_edits.field-0 ≡ true = c.in_ok-same_edits.ensures.1 (rw (c.inner.ensures) same) in
          let not : c.in_ok-same_edits.field-0 ≡ false = c.if-not-branch.true in
          cc,
    )
