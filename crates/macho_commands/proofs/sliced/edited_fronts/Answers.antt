-- One front more.
use Rattle.std.proofs.Common.{◌∷◌, ◌∙◌, ℕ, Global, List, Vec, [], ap, arith, map, string_bytes}
use Rattle.std.proofs.lemmas.List.{map-append}
use Rattle.std.proofs.lemmas.Result.{err_from_is_err_and}
use Rattle.byte_store.specs.Composed.{owned_patches}
use Rattle.macho_commands.specs.Engine.{asked}
use Rattle.macho_commands.specs.Meaning.{file_of, macho_command_model}
use Rattle.macho_commands.proofs.SlicedRuns.{edited_more, makes_more, refuses_at, told_more}
use Rattle.macho_commands.proofs.sliced.edited_fronts.Goals as goal

abbrev items_of : Vec ℕ Global → List ℕ
items_of v = v.items

pub returns-in_err-made-clause-err : goal.returns-in_err-made-clause-err
returns-in_err-made-clause-err c =
    let p = err_from_is_err_and c.from_residual.result c.from_residual.ensures.1 in
    rw (p.1, p.2) (refuses_at (asked (macho_command_model c.args.command.now)) c.args.fronts.now c.loop-front.front-index c.front-item.result (owned_patches c.loop-front.pieces.items) _ (omega arith) c.front-item.is c.loop-front.invariant.makes c.in_err-made.ensures.err)

pub returns-in_err-push-clause-err : goal.returns-in_err-push-clause-err
returns-in_err-push-clause-err c =
    let p = err_from_is_err_and c.from_residual-in_err-push.result c.from_residual-in_err-push.ensures.1 in
    rw (p.1, p.2) (refuses_at (asked (macho_command_model c.args.command.now)) c.args.fronts.now c.loop-front.front-index c.front-item.result (owned_patches c.loop-front.pieces.items) _ (omega arith) c.front-item.is c.loop-front.invariant.makes tt)

pub loop-front-preserved : goal.loop-front-preserved
loop-front-preserved c = record {
  makes = makes_more (asked (macho_command_model c.args.command.now)) c.args.fronts.now c.loop-front.front-index c.front-item.result c.in_ok-made.made.bytes.items (owned_patches c.loop-front.pieces.items) _ (omega arith) c.front-item.is c.loop-front.invariant.makes c.in_ok-made.ensures.adds;
  edited = edited_more (asked (macho_command_model c.args.command.now)) c.args.fronts.now c.loop-front.front-index c.front-item.result c.in_ok-made.made.bytes.items _ _ (owned_patches c.loop-front.pieces.items) _ (omega arith) c.front-item.is c.loop-front.invariant.edited c.in_ok-made.ensures.adds (ap (map items_of) c.in_ok-push.ensures.items ∙ map-append items_of c.loop-front.edited.items (c.in_ok-made.made.bytes ∷ []));
  told = told_more c.args.notes (file_of (macho_command_model c.args.command.now)) c.args.fronts.now c.loop-front.front-index c.front-item.result (string_bytes c.loop-front.text) (string_bytes c.in_ok-made.made.text) _ (omega arith) c.front-item.is c.loop-front.invariant.told c.in_ok-made.ensures.told c.first_text-text.ensures.none c.first_text-text.ensures.some;
}
