use Rattle.byte_store.specs.declared.pieces.Piece.{Piece}
use Rattle.macho_commands_stores.proofs.PieceLaws.{lays_on}
use Rattle.macho_commands_stores.proofs.changes.lay_change.Goals as goal

pub returns-clause-laid : goal.returns-clause-laid
returns-clause-laid c =
    let piece : Piece = record { offset = c.args.at; bytes = c.args.part } in
    lays_on c.args.pieces.now.items c.push.new.self.items piece c.args.bytes.now c.put.new.bytes c.in_ok-push.ensures.items c.put.ensures
