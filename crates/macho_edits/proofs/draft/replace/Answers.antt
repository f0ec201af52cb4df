use Rattle.std.proofs.Common.{refl}
use Rattle.std.specs.Prelude.{slice_set}
use Rattle.macho_edits.proofs.DraftLaws.{replaced}
use Rattle.macho_edits.proofs.draft.replace.Goals as goal

pub returns : goal.returns
returns c = replaced c.args.commands.now.items (slice_set c.args.commands.now.items c.args.place c.owned.result) c.args.place c.owned.result c.args.built.items refl c.owned.ensures
