use Rattle.std.proofs.Common.{◌≤◌, ◌<◌, length, rules}
use Rattle.macho_signatures.proofs.RenewalSteps.{placed_read, unfit_done, unfit_read}
use Rattle.macho_signatures.proofs.signature.Signature.unfit_pages.Goals as goal

pub returns : goal.returns
returns c =
    let count = c.len-number-end.ensures in
    let past : length c.args.self.now.directories.items ≤ c.loop-number.number = search rules in
    unfit_done c.args.self.now.directories.items c.args.bytes.now c.loop-number.number c.loop-number.pages.items _ past c.loop-number.invariant

pub push_unfit-requires : goal.push_unfit-requires
push_unfit-requires c =
    let count = c.len-number-end.ensures in
    let inside : c.loop-number.number < length c.args.self.now.directories.items = search rules in
    placed_read c.args.self.now.start _ c.args.self.now.directories.items c.loop-number.number c.index.result.now c.requires.each inside c.index.ensures

pub loop-number-preserved : goal.loop-number-preserved
loop-number-preserved c =
    let count = c.len-number-end.ensures in
    let inside : c.loop-number.number < length c.args.self.now.directories.items = search rules in
    unfit_read c.args.self.now.directories.items c.args.bytes.now c.loop-number.number c.index.result.now c.loop-number.pages.items c.push_unfit.new.pages.items _ inside c.index.ensures c.in_ok-push_unfit.ensures c.loop-number.invariant
