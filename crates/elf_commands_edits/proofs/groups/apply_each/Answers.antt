use Rattle.std.proofs.Common.{◌+◌, List, drop, map, subst}
use Rattle.elf_commands_edits.specs.Groups.{GroupEdit, group_model}
use Rattle.elf_commands_edits.proofs.ListLaws.{or_want}
use Rattle.elf_commands_edits.proofs.Turns.{StandsAt, goes_on, is_refused, next_is, taken_more}
use Rattle.elf_commands_edits.proofs.groups.apply_each.Goals as goal

pub loop-index-preserved : goal.loop-index-preserved
loop-index-preserved c =
    let edits = c.args.edits.now in
    let i = c.loop-index.index in
    let edit = c.index-edits-index.result in
    let all = map group_model edits in
    let rest = map group_model (drop (i + 1) edits) in
    let Stands : List GroupEdit → Type 0 = λ l. StandsAt all l c.args.elf.now.inner c.loop-index.elf.inner i in
    let stands = subst Stands (next_is edits i edit c.loop-index-test.true c.index-edits-index.is) c.loop-index.invariant in
    goes_on all (group_model edit) rest c.args.elf.now.inner c.loop-index.elf.inner c.apply_next.new.elf.inner i stands c.in_default.ensures.made c.in_default.ensures.shows
    (taken_more edits i edit c.loop-index-test.true c.index-edits-index.is)

pub returns-in-Err-clause-told : goal.returns-in-Err-clause-told
returns-in-Err-clause-told c =
    let edits = c.args.edits.now in
    let i = c.loop-index.index in
    let edit = c.index-edits-index.result in
    let all = map group_model edits in
    let rest = map group_model (drop (i + 1) edits) in
    let Stands : List GroupEdit → Type 0 = λ l. StandsAt all l c.args.elf.now.inner c.loop-index.elf.inner i in
    let stands = subst Stands (next_is edits i edit c.loop-index-test.true c.index-edits-index.is) c.loop-index.invariant in
    or_want all c.args.elf.now.inner i c.in-Err.fault (is_refused all (group_model edit) rest c.args.elf.now.inner c.loop-index.elf.inner i c.in-Err.fault stands c.in-Err.ensures.told)
