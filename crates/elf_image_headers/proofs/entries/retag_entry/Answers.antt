use Rattle.std.proofs.Common.{arith}
use Rattle.elf_image_headers.proofs.EditSteps.{tag_set}
use Rattle.elf_image_headers.proofs.entries.retag_entry.Goals as goal

pub returns : goal.returns
returns c = tag_set c.args.list.now.items c.args.index c.args.tag c.index_mut.result.now c.set_tag.new.self (omega arith) c.index_mut.ensures.value c.set_tag.ensures
