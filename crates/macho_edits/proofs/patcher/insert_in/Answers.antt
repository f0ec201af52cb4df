-- The header says where the commands end, and the steps make the bytes of the definition.
use Rattle.std.proofs.Common.{◌+◌, ap, arith, sym, ◌∙◌}
use Rattle.macho_edits.specs.Patched.{header_model}
use Rattle.macho_edits.proofs.PatchLemmas.{insert_done, insert_header, held_ncmds, held_sizeofcmds}
use Rattle.macho_edits.proofs.patcher.insert_in.Goals as goal

pub overflow_add-ncmds : goal.overflow_add-ncmds
overflow_add-ncmds c =
    omega (arith, c.requires.count, held_ncmds c.args.header.now.ctx c.args.bytes.now c.args.header.now.inner c.requires.held)

pub overflow_add-sizeofcmds : goal.overflow_add-sizeofcmds
overflow_add-sizeofcmds c =
    omega (arith, c.requires.size, c.requires.sized, held_sizeofcmds c.args.header.now.ctx c.args.bytes.now c.args.header.now.inner c.requires.held)

pub insert_bytes-requires-clause-order : goal.insert_bytes-requires-clause-order
insert_bytes-requires-clause-order c =
    omega (arith, c.requires.place.to, c.size.ensures, held_sizeofcmds c.args.header.now.ctx c.args.bytes.now c.args.header.now.inner c.requires.held)

pub insert_bytes-requires-clause-room : goal.insert_bytes-requires-clause-room
insert_bytes-requires-clause-room c =
    omega (arith, c.requires.place.room, c.size.ensures, held_sizeofcmds c.args.header.now.ctx c.args.bytes.now c.args.header.now.inner c.requires.held)

pub returns-clause-bytes : goal.returns-clause-bytes
returns-clause-bytes c =
    let ctx = c.args.header.now.ctx in
    let bytes = c.args.bytes.now in
    let header = c.args.header.now.inner in
    let command = c.args.command.now in
    let ncmds = held_ncmds ctx bytes header c.requires.held in
    let sizeofcmds = held_sizeofcmds ctx bytes header c.requires.held in
    insert_done ctx bytes command c.insert_bytes.new.bytes c.write_counts.new.bytes c.args.offset (c.size.result + header.sizeofcmds) (header.ncmds + 1) (header.sizeofcmds + c.args.new_cmd_size) c.requires.place (omega (arith, c.size.ensures)) (omega arith) (omega (arith, c.requires.sized)) c.insert_bytes.ensures c.write_counts.ensures

pub returns-clause-header : goal.returns-clause-header
returns-clause-header c =
    let ctx = c.args.header.now.ctx in
    let bytes = c.args.bytes.now in
    let header = c.args.header.now.inner in
    let command = c.args.command.now in
    let ncmds = held_ncmds ctx bytes header c.requires.held in
    let sizeofcmds = held_sizeofcmds ctx bytes header c.requires.held in
    ap (λ inner. record c.args.header.now { inner = inner }) (insert_header ctx bytes command c.args.offset header (header.ncmds + 1) (header.sizeofcmds + c.args.new_cmd_size) c.requires.place c.requires.held (omega arith) (omega (arith, c.requires.sized)) (omega (arith, c.requires.count)) (omega (arith, c.requires.size, c.requires.sized)))
    ∙ ap (header_model c.args.header.now) (sym (returns-clause-bytes c))
