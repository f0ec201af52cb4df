-- The header says where the commands end, and the steps make the bytes of the definition.
use Rattle.std.proofs.Common.{◌+◌, ◌-◌, ap, arith, sym, ◌∙◌}
use Rattle.macho_edits.specs.Patched.{header_model}
use Rattle.macho_edits.proofs.PatchLemmas.{remove_done, remove_header, held_ncmds, held_sizeofcmds}
use Rattle.macho_edits.proofs.patcher.remove_in.Goals as goal

pub overflow_sub-ncmds : goal.overflow_sub-ncmds
overflow_sub-ncmds c =
    omega (arith, c.requires.some, held_ncmds c.args.header.now.ctx c.args.bytes.now c.args.header.now.inner c.requires.held)

pub overflow_cast-sizeofcmds : goal.overflow_cast-sizeofcmds
overflow_cast-sizeofcmds c =
    omega (arith, c.requires.place.from, c.requires.place.to, held_sizeofcmds c.args.header.now.ctx c.args.bytes.now c.args.header.now.inner c.requires.held)

pub overflow_sub-sizeofcmds : goal.overflow_sub-sizeofcmds
overflow_sub-sizeofcmds c =
    omega (arith, c.requires.place.from, c.requires.place.to, held_sizeofcmds c.args.header.now.ctx c.args.bytes.now c.args.header.now.inner c.requires.held)

pub remove_bytes-requires-clause-order : goal.remove_bytes-requires-clause-order
remove_bytes-requires-clause-order c =
    omega (arith, c.requires.place.to, c.size.ensures, held_sizeofcmds c.args.header.now.ctx c.args.bytes.now c.args.header.now.inner c.requires.held)

pub remove_bytes-requires-clause-room : goal.remove_bytes-requires-clause-room
remove_bytes-requires-clause-room c =
    omega (arith, c.requires.place.room, c.size.ensures, held_sizeofcmds c.args.header.now.ctx c.args.bytes.now c.args.header.now.inner c.requires.held)

pub returns-clause-bytes : goal.returns-clause-bytes
returns-clause-bytes c =
    let ctx = c.args.header.now.ctx in
    let bytes = c.args.bytes.now in
    let header = c.args.header.now.inner in
    let ncmds = held_ncmds ctx bytes header c.requires.held in
    let sizeofcmds = held_sizeofcmds ctx bytes header c.requires.held in
    remove_done ctx bytes c.remove_bytes.new.bytes c.write_counts.new.bytes c.args.offset c.args.size (c.size.result + header.sizeofcmds) (header.ncmds - 1) (header.sizeofcmds - c.args.size) c.requires.place (omega (arith, c.size.ensures)) (omega arith) (omega arith) c.remove_bytes.ensures c.write_counts.ensures

pub returns-clause-header : goal.returns-clause-header
returns-clause-header c =
    let ctx = c.args.header.now.ctx in
    let bytes = c.args.bytes.now in
    let header = c.args.header.now.inner in
    let ncmds = held_ncmds ctx bytes header c.requires.held in
    let sizeofcmds = held_sizeofcmds ctx bytes header c.requires.held in
    ap (λ inner. record c.args.header.now { inner = inner }) (remove_header ctx bytes c.args.offset c.args.size header (header.ncmds - 1) (header.sizeofcmds - c.args.size) c.requires.place c.requires.held (omega arith) (omega arith) (omega arith) (omega arith))
    ∙ ap (header_model c.args.header.now) (sym (returns-clause-bytes c))
