use Rattle.std.proofs.Common.{refl, ◌∙◌, arith}
use Rattle.std.proofs.lemmas.Result.{err_from_is_err_and}
use Rattle.macho_image.proofs.FormLaws.{area_between, form_fault-inside, form_fault-short, ncmds-header_of, sizeofcmds-header_of}
use Rattle.macho_image.proofs.parse.read_form.Goals as goal

pub returns-then-bytes-start-2 : goal.returns-then-bytes-start-2
returns-then-bytes-start-2 c =
    let ctx = c.args.ctx in
    let bytes = c.args.bytes.now in
    let size = sizeofcmds-header_of ctx bytes c.read_header-header.result c.read_header-header.ensures in
    λ _. form_fault-short ctx bytes (omega arith) (omega arith)

pub returns-in_err-listed : goal.returns-in_err-listed
returns-in_err-listed c =
    let p = err_from_is_err_and c.from_residual.result c.from_residual.ensures.1 in
    let ctx = c.args.ctx in
    let bytes = c.args.bytes.now in
    let size = sizeofcmds-header_of ctx bytes c.read_header-header.result c.read_header-header.ensures in
    let count = ncmds-header_of ctx bytes c.read_header-header.result c.read_header-header.ensures in
    let area = area_between ctx bytes c.header_size-start.result c.read_header-header.result.sizeofcmds c.header_size-start.ensures size in
    let inside = form_fault-inside ctx bytes (omega arith) (omega arith) in
    rw (p.1, p.2, inside) (λ other. let fault = c.in_err-listed.ensures other in cc)

pub returns : goal.returns
returns c =
    let ctx = c.args.ctx in
    let bytes = c.args.bytes.now in
    let size = sizeofcmds-header_of ctx bytes c.read_header-header.result c.read_header-header.ensures in
    let count = ncmds-header_of ctx bytes c.read_header-header.result c.read_header-header.ensures in
    let area = area_between ctx bytes c.header_size-start.result c.read_header-header.result.sizeofcmds c.header_size-start.ensures size in
    let inside = form_fault-inside ctx bytes (omega arith) (omega arith) in
    let listed = c.in_ok-listed.ensures in
    let accepted = listed.0 in
    let commands = listed.1 in
    let first = listed.2 in
    (inside ∙ cc, refl, c.read_header-header.ensures, cc, cc)
