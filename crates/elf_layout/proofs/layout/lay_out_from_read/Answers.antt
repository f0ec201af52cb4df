use Rattle.std.proofs.lemmas.Result.{err_from_is_err_and}
use Rattle.elf_layout.proofs.Planned.{no_sizes_asked}
use Rattle.elf_layout.proofs.layout.lay_out_from_read.Goals as goal

pub returns-in_err-sizes-clause-stuck : goal.returns-in_err-sizes-clause-stuck
returns-in_err-sizes-clause-stuck c =
    let p = err_from_is_err_and c.from_residual.result c.from_residual.ensures.1 in
    rw (p.1, p.2) (no_sizes_asked c.args.image.now _ c.in_err-sizes.ensures.fault)
