use Rattle.macho_image.proofs.FormLaws.{file_passes}
use Rattle.macho_image.proofs.image.MachO.ctx.Goals as goal

pub returns-clause-magic : goal.returns-clause-magic
returns-clause-magic c = rw (← c.self.view_is) ((file_passes _ c.self.invariant.accepted).1)
