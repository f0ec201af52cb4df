-- What the fields of a prepared area are.
use Rattle.std.specs.Prelude.{◌-◌, ◌^◌, ◌<◌, ◌≡◌, None, option_map}
use Rattle.std.specs.List.{flat_map}
use Rattle.macho_image.specs.declared.image.store.Prepared.TheInside.{Inside}
use Rattle.macho_image.specs.Checks.{area_fault}
use Rattle.macho_image.specs.Command.{contents_of}
use Rattle.macho_image.specs.Commands.{cut_commands, least, located_commands}
use Rattle.macho_image.specs.Form.{header_size}
use Rattle.macho_image.specs.Prepared.{NewArea}

-- the prepared area, with what it is for
abbrev pub new_area_of : Inside → NewArea
new_area_of p = record { form = p.ctx; count = p.count; area = p.area.items; copy = option_map (λ copy. copy.items) p.copy }

-- the count fits its field, no check of the area fails, and the kept fields are what its commands show: their list, and the least
-- offset of content that they name
pub record IsReady (p : Inside) : Type 0 where
  pub counted : p.count < 2 ^ 32
  pub accepted : area_fault p.ctx.le p.count p.area.items ≡ None
  pub commands : p.commands.items ≡ located_commands p.ctx.le (header_size p.ctx.container) (cut_commands p.ctx.le p.count p.area.items)
  pub first : p.first_content ≡ least (2 ^ 64 - 1) (flat_map (contents_of p.ctx.le) (cut_commands p.ctx.le p.count p.area.items))
