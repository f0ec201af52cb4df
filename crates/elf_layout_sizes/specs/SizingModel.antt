-- What is computed once of an edited image, seen as that image.
use Rattle.std.specs.Prelude.{◌≡◌, IfSome}
use Rattle.elf_image.specs.Kept.{interpreter_number}
use Rattle.elf_layout_sizes.specs.declared.kinds.Sizing.TheInside.{Inside}
use Rattle.elf_layout_sizes.specs.Inner.{Edit}
use Rattle.elf_layout_sizes.specs.KnownTables.{IsKnown}

abbrev pub sizing_model : Inside → Edit
sizing_model s = s.users

-- what is kept beside the users of texts is the image's
pub record IsSizing (s : Inside) : Type 0 where
  pub read_users : s.read_users ≡ record { read = s.users.read; image = s.users.read }
  pub interpreter : s.interpreter ≡ interpreter_number s.users.read
  pub strings : IfSome s.strings (IsKnown s.users.read s.users.image)
