-- The users of texts, seen as the image whose texts they are.
use Rattle.std.specs.Prelude.{◌≡◌, IsTrue}
use Rattle.std.specs.Option.{option_map}
use Rattle.elf_image.specs.SymbolsRead.{HasStaticSymbolsOf}
use Rattle.elf_layout_plan.specs.Needs.{written_entries, written_needs}
use Rattle.elf_layout_plan.specs.Texts.{are_names_changed}
use Rattle.elf_layout_plan.specs.Staying.{staying_entries, unmarked_needs}
use Rattle.elf_layout_sizes.specs.declared.users.Users.TheInside.{Inside}
use Rattle.elf_layout_sizes.specs.Inner.{Edit}
use Rattle.elf_layout_sizes.specs.Seen.{AreLinks}

abbrev pub users_model : Inside → Edit
users_model u = record { read = u.read.now; image = u.image.now }

-- The links are the image's, and the needed versions and the entries that stay are those that are written. What is told of names and
-- of symbols is so.
pub record AreUsers (u : Inside) : Type 0 where
  pub links : AreLinks u.image.now u.links
  pub needs : unmarked_needs u.staying.marks u.image.now.needs ≡ written_needs u.read.now u.image.now
  pub entries : option_map (staying_entries u.staying.are_gone) u.image.now.entries ≡ written_entries u.read.now u.image.now
  pub names : u.are_names_changed ≡ are_names_changed u.read.now u.image.now
  pub static : IsTrue u.keeps_static_symbols → HasStaticSymbolsOf u.read.now u.image.now
