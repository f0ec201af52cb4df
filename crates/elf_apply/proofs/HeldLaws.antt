-- What is known of the image that a writer holds.
use Rattle.std.proofs.Common.{List, []}
use Rattle.std.specs.Prelude.{All, Option, Some, None, unwrap_or}
use Rattle.std.proofs.lemmas.List.Elements.{All-nil}
use Rattle.elf_image.specs.Dynamic.{Entry}
use Rattle.elf_image.specs.DynamicList.{IsListed}
use Rattle.elf_image.specs.Edited.{AreEntriesOf, IsEdited}
use Rattle.elf_image.specs.Image.{Image}
use Rattle.elf_apply.specs.Drafted.{ListsEntries}

by_lists : (read now : Option (List Entry)) → AreEntriesOf read now → All IsListed (unwrap_or now [])
by_lists None None h = All-nil IsListed
by_lists None (Some now) h = absurd h
by_lists (Some read) None h = absurd h
by_lists (Some read) (Some now) h = h.listed

-- the entries of an image that a writer holds may stand before a DT_NULL
pub lists_entries : (image : Image) → IsEdited image → ListsEntries image
lists_entries image is = by_lists is.read.entries image.entries is.is_edit.entries
