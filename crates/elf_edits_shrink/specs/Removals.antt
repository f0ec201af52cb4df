-- The directories that go from the run paths of an image.
use Rattle.std.specs.Prelude.{List, [], Some, None}
use Rattle.elf_image.specs.Image.{Image}
use Rattle.elf_edits.specs.Edit.{Edit, ShrinkRpath}
use Rattle.elf_edits.specs.Entries.{directories_removed, search_of}
use Rattle.elf_edits.specs.Shrunk.{Removal}

-- the directories that an edit removes from run paths, in order, with their reasons
abbrev pub removed_by : Edit → Image → List Removal
removed_by (ShrinkRpath prefixes answers) image = elim image.entries [ None ↦ [] | Some es ↦ directories_removed (search_of image.header.e_machine prefixes answers es) es ]
removed_by _ image = []
