-- What anchors are looked up in: made of the sections at read and of those that are there.
use Rattle.std.specs.Prelude.{◌≡◌, true, false}
use Rattle.elf_layout_segments.specs.declared.anchor_search.Lists.{Lists}
use Rattle.elf_layout_segments.specs.declared.sections.Wanted.TheVariants.{OfType}
use Rattle.elf_format.specs.declared.constants.TheConstants.{SHT_DYNAMIC}
use Rattle.elf_layout_segments.specs.FileRanges.{AreFileRanges}
use Rattle.elf_layout_segments.specs.Keys.{AreKeys, Rise}
use Rattle.elf_layout_segments.specs.AnchorSearch.{SearchedLists, interpreter_at}
use Rattle.elf_layout_segments.specs.Sections.{first_wanted}

pub record AreLists (looked : SearchedLists) (lists : Lists) : Type 0 where
  pub rise : Rise looked.kept
  pub dynamic : lists.dynamic ≡ first_wanted (OfType SHT_DYNAMIC) looked.kept
  pub interpreter : lists.interpreter ≡ interpreter_at looked.interpreter looked.kept
  pub loaded : AreKeys true looked.kept lists.loaded.items
  pub all : AreKeys false looked.kept lists.all.items
  pub read : AreFileRanges looked.read lists.read
  pub moves_dynamic : lists.moves_dynamic ≡ looked.moves_dynamic
