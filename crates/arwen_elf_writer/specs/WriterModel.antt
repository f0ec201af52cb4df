-- What a writer and a container hold.
use Rattle.std.specs.Prelude.{ℕ, ◌≡◌, List, [], ◌∷◌, Some, map}
use Rattle.std.specs.Slice.Iter.{iter_rest}
use Rattle.elf_image.specs.Image.{Image, shown}
use Rattle.elf_image.specs.ImageModel.{entry_model}
use Rattle.elf_format.specs.declared.constants.TheConstants.{DT_NEEDED}
use Rattle.elf_image.specs.Views.{dynamic_symbol_count, loader_view, section_view}
use Rattle.arwen_elf_writer.specs.declared.writer.Needed.{Needed}
use Rattle.arwen_elf_writer.specs.declared.writer.Writer.TheInside as writer
use Rattle.arwen_elf_writer.specs.Reads.{texts_tagged}

abbrev pub image_model : writer.Inside → Image
image_model w = w.builder

-- the views of a file are those that an image shows: that of its section headers, and that of a loader which
-- knows its program headers alone
abbrev pub ShowsBothViews : List ℕ → Image → Type 0
ShowsBothViews file image = (section_view file ≡ Some (shown image)) × (loader_view file (dynamic_symbol_count file) ≡ Some (shown image))

-- the needed libraries that are still to come
abbrev pub needed_left : Needed → List (List ℕ)
needed_left n = texts_tagged (DT_NEEDED ∷ []) (map entry_model (iter_rest n.rest))
