-- Steps of making an edit.
use Rattle.std.specs.Prelude.{ℕ, ◌≡◌, List, [], ◌∷◌, All, IfSome, false, true, Bool, ◌||◌, if◌then◌else◌, is_some, Option, Some, None}
use Rattle.std.specs.List.{list_any}
use Rattle.elf_format.specs.Image.{Image, ImageSection}
use Rattle.elf_edits.specs.Texts.{has_some}
use Rattle.elf_image.specs.Deleted.{without_sections}
use Rattle.elf_image.specs.SectionEdits.{with_section_name}
use Rattle.elf_image.specs.SymbolEdits.{IsPutFor, with_dynamic_symbols, with_static_symbols}
use Rattle.elf_image_symbols.specs.EditedList.{EditedList, IsName, changed_at}
use Rattle.elf_symbol_edits.specs.SymbolEdit.{without_dynamic_symbols, without_symbols}

-- ## Symbols

-- the image with these static symbols, where there are some
abbrev pub with_symbols_put : Option EditedList → Image → Image
with_symbols_put None image = image
with_symbols_put (Some edited) image = with_static_symbols edited image

-- the image with these dynamic symbols, where there are some
abbrev pub with_dynamic_put : Option EditedList → Image → Image
with_dynamic_put None image = image
with_dynamic_put (Some edited) image = with_dynamic_symbols edited image

-- the dynamic symbols without those that have some numbers, where there are some: the image may take them in place of its own
abbrev pub AreDynamicLeft : List ℕ → Image → Option EditedList → Type 0
AreDynamicLeft gone image None = has_some gone ≡ false
AreDynamicLeft gone image (Some left) = (has_some gone ≡ true) × IsPutFor image left × (with_dynamic_symbols left image ≡ without_dynamic_symbols gone image)

-- the static symbols with some numbers went, and it is told whether there were some
pub record AreGone (gone : List ℕ) (old new : Image) (touched : Bool) : Type 0 where
  pub told : touched ≡ has_some gone
  pub made : new ≡ (if has_some gone then without_symbols gone old else old)

-- the dynamic symbols, those of both tables, or the sections with what goes along went, and it is told whether there were some
pub record AreDynamicGone (gone : List ℕ) (old new : Image) (touched : Bool) : Type 0 where
  pub told : touched ≡ has_some gone
  pub made : new ≡ (if has_some gone then without_dynamic_symbols gone old else old)

pub record AreAllGone (gone dynamic_gone : List ℕ) (old new : Image) (touched : Bool) : Type 0 where
  pub told : touched ≡ (has_some gone || has_some dynamic_gone)
  pub made : new ≡ (if has_some gone || has_some dynamic_gone then without_dynamic_symbols dynamic_gone (without_symbols gone old) else old)

pub record AreSectionsGone (gone : List ℕ) (old new : Image) (touched : Bool) : Type 0 where
  pub told : touched ≡ has_some gone
  pub made : new ≡ without_sections gone old

-- ## Names for sections

-- no name has a NUL
abbrev pub AreNames : List (Option (List ℕ)) → Type 0
AreNames ns = All (λ n. IfSome n IsName) ns

-- the section with a name, where there is one
abbrev pub named_if : Option (List ℕ) → ImageSection → ImageSection
named_if None s = s
named_if (Some name) s = with_section_name name s

-- each section with the name that stands at its place, where there is one
abbrev pub with_names : List (Option (List ℕ)) → List ImageSection → List ImageSection
with_names [] sections = sections
with_names (n ∷ ns) [] = []
with_names (n ∷ ns) (s ∷ ss) = named_if n s ∷ with_names ns ss

-- each section behind the first with the name that stands at its place, where there is one
abbrev pub with_names_behind : List (Option (List ℕ)) → List ImageSection → List ImageSection
with_names_behind ns [] = []
with_names_behind ns (s ∷ ss) = s ∷ with_names ns ss

-- the image with these names of the sections behind the first; where there is a name it counts as changed
abbrev pub with_section_names : List (Option (List ℕ)) → Image → Image
with_section_names ns image = record image { changed = image.changed || list_any is_some ns; sections = with_names_behind ns image.sections }

-- the image with a name for the section at a position, where there is one
abbrev pub with_name_at : ℕ → Option (List ℕ) → Image → Image
with_name_at i None image = image
with_name_at i (Some name) image = record image { changed = true; sections = changed_at i (with_section_name name) image.sections }
