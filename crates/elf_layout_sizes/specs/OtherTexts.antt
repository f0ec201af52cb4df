-- The texts of a string table that aren't names of symbols.
use Rattle.std.specs.Prelude.{ℕ, ◌+◌, ◌≡◌, List, ◌++◌, length, false}
use Rattle.elf_format.specs.declared.constants.TheConstants.{SHT_DYNAMIC, SHT_DYNSYM, SHT_GNU_VERDEF, SHT_GNU_VERNEED, SHT_SYMTAB}
use Rattle.elf_format.specs.Image.{Image}
use Rattle.elf_format.specs.Options.{list_at}
use Rattle.elf_layout_plan.specs.Needs.{written_entries, written_needs}
use Rattle.elf_layout_plan.specs.Texts.{if_linked, if_names, is_subsequence, texts_of_definitions, texts_of_entries, texts_of_needs, texts_of_symbols}
use Rattle.elf_layout_sizes.specs.declared.other_texts.Others.{Others}
use Rattle.elf_layout_sizes.specs.Inner.{Edit}

-- the texts but names of symbols that an image uses of the string table with that number
abbrev pub others_in_use : Edit → ℕ → Others
others_in_use e number = record {
  list = if_linked e.image SHT_DYNAMIC number (list_at texts_of_entries (written_entries e.read e.image));
  versions = if_linked e.image SHT_GNU_VERDEF number (texts_of_definitions e.image.definitions)
      ++ if_linked e.image SHT_GNU_VERNEED number (texts_of_needs (written_needs e.read e.image));
  sections = if_names e.image number;
}

-- with the names of dynamic symbols and of symbols for a link editor among them
abbrev pub with_names : Others → List (List ℕ) → List (List ℕ) → List (List ℕ)
with_names o ys zs = o.list ++ (ys ++ (o.versions ++ (zs ++ o.sections)))

abbrev pub count_of : Others → ℕ
count_of o = length o.list + length o.versions + length o.sections

-- there are as many texts of each kind
pub record HaveSameCounts (now read : Others) : Type 0 where
  pub list : length now.list ≡ length read.list
  pub versions : length now.versions ≡ length read.versions
  pub sections : length now.sections ≡ length read.sections

-- the names of dynamic symbols that stand in the string table with that number are those that stood there at read
abbrev pub HasDynamicNamesOf : Image → Image → ℕ → Type 0
HasDynamicNamesOf read image number = if_linked image SHT_DYNSYM number (texts_of_symbols image.dynamic_symbols) ≡ if_linked read SHT_DYNSYM number (texts_of_symbols read.dynamic_symbols)

-- the names of symbols for a link editor that stand in the string table with that number are those that stood there at read
abbrev pub HasStaticNamesOf : Image → Image → ℕ → Type 0
HasStaticNamesOf read image number = if_linked image SHT_SYMTAB number (texts_of_symbols image.symbols) ≡ if_linked read SHT_SYMTAB number (texts_of_symbols read.symbols)

-- the names of symbols of both kinds that stand in the string table with that number are those that stood there at read
pub record HasNamesOf (read image : Image) (number : ℕ) : Type 0 where
  pub dynamic : HasDynamicNamesOf read image number
  pub static : HasStaticNamesOf read image number

-- as many names of dynamic symbols stand in the string table with that number as stood there at read, and they are others
pub record HasOtherDynamicNames (read image : Image) (number : ℕ) : Type 0 where
  pub count : length (if_linked image SHT_DYNSYM number (texts_of_symbols image.dynamic_symbols)) ≡ length (if_linked read SHT_DYNSYM number (texts_of_symbols read.dynamic_symbols))
  pub other : is_subsequence (if_linked image SHT_DYNSYM number (texts_of_symbols image.dynamic_symbols)) (if_linked read SHT_DYNSYM number (texts_of_symbols read.dynamic_symbols)) ≡ false
