-- What a block is, and what may be done where two overlap that never move.
use Rattle.std.specs.Prelude.{ℕ, List, [], ◌∷◌, ◌++◌, Bool, ◌&&◌, Option, Some, None, nat_lt, ◌==◌, codes, decimal, if◌then◌else◌, option_map, slice_get}
use Rattle.std.specs.Str.Lossy.{utf8_lossy}
use Rattle.elf_format.specs.declared.constants.TheConstants.{SHT_DYNAMIC}
use Rattle.elf_format.specs.declared.form.Form.{Form}
use Rattle.elf_format.specs.Image.{Image, ImageSection}
use Rattle.elf_format.specs.Options.{is_some_and}
use Rattle.elf_format.specs.Records.{file_header_size}
use Rattle.elf_layout_plan.specs.Blocks.{Block}
use Rattle.elf_layout_reasons.specs.declared.advice.Advice.{Advice}
use Rattle.elf_layout_reasons.specs.declared.advice.Advice.TheVariants as advice
use Rattle.elf_layout_reasons.specs.declared.advice.Part.{Part}
use Rattle.elf_layout_reasons.specs.declared.advice.Part.TheVariants as parts
use Rattle.elf_layout_reasons.specs.declared.stuck.StuckPair.{StuckPair}

-- what takes a block: a section, the file header, or the program header table, none of whose sizes is that of the file header; a
-- block of no bytes and no section marks where a loaded segment starts or ends
abbrev pub part_of : Form → Block → Part
part_of form b = elim b.section [
  | Some position ↦ parts.Section position
  | None ↦ if b.size == 0 then parts.SegmentEdge else if b.size == file_header_size form then parts.FileHeader else parts.HeaderTable
]

-- the block is that of the dynamic section, and takes more bytes than the section had
abbrev pub is_grown_list : Block → ImageSection → Bool
is_grown_list b s = s.sh_type == SHT_DYNAMIC && nat_lt s.sh_size b.size

abbrev pub section_of : Image → Block → Option ImageSection
section_of image b = elim b.section [ Some position ↦ slice_get image.sections position | None ↦ None ]

-- what may be done where the first of two blocks doesn't end before the second one starts
abbrev pub advice_for : Image → Block → Option Advice
advice_for image earlier =
    if is_some_and (is_grown_list earlier) (section_of image earlier) then Some advice.SpareEntries
    else elim (part_of image.form earlier) [ parts.HeaderTable ↦ Some advice.SpareHeaders | _ ↦ None ]

-- the name of a section, none for what is no section of the image
abbrev pub name_of : Image → Part → List ℕ
name_of image (parts.Section position) = elim (slice_get image.sections position) [ Some s ↦ s.name | None ↦ [] ]
name_of image parts.FileHeader = []
name_of image parts.HeaderTable = []
name_of image parts.SegmentEdge = []

-- ## In words

abbrev pub Words : Type 0
Words = List ℕ

abbrev pub part_words : Part → Words
part_words parts.FileHeader = codes "the file header"
part_words parts.HeaderTable = codes "the program header table"
part_words parts.SegmentEdge = codes "the edge of a loaded segment"
part_words (parts.Section position) = codes "section " ++ decimal position

abbrev pub advice_words : Advice → Words
advice_words advice.SpareEntries = codes "no spare entry (--move-dynamic lets it move)"
advice_words advice.SpareHeaders = codes "no room for a further entry"

-- a name, lossily, or other words where it is empty
abbrev pub name_or : Words → Words → Words
name_or other [] = other
name_or other (byte ∷ name) = utf8_lossy (byte ∷ name)

-- what takes a block: the section's name, where it has one
abbrev pub part_text : Image → Part → Words
part_text image part = name_or (part_words part) (name_of image part)

abbrev pub block_text : Image → Block → Words
block_text image b = part_text image (part_of image.form b)

-- what may be done, with both blocks
unfoldable pub advice_text : Image → StuckPair → Advice → Words
advice_text image pair advice =
    block_text image pair.earlier ++ (codes " has " ++ (advice_words advice ++ (codes ", " ++ (block_text image pair.later ++ codes " stands behind it"))))

-- that two blocks never move and overlap
unfoldable pub overlap_text : Image → StuckPair → Words
overlap_text image pair =
    block_text image pair.earlier ++ (codes " and " ++ (block_text image pair.later ++ codes " never move and overlap"))

abbrev pub advice_part : Option Words → Words
advice_part None = []
advice_part (Some text) = codes "; " ++ text

-- that two blocks never move and overlap, and what may be done, where something is known
abbrev pub pair_text : Image → StuckPair → Words
pair_text image pair = overlap_text image pair ++ advice_part (option_map (advice_text image pair) (advice_for image pair.earlier))
