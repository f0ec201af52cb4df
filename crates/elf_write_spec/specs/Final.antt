-- What an edited image shows in the end, once it is written: needed versions that no symbol has any more are dropped, sections have
-- their numbers in the file that is written, and the dynamic symbols stand in the order that a GNU hash table asks for.
use Rattle.std.specs.Prelude.{ℕ, List, [], ◌∷◌, length, map, position, slice_index, Bool, true, false, ◌&&◌, not, Option, Some, None, nat_le, ◌==◌, if◌then◌else◌, unwrap_or}
use Rattle.std.specs.Str.{bytes_eq}
use Rattle.patch_bytes.specs.Memory.{◌>>=◌, memory_of}
use Rattle.elf_format.specs.declared.constants.TheConstants.{SHN_LORESERVE, SHT_GNU_HASH}
use Rattle.elf_format.specs.declared.version_id.VersionId.{VersionId}
use Rattle.elf_format.specs.Hashes.{gnu_header}
use Rattle.elf_format.specs.Image.{Image, counted, shown}
use Rattle.elf_format.specs.Views.{NamedSymbol, View}
use Rattle.elf_image.specs.Kept.{kept_at_number, kept_of_type}
use Rattle.elf_layout_plan.specs.Needs.{written_entries, written_needs}
use Rattle.elf_hashes.specs.Found.{in_order}
use Rattle.elf_hashes.specs.Order.{places_by_bucket}
use Rattle.elf_image.specs.Names.{are_names_changed}

-- ## Numbers of sections

-- the number that a section gets which was read at a number; a number of none stays
abbrev pub new_number : Image → ℕ → ℕ
new_number image number = elim (kept_at_number number image) [ Some s ↦ s.position | None ↦ number ]

-- the number that a symbol gets for its section: special numbers stay, and a section that is gone is none (gABI, Symbol Table, st_shndx)
abbrev pub new_symbol_section : Image → ℕ → ℕ
new_symbol_section image number =
    if nat_le SHN_LORESERVE number then number
    else elim (kept_at_number number image) [ Some s ↦ s.position | None ↦ 0 ]

abbrev pub final_symbol : Image → NamedSymbol → NamedSymbol
final_symbol image y = record y { st_shndx = new_symbol_section image y.st_shndx }

-- ## The order of the dynamic symbols

-- how many buckets the GNU hash table has (GNU hash section)
abbrev pub buckets_of : Image → Option ℕ
buckets_of image =
    kept_of_type SHT_GNU_HASH image
    >>= λ s. gnu_header image.form (memory_of s.section.content)
    >>= λ header. Some header.buckets

-- Where in the image's list each dynamic symbol of the final one stands. With other names than were read hash tables are made anew,
-- and then a GNU table decides on the order.
unfoldable pub dynamic_order : Image → Image → List ℕ
dynamic_order read image =
    if are_names_changed read image
    then elim (buckets_of image) [
      | Some buckets ↦ places_by_bucket buckets image.dynamic_symbols
      | None ↦ counted (length image.dynamic_symbols)
    ]
    else counted (length image.dynamic_symbols)

-- the dynamic symbols in that order
abbrev pub ordered : Image → Image → List NamedSymbol
ordered read image = in_order image.dynamic_symbols (dynamic_order read image)

-- the number that the dynamic symbol gets which was read at a number; 0 where it isn't there
abbrev pub new_dynamic_symbol : Image → Image → ℕ → ℕ
new_dynamic_symbol read image number =
    unwrap_or (position (λ i. slice_index image.dynamic_symbol_numbers i == number) (dynamic_order read image)) 0

-- the new number of each dynamic symbol that was read
abbrev pub new_dynamic_symbols : Image → Image → List ℕ
new_dynamic_symbols read image = map (new_dynamic_symbol read image) (counted (length read.dynamic_symbols))

-- ## The numbers of the static symbols

-- the number that the static symbol gets which was read at a number: its position among those that are there; 0 where it isn't there
abbrev pub new_static_symbol : Image → ℕ → ℕ
new_static_symbol image number = unwrap_or (position (λ n. n == number) image.symbol_numbers) 0

-- the new number of each static symbol that was read
abbrev pub new_static_symbols : Image → Image → List ℕ
new_static_symbols read image = map (new_static_symbol image) (counted (length read.symbols))

-- Some static symbol went, so that others may get other numbers.
abbrev pub is_static_renumbered : Image → Image → Bool
is_static_renumbered read image = not (length image.symbol_numbers == length read.symbols)

-- ## All of it

-- The image in its final form, of which each list is written as it stands here.
unfoldable pub final : Image → Image → Image
final read image = record image {
  entries = written_entries read image;
  needs = written_needs read image;
  symbols = map (final_symbol image) image.symbols;
  dynamic_symbols = map (final_symbol image) (ordered read image);
}

-- What a file shows to which the image was written.
abbrev pub final_view : Image → Image → View
final_view read image = shown (final read image)

-- ## Whether static symbols changed

-- the same name and the same numbers, but for a version, which no static symbol has (gABI, Symbol Table)
abbrev pub is_same_symbol : NamedSymbol → NamedSymbol → Bool
is_same_symbol x y =
    bytes_eq x.name y.name && x.st_info == y.st_info && x.st_other == y.st_other
    && x.st_shndx == y.st_shndx && x.st_value == y.st_value && x.st_size == y.st_size

-- the symbols are the same, one by one
abbrev pub are_same_symbols : List NamedSymbol → List NamedSymbol → Bool
are_same_symbols [] [] = true
are_same_symbols [] (y ∷ ys) = false
are_same_symbols (x ∷ xs) [] = false
are_same_symbols (x ∷ xs) (y ∷ ys) = is_same_symbol x y && are_same_symbols xs ys

-- the final static symbols are those that were read: none went, and none has another name or another number of its section
abbrev pub are_symbols_kept : Image → Image → Bool
are_symbols_kept read image = are_same_symbols read.symbols (final read image).symbols

-- ## Whether versions changed

-- the same version, or none, and hidden or not (GNU symbol versioning)
abbrev pub is_same_version : Option VersionId → Option VersionId → Bool
is_same_version None None = true
is_same_version None (Some v) = false
is_same_version (Some u) None = false
is_same_version (Some u) (Some v) = u.index == v.index && (if u.hidden then v.hidden else not v.hidden)

-- the versions are the same, symbol by symbol
abbrev pub are_same_versions : List (Option VersionId) → List (Option VersionId) → Bool
are_same_versions [] [] = true
are_same_versions [] (v ∷ vs) = false
are_same_versions (u ∷ us) [] = false
are_same_versions (u ∷ us) (v ∷ vs) = is_same_version u v && are_same_versions us vs

abbrev pub versions_of_symbols : List NamedSymbol → List (Option VersionId)
versions_of_symbols symbols = map (λ y. y.version) symbols

-- the versions of the final dynamic symbols are those that were read
abbrev pub are_versions_kept : Image → Image → Bool
are_versions_kept read image =
    are_same_versions (versions_of_symbols read.dynamic_symbols) (versions_of_symbols (final read image).dynamic_symbols)
