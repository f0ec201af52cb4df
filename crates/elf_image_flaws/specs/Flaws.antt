-- What contradicts the read rules on links between tables, on texts and on versions: the first section, by its number, of which a number, a symbol, a
-- relocation or a version record fails a test of the rule, with that.
use Rattle.std.specs.Prelude.{ℕ, ◌≡◌, ◌+◌, ◌/◌, ◌%◌, List, [], ◌∷◌, map, length, Bool, true, ◌&&◌, ◌||◌, not, Option, Some, None, is_some, nat_le, nat_lt, ◌==◌, if◌then◌else◌, find, position, sum_by}
use Rattle.std.specs.List.{flat_map, slice_get}
use Rattle.patch_bytes.specs.Memory.{◌>>=◌, Memory, text_at}
use Rattle.elf_format.specs.declared.constants.TheConstants.{EM_MIPS, SHN_LORESERVE, SHT_DYNSYM, SHT_GNU_VERDEF, SHT_GNU_VERNEED, SHT_GNU_VERSYM, SHT_STRTAB, SHT_SYMTAB, VER_NDX_FIRST}
use Rattle.elf_format.specs.declared.form.Form.{Form}
use Rattle.elf_format.specs.declared.records.SectionHeader.{SectionHeader}
use Rattle.elf_format.specs.File.{Parts, linked_section, section_bytes, section_of_type}
use Rattle.elf_format.specs.Form.{records}
use Rattle.elf_format.specs.Options.{first_there, is_none_or, is_one_of, is_some_and}
use Rattle.elf_format.specs.Records.{relocation, relocation_size, symbol_numbers, symbol_size}
use Rattle.elf_format.specs.Rules.{definition_steps, dynamic_strings_user, file_of, has_section_info, is_relocation_section, is_symbol_table, known_versions, linked_texts, need_steps, relocated_symbols, single_section_types, symbol_users, text_users, texts_of, unit_of}
use Rattle.elf_format.specs.Versions.{DefinitionNumbers, NeedNumbers, is_whole_walk, version_id}
use Rattle.elf_image_rules.specs.LinkSteps.{is_index_outside, names_below_limit}
use Rattle.elf_image_versions.specs.WalkSteps.{defined_in, leaves_texts_of, needed_in}
use Rattle.elf_image_flaws.specs.declared.flaws.Flaw.{Flaw}
use Rattle.elf_image_flaws.specs.declared.flaws.Flaw.TheVariants as flaws
use Rattle.elf_image_flaws.specs.declared.versions.TheConstants.{MOST_VERSIONS}

-- a flaw, unless a test holds
abbrev pub flaw_unless : Bool → Flaw → Option Flaw
flaw_unless right flaw = if right then None else Some flaw

-- what is told of the first of some elements of which something is told, by its number and itself; the first of all has the number n
unfoldable pub first_told : {A B : Type 0} → (ℕ → A → Option B) → ℕ → List A → Option B
first_told told n [] = None
first_told told n (x ∷ xs) = first_there (told n x) (first_told told (n + 1) xs)

-- what is told of the first record of which something is told; records of one size lie whole in bytes, each told by its bytes
abbrev pub first_record : (ℕ → List ℕ → Option Flaw) → ℕ → List ℕ → Option Flaw
first_record told size bytes = first_told told 0 (records (λ r. r) size (length bytes / size) bytes)

-- the first section of which something is told, by its number, with what is told
abbrev pub numbered : (ℕ → SectionHeader → Option Flaw) → ℕ → SectionHeader → Option (ℕ × Flaw)
numbered told n s = told n s >>= λ flaw. Some (n, flaw)

abbrev pub first_flawed : (ℕ → SectionHeader → Option Flaw) → List SectionHeader → Option (ℕ × Flaw)
first_flawed told sections = first_told (numbered told) 0 sections

-- ## What comes once

-- the section with a number is of a type that may come once, and isn't the first of its type
abbrev pub repeated_flaw : List SectionHeader → ℕ → SectionHeader → Option Flaw
repeated_flaw sections n s =
    flaw_unless (not (is_one_of single_section_types s.sh_type) || is_some_and (λ i. i == n) (position (λ t. t.sh_type == s.sh_type) sections)) (flaws.Repeated s.sh_type)

-- ## Links and sizes

-- the type of section that a section of a type has to link to, where it has to
abbrev pub wanted_link : ℕ → Option ℕ
wanted_link type = if is_one_of text_users type then Some SHT_STRTAB else if is_one_of symbol_users type then Some SHT_DYNSYM else None

-- a link to a section that isn't there, or that is of another type than the one wanted
abbrev pub link_told : ℕ → ℕ → Option SectionHeader → Option Flaw
link_told link wanted None = Some (flaws.NoLink link)
link_told link wanted (Some s) = flaw_unless (s.sh_type == wanted) (flaws.WrongLink link wanted)

abbrev pub link_flaw : List SectionHeader → SectionHeader → Option Flaw
link_flaw sections s = wanted_link s.sh_type >>= λ wanted. link_told s.sh_link wanted (linked_section sections s)

-- a size that isn't that of whole entries
abbrev pub size_told : ℕ → ℕ → Option Flaw
size_told size unit = flaw_unless (size % unit == 0) (flaws.Partial size unit)

abbrev pub header_flaw : Form → List SectionHeader → SectionHeader → Option Flaw
header_flaw form sections s = first_there (link_flaw sections s) (size_told s.sh_size (unit_of form s))

-- ## Numbers of sections and symbols

-- a symbol of a section that isn't there, where there are so many
abbrev pub symbol_told : Form → ℕ → ℕ → List ℕ → Option Flaw
symbol_told form count n r = flaw_unless (is_index_outside count SHN_LORESERVE (symbol_numbers form r)) (flaws.NoSymbolSection n (symbol_numbers form r).st_shndx)

abbrev pub symbols_flaw : Parts → SectionHeader → Option Flaw
symbols_flaw p s =
    if is_symbol_table s then first_record (symbol_told p.opened.form p.opened.header.e_shnum) (symbol_size p.opened.form) (section_bytes (file_of p) s)
    else None

-- a relocation that names a symbol which isn't there, where there are so many
abbrev pub relocation_told : Form → ℕ → ℕ → ℕ → List ℕ → Option Flaw
relocation_told form type count n r =
    flaw_unless (names_below_limit count (relocation form type r)) (flaws.NoRelocationSymbol n (relocation form type r).r_symbol)

-- the relocations of a section against a symbol table
abbrev pub relocations_told : Parts → SectionHeader → SectionHeader → Option Flaw
relocations_told p s table =
    let size = relocation_size p.opened.form s.sh_type in
    first_there (size_told s.sh_size size)
    (first_record (relocation_told p.opened.form s.sh_type (table.sh_size / symbol_size p.opened.form)) size (section_bytes (file_of p) s))

-- the bytes of a section, where it is one of relocations
abbrev pub relocation_bytes : SectionHeader → ℕ
relocation_bytes s = if is_relocation_section s then s.sh_size else 0

-- relocations are looked at where their form is known, and where they have together no more bytes than the file, as they have
-- where their sections share none
abbrev pub are_relocations_read : Parts → Bool
are_relocations_read p = not (p.opened.header.e_machine == EM_MIPS) && nat_le (sum_by relocation_bytes p.sections) (length (file_of p))

abbrev pub relocations_flaw : Parts → SectionHeader → Option Flaw
relocations_flaw p s =
    if are_relocations_read p && is_relocation_section s then relocated_symbols p.sections s >>= relocations_told p s else None

-- an sh_info that is the number of a section which isn't there
abbrev pub info_flaw : ℕ → SectionHeader → Option Flaw
info_flaw count s = flaw_unless (not (has_section_info s) || nat_lt s.sh_info count) (flaws.NoInfoSection s.sh_info)

-- what of the section with a number contradicts the rule
unfoldable pub table_flaw : Parts → ℕ → SectionHeader → Option Flaw
table_flaw p n s =
    first_there (first_there (repeated_flaw p.sections n s) (header_flaw p.opened.form p.sections s))
    (first_there (first_there (symbols_flaw p s) (relocations_flaw p s)) (info_flaw p.opened.header.e_shnum s))

-- what contradicts the rule on what comes once and on links
abbrev pub broken_links : Parts → Option (ℕ × Flaw)
broken_links p = first_flawed (table_flaw p) p.sections

-- ## Texts

-- whether a text is there at a place of texts
abbrev pub there_in : ℕ → Memory → ℕ → Bool
there_in room texts place = is_some (text_at room texts place)

-- the places where texts are are those before an end
abbrev pub EndsTexts : ℕ → Memory → ℕ → Type 0
EndsTexts room texts end = (place : ℕ) → nat_lt place end ≡ there_in room texts place

-- a symbol whose name isn't there
abbrev pub name_told : (ℕ → Bool) → Form → ℕ → List ℕ → Option Flaw
name_told there form n r = flaw_unless (there (symbol_numbers form r).st_name) (flaws.NoSymbolName n (symbol_numbers form r).st_name)

abbrev pub names_told : (ℕ → Bool) → Form → List ℕ → Option Flaw
names_told there form bytes = first_record (name_told there form) (symbol_size form) bytes

-- the first of some places of texts where none is
abbrev pub place_told : (ℕ → Bool) → List ℕ → Option Flaw
place_told there places = find (λ place. not (there place)) places >>= λ place. Some (flaws.NoRecordText place)

-- the first place without a text of the names of defined versions, and of libraries with the versions that are needed of them
abbrev pub definitions_told : (ℕ → Bool) → List DefinitionNumbers → Option Flaw
definitions_told there definitions = place_told there (flat_map (λ d. d.names) definitions)

abbrev pub need_places : NeedNumbers → List ℕ
need_places n = n.file ∷ map (λ v. v.name) n.versions

abbrev pub needs_told : (ℕ → Bool) → List NeedNumbers → Option Flaw
needs_told there needs = place_told there (flat_map need_places needs)

-- the texts that the records of a section name: those that it links to, in the dynamic strings as far as DT_STRSZ says
abbrev pub own_texts : Parts → SectionHeader → Memory
own_texts p s = if s.sh_type == SHT_SYMTAB then texts_of p (linked_section p.sections s) else linked_texts p s

-- a text that the records of a section name and that isn't there
abbrev pub record_texts_told : (ℕ → Bool) → Parts → SectionHeader → Option Flaw
record_texts_told there p s =
    if is_symbol_table s then names_told there p.opened.form (section_bytes (file_of p) s)
    else if s.sh_type == SHT_GNU_VERDEF then definitions_told there (defined_in p)
    else if s.sh_type == SHT_GNU_VERNEED then needs_told there (needed_in p)
    else None

abbrev pub record_texts_flaw : Parts → SectionHeader → Option Flaw
record_texts_flaw p s = record_texts_told (there_in (length (file_of p)) (own_texts p s)) p s

-- the names of sections
abbrev pub section_names : Parts → Memory
section_names p = texts_of p (slice_get p.sections p.opened.header.e_shstrndx)

abbrev pub name_flaw : (ℕ → Bool) → SectionHeader → Option Flaw
name_flaw there s = flaw_unless (there s.sh_name) (flaws.NoName s.sh_name)

-- what of a section contradicts the rule on texts: its name, or a text that its records name
unfoldable pub texts_flaw : Parts → SectionHeader → Option Flaw
texts_flaw p s = first_there (name_flaw (there_in (length (file_of p)) (section_names p)) s) (record_texts_flaw p s)

-- what contradicts the rule on texts, those of dynamic entries apart
unfoldable pub broken_texts : Parts → Option (ℕ × Flaw)
broken_texts p = first_flawed (λ _ s. texts_flaw p s) p.sections

-- ## Versions

-- whether all records of defined versions are there, and all of needed ones
abbrev pub are_definitions_whole : Parts → Bool
are_definitions_whole p = is_none_or (λ s. is_whole_walk s.sh_info (definition_steps p s)) (section_of_type SHT_GNU_VERDEF p.sections)

abbrev pub are_needs_whole : Parts → Bool
are_needs_whole p = is_none_or (λ s. is_whole_walk s.sh_info (need_steps p s)) (section_of_type SHT_GNU_VERNEED p.sections)

-- a section of version records that aren't all there
abbrev pub records_flaw : Bool → Bool → SectionHeader → Option Flaw
records_flaw defined needed s =
    flaw_unless (if s.sh_type == SHT_GNU_VERDEF then defined else if s.sh_type == SHT_GNU_VERNEED then needed else true) (flaws.PartialRecords s.sh_info)

-- a symbol of a version that is neither defined nor needed
abbrev pub version_told : Form → List ℕ → ℕ → List ℕ → Option Flaw
version_told form known n r =
    flaw_unless (nat_lt (version_id form r).index VER_NDX_FIRST || is_one_of known (version_id form r).index) (flaws.UnknownVersion n (version_id form r).index)

-- the first symbol of a version that is neither defined nor needed, where no more versions are known than are looked through for each
abbrev pub indices_told : Form → List ℕ → List ℕ → Option Flaw
indices_told form known bytes = if nat_le (length known) MOST_VERSIONS then first_record (version_told form known) 2 bytes else None

-- the versions of a section against the dynamic symbols: how many they are, and then which
abbrev pub versions_told : Parts → List ℕ → SectionHeader → SectionHeader → Option Flaw
versions_told p known s symbols =
    let versions = s.sh_size / 2 in
    let count = symbols.sh_size / symbol_size p.opened.form in
    if versions == count then indices_told p.opened.form known (section_bytes (file_of p) s) else Some (flaws.OtherCount versions count)

abbrev pub versions_flaw : Parts → List ℕ → SectionHeader → Option Flaw
versions_flaw p known s = if s.sh_type == SHT_GNU_VERSYM then section_of_type SHT_DYNSYM p.sections >>= versions_told p known s else None

-- a section that has texts where a user of the dynamic strings has its own, and may not
abbrev pub strings_flaw : Option SectionHeader → SectionHeader → Option Flaw
strings_flaw None s = None
strings_flaw (Some user) s = flaw_unless (leaves_texts_of user s) (flaws.ForeignStrings s.sh_link)

-- what of a section contradicts the rule on versions where all version records are there
unfoldable pub version_flaw : Parts → SectionHeader → Option Flaw
version_flaw p s = first_there (versions_flaw p (known_versions p) s) (strings_flaw (dynamic_strings_user p.sections) s)

-- what contradicts the rule on versions
unfoldable pub broken_versions : Parts → Option (ℕ × Flaw)
broken_versions p =
    first_there (first_flawed (λ _ s. records_flaw (are_definitions_whole p) (are_needs_whole p) s) p.sections)
    (first_flawed (λ _ s. version_flaw p s) p.sections)
