-- The lines that tell notes.
use Rattle.std.specs.Prelude.{ℕ, List, [], ◌++◌, Bool, codes, if◌then◌else◌, map}
use Rattle.std.specs.List.{flat_map}
use Rattle.std.specs.Str.Lossy.{utf8_lossy}
use Rattle.elf_notes.specs.Notes.{Name}
use Rattle.elf_notes.specs.declared.findings.Findings.{Findings}
use Rattle.elf_notes.specs.declared.notes.ElfNotes.{ElfNotes}

abbrev pub Words : Type 0
Words = List ℕ

-- a line about a file: words with a name among them, lossily
abbrev pub line_of : Words → Words → Name → Words → Words
line_of file before name behind = codes "note: " ++ file ++ codes ": " ++ before ++ utf8_lossy name ++ behind ++ codes "\n"

abbrev pub old_need_line : Words → Name → Words
old_need_line file name =
    line_of file (codes "versions are needed of ") name (codes ", and no entry needs it any more: glibc refuses to load this (replace-library renames both)")

abbrev pub unmatched_line : Words → Name → Words
unmatched_line file name = line_of file (codes "no entry needs ") name []

abbrev pub unmatched_symbol_line : Words → Name → Words
unmatched_symbol_line file name = line_of file (codes "no dynamic symbol is named ") name []

-- a line where something holds
abbrev pub line_if : Bool → Words → Words → Words
line_if holds file words = if holds then line_of file words [] [] else []

abbrev pub no_names_line : Words
no_names_line = codes "no name of a library is given"

abbrev pub no_pairs_line : Words
no_pairs_line = codes "no name of a symbol is given"

abbrev pub own_loader_line : Words
own_loader_line = codes "it loads itself, and glibc stops where such a file has a run path"

abbrev pub renamed_loader_line : Words
renamed_loader_line = codes "it is a loader that libraries need by its old name: glibc loads that one too, and stops"

abbrev pub no_list_line : Words
no_list_line = codes "it has no dynamic section: a loader finds no library and no run path in it"

abbrev pub more_finds_line : Words
more_finds_line = codes "names that its GNU hash table left out can be found now"

abbrev pub lost_addresses_line : Words
lost_addresses_line = codes "its own addresses of functions of libraries can't be found any more: pointers to one function may differ"

abbrev pub old_numbers_line : Words
old_numbers_line = codes "relocations that can't be read name symbols by their old numbers, which may be others now"

abbrev pub old_place_line : Words
old_place_line = codes "it loads itself, and looks for its dynamic section at the old place, from which that moved"

abbrev pub read_only_line : Words
read_only_line = codes "its dynamic section can't be written to: a loader that fills in DT_DEBUG ends there"

abbrev pub lost_headers_line : Words
lost_headers_line = codes "its program headers lie in no loaded segment: a program that looks for them in memory may not find them any more"

abbrev pub lost_bytes_line : Words
lost_bytes_line = codes "the bytes behind its last section and segment are gone: an AppImage loses its file system"

-- what edits found
abbrev pub finding_lines : Words → Findings → Words
finding_lines file found =
    flat_map (unmatched_line file) (map (λ n. n.now) found.unmatched.items)
    ++ flat_map (unmatched_symbol_line file) (map (λ n. n.now) found.unmatched_symbols.items)
    ++ line_if found.has_no_names file no_names_line
    ++ line_if found.has_no_pairs file no_pairs_line
    ++ line_if found.is_own_loader file own_loader_line
    ++ line_if found.renames_loader file renamed_loader_line
    ++ line_if found.lacks_list file no_list_line

-- what holds after the edits
abbrev pub left_lines : Words → ElfNotes → Words
left_lines file notes =
    line_if notes.finds_more file more_finds_line ++ line_if notes.loses_addresses file lost_addresses_line
    ++ line_if notes.keeps_numbers file old_numbers_line
    ++ line_if notes.seeks_old_place file old_place_line
    ++ line_if notes.refuses_debug file read_only_line
    ++ line_if notes.loses_headers file lost_headers_line
    ++ line_if notes.loses_bytes file lost_bytes_line

abbrev pub lines_of : Words → ElfNotes → Words
lines_of file notes =
    flat_map (old_need_line file) (map (λ n. n.now) notes.old_needs.items) ++ finding_lines file notes.found ++ left_lines file notes
