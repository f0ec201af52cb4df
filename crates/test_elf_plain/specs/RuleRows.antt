-- For each read rule small files on both sides of it. Each row is computed.
use Rattle.std.specs.Prelude.{ℕ, ◌≡◌, ◌^◌, List, [], ◌∷◌, ◌++◌, take, drop, replicate, ◌-◌, true, false}
use Rattle.elf_format.specs.declared.fault.ElfFault.TheVariants.{BadMagic, BadText, Disagree, Truncated, Unsupported}
use Rattle.elf_format.specs.Placement.{segments_apart}
use Rattle.elf_format.specs.declared.records.FileHeader.{FileHeader}
use Rattle.elf_format.specs.declared.records.SegmentHeader.{SegmentHeader}
use Rattle.test_elf_plain.specs.Rows.{IsAccepted, IsRefused}
use Rattle.test_elf_plain.specs.Vectors.{half, kept_section, large_file, large_of, large_with, little64, loaded_section, small_file, small_library, spelled_symbol, usual_segment, word}

-- ## Before the rules

pub record IdentificationRows : Type 0 where
  pub nothing : IsRefused [] Truncated
  pub fifteen_bytes : IsRefused (take 15 (small_file small_library)) Truncated
  pub other_file : IsRefused (replicate 16 0) BadMagic
  pub no_class : IsRefused (take 4 (small_file small_library) ++ replicate 12 0) Unsupported
  pub identification_alone : IsRefused (take 16 (small_file small_library)) Truncated
  pub most_of_the_header : IsRefused (take 63 (small_file small_library)) Truncated

-- ## 1: file kind

abbrev pub with_header : (FileHeader → FileHeader) → List ℕ
with_header change = small_file (record small_library { header = change small_library.header })

-- two static symbols, the second with a name and a section's number
abbrev pub two_symbols : ℕ → ℕ → List ℕ
two_symbols name section =
    let symbol = λ (n x : ℕ). spelled_symbol little64 (record { st_name = n; st_info = 0; st_other = 0; st_shndx = x; st_value = 0; st_size = 0 }) in
    symbol 0 0 ++ symbol name section

-- a large library with static symbols, whose names are in its section of names
abbrev pub symbols_at : ℕ → ℕ → List ℕ
symbols_at name section = large_file (large_with [] ((672, two_symbols name section) ∷ []) (record (kept_section 0 2 672 48) { sh_link = 3 } ∷ []) [])

pub record FileKindRows : Type 0 where
  pub program : IsAccepted (with_header (λ h. record h { e_type = 2 }))
  pub core_dump : IsRefused (with_header (λ h. record h { e_type = 4 })) Unsupported
  pub no_section_table : IsRefused (with_header (λ h. record h { e_shoff = 0 })) Unsupported
  pub no_sections : IsRefused (with_header (λ h. record h { e_shnum = 0 })) Unsupported
  -- as many sections as plain numbering has, which then end past the file
  pub most_sections : IsRefused (with_header (λ h. record h { e_shnum = 0xfeff })) Truncated
  pub too_many_sections : IsRefused (with_header (λ h. record h { e_shnum = 0xff00 })) Unsupported
  pub most_segments : IsRefused (with_header (λ h. record h { e_phnum = 0xfffe })) Truncated
  pub too_many_segments : IsRefused (with_header (λ h. record h { e_phnum = 0xffff })) Unsupported
  pub other_segment_size : IsRefused (with_header (λ h. record h { e_phentsize = 32 })) Unsupported
  pub other_section_size : IsRefused (with_header (λ h. record h { e_shentsize = 40 })) Unsupported
  pub names_in_another_table : IsAccepted (with_header (λ h. record h { e_shstrndx = 3 }))
  pub names_in_the_list : IsRefused (with_header (λ h. record h { e_shstrndx = 2 })) Unsupported
  pub names_past_the_table : IsRefused (with_header (λ h. record h { e_shstrndx = 4 })) Unsupported
  -- the section table past the end of the file: what stands there isn't looked at
  pub table_outside : IsRefused (take 40 (small_file small_library) ++ replicate 8 255 ++ drop 48 (small_file small_library)) Truncated
  pub ordinary_symbol : IsAccepted (symbols_at 0 0xfff1)
  pub symbol_elsewhere : IsRefused (symbols_at 0 0xffff) Unsupported

-- ## 2: ranges in the file

pub record RangeRows : Type 0 where
  pub whole : IsAccepted (small_file small_library)
  pub a_byte_short : IsRefused (take 607 (small_file small_library)) Truncated
  pub inside_the_section_table : IsRefused (take 400 (small_file small_library)) Truncated
  pub names_to_the_end : IsAccepted (small_file (record small_library { names_section = kept_section 18 3 320 288 }))
  pub names_past_the_end : IsRefused (small_file (record small_library { names_section = kept_section 18 3 320 289 })) Truncated
  pub empty_at_the_end : IsAccepted (large_of (kept_section 0 1 1344 0 ∷ []))
  pub empty_past_the_end : IsRefused (large_of (kept_section 0 1 1345 0 ∷ [])) Truncated
  -- a section without bytes has no range in the file
  pub uninitialized_past_the_end : IsAccepted (large_of (kept_section 0 8 (2 ^ 63) 8 ∷ []))
  pub huge_size : IsRefused (large_of (kept_section 0 1 672 (2 ^ 64 - 1) ∷ [])) Truncated
  pub load_to_the_end : IsAccepted (large_file (large_with (usual_segment 1 4 1024 256 8 ∷ []) [] [] []))
  pub load_past_the_end : IsRefused (large_file (large_with (usual_segment 1 4 1024 257 8 ∷ []) [] [] [])) Truncated
  -- the ranges of other segments aren't looked at
  pub note_past_the_end : IsAccepted (large_file (large_with (usual_segment 4 4 1024 4096 8 ∷ []) [] [] []))
  pub more_memory : IsAccepted (small_file (record small_library { load = record small_library.load { p_memsz = 321 } }))
  pub less_memory : IsRefused (small_file (record small_library { load = record small_library.load { p_memsz = 319 } })) (Disagree 2)

-- ## 3: segments apart

-- a second loaded segment behind the first
abbrev pub second_load : ℕ → ℕ → List ℕ
second_load offset address = large_file (large_with (record (usual_segment 1 4 offset 64 8) { p_vaddr = address } ∷ []) [] [] [])

pub record ApartRows : Type 0 where
  pub next_to_it : IsAccepted (second_load 1024 1024)
  pub a_byte_of_the_file_shared : IsRefused (second_load 1023 1024) (Disagree 3)
  pub an_address_shared : IsRefused (second_load 1024 1023) (Disagree 3)
  pub empty_within : IsAccepted (large_file (large_with (usual_segment 1 4 512 0 8 ∷ []) [] [] []))
  pub page_next : segments_apart (usual_segment 1 4 0 0x1000 8 ∷ usual_segment 1 4 0x1000 0x1000 8 ∷ []) ≡ true
  pub page_shared : segments_apart (usual_segment 1 4 0 0x1000 8 ∷ usual_segment 1 4 0xfff 0x1000 8 ∷ []) ≡ false

-- ## 4: sections loaded

pub record LoadedRows : Type 0 where
  pub held : IsAccepted (large_of (loaded_section 0 1 2 680 8 0 0 1 ∷ []))
  pub to_the_end : IsAccepted (large_of (loaded_section 0 1 2 1016 8 0 0 1 ∷ []))
  pub past_the_end : IsRefused (large_of (loaded_section 0 1 2 1017 8 0 0 1 ∷ [])) (Disagree 4)
  pub at_another_distance : IsRefused (large_of (record (loaded_section 0 1 2 680 8 0 0 1) { sh_addr = 681 } ∷ [])) (Disagree 4)
  -- what isn't allocated, has no bytes in the file or is empty needs no segment
  pub not_allocated : IsAccepted (large_of (kept_section 0 1 1017 8 ∷ []))
  pub empty_elsewhere : IsAccepted (large_of (loaded_section 0 1 2 1100 0 0 0 1 ∷ []))
  pub next_to_another : IsAccepted (large_of (loaded_section 0 1 2 680 8 0 0 1 ∷ loaded_section 0 1 2 688 8 0 0 1 ∷ []))
  pub over_another : IsRefused (large_of (loaded_section 0 1 2 680 9 0 0 1 ∷ loaded_section 0 1 2 688 8 0 0 1 ∷ [])) (Disagree 4)
  pub behind_the_headers : IsAccepted (large_of (loaded_section 0 1 2 176 8 0 0 1 ∷ []))
  pub over_the_segment_table : IsRefused (large_of (loaded_section 0 1 2 175 8 0 0 1 ∷ [])) (Disagree 4)
  pub over_the_file_header : IsRefused (large_of (loaded_section 0 1 2 63 1 0 0 1 ∷ [])) (Disagree 4)
  pub at_the_start : IsRefused (large_of (loaded_section 0 1 2 0 8 0 0 1 ∷ [])) (Disagree 4)
  pub no_segment : IsRefused (large_file (record (large_with [] [] [] []) { load = usual_segment 4 4 0 1024 8 })) (Disagree 4)

-- ## 5: uninitialized data clear of file ends

pub record ClearRows : Type 0 where
  pub behind : IsAccepted (large_of (loaded_section 0 8 2 1024 64 0 0 1 ∷ []))
  pub across : IsRefused (large_of (loaded_section 0 8 2 1023 64 0 0 1 ∷ [])) (Disagree 5)
  pub up_to_it : IsAccepted (large_of (loaded_section 0 8 2 1016 8 0 0 1 ∷ []))
  pub of_threads : IsAccepted (large_of (loaded_section 0 8 0x402 1023 64 0 0 1 ∷ []))
  -- a section that isn't allocated takes no memory, so its address means nothing
  pub not_allocated : IsAccepted (large_of (loaded_section 0 8 0 1023 64 0 0 1 ∷ []))

-- ## 6: one of each and linked

-- a large library with relocations without an addend: a place, and a number that names symbol and type
abbrev pub relocations_at : ℕ → ℕ → ℕ → List ℕ
relocations_at link info size =
    large_file (large_with [] ((672, two_symbols 0 0) ∷ (720, word little64 0 ++ word little64 0 ++ word little64 7 ++ word little64 info) ∷ [])
    (record (kept_section 0 2 672 48) { sh_link = 3 } ∷ record (kept_section 0 9 720 size) { sh_link = link } ∷ []) [])

pub record LinkedRows : Type 0 where
  pub one_header_table : IsAccepted (large_file (large_with (usual_segment 6 4 64 168 8 ∷ []) [] [] []))
  pub two_header_tables : IsRefused (large_file (large_with (usual_segment 6 4 64 224 8 ∷ usual_segment 6 4 64 224 8 ∷ []) [] [] [])) (Disagree 6)
  pub two_notes : IsAccepted (large_file (large_with (usual_segment 4 4 64 8 8 ∷ usual_segment 4 4 64 8 8 ∷ []) [] [] []))
  pub two_lists : IsRefused (large_of (loaded_section 0 6 2 680 16 1 0 8 ∷ [])) (Disagree 6)
  pub list_without_strings : IsRefused (small_file (record small_library { list_section = record small_library.list_section { sh_link = 2 } })) (Disagree 6)
  pub link_past_the_table : IsRefused (small_file (record small_library { list_section = record small_library.list_section { sh_link = 4 } })) (Disagree 6)
  pub hash_without_symbols : IsRefused (large_of (loaded_section 0 5 2 680 8 1 0 8 ∷ [])) (Disagree 6)
  pub symbols_whole : IsAccepted (symbols_at 0 4)
  pub symbols_in_part : IsRefused (large_of (record (kept_section 0 2 672 47) { sh_link = 3 } ∷ [])) (Disagree 6)
  pub symbol_of_no_section : IsRefused (symbols_at 0 5) (Disagree 6)
  pub symbol_of_special_meaning : IsAccepted (symbols_at 0 0xff00)
  pub relocation_of_a_symbol : IsAccepted (relocations_at 4 1 16)
  pub relocation_of_no_symbol : IsRefused (relocations_at 4 2 16) (Disagree 6)
  pub relocations_in_part : IsRefused (relocations_at 4 1 15) (Disagree 6)
  -- relocations that name symbols and link to none are kept as they are
  pub opaque_relocations : IsAccepted (relocations_at 0 2 16)
  pub opaque_relocations_in_part : IsAccepted (relocations_at 0 2 17)
  pub plain_relocations_in_part : IsRefused (relocations_at 0 0 17) (Disagree 6)
  pub info_is_a_section : IsAccepted (large_of (record (kept_section 0 9 672 0) { sh_info = 4 } ∷ []))
  pub info_is_no_section : IsRefused (large_of (record (kept_section 0 9 672 0) { sh_info = 5 } ∷ [])) (Disagree 6)
  pub info_by_flag : IsRefused (large_of (record (kept_section 0 1 672 0) { sh_info = 5; sh_flags = 0x40 } ∷ [])) (Disagree 6)
  pub info_of_another_meaning : IsAccepted (large_of (record (kept_section 0 1 672 0) { sh_info = 5 } ∷ []))
  pub info_of_no_section : IsAccepted (large_of (record (kept_section 0 0 672 0) { sh_info = 5; sh_flags = 0x40 } ∷ []))

-- ## 7: dynamic section agrees

abbrev pub with_list_segment : (SegmentHeader → SegmentHeader) → List ℕ
with_list_segment change = small_file (record small_library { list_segment = change small_library.list_segment })

pub record DynamicRows : Type 0 where
  pub agrees : IsAccepted (with_list_segment (λ p. record p { p_memsz = 0; p_paddr = 1 }))
  pub another_offset : IsRefused (with_list_segment (λ p. record p { p_offset = 224 })) (Disagree 7)
  pub another_address : IsRefused (with_list_segment (λ p. record p { p_vaddr = 224 })) (Disagree 7)
  pub no_segment : IsRefused (with_list_segment (λ p. record p { p_type = 4 })) (Disagree 7)
  pub no_section : IsRefused (small_file (record small_library { list_section = record small_library.list_section { sh_type = 1 } })) (Disagree 7)
  pub not_allocated : IsRefused (small_file (record small_library { list_section = record small_library.list_section { sh_flags = 1 } })) (Disagree 7)
  pub longer_segment : IsAccepted (with_list_segment (λ p. record p { p_filesz = 96 }))
  pub end_past_the_segment : IsRefused (with_list_segment (λ p. record p { p_filesz = 79 })) (Disagree 7)
  pub end_past_the_section : IsRefused (small_file (record small_library { list_section = record small_library.list_section { sh_size = 64 } })) (Disagree 7)
  -- neither the segment nor the section of the dynamic list
  pub no_list : IsAccepted (small_file (record small_library { list_segment = record small_library.list_segment { p_type = 4 }; list_section = record small_library.list_section { sh_type = 1; sh_link = 0 } }))

-- ## 8: interpreter agrees

-- a large library with an interpreter's name of 8 bytes at 680
abbrev pub interpreter_at : ℕ → ℕ → ℕ → ℕ → List ℕ
interpreter_at type offset file_size memory_size =
    large_file (large_with (record (usual_segment 3 4 offset file_size 1) { p_memsz = memory_size } ∷ []) [] (loaded_section 0 type 2 680 8 0 0 1 ∷ []) [])

pub record InterpreterRows : Type 0 where
  pub agrees : IsAccepted (interpreter_at 1 680 8 8)
  pub another_place : IsRefused (interpreter_at 1 681 8 8) (Disagree 8)
  pub another_size : IsRefused (interpreter_at 1 680 7 8) (Disagree 8)
  -- the interpreter's size in memory isn't looked at
  pub another_size_in_memory : IsAccepted (interpreter_at 1 680 8 9)
  pub another_type : IsRefused (interpreter_at 7 680 8 8) (Disagree 8)

-- ## 9: dynamic tables agree

-- a large library with a gABI hash table of one bucket and no symbols at 680, dynamic symbols at 704, and further entries
abbrev pub tables_with : List (ℕ × ℕ) → List ℕ
tables_with entries =
    large_file (large_with [] ((680, word little64 1 ++ word little64 1 ++ word little64 0 ++ word little64 0) ∷ [])
    (loaded_section 0 5 2 680 16 5 0 4 ∷ loaded_section 0 11 2 704 24 1 1 8 ∷ []) entries)

pub record TableRows : Type 0 where
  pub tables : IsAccepted (tables_with ((4, 680) ∷ (6, 704) ∷ (11, 24) ∷ []))
  pub twice : IsRefused (tables_with ((4, 680) ∷ (4, 680) ∷ [])) (Disagree 9)
  -- other tags may come again
  pub needed_twice : IsAccepted (tables_with ((1, 1) ∷ []))
  pub hash_elsewhere : IsRefused (tables_with ((4, 681) ∷ [])) (Disagree 9)
  pub symbols_elsewhere : IsRefused (tables_with ((6, 680) ∷ [])) (Disagree 9)
  pub no_such_table : IsRefused (tables_with ((0x6ffffef5, 680) ∷ [])) (Disagree 9)
  pub symbols_of_another_size : IsRefused (tables_with ((11, 16) ∷ [])) (Disagree 9)
  pub versions_uncounted : IsRefused (tables_with ((0x6fffffff, 0) ∷ [])) (Disagree 9)
  pub fewer_string_bytes : IsAccepted (small_file (record small_library { entries = (1, 11) ∷ (5, 176) ∷ (10, 14) ∷ (0, 0) ∷ [] }))
  pub more_string_bytes : IsRefused (small_file (record small_library { entries = (1, 11) ∷ (5, 176) ∷ (10, 15) ∷ (0, 0) ∷ [] })) (Disagree 9)
  pub other_strings : IsRefused (large_file (large_with [] [] (loaded_section 0 11 2 704 24 3 1 8 ∷ []) [])) (Disagree 9)

-- ## 10: texts end

pub record TextRows : Type 0 where
  pub last_text : IsAccepted (small_file (record small_library { entries = (1, 13) ∷ (5, 176) ∷ (10, 14) ∷ (0, 0) ∷ [] }))
  pub text_outside : IsRefused (small_file (record small_library { entries = (1, 14) ∷ (5, 176) ∷ (10, 14) ∷ (0, 0) ∷ [] })) BadText
  -- the NUL stands in the section, but not among the bytes that DT_STRSZ counts
  pub past_the_count : IsRefused (small_file (record small_library { entries = (1, 11) ∷ (5, 176) ∷ (10, 13) ∷ (0, 0) ∷ [] })) BadText
  pub without_a_count : IsAccepted (small_file (record small_library { entries = (1, 11) ∷ (5, 176) ∷ (0, 0) ∷ [] }))
  pub not_a_text_tag : IsAccepted (small_file (record small_library { entries = (21, 99) ∷ (5, 176) ∷ (0, 0) ∷ [] }))
  pub section_name_outside : IsRefused (large_of (kept_section 28 1 672 0 ∷ [])) BadText
  pub section_name_at_the_end : IsAccepted (large_of (kept_section 27 1 672 0 ∷ []))
  pub symbol_name_outside : IsRefused (symbols_at 28 0) BadText
  pub symbol_name_at_the_end : IsAccepted (symbols_at 27 0)

-- ## 11: versions

-- two dynamic symbols at 680, the second with a version of some index, at 728, and needed versions at 736, in records of 16
-- bytes: of one library, with one version, of index 2
abbrev pub versions_with : ℕ → ℕ → ℕ → ℕ → List ℕ
versions_with index count names next =
    large_file (large_with [] ((680, two_symbols 0 0) ∷ (728, half little64 0 ++ half little64 index)
    ∷ (
      736,
      half little64 1 ++ half little64 names ++ word little64 1 ++ word little64 16 ++ word little64 next
          ++ word little64 0 ++ half little64 0 ++ half little64 2 ++ word little64 11 ++ word little64 0,
    ) ∷ [])
    (loaded_section 0 11 2 680 48 1 1 8 ∷ loaded_section 0 0x6fffffff 2 728 4 4 0 2 ∷ loaded_section 0 0x6ffffffe 2 736 32 1 count 4 ∷ []) [])

pub record VersionRows : Type 0 where
  pub known : IsAccepted (versions_with 2 1 1 0)
  pub known_and_hidden : IsAccepted (versions_with 0x8002 1 1 0)
  pub unknown : IsRefused (versions_with 3 1 1 0) (Disagree 11)
  pub of_no_record : IsAccepted (versions_with 1 1 1 0)
  -- the next of the last record isn't looked at
  pub last_next : IsAccepted (versions_with 2 1 1 99)
  pub no_next_record : IsRefused (versions_with 2 2 1 0) (Disagree 11)
  pub record_outside : IsRefused (versions_with 2 2 1 17) (Disagree 11)
  pub no_next_name : IsRefused (versions_with 2 1 2 0) (Disagree 11)
  pub a_symbol_without_version : IsRefused (large_file (large_with [] ((680, two_symbols 0 0) ∷ [])
      (loaded_section 0 11 2 680 48 1 1 8 ∷ loaded_section 0 0x6fffffff 2 728 2 4 0 2 ∷ []) [])) (Disagree 11)
  pub another_user_of_the_strings : IsRefused (large_of (record (kept_section 0 1 672 0) { sh_link = 1 } ∷ [])) (Disagree 11)
  pub no_section_with_that_link : IsAccepted (large_of (record (kept_section 0 0 672 0) { sh_link = 1 } ∷ []))

-- ## 12: header table loaded

-- a large library whose loaded segment begins at some offset
abbrev pub loaded_from : ℕ → List SegmentHeader → List ℕ
loaded_from start segments = large_file (record (large_with segments [] [] []) { load = usual_segment 1 6 start (1024 - start) 4096 })

pub record HeaderTableRows : Type 0 where
  pub loaded : IsAccepted (loaded_from 64 (usual_segment 6 4 64 168 8 ∷ []))
  pub not_loaded : IsRefused (loaded_from 65 (usual_segment 6 4 64 168 8 ∷ [])) (Disagree 12)
  pub not_told : IsAccepted (loaded_from 65 (usual_segment 4 4 64 168 8 ∷ []))
