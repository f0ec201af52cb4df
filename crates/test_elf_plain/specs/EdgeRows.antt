-- Rows on what one rule or one view alone doesn't show: which of two faults is answered, and what a loader sees of files
-- that aren't accepted. Each row is computed.
use Rattle.std.specs.Prelude.{ℕ, ◌≡◌, ◌^◌, List, [], ◌∷◌, ◌++◌, map, take, drop, Option, Some, None, option_and_then}
use Rattle.patch_bytes.specs.Memory.{Memory, memory_of}
use Rattle.elf_format.specs.declared.fault.ElfFault.TheVariants.{BadText, Disagree, Truncated, Unsupported}
use Rattle.elf_format.specs.Dynamic.{Auto, Entry, Integer, Text, shown_entry}
use Rattle.elf_format.specs.declared.records.EntryNumbers.{EntryNumbers}
use Rattle.elf_format.specs.declared.records.SectionHeader.{SectionHeader}
use Rattle.elf_format.specs.declared.records.SegmentHeader.{SegmentHeader}
use Rattle.test_elf_plain.specs.RuleRows.{two_symbols}
use Rattle.test_elf_plain.specs.Rows.{IsAccepted, IsRefused, small_view}
use Rattle.test_elf_plain.specs.Vectors.{Small, half, kept_section, large_file, large_of, large_with, little64, loaded_section, small_file, small_library, small_twin, usual_segment, word}
use Rattle.elf_format.specs.Views.{byte_at, loader_view, section_view}

-- ## The first of two faults, rule by rule

-- a section that no segment holds, one that crosses the end of the loaded bytes, a second dynamic section, and a section
-- without memory that links to the dynamic strings
abbrev pub unheld : SectionHeader
unheld = loaded_section 0 1 2 1020 8 0 0 1

abbrev pub crossing : SectionHeader
crossing = loaded_section 0 8 2 1020 8 0 0 1

abbrev pub second_list : SectionHeader
second_list = loaded_section 0 6 2 680 16 1 0 8

abbrev pub text_user : SectionHeader
text_user = record (kept_section 0 1 672 0) { sh_link = 1 }

abbrev pub bad_info : SectionHeader
bad_info = record (kept_section 0 9 672 0) { sh_info = 99 }

-- a segment that overlaps the first, one of the interpreter that stands where no section does, and one that says
-- where the header table is
abbrev pub overlapping : SegmentHeader
overlapping = usual_segment 1 4 1023 64 8

abbrev pub no_interpreter : SegmentHeader
no_interpreter = usual_segment 3 4 680 8 1

abbrev pub header_table : SegmentHeader
header_table = usual_segment 6 4 64 224 8

-- a large library with further segments, sections and entries, its first segment changed
abbrev pub large_changed : (SegmentHeader → SegmentHeader) → List SegmentHeader → List SectionHeader → List (ℕ × ℕ) → List ℕ
large_changed change segments sections entries =
    let large = large_with segments [] sections entries in
    large_file (record large { load = change large.load })

abbrev pub as_it_is : SegmentHeader → SegmentHeader
as_it_is p = p

pub record OrderRows : Type 0 where
  pub kind_before_ranges : IsRefused (take 607 (small_file (record small_library { header = record small_library.header { e_type = 1 } }))) Unsupported
  pub ranges_before_sizes : IsRefused (large_changed (λ p. record p { p_memsz = 1023 }) [] (kept_section 0 1 672 4096 ∷ []) []) Truncated
  pub sizes_before_overlaps : IsRefused (large_changed (λ p. record p { p_memsz = 1023 }) (overlapping ∷ []) [] []) (Disagree 2)
  pub overlaps_before_holding : IsRefused (large_changed as_it_is (overlapping ∷ []) (loaded_section 0 1 2 1200 8 0 0 1 ∷ []) []) (Disagree 3)
  pub holding_before_crossing : IsRefused (large_of (unheld ∷ crossing ∷ [])) (Disagree 4)
  pub crossing_before_linking : IsRefused (large_of (crossing ∷ second_list ∷ [])) (Disagree 5)
  pub linking_before_the_list : IsRefused (small_file (record small_library {
    list_segment = record small_library.list_segment { p_offset = 224 };
    names_section = record small_library.names_section { sh_flags = 0x40; sh_info = 9 };
  })) (Disagree 6)
  pub list_before_interpreter : IsRefused (large_changed as_it_is (usual_segment 2 6 0 0 8 ∷ no_interpreter ∷ []) [] []) (Disagree 6)
  pub list_before_interpreter_alone : IsRefused (small_file (record small_library {
    load = small_library.load;
    list_segment = usual_segment 3 4 0 8 1;
  })) (Disagree 7)
  pub interpreter_before_tables : IsRefused (large_changed as_it_is (no_interpreter ∷ []) [] ((6, 0) ∷ [])) (Disagree 8)
  pub tables_before_texts : IsRefused (large_changed as_it_is [] [] ((6, 0) ∷ (29, 99) ∷ [])) (Disagree 9)
  pub texts_before_versions : IsRefused (large_changed as_it_is [] (text_user ∷ []) ((29, 99) ∷ [])) BadText
  pub versions_before_header_table : IsRefused (large_changed (λ p. record p { p_offset = 300; p_vaddr = 300; p_filesz = 724; p_memsz = 724 }) (header_table ∷ []) (text_user ∷ []) []) (Disagree 11)
  pub header_table_last : IsRefused (large_changed (λ p. record p { p_offset = 300; p_vaddr = 300; p_filesz = 724; p_memsz = 724 }) (header_table ∷ []) [] []) (Disagree 12)

-- ## Kinds of sections

-- a library without a dynamic list, with dynamic symbols whose names are in section 1, and a section that links to some section
abbrev pub symbols_alone : ℕ → List ℕ
symbols_alone link = small_file (record small_library {
  list_segment = record small_library.list_segment { p_type = 4 };
  list_section = record small_library.list_section { sh_type = 11; sh_size = 72 };
  names_section = record small_library.names_section { sh_link = link };
})

-- a library of some machine with a relocation of a symbol that isn't there
abbrev pub relocations_of_machine : ℕ → List ℕ
relocations_of_machine machine =
    let large = large_with [] ((672, two_symbols 0 0) ∷ (720, word little64 0 ++ word little64 0 ++ word little64 7 ++ word little64 2) ∷ [])
    (record (kept_section 0 2 672 48) { sh_link = 3 } ∷ record (kept_section 0 9 720 16) { sh_link = 4 } ∷ []) [] in
    take 18 (large_file large) ++ half little64 machine ++ drop 20 (large_file large)

-- the 32-bit twin with static symbols in place of its strings' section, and a relocation whose number is given
abbrev pub narrow_relocation : ℕ → List ℕ
narrow_relocation number = small_file (record small_twin {
  list_segment = record small_twin.list_segment { p_type = 4 };
  strings_section = record (kept_section 0 2 120 0) { sh_link = 3 };
  list_section = record (kept_section 0 9 136 8) { sh_link = 1 };
  entries = (0, number) ∷ [];
})

-- a library with needed versions that should be two records but are one, whose library's name stands somewhere
abbrev pub broken_needs : ℕ → List ℕ
broken_needs file =
    large_file (large_with [] ((736, half little64 1 ++ half little64 0 ++ word little64 file ++ word little64 0 ++ word little64 0) ∷ [])
    (loaded_section 0 0x6ffffffe 2 736 16 1 2 4 ∷ []) [])

-- a library with one record of needed versions and a tag that counts some number of them
abbrev pub counted_needs : ℕ → List ℕ
counted_needs count =
    large_file (large_with [] ((736, half little64 1 ++ half little64 0 ++ word little64 1 ++ word little64 0 ++ word little64 0) ∷ [])
    (loaded_section 0 0x6ffffffe 2 736 16 1 1 4 ∷ []) ((0x6ffffffe, 736) ∷ (0x6fffffff, count) ∷ []))

pub record KindRows : Type 0 where
  pub strings_of_symbols_alone : IsAccepted (symbols_alone 0)
  pub user_of_symbols_alone : IsRefused (symbols_alone 1) (Disagree 11)
  pub other_machine : IsRefused (relocations_of_machine 62) (Disagree 6)
  pub mips : IsAccepted (relocations_of_machine 8)
  -- the lower 8 bits are the type
  pub narrow_type : IsAccepted (narrow_relocation 0xff)
  pub narrow_symbol : IsRefused (narrow_relocation 0x100) (Disagree 6)
  pub hash_of_words : IsAccepted (large_of (loaded_section 0 5 2 680 12 5 0 4 ∷ loaded_section 0 11 2 704 24 1 1 8 ∷ []))
  pub hash_of_double_words : IsRefused (large_of (record (loaded_section 0 5 2 680 12 5 0 4) { sh_entsize = 8 } ∷ loaded_section 0 11 2 704 24 1 1 8 ∷ [])) (Disagree 6)
  pub gnu_hash_in_part : IsRefused (large_of (loaded_section 0 0x6ffffff6 2 680 6 5 0 4 ∷ loaded_section 0 11 2 704 24 1 1 8 ∷ [])) (Disagree 6)
  pub versions_in_part : IsRefused (large_of (loaded_section 0 0x6fffffff 2 680 3 5 0 4 ∷ loaded_section 0 11 2 704 24 1 1 8 ∷ [])) (Disagree 6)
  pub null_section_anywhere : IsAccepted (large_of (kept_section 0 0 (2 ^ 63) 8 ∷ []))
  pub name_of_a_broken_chain : IsRefused (broken_needs 99) BadText
  pub broken_chain : IsRefused (broken_needs 1) (Disagree 11)
  pub counted : IsAccepted (counted_needs 1)
  pub counted_wrong : IsRefused (counted_needs 2) (Disagree 9)

-- ## Entries

abbrev pub numbers_of : ℕ → ℕ → EntryNumbers
numbers_of tag value = record { d_tag = tag; d_value = value }

-- each entry of those tags with the value 0, where the text "" stands
abbrev pub shown_tags : List ℕ → List (Option Entry)
shown_tags tags = map (λ tag. shown_entry 1 (memory_of (0 ∷ [])) (numbers_of tag 0)) tags

pub record EntryRows : Type 0 where
  pub texts : shown_tags (1 ∷ 14 ∷ 15 ∷ 29 ∷ 0x6ffffefa ∷ 0x6ffffefb ∷ 0x6ffffefc ∷ 0x7ffffffd ∷ 0x7fffffff ∷ [])
      ≡ Some (Text 1 []) ∷ Some (Text 14 []) ∷ Some (Text 15 []) ∷ Some (Text 29 []) ∷ Some (Text 0x6ffffefa []) ∷ Some (Text 0x6ffffefb [])
      ∷ Some (Text 0x6ffffefc []) ∷ Some (Text 0x7ffffffd []) ∷ Some (Text 0x7fffffff []) ∷ []
  pub tables : shown_tags (4 ∷ 5 ∷ 6 ∷ 10 ∷ 11 ∷ 0x6ffffef5 ∷ 0x6ffffff0 ∷ 0x6ffffffc ∷ 0x6ffffffd ∷ 0x6ffffffe ∷ 0x6fffffff ∷ [])
      ≡ Some (Auto 4) ∷ Some (Auto 5) ∷ Some (Auto 6) ∷ Some (Auto 10) ∷ Some (Auto 11) ∷ Some (Auto 0x6ffffef5) ∷ Some (Auto 0x6ffffff0)
      ∷ Some (Auto 0x6ffffffc) ∷ Some (Auto 0x6ffffffd) ∷ Some (Auto 0x6ffffffe) ∷ Some (Auto 0x6fffffff) ∷ []
  pub others : shown_tags (7 ∷ 21 ∷ 0x6ffffffb ∷ 0x6ffffff9 ∷ 0x7ffffffe ∷ [])
      ≡ Some (Integer 7 0) ∷ Some (Integer 21 0) ∷ Some (Integer 0x6ffffffb 0) ∷ Some (Integer 0x6ffffff9 0) ∷ Some (Integer 0x7ffffffe 0) ∷ []

-- ## What a loader sees

abbrev pub small_changed : (Small → Small) → List ℕ
small_changed change = small_file (change small_library)

-- two loaded segments that share addresses, over bytes 0, 1, 2, 3
abbrev pub shared_addresses : Memory
shared_addresses = byte_at (usual_segment 1 4 0 2 1 ∷ record (usual_segment 1 4 2 2 1) { p_vaddr = 1 } ∷ []) (10 ∷ 11 ∷ 12 ∷ 13 ∷ [])

pub record LoaderRows : Type 0 where
  -- an address is seen through the first segment whose file part covers it, and through a file part alone
  pub first_segment : shared_addresses 1 ≡ Some 11
  pub second_segment : shared_addresses 2 ≡ Some 13
  pub past_the_file_part : shared_addresses 3 ≡ None
  pub other_segments : byte_at (usual_segment 2 4 0 4 1 ∷ []) (10 ∷ 11 ∷ 12 ∷ 13 ∷ []) 1 ≡ None
  -- the list, its strings or their NUL aren't loaded: nothing is seen, whatever the sections show
  pub list_not_loaded : loader_view (small_changed (λ s. record s { load = record s.load { p_filesz = 319 } })) 0 ≡ None
  pub strings_past_their_size : loader_view (small_changed (λ s. record s { entries = (29, 11) ∷ (5, 176) ∷ (10, 13) ∷ (0, 0) ∷ [] })) 0 ≡ None
  pub sections_show_them : option_and_then (λ v. v.entries) (section_view (small_changed (λ s. record s { entries = (29, 11) ∷ (5, 176) ∷ (10, 13) ∷ (0, 0) ∷ [] })))
      ≡ Some (Text 29 (47 ∷ 97 ∷ []) ∷ Auto 5 ∷ Auto 10 ∷ [])
  pub no_strings : loader_view (small_changed (λ s. record s { entries = (29, 11) ∷ (21, 176) ∷ (0, 0) ∷ [] })) 0 ≡ None
  pub symbols_of_another_size : loader_view (small_changed (λ s. record s { entries = (5, 176) ∷ (11, 16) ∷ (0, 0) ∷ [] })) 0 ≡ None
  -- the section headers don't matter to a loader
  pub without_sections : loader_view (take 352 (small_file small_library)) 0 ≡ Some small_view
  pub sections_need_them : section_view (take 352 (small_file small_library)) ≡ None
  -- of two PT_GNU_STACK the first counts
  pub first_stack : option_and_then (λ v. v.stack_flags) (loader_view (large_file (large_with (usual_segment 0x6474e551 6 0 0 16 ∷ usual_segment 0x6474e551 7 0 0 16 ∷ []) [] [] [])) 0) ≡ Some 6
  pub first_stack_by_sections : option_and_then (λ v. v.stack_flags) (section_view (large_file (large_with (usual_segment 0x6474e551 6 0 0 16 ∷ usual_segment 0x6474e551 7 0 0 16 ∷ []) [] [] []))) ≡ Some 6
