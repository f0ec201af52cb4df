-- What the definitions answer for small files. Each row is computed.
use Rattle.std.specs.Prelude.{ℕ, zero, suc, ◌≡◌, ◌+◌, ◌-◌, ◌*◌, List, [], ◌∷◌, ◌++◌, map, take, length, Bool, true, false, ◌&&◌, Option, Some, None, option_and_then}
use Rattle.std.specs.List.{concat, slice_get}
use Rattle.patch_bytes.specs.Memory.{memory_of}
use Rattle.elf_format.specs.declared.fault.ElfFault.{ElfFault}
use Rattle.elf_format.specs.declared.fault.ElfFault.TheVariants.{BadText, Disagree, Truncated, Unsupported}
use Rattle.elf_format.specs.Dynamic.{Auto, Integer, Text}
use Rattle.elf_format.specs.declared.form.Form.{Form}
use Rattle.elf_format.specs.Form.{by_class}
use Rattle.elf_format.specs.Hashes.{IsFoundByGabiHash, IsFoundByGnuHash, gabi_hash, gabi_visited, gnu_hash}
use Rattle.elf_format.specs.Rules.{fault_of}
use Rattle.test_elf_plain.specs.Vectors.{Small, address, big32, half, kept_section, little64, loaded_section, null_section, small_file, small_library, spelled, spelled_entry, spelled_symbol, usual_header, usual_segment, word}
use Rattle.elf_format.specs.Views.{View, dynamic_symbol_count, loader_view, section_view}

abbrev pub IsAccepted : List ℕ → Type 0
IsAccepted file = fault_of file ≡ None

abbrev pub IsRefused : List ℕ → ElfFault → Type 0
IsRefused file fault = fault_of file ≡ Some fault

-- ## The small library

-- what the small library shows: it needs libc.so.6, and has the run path /a
abbrev pub small_view : View
small_view = record {
  os_abi = 0;
  stack_flags = None;
  interpreter = None;
  entries = Some (Text 1 (108 ∷ 105 ∷ 98 ∷ 99 ∷ 46 ∷ 115 ∷ 111 ∷ 46 ∷ 54 ∷ []) ∷ Text 29 (47 ∷ 97 ∷ []) ∷ Auto 5 ∷ Auto 10 ∷ []);
  symbols = None;
  definitions = None;
  needs = None;
}

-- the small library is accepted, and shows its view both ways
pub record SmallRows (s : Small) (size : ℕ) : Type 0 where
  pub size_is : length (small_file s) ≡ size
  pub accepted : IsAccepted (small_file s)
  pub shown : section_view (small_file s) ≡ Some small_view
  pub loaded : loader_view (small_file s) 0 ≡ Some small_view
  pub counted : dynamic_symbol_count (small_file s) ≡ 0

-- with one change the small library is refused, for the reason that the change gives
pub record ChangedSmallRows (s : Small) : Type 0 where
  pub relocatable : IsRefused (small_file (record s { header = record s.header { e_type = 1 } })) Unsupported
  pub no_memory : IsRefused (small_file (record s { load = record s.load { p_memsz = s.places.names - 1 } })) (Disagree 2)
  pub short_load : IsRefused (small_file (record s { load = record s.load { p_filesz = s.places.names - 1 } })) (Disagree 4)
  pub list_elsewhere : IsRefused (small_file (record s { list_segment = record s.list_segment { p_offset = s.places.list - 16 } })) (Disagree 7)
  pub strings_elsewhere : IsRefused (small_file (record s { entries = (1, 1) ∷ (29, 11) ∷ (5, s.places.strings + 1) ∷ (10, 14) ∷ (0, 0) ∷ [] })) (Disagree 9)
  pub no_strings : IsRefused (small_file (record s { entries = (1, 1) ∷ (29, 11) ∷ (21, s.places.strings) ∷ (10, 14) ∷ (0, 0) ∷ [] })) (Disagree 9)
  pub long_strings : IsRefused (small_file (record s { entries = (1, 1) ∷ (29, 11) ∷ (5, s.places.strings) ∷ (10, 15) ∷ (0, 0) ∷ [] })) (Disagree 9)
  pub short_strings : IsRefused (small_file (record s { entries = (1, 1) ∷ (29, 11) ∷ (5, s.places.strings) ∷ (10, 13) ∷ (0, 0) ∷ [] })) BadText
  pub text_outside : IsRefused (small_file (record s { entries = (1, 1) ∷ (29, 14) ∷ (5, s.places.strings) ∷ (10, 14) ∷ (0, 0) ∷ [] })) BadText

-- the answer is that fault
abbrev pub is_truncated : Option ElfFault → Bool
is_truncated (Some Truncated) = true
is_truncated _ = false

-- every shorter front of a file is refused as truncated
unfoldable pub all_truncated : ℕ → List ℕ → Bool
all_truncated zero file = true
all_truncated (suc n) file = is_truncated (fault_of (take n file)) && all_truncated n file

-- ## Hashes

abbrev pub text_f : List ℕ
text_f = 102 ∷ []

abbrev pub text_g : List ℕ
text_g = 103 ∷ []

abbrev pub text_exit : List ℕ
text_exit = 101 ∷ 120 ∷ 105 ∷ 116 ∷ []

abbrev pub text_printf : List ℕ
text_printf = 112 ∷ 114 ∷ 105 ∷ 110 ∷ 116 ∷ 102 ∷ []

pub record HashRows : Type 0 where
  pub gnu_f : gnu_hash text_f ≡ 177675
  pub gnu_g : gnu_hash text_g ≡ 177676
  pub gnu_exit : gnu_hash text_exit ≡ 0x7c967e3f
  pub gnu_printf : gnu_hash text_printf ≡ 0x156b2bb8
  pub gnu_empty : gnu_hash [] ≡ 5381
  pub gabi_exit : gabi_hash text_exit ≡ 0x6cf04
  pub gabi_printf : gabi_hash text_printf ≡ 0x77905a6
  -- here the upper four bits come back
  pub gabi_printfa : gabi_hash (text_printf ++ 97 ∷ []) ≡ 0x7905ab1
  pub gabi_empty : gabi_hash [] ≡ 0

-- the words of a table
abbrev pub words : Form → List ℕ → List ℕ
words form xs = concat (map (word form) xs)

-- three symbols: none, g, f
abbrev pub two_names : ℕ → Option (List ℕ)
two_names i = slice_get ([] ∷ text_g ∷ text_f ∷ []) i

-- hash tables over them with two buckets; the GNU table has one word in its filter
abbrev pub gabi_table : List ℕ
gabi_table = words little64 (2 ∷ 3 ∷ 2 ∷ 1 ∷ 0 ∷ 0 ∷ 0 ∷ [])

abbrev pub gnu_table : List ℕ
gnu_table = words little64 (2 ∷ 1 ∷ 1 ∷ 6 ∷ []) ++ address little64 0x1001800 ++ words little64 (1 ∷ 2 ∷ 177677 ∷ 177675 ∷ [])

pub record LookUpRows : Type 0 where
  pub gabi_f : IsFoundByGabiHash little64 (memory_of gabi_table) two_names text_f 2
  pub gabi_g : IsFoundByGabiHash little64 (memory_of gabi_table) two_names text_g 1
  pub gabi_g_ends : gabi_visited little64 (memory_of gabi_table) (gabi_hash text_g) 1 ≡ Some 0
  pub gabi_g_ended : gabi_visited little64 (memory_of gabi_table) (gabi_hash text_g) 2 ≡ None
  pub gnu_f : IsFoundByGnuHash little64 (memory_of gnu_table) two_names text_f 2
  pub gnu_g : IsFoundByGnuHash little64 (memory_of gnu_table) two_names text_g 1

-- ## A library with symbols and versions

-- NUL, then "libx", "/a", "f", "V1", "V2", each with a NUL
abbrev pub versioned_strings : List ℕ
versioned_strings = 0 ∷ 108 ∷ 105 ∷ 98 ∷ 120 ∷ 0 ∷ 47 ∷ 97 ∷ 0 ∷ 102 ∷ 0 ∷ 86 ∷ 49 ∷ 0 ∷ 86 ∷ 50 ∷ 0 ∷ []

-- where its parts stand: dynamic symbols, their versions, defined versions, needed versions, strings, the interpreter's
-- name, the dynamic list, and the section headers, in a file of either class
pub record VersionedPlaces : Type 0 where
  pub symbols : ℕ
  pub versions : ℕ
  pub definitions : ℕ
  pub needs : ℕ
  pub strings : ℕ
  pub interpreter : ℕ
  pub list : ℕ
  pub names : ℕ
  pub table : ℕ

abbrev pub versioned_entries : VersionedPlaces → List (ℕ × ℕ)
versioned_entries at =
    (1, 1) ∷ (29, 6) ∷ (5, at.strings) ∷ (10, 17) ∷ (6, at.symbols) ∷ (0x6ffffff0, at.versions) ∷ (0x6ffffffc, at.definitions) ∷ (0x6ffffffd, 2)
    ∷ (0x6ffffffe, at.needs) ∷ (0x6fffffff, 1) ∷ (21, 0) ∷ (0, 0) ∷ []

-- A library with a symbol f of a hidden version V2, which comes after V1 and is defined here, and one without a name of a
-- version V1 that is needed of libx
abbrev pub versioned_library : Form → VersionedPlaces → List ℕ
versioned_library form at =
    let symbol_bytes = by_class form.wide 16 24 in
    let list_size = 12 * by_class form.wide 8 16 in
    spelled (record {
      form = form;
      header = record (usual_header form 4 9 8 at.table) { os_abi = 3 };
      segments =
          usual_segment 1 5 0 at.names 4096
          ∷ usual_segment 2 6 at.list list_size 8
          ∷ usual_segment 3 4 at.interpreter 4 1
          ∷ usual_segment 0x6474e551 6 0 0 16
          ∷ [];
      pieces = (
        at.symbols,
        spelled_symbol form (record { st_name = 0; st_info = 0; st_other = 0; st_shndx = 0; st_value = 0; st_size = 0 })
            ++ spelled_symbol form (record { st_name = 9; st_info = 0x12; st_other = 2; st_shndx = 1; st_value = 0x1234; st_size = 7 })
            ++ spelled_symbol form (record { st_name = 0; st_info = 0x10; st_other = 0; st_shndx = 0; st_value = 0; st_size = 0 }),
      )
          ∷ (at.versions, half form 0 ++ half form 0x8002 ++ half form 3)
          ∷ (
            at.definitions,
            half form 1 ++ half form 1 ++ half form 1 ++ half form 1 ++ word form 0 ++ word form 20 ++ word form 28 ++ word form 1 ++ word form 0
                ++ half form 1 ++ half form 0 ++ half form 2 ++ half form 2 ++ word form 0 ++ word form 20 ++ word form 0
                ++ word form 14 ++ word form 8 ++ word form 11 ++ word form 0,
          )
          ∷ (
            at.needs,
            half form 1 ++ half form 1 ++ word form 1 ++ word form 16 ++ word form 0
                ++ word form 0 ++ half form 0 ++ half form 3 ++ word form 11 ++ word form 0,
          )
          ∷ (at.strings, versioned_strings)
          ∷ (at.interpreter, 47 ∷ 108 ∷ 100 ∷ 0 ∷ [])
          ∷ (at.list, concat (map (spelled_entry form) (versioned_entries at)))
          ∷ [];
      sections =
          null_section
          ∷ loaded_section 0 11 2 at.symbols (3 * symbol_bytes) 5 1 8
          ∷ loaded_section 0 0x6fffffff 2 at.versions 6 1 0 2
          ∷ loaded_section 0 0x6ffffffd 2 at.definitions 64 5 2 4
          ∷ loaded_section 0 0x6ffffffe 2 at.needs 32 5 1 4
          ∷ loaded_section 0 3 2 at.strings 17 0 0 1
          ∷ loaded_section 0 1 2 at.interpreter 4 0 0 1
          ∷ loaded_section 0 6 3 at.list list_size 5 0 8
          ∷ kept_section 0 3 at.names 1
          ∷ [];
    })

abbrev pub versioned64 : List ℕ
versioned64 = versioned_library little64 (record { symbols = 288; versions = 360; definitions = 368; needs = 432; strings = 464; interpreter = 482; list = 488; names = 680; table = 688 })

abbrev pub versioned32 : List ℕ
versioned32 = versioned_library big32 (record { symbols = 180; versions = 228; definitions = 236; needs = 300; strings = 332; interpreter = 350; list = 356; names = 452; table = 456 })

abbrev pub versioned_view : View
versioned_view = record {
  os_abi = 3;
  stack_flags = Some 6;
  interpreter = Some (47 ∷ 108 ∷ 100 ∷ 0 ∷ []);
  entries = Some (Text 1 (108 ∷ 105 ∷ 98 ∷ 120 ∷ []) ∷ Text 29 (47 ∷ 97 ∷ []) ∷ Auto 5 ∷ Auto 10 ∷ Auto 6 ∷ Auto 0x6ffffff0 ∷ Auto 0x6ffffffc ∷ Auto 0x6ffffffd
      ∷ Auto 0x6ffffffe ∷ Auto 0x6fffffff ∷ Integer 21 0 ∷ []);
  symbols = Some (
      record { name = []; st_info = 0; st_other = 0; st_shndx = 0; st_value = 0; st_size = 0; version = Some (record { index = 0; hidden = false }) }
      ∷ record { name = text_f; st_info = 0x12; st_other = 2; st_shndx = 1; st_value = 0x1234; st_size = 7; version = Some (record { index = 2; hidden = true }) }
      ∷ record { name = []; st_info = 0x10; st_other = 0; st_shndx = 0; st_value = 0; st_size = 0; version = Some (record { index = 3; hidden = false }) }
      ∷ []);
  definitions = Some (
      record { index = 1; flags = 1; names = (108 ∷ 105 ∷ 98 ∷ 120 ∷ []) ∷ [] }
      ∷ record { index = 2; flags = 0; names = (86 ∷ 50 ∷ []) ∷ (86 ∷ 49 ∷ []) ∷ [] }
      ∷ []);
  needs = Some (record { file = 108 ∷ 105 ∷ 98 ∷ 120 ∷ []; versions = record { index = 3; name = 86 ∷ 49 ∷ []; flags = 0 } ∷ [] } ∷ []);
}

-- the library with versions is accepted, and shows them in both views
pub record VersionedRows (file : List ℕ) : Type 0 where
  pub accepted : IsAccepted file
  pub shown : section_view file ≡ Some versioned_view
  pub counted : dynamic_symbol_count file ≡ 3
  pub loaded : loader_view file 3 ≡ Some versioned_view
  -- a loader sees as many symbols as it is told, and nothing where it is told of too many
  pub fewer : option_and_then (λ v. v.symbols) (loader_view file 1) ≡ Some (record { name = []; st_info = 0; st_other = 0; st_shndx = 0; st_value = 0; st_size = 0; version = Some (record { index = 0; hidden = false }) } ∷ [])
  pub too_many : loader_view file 1000 ≡ None

-- ## Addresses at the top of memory

-- the small library with all its addresses higher
abbrev pub small_moved : ℕ → List ℕ
small_moved by = small_file (record small_library {
  load = record small_library.load { p_vaddr = by };
  list_segment = record small_library.list_segment { p_vaddr = 240 + by };
  strings_section = record small_library.strings_section { sh_addr = 176 + by };
  list_section = record small_library.list_section { sh_addr = 240 + by };
  entries = (1, 1) ∷ (29, 11) ∷ (5, 176 + by) ∷ (10, 14) ∷ (0, 0) ∷ [];
})

pub record MovedRows : Type 0 where
  pub at_the_top : IsAccepted (small_moved 0xfffffffffffffec0)
  pub shown : section_view (small_moved 0xfffffffffffffec0) ≡ Some small_view
  pub loaded : loader_view (small_moved 0xfffffffffffffec0) 0 ≡ Some small_view
