-- What is told of a file as JSON: the keys of the lines, with values of their own types.
use Rattle.std.specs.Prelude.{ℕ, ◌≡◌, ◌==◌, List, true, Option, Some, None, codes, map, option_map, unwrap_or}
use Rattle.json.specs.Lex.{tokens}
use Rattle.json.specs.Print.{print}
use Rattle.serde_json.specs.Data.{Data, Members, array, boolean, no_members, null, number, object, put, string, unsigned}
use Rattle.serde_json.specs.View.{items_of}
use Rattle.serde_json.specs.Written.{IsInOrder}
use Rattle.macho_signing.specs.declared.fault.SigningFault.{SigningFault}
use Rattle.arwen_cli_facts.specs.SignatureNames.{fault_name, hash_name, kind_name as signature_kind_name}
use Rattle.arwen_cli_facts.specs.SignatureFacts.{ContentsFacts, SignatureFacts, readable, refused}
use Rattle.arwen_cli_facts.specs.ElfFacts.{ElfFacts, LibraryFacts}
use Rattle.arwen_cli_facts.specs.FileFacts.{FileFacts, elf, fat, macho}
use Rattle.arwen_cli_facts.specs.MachoFacts.{MachoFacts, SliceFacts}
use Rattle.arwen_cli_facts.specs.Names.{bits_of, cpu_name, file_type_name, flag_names, kind_name, machine_name, name_or, order_name, permissions}

-- ## Values

abbrev pub number_data : ℕ → Data
number_data n = number (unsigned n)

abbrev pub number_data_if : Option ℕ → Data
number_data_if None = null
number_data_if (Some n) = number_data n

abbrev pub text_data_if : Option (List ℕ) → Data
text_data_if None = null
text_data_if (Some text) = string text

abbrev pub texts_data : List (List ℕ) → Data
texts_data texts = array (items_of (map string texts))

-- ## ELF

unfoldable pub library_data : LibraryFacts → Data
library_data l = object (put (codes "versions") (texts_data l.versions) (put (codes "name") (string l.name) no_members))

abbrev pub libraries_data : List LibraryFacts → Data
libraries_data libraries = array (items_of (map library_data libraries))

-- members with those of a part put among them, one after the other
unfoldable pub with_elf_head : ElfFacts → Members → Members
with_elf_head f members =
    put (codes "os_abi") (number_data f.os_abi)
    (put (codes "byte_order") (string (order_name f.form.order))
    (put (codes "class") (number_data (bits_of f.form.wide))
    (put (codes "machine") (string (name_or (machine_name f.machine) f.machine))
    (put (codes "kind") (string (kind_name f.kind)) members))))

unfoldable pub with_elf_names : ElfFacts → Members → Members
with_elf_names f members =
    put (codes "runpath") (text_data_if f.runpath)
    (put (codes "rpath") (text_data_if f.rpath)
    (put (codes "needed") (libraries_data f.needed)
    (put (codes "soname") (text_data_if f.soname)
    (put (codes "interpreter") (text_data_if f.interpreter) members))))

-- an accepted file's views agree
unfoldable pub with_elf_tail : ElfFacts → Members → Members
with_elf_tail f members =
    put (codes "views_agree") (boolean true)
    (put (codes "spare_entries") (number_data_if f.spare_entries)
    (put (codes "flags") (texts_data (flag_names (unwrap_or f.flags_1 0)))
    (put (codes "stack") (text_data_if (option_map permissions f.stack_flags)) members)))

unfoldable pub with_elf : ElfFacts → Members → Members
with_elf f members = with_elf_tail f (with_elf_names f (with_elf_head f members))

-- ## Mach-O

unfoldable pub with_macho_head : MachoFacts → Members → Members
with_macho_head f members =
    put (codes "byte_order") (string (order_name f.form.le))
    (put (codes "class") (number_data (bits_of f.form.container))
    (put (codes "file_type") (string (name_or (file_type_name f.file_type) f.file_type))
    (put (codes "cpu_subtype") (number_data f.cpu_subtype)
    (put (codes "cpu") (string (name_or (cpu_name f.cpu) f.cpu)) members))))

unfoldable pub with_contents : ContentsFacts → Members → Members
with_contents f members =
    put (codes "unfit_pages") (number_data f.unfit_pages)
    (put (codes "pages_fit") (boolean (f.unfit_pages == 0))
    (put (codes "hashes") (texts_data (map hash_name f.hashes))
    (put (codes "identifier") (string f.identifier)
    (put (codes "signature") (string (signature_kind_name f.kind)) members))))

unfoldable pub with_refusal : SigningFault → Members → Members
with_refusal fault members =
    put (codes "refusal") (string (fault_name fault)) (put (codes "signature") (string (codes "unreadable")) members)

-- no member where there is no signature
abbrev pub with_signature : Option SignatureFacts → Members → Members
with_signature None members = members
with_signature (Some (readable f)) members = with_contents f members
with_signature (Some (refused fault)) members = with_refusal fault members

unfoldable pub with_macho_tail : MachoFacts → Members → Members
with_macho_tail f members =
    put (codes "header_pad") (number_data f.header_pad)
    (with_signature f.signature
    (put (codes "signed") (boolean f.is_signed)
    (put (codes "run_paths") (texts_data f.run_paths)
    (put (codes "libraries") (texts_data f.libraries)
    (put (codes "id") (text_data_if f.id) members)))))

unfoldable pub with_macho : MachoFacts → Members → Members
with_macho f members = with_macho_tail f (with_macho_head f members)

unfoldable pub slice_data : SliceFacts → Data
slice_data s =
    object (with_macho s.file (put (codes "slice_size") (number_data s.size) (put (codes "slice_offset") (number_data s.offset) no_members)))

abbrev pub slices_data : List SliceFacts → Data
slices_data slices = array (items_of (map slice_data slices))

-- ## A file

abbrev pub with_format : List ℕ → Members → Members
with_format name members = put (codes "format") (string name) members

unfoldable pub with_facts : FileFacts → Members → Members
with_facts (elf f) members = with_elf f (with_format (codes "elf") members)
with_facts (macho f) members = with_macho f (with_format (codes "macho") members)
with_facts (fat slices) members = put (codes "slices") (slices_data slices) (with_format (codes "fat") members)

abbrev pub file_data : List ℕ → FileFacts → Data
file_data name facts = object (with_facts facts (put (codes "file") (string name) no_members))

-- a compact JSON text of a value, with its members each once and in order
pub record IsJsonOf (d : Data) (text : List ℕ) : Type 0 where
  pub compact : text ≡ print (tokens text)
  pub order : IsInOrder text d
