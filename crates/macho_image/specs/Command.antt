-- One load command, as a byte string that has as many bytes as it says itself (loader.h).
use Rattle.std.specs.Prelude.{ℕ, ◌+◌, ◌*◌, ◌%◌, ◌≤◌, ◌≡◌, ◌==◌, ◌||◌, ◌&&◌, Bool, zero, suc, nat_lt, List, [], ◌∷◌, ◌++◌, length, drop, IsTrue, if◌then◌else◌}
use Rattle.patch_bytes.specs.declared.number.ByteOrder2.{ByteOrder2}
use Rattle.patch_bytes.specs.Number.{number_at}
use Rattle.macho_image.specs.declared.command.CommandVariant.{CommandVariant}
use Rattle.macho_image.specs.declared.command.CommandVariant.TheVariants.{Rpath, LoadDylib, LoadUpwardDylib, ReexportDylib, LoadWeakDylib, LazyLoadDylib, IdDylib, Segment, Symtab, Other}
use Rattle.macho_image.specs.declared.command.DylibCommand.{DylibCommand}
use Rattle.macho_image.specs.declared.command.LoadCommandHeader.{LoadCommandHeader}
use Rattle.macho_image.specs.declared.command.RpathCommand.{RpathCommand}
use Rattle.macho_image.specs.declared.command.TheConstants.{DYLIB_COMMAND_SIZE, LOAD_COMMAND_SIZE, RPATH_COMMAND_SIZE, SYMTAB_COMMAND_SIZE, LC_SEGMENT, LC_SYMTAB, LC_LOAD_DYLIB, LC_ID_DYLIB, LC_SEGMENT_64, LC_LAZY_LOAD_DYLIB, LC_LOAD_WEAK_DYLIB, LC_RPATH, LC_REEXPORT_DYLIB, LC_LOAD_UPWARD_DYLIB}

-- the size that a command's variant holds
abbrev pub variant_size : CommandVariant → ℕ
variant_size (Rpath c) = c.cmdsize
variant_size (LoadDylib c) = c.cmdsize
variant_size (LoadUpwardDylib c) = c.cmdsize
variant_size (ReexportDylib c) = c.cmdsize
variant_size (LoadWeakDylib c) = c.cmdsize
variant_size (LazyLoadDylib c) = c.cmdsize
variant_size (IdDylib c) = c.cmdsize
variant_size (Segment c) = c.cmdsize
variant_size (Symtab c) = c.cmdsize
variant_size (Other c) = c.cmdsize

-- the kind of a command, and its size as it says itself
abbrev pub cmd_of : ByteOrder2 → List ℕ → ℕ
cmd_of order c = number_at order 4 0 c

abbrev pub cmdsize_of : ByteOrder2 → List ℕ → ℕ
cmdsize_of order c = number_at order 4 4 c

-- the five kinds that load a library
abbrev pub is_load_kind : ℕ → Bool
is_load_kind cmd =
    cmd == LC_LOAD_DYLIB || cmd == LC_LOAD_UPWARD_DYLIB || cmd == LC_REEXPORT_DYLIB || cmd == LC_LOAD_WEAK_DYLIB || cmd == LC_LAZY_LOAD_DYLIB

-- the kinds that load a library, and that of the library's own name
abbrev pub is_dylib_kind : ℕ → Bool
is_dylib_kind cmd = is_load_kind cmd || cmd == LC_ID_DYLIB

-- the kinds that hold a text
abbrev pub is_text_kind : ℕ → Bool
is_text_kind cmd = cmd == LC_RPATH || is_dylib_kind cmd

-- where the text of such a command begins in it
abbrev pub text_offset : ByteOrder2 → List ℕ → ℕ
text_offset order c = number_at order 4 8 c

-- the bytes before the first NUL, or all where there is none
abbrev pub before_nul : List ℕ → List ℕ
before_nul [] = []
before_nul (b ∷ bs) = if b == 0 then [] else (b ∷ before_nul bs)

-- the text of a command that holds one: from its offset to the first NUL or the command's end
unfoldable pub text_of : ByteOrder2 → List ℕ → List ℕ
text_of order c = before_nul (drop (text_offset order c) c)

-- where the fields of a segment command and of its sections stand, in each width
pub record SegmentForm : Type 0 where
  -- the command without its sections, and one section
  pub fixed : ℕ
  pub section : ℕ
  -- the width of an address or a size
  pub word : ℕ
  pub fileoff : ℕ
  pub filesize : ℕ
  pub nsects : ℕ
  -- in a section
  pub size : ℕ
  pub offset : ℕ
  pub flags : ℕ

-- `segment_command` and `section`
abbrev pub narrow_form : SegmentForm
narrow_form = record { fixed = 56; section = 68; word = 4; fileoff = 32; filesize = 36; nsects = 48; size = 36; offset = 40; flags = 56 }

-- `segment_command_64` and `section_64`
abbrev pub wide_form : SegmentForm
wide_form = record { fixed = 72; section = 80; word = 8; fileoff = 40; filesize = 48; nsects = 64; size = 40; offset = 48; flags = 64 }

-- how many sections a segment command says that it has
abbrev pub nsects_of : SegmentForm → ByteOrder2 → List ℕ → ℕ
nsects_of f order c = number_at order 4 f.nsects c

-- the least size of a segment command: its fixed part and, where that is there, its sections
unfoldable pub segment_size : SegmentForm → ByteOrder2 → List ℕ → ℕ
segment_size f order c = if nat_lt (length c) f.fixed then f.fixed else f.fixed + f.section * nsects_of f order c

-- the least size of a command of its kind
unfoldable pub least_size : ByteOrder2 → List ℕ → ℕ
least_size order c =
    if cmd_of order c == LC_RPATH then RPATH_COMMAND_SIZE
    else (if is_dylib_kind (cmd_of order c) then DYLIB_COMMAND_SIZE
    else (if cmd_of order c == LC_SYMTAB then SYMTAB_COMMAND_SIZE
    else (if cmd_of order c == LC_SEGMENT then segment_size narrow_form order c
    else (if cmd_of order c == LC_SEGMENT_64 then segment_size wide_form order c
    else LOAD_COMMAND_SIZE))))

-- what it is to be a load command: it says its own length, has the fixed part of its kind with its
-- sections, and where it holds a text, this begins inside it or at its end
pub record IsCommand (order : ByteOrder2) (c : List ℕ) : Type 0 where
  pub header : LOAD_COMMAND_SIZE ≤ length c
  pub says_size : cmdsize_of order c ≡ length c
  pub has_fixed_part : least_size order c ≤ length c
  pub has_text : IsTrue (is_text_kind (cmd_of order c)) → text_offset order c ≤ length c

-- an offset that counts as content: one that isn't 0, of something that isn't empty
abbrev pub counted_content : ℕ → ℕ → List ℕ
counted_content offset size = if nat_lt 0 offset && nat_lt 0 size then (offset ∷ []) else []

-- the types of section that have no bytes in the file: zerofill, large zerofill and thread-local
-- zerofill, in the low 8 bits of the flags
abbrev pub is_zerofill : ℕ → Bool
is_zerofill flags = flags % 256 == 0x1 || flags % 256 == 0xc || flags % 256 == 0x12

-- the content of a section
unfoldable pub section_content : SegmentForm → ByteOrder2 → List ℕ → List ℕ
section_content f order s =
    if is_zerofill (number_at order 4 f.flags s) then [] else counted_content (number_at order 4 f.offset s) (number_at order f.word f.size s)

-- the contents of n sections that stand one behind the other
abbrev pub sections_content : SegmentForm → ByteOrder2 → ℕ → List ℕ → List ℕ
sections_content f order zero rest = []
sections_content f order (suc n) rest = section_content f order rest ++ sections_content f order n (drop f.section rest)

-- the content of a segment and of its sections
unfoldable pub segment_content : SegmentForm → ByteOrder2 → List ℕ → List ℕ
segment_content f order c =
    counted_content (number_at order f.word f.fileoff c) (number_at order f.word f.filesize c)
    ++ sections_content f order (nsects_of f order c) (drop f.fixed c)

-- where the symbol table and its strings begin
unfoldable pub symtab_content : ByteOrder2 → List ℕ → List ℕ
symtab_content order c =
    counted_content (number_at order 4 8 c) (number_at order 4 12 c) ++ counted_content (number_at order 4 16 c) (number_at order 4 20 c)

-- the offsets of content that a command names
unfoldable pub contents_of : ByteOrder2 → List ℕ → List ℕ
contents_of order c =
    if cmd_of order c == LC_SEGMENT then segment_content narrow_form order c
    else (if cmd_of order c == LC_SEGMENT_64 then segment_content wide_form order c
    else (if cmd_of order c == LC_SYMTAB then symtab_content order c
    else []))

-- the fields of an rpath command, of a library command, and what every command begins with
abbrev pub rpath_of : ByteOrder2 → List ℕ → RpathCommand
rpath_of order c = record { cmd = cmd_of order c; cmdsize = cmdsize_of order c; path = text_offset order c }

abbrev pub dylib_of : ByteOrder2 → List ℕ → DylibCommand
dylib_of order c = record {
  cmd = cmd_of order c;
  cmdsize = cmdsize_of order c;
  dylib = record {
    name = text_offset order c;
    timestamp = number_at order 4 12 c;
    current_version = number_at order 4 16 c;
    compatibility_version = number_at order 4 20 c;
  };
}

abbrev pub command_header_of : ByteOrder2 → List ℕ → LoadCommandHeader
command_header_of order c = record { cmd = cmd_of order c; cmdsize = cmdsize_of order c }

-- a command by its kind, of which cmd alone decides
unfoldable pub variant_of : ByteOrder2 → List ℕ → CommandVariant
variant_of order c =
    if cmd_of order c == LC_RPATH then Rpath (rpath_of order c)
    else (if cmd_of order c == LC_LOAD_DYLIB then LoadDylib (dylib_of order c)
    else (if cmd_of order c == LC_LOAD_UPWARD_DYLIB then LoadUpwardDylib (dylib_of order c)
    else (if cmd_of order c == LC_REEXPORT_DYLIB then ReexportDylib (dylib_of order c)
    else (if cmd_of order c == LC_LOAD_WEAK_DYLIB then LoadWeakDylib (dylib_of order c)
    else (if cmd_of order c == LC_LAZY_LOAD_DYLIB then LazyLoadDylib (dylib_of order c)
    else (if cmd_of order c == LC_ID_DYLIB then IdDylib (dylib_of order c)
    else (if cmd_of order c == LC_SEGMENT || cmd_of order c == LC_SEGMENT_64 then Segment (command_header_of order c)
    else (if cmd_of order c == LC_SYMTAB then Symtab (command_header_of order c)
    else Other (command_header_of order c)))))))))
