-- A small signature, laid out by hand, and what is wrong with others. Each row is computed. The file has the three bytes "abc", and
-- behind them a SuperBlob of 98 bytes: 12 of its header, 8 of an entry, and a code directory of 78: 44 of its fields, the
-- identifier "a" with its NUL, and one slot of 32.
use Rattle.std.specs.Prelude.{ℕ, ◌≡◌, true, false, List, [], ◌∷◌, ◌++◌, replicate, Some, None}
use Rattle.patch_bytes.specs.declared.number.ByteOrder2.TheVariants.{Big}
use Rattle.patch_bytes.specs.Number.{bytes_of}
use Rattle.macho_signatures.specs.Pages.{is_fit}
use Rattle.macho_signatures.specs.Renewed.{is_touched}
use Rattle.macho_signatures.specs.Signature.{directories_of, is_signed, signature_fault}
use Rattle.macho_signatures.specs.declared.directory.Directory.{Directory}
use Rattle.macho_signatures.specs.declared.directory.HashKind.TheVariants.{Sha256}
use Rattle.macho_signatures.specs.declared.fault.SignatureFault.TheVariants.{BadBlob, BadDirectory, BadIndex, BadLength, BadLimit, BadPageSize, BadSlots, NoDirectory, NoSuperBlob, Outside, Scattered, UnknownHash}

-- four bytes of a number
abbrev pub word : ℕ → List ℕ
word n = bytes_of Big 4 n

abbrev pub abc : List ℕ
abc = 0x61 ∷ 0x62 ∷ 0x63 ∷ []

-- the SHA-256 of "abc" (FIPS 180-4, the first example)
abbrev pub abc_hash : List ℕ
abc_hash =
    0xba ∷ 0x78 ∷ 0x16 ∷ 0xbf ∷ 0x8f ∷ 0x01 ∷ 0xcf ∷ 0xea ∷ 0x41 ∷ 0x41 ∷ 0x40 ∷ 0xde ∷ 0x5d ∷ 0xae ∷ 0x22 ∷ 0x23 ∷ 0xb0 ∷ 0x03 ∷ 0x61 ∷ 0xa3 ∷ 0x96 ∷ 0x17 ∷ 0x7a ∷ 0x9c ∷ 0xb4 ∷ 0x10 ∷ 0xff ∷ 0x61 ∷ 0xf2 ∷ 0x00 ∷ 0x15 ∷ 0xad ∷ []

-- the fields of a directory that rows change
pub record Fields : Type 0 where
  pub magic : ℕ
  pub version : ℕ
  pub hash_offset : ℕ
  pub ident_offset : ℕ
  pub special : ℕ
  pub count : ℕ
  pub limit : ℕ
  pub slot_size : ℕ
  pub hash_type : ℕ
  pub exponent : ℕ

-- the bytes of a directory: the fields, and what stands behind them
abbrev pub directory : Fields → List ℕ → List ℕ
directory f rest =
    word f.magic ++ (word 78 ++ (word f.version ++ (word 2 ++ (word f.hash_offset ++ (word f.ident_offset ++ (word f.special ++ (word f.count
    ++ (word f.limit ++ (f.slot_size ∷ f.hash_type ∷ 0 ∷ f.exponent ∷ word 0 ++ rest)))))))))

abbrev pub good : Fields
good = record {
  magic = 0xfade0c02;
  version = 0x20001;
  hash_offset = 46;
  ident_offset = 44;
  special = 0;
  count = 1;
  limit = 3;
  slot_size = 32;
  hash_type = 2;
  exponent = 0;
}

abbrev pub tail : List ℕ
tail = 0x61 ∷ 0 ∷ abc_hash

-- a SuperBlob with one entry
abbrev pub super : ℕ → ℕ → ℕ → ℕ → ℕ → List ℕ → List ℕ
super magic length count kind offset blob = word magic ++ (word length ++ (word count ++ (word kind ++ (word offset ++ blob))))

abbrev pub with : Fields → List ℕ
with f = super 0xfade0cc0 98 1 0 20 (directory f tail)

-- the bytes of a longer directory, with the place of a table behind the fields of the earliest version and zeros behind that
abbrev pub long_directory : ℕ → Fields → ℕ → ℕ → List ℕ
long_directory length f hash_offset scatter =
    word f.magic ++ (word length ++ (word f.version ++ (word 2 ++ (word hash_offset ++ (word f.ident_offset ++ (word f.special ++ (word f.count
    ++ (word f.limit ++ (f.slot_size ∷ f.hash_type ∷ 0 ∷ f.exponent ∷ word 0 ++ (word scatter ++ replicate 50 0))))))))))

-- the bytes of a file with a directory of these fields
abbrev pub file : Fields → List ℕ
file f = abc ++ with f

-- a signature is accepted, and what it tells
pub record AcceptedRows : Type 0 where
  pub accepted : signature_fault 3 98 (file good) ≡ None
  pub padded : signature_fault 3 100 (file good ++ 0 ∷ 0 ∷ []) ≡ None
  pub tells : directories_of 3 (with good) ≡ record {
    version = 0x20001;
    flags = 2;
    hash = Sha256;
    page_size = 3;
    limit = 3;
    count = 1;
    slots = 69;
    identifier = 67;
    identifier_len = 1;
  } ∷ []
  -- two pages of at most two bytes, the last of them short, each with a SHA-1 slot; behind one special slot
  pub two_pages : signature_fault 3 118 (abc ++ super 0xfade0cc0 118 1 0 20 (long_directory 98 (record good { count = 2; slot_size = 20; hash_type = 1; exponent = 1 }) 46 0)) ≡ None
  pub special : signature_fault 3 118 (abc ++ super 0xfade0cc0 118 1 0 20 (long_directory 98 (record good { slot_size = 20; hash_type = 1; special = 1 }) 66 0)) ≡ None
  pub adhoc : is_signed (with good) ≡ false
  -- no byte may be signed
  pub nothing : signature_fault 3 98 (file (record good { limit = 0; count = 0 })) ≡ None

-- what is wrong with the SuperBlob
pub record SuperRows : Type 0 where
  pub outside : signature_fault 3 99 (file good) ≡ Some Outside
  pub largest : signature_fault 0xffffffff 0xffffffff (file good) ≡ Some Outside
  pub short : signature_fault 3 11 (file good) ≡ Some NoSuperBlob
  pub magic : signature_fault 3 98 (abc ++ super 0xfade0cc1 98 1 0 20 (directory good tail)) ≡ Some NoSuperBlob
  pub less : signature_fault 3 98 (abc ++ super 0xfade0cc0 11 1 0 20 (directory good tail)) ≡ Some BadLength
  pub more : signature_fault 3 98 (abc ++ super 0xfade0cc0 99 1 0 20 (directory good tail)) ≡ Some BadLength
  pub index : signature_fault 3 98 (abc ++ super 0xfade0cc0 98 11 0 20 (directory good tail)) ≡ Some BadIndex
  pub all : signature_fault 3 98 (abc ++ super 0xfade0cc0 98 0xffffffff 0 20 (directory good tail)) ≡ Some BadIndex

-- what is wrong with blobs
pub record BlobRows : Type 0 where
  pub before : signature_fault 3 98 (abc ++ super 0xfade0cc0 98 1 0 19 (directory good tail)) ≡ Some BadBlob
  pub past : signature_fault 3 98 (abc ++ super 0xfade0cc0 98 1 0 91 (directory good tail)) ≡ Some BadBlob
  pub far : signature_fault 3 98 (abc ++ super 0xfade0cc0 98 1 0 0xffffffff (directory good tail)) ≡ Some BadBlob
  pub short : signature_fault 0 28 (super 0xfade0cc0 28 1 0 20 (word 0xfade0c02 ++ word 7)) ≡ Some BadBlob
  pub long : signature_fault 0 28 (super 0xfade0cc0 28 1 0 20 (word 0xfade0c02 ++ word 9)) ≡ Some BadBlob
  -- both entries name one blob, or the second one that begins in the first
  pub twice : signature_fault 0 36 (super 0xfade0cc0 36 2 2 28 (word 3 ++ (word 28 ++ (word 0 ++ word 8)))) ≡ Some BadBlob
  pub overlap : signature_fault 0 44 (super 0xfade0cc0 44 2 2 28 (word 3 ++ (word 32 ++ (word 0 ++ (word 8 ++ (word 8 ++ word 0)))))) ≡ Some BadBlob
  pub apart : signature_fault 0 44 (super 0xfade0cc0 44 2 2 36 (word 3 ++ (word 28 ++ (word 0 ++ (word 8 ++ (word 0 ++ word 8)))))) ≡ Some NoDirectory

-- what is wrong with a directory
pub record DirectoryRows : Type 0 where
  pub magic : signature_fault 3 98 (file (record good { magic = 0xfade0c01 })) ≡ Some BadDirectory
  pub early : signature_fault 3 98 (file (record good { version = 0x20000 })) ≡ Some BadDirectory
  pub late : signature_fault 3 98 (file (record good { version = 0x20601 })) ≡ Some BadDirectory
  -- the fields of the latest version don't lie in the directory
  pub fields : signature_fault 3 98 (file (record good { version = 0x20600 })) ≡ Some BadDirectory
  pub slots_before : signature_fault 3 98 (file (record good { hash_offset = 43 })) ≡ Some BadDirectory
  pub special : signature_fault 3 98 (file (record good { special = 1 })) ≡ Some BadDirectory
  pub slots_past : signature_fault 3 98 (file (record good { hash_offset = 47 })) ≡ Some BadDirectory
  pub identifier : signature_fault 3 98 (file (record good { ident_offset = 43 })) ≡ Some BadDirectory
  pub no_nul : signature_fault 3 98 (file (record good { ident_offset = 76 })) ≡ Some BadDirectory
  pub kind : signature_fault 3 98 (file (record good { hash_type = 4 })) ≡ Some UnknownHash
  pub size : signature_fault 3 98 (file (record good { hash_type = 1 })) ≡ Some UnknownHash
  pub cut : signature_fault 3 98 (file (record good { hash_type = 3; slot_size = 20 })) ≡ Some UnknownHash
  pub page_size : signature_fault 3 98 (file (record good { exponent = 32 })) ≡ Some BadPageSize
  pub largest_page : signature_fault 3 98 (file (record good { exponent = 31 })) ≡ None
  pub scattered : signature_fault 3 118 (abc ++ super 0xfade0cc0 118 1 0 20 (long_directory 98 (record good { version = 0x20100; ident_offset = 50 }) 52 7)) ≡ Some Scattered
  pub gathered : signature_fault 3 118 (abc ++ super 0xfade0cc0 118 1 0 20 (long_directory 98 (record good { version = 0x20100; ident_offset = 50 }) 52 0)) ≡ None
  pub slots : signature_fault 3 98 (file (record good { exponent = 1 })) ≡ Some BadSlots
  pub none : signature_fault 3 98 (file (record good { count = 0 })) ≡ Some BadSlots
  pub limit : signature_fault 3 98 (file (record good { limit = 4 })) ≡ Some BadLimit
  pub alternate : signature_fault 3 98 (abc ++ super 0xfade0cc0 98 1 0x1000 20 (directory good tail)) ≡ Some NoDirectory
  pub other : signature_fault 3 98 (abc ++ super 0xfade0cc0 98 1 0x1005 20 (directory (record good { magic = 0 }) tail)) ≡ Some NoDirectory
  -- of two faults the first counts
  pub first : signature_fault 3 98 (file (record good { hash_type = 4; exponent = 32; limit = 4 })) ≡ Some UnknownHash

-- whether an identity signed: a CMS message with more than its header
pub record SignedRows : Type 0 where
  pub message : is_signed (super 0xfade0cc0 29 1 0x10000 20 (word 0xfade0b01 ++ (word 9 ++ 0 ∷ []))) ≡ true
  pub empty : is_signed (super 0xfade0cc0 28 1 0x10000 20 (word 0xfade0b01 ++ word 8)) ≡ false
  pub slot : is_signed (super 0xfade0cc0 29 1 5 20 (word 0xfade0b01 ++ (word 9 ++ 0 ∷ []))) ≡ false
  pub magic : is_signed (super 0xfade0cc0 29 1 0x10000 20 (word 0xfade0c02 ++ (word 9 ++ 0 ∷ []))) ≡ false

-- pages: a directory with two pages of two bytes, the last of them short, of which this byte is touched
abbrev pub two_pages : Directory
two_pages = record { version = 0x20001; flags = 2; hash = Sha256; page_size = 2; limit = 3; count = 2; slots = 8; identifier = 0; identifier_len = 0 }

abbrev pub whole : Directory
whole = record { version = 0x20001; flags = 2; hash = Sha256; page_size = 3; limit = 3; count = 1; slots = 69; identifier = 67; identifier_len = 1 }

pub record PageRows : Type 0 where
  pub fits : is_fit whole (file good) 0 ≡ true
  pub unfit : is_fit whole (0x61 ∷ 0x62 ∷ 0x64 ∷ with good) 0 ≡ false
  pub first : is_touched two_pages (record { begin = 1; end = 2 } ∷ []) 0 ≡ true
  pub second : is_touched two_pages (record { begin = 1; end = 2 } ∷ []) 1 ≡ false
  pub both : is_touched two_pages (record { begin = 1; end = 3 } ∷ []) 1 ≡ true
  -- a byte at the limit, no byte at all
  pub limit : is_touched two_pages (record { begin = 3; end = 9 } ∷ []) 1 ≡ false
  pub none : is_touched two_pages (record { begin = 1; end = 1 } ∷ []) 0 ≡ false

-- All rows.
pub record SignatureRows : Type 0 where
  pub accepted : AcceptedRows
  pub super : SuperRows
  pub blobs : BlobRows
  pub directories : DirectoryRows
  pub signed : SignedRows
  pub pages : PageRows
