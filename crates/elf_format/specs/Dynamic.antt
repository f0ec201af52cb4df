-- The dynamic list (gABI, Dynamic Section).
use Rattle.std.specs.Prelude.{ℕ, zero, suc, ◌+◌, List, [], ◌∷◌, Bool, Option, Some, None, is_some, ◌==◌, if◌then◌else◌, find}
use Rattle.patch_bytes.specs.Memory.{◌>>=◌, Memory, bytes_at, text_at}
use Rattle.elf_format.specs.declared.constants.TheConstants.{DT_AUDIT, DT_AUXILIARY, DT_CONFIG, DT_DEPAUDIT, DT_FILTER, DT_GNU_HASH, DT_HASH, DT_NEEDED, DT_RPATH, DT_RUNPATH, DT_SONAME, DT_STRSZ, DT_STRTAB, DT_SYMENT, DT_SYMTAB, DT_VERDEF, DT_VERDEFNUM, DT_VERNEED, DT_VERNEEDNUM, DT_VERSYM}
use Rattle.elf_format.specs.Form.{Form}
use Rattle.elf_format.specs.Options.{is_one_of}
use Rattle.elf_format.specs.Records.{EntryNumbers, entry_numbers, entry_size}

-- the entries from a place up to the first DT_NULL, which is one of the first `room` entries
unfoldable pub entries_at : ℕ → Form → Memory → ℕ → Option (List EntryNumbers)
entries_at zero form memory a = None
entries_at (suc room) form memory a = do
  bytes ← bytes_at (entry_size form) memory a
  elim (entry_numbers form bytes).d_tag [ zero ↦ Some [] | suc _ ↦ entries_at room form memory (a + entry_size form) >>= (λ rest. Some (entry_numbers form bytes ∷ rest)) ]

-- the value of the first entry with a tag
abbrev pub value_of_tag : ℕ → List EntryNumbers → Option ℕ
value_of_tag tag entries = find (λ e. e.d_tag == tag) entries >>= λ e. Some e.d_value

abbrev pub has_tag : ℕ → List EntryNumbers → Bool
has_tag tag entries = is_some (value_of_tag tag entries)

-- the tags whose value says where a text stands in the dynamic strings
abbrev pub text_tags : List ℕ
text_tags = DT_NEEDED ∷ DT_SONAME ∷ DT_RPATH ∷ DT_RUNPATH ∷ DT_CONFIG ∷ DT_DEPAUDIT ∷ DT_AUDIT ∷ DT_AUXILIARY ∷ DT_FILTER ∷ []

-- the tags whose value follows from a table: its address, its size, the size or the number of its records
abbrev pub table_tags : List ℕ
table_tags = DT_STRTAB ∷ DT_STRSZ ∷ DT_SYMTAB ∷ DT_SYMENT ∷ DT_HASH ∷ DT_GNU_HASH ∷ DT_VERSYM ∷ DT_VERDEF ∷ DT_VERDEFNUM ∷ DT_VERNEED ∷ DT_VERNEEDNUM ∷ []

-- An entry as it is shown: a table tag alone, any other with its number or its text.
pub data Entry : Type 0 where
  Auto : ℕ → Entry
  Integer : ℕ → ℕ → Entry
  Text : ℕ → List ℕ → Entry

-- an entry with its text, where that is there
unfoldable pub shown_entry : ℕ → Memory → EntryNumbers → Option Entry
shown_entry room texts e =
    if is_one_of text_tags e.d_tag then (text_at room texts e.d_value >>= λ text. Some (Text e.d_tag text))
    else if is_one_of table_tags e.d_tag then Some (Auto e.d_tag)
    else Some (Integer e.d_tag e.d_value)
