-- The words for causes, by their numbers.
use Rattle.std.specs.Prelude.{ℕ, ◌==◌, List, [], ◌∷◌, codes, if◌then◌else◌}
use Rattle.arwen_c.specs.declared.cause_rows.CauseRow.{CauseRow}

-- A number, and the words for it.
pub record Cause : Type 0 where
  pub number : ℕ
  pub words : List ℕ

abbrev pub row_model : CauseRow → Cause
row_model row = record { number = row.number; words = row.words.now }

abbrev pub cause : ℕ → List ℕ → Cause
cause number words = record { number = number; words = words }

-- the words for a number; none where it is that of no cause
abbrev pub words_in : List Cause → ℕ → List ℕ
words_in [] number = []
words_in (row ∷ rows) number = if row.number == number then row.words else words_in rows number

-- all causes; `arwen.h` names them
unfoldable pub causes : List Cause
causes =
    cause 1 (codes "the file can't be read")
    ∷ cause 2 (codes "neither an ELF file nor a Mach-O file")
    ∷ cause 101 (codes "a header, a table or a range lies past the end of the ELF file")
    ∷ cause 102 (codes "the ELF file has a class, byte order, version, type or size that isn't read")
    ∷ cause 103 (codes "headers or tables of the ELF file contradict each other")
    ∷ cause 104 (codes "a text of the ELF file lies outside its string table, or has no NUL there")
    ∷ cause 105 (codes "a number of the ELF file is past its field")
    ∷ cause 106 (codes "the first four bytes aren't those of an ELF file")
    ∷ cause 121 (codes "a number of the edited ELF file is past its field")
    ∷ cause 141 (codes "the file has no dynamic section")
    ∷ cause 142 (codes "the file has no interpreter")
    ∷ cause 143 (codes "no ABI has this name")
    ∷ cause 144 (codes "the page size is no power of two, or below 1024")
    ∷ cause 145 (codes "the file has no run path")
    ∷ cause 146 (codes "two blocks overlap that never move")
    ∷ cause 147 (codes "a text has a NUL in it")
    ∷ cause 148 (codes "files for MIPS are read alone")
    ∷ cause 149 (codes "a relocation names the symbol")
    ∷ cause 150 (codes "the dynamic symbols can't get other numbers")
    ∷ cause 151 (codes "something else needs the section")
    ∷ cause 152 (codes "there would be more program headers than a file can have")
    ∷ cause 201 (codes "the first four bytes are no magic of a Mach-O file that is read")
    ∷ cause 202 (codes "the header, the load commands or the table of slices don't lie in the file")
    ∷ cause 203 (codes "the size of a load command doesn't fit the commands or its kind")
    ∷ cause 204 (codes "the offset of a text is past the end of its load command")
    ∷ cause 205 (codes "the sizes of the load commands don't add up")
    ∷ cause 206 (codes "a slice lies outside the fat file, or begins inside its header or its table")
    ∷ cause 207 (codes "two slices of the fat file share a byte")
    ∷ cause 208 (codes "the file has more than 4,294,967,295 bytes")
    ∷ cause 209 (codes "a slice of the fat file is a Unix archive")
    ∷ cause 221 (codes "the new load command can't be built: its text holds a NUL, or is too long")
    ∷ cause 222 (codes "no run path has this text")
    ∷ cause 223 (codes "no library that is loaded has this name")
    ∷ cause 224 (codes "the file has no name of its own")
    ∷ cause 225 (codes "there is no room for the load commands")
    ∷ cause 241 (codes "a load command is too short to say where a code signature is")
    ∷ cause 242 (codes "more than one load command tells of a code signature")
    ∷ cause 243 (codes "the code signature begins before the load commands end")
    ∷ cause 244 (codes "the edit changed bytes of the code signature, or behind its beginning")
    ∷ cause 251 (codes "the code signature ends past the file's end")
    ∷ cause 252 (codes "the code signature doesn't begin with a SuperBlob")
    ∷ cause 253 (codes "the SuperBlob's length is less than its header's, or more than there is")
    ∷ cause 254 (codes "the SuperBlob's index ends past its end")
    ∷ cause 255 (codes "a blob stands inside the header or the index, ends past the end, or overlaps another")
    ∷ cause 256 (codes "a code directory contradicts its bytes")
    ∷ cause 257 (codes "pages are hashed in a way that isn't known")
    ∷ cause 258 (codes "the exponent of the page size is above 31")
    ∷ cause 259 (codes "the pages are scattered")
    ∷ cause 260 (codes "there isn't one slot for each page")
    ∷ cause 261 (codes "the signed bytes end past the beginning of the code signature")
    ∷ cause 262 (codes "there is no code directory at slot type 0")
    ∷ cause 301 (codes "a group has no word")
    ∷ cause 302 (codes "a group's first word names no edit")
    ∷ cause 303 (codes "the edit takes another number of words")
    ∷ cause 304 (codes "a word has no = between an old name and a new one")
    ∷ cause 305 (codes "a word is no decimal number of 32 bits")
    ∷ cause 310 (codes "a word is no UTF-8")
    ∷ cause 321 (codes "no edit has this kind")
    ∷ cause 322 (codes "the edit takes another number of texts")
    ∷ cause 323 (codes "a text is no UTF-8, or no decimal number of 32 bits")
    ∷ cause 324 (codes "the edit is for files of the other format")
    ∷ []

abbrev pub words_of : ℕ → List ℕ
words_of number = words_in causes number
