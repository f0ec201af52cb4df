-- How many records a table gives, how many headers and versions a file has, and the numbers below a number.
use Rattle.std.proofs.Common.{◌≡◌, ◌<◌, ℕ, zero, suc, ◌+◌, ◌*◌, List, [], ◌∷◌, ◌++◌, length, drop, get_or, refl, sym, ap, ◌∙◌, subst, inl, inr, Option, Some, None, arith}
use Rattle.std.specs.Prelude.{slice_index}
use Rattle.std.specs.List.{slice_get}
use Rattle.std.proofs.lemmas.Bool.{cases_lt}
use Rattle.std.proofs.lemmas.List.{get_or-append-add, get_or_append_left, length-append, length-replicate}
use Rattle.std.proofs.lemmas.Option.{none-some, same_Some, slice_get_past}
use Rattle.patch_bytes.specs.Memory.{◌>>=◌}
use Rattle.elf_format.specs.declared.records.SectionHeader.{SectionHeader}
use Rattle.elf_format.specs.declared.records.SegmentHeader.{SegmentHeader}
use Rattle.elf_format.specs.File.{Opened, Parts, bytes_in, section_bytes, sections_of, segments_of}
use Rattle.elf_format.specs.Form.{records}
use Rattle.elf_format.specs.Image.{counted, versions_read}
use Rattle.elf_format.specs.Records.{section_header, section_header_size, segment_header, segment_header_size}
use Rattle.elf_format.specs.Rules.{file_of}
use Rattle.elf_format.specs.Versions.{version_id}

-- ## Records

pub length-records : {A : Type 0} → (decode : List ℕ → A) (size count : ℕ) (bytes : List ℕ) → length (records decode size count bytes) ≡ count
unfolding records
length-records decode size zero bytes = refl
length-records decode size (suc count) bytes = ap suc (length-records decode size count (drop size bytes))

-- as many records are read as asked for, where their bytes are there
length-there : {A : Type 0} → (decode : List ℕ → A) (size count : ℕ) (there : Option (List ℕ)) (made : List A)
    → (there >>= λ bytes. Some (records decode size count bytes)) ≡ Some made → length made ≡ count
length-there decode size count None made e = absurd (none-some made e)
length-there decode size count (Some bytes) made e = ap length (sym (same_Some (records decode size count bytes) made e)) ∙ length-records decode size count bytes

-- as many program headers as the file header says (gABI, ELF Header, e_phnum)
pub length-segments : (o : Opened) (segments : List SegmentHeader) → segments_of o ≡ Some segments → length segments ≡ o.header.e_phnum
unfolding segments_of
length-segments o segments e =
    length-there (segment_header o.form) (segment_header_size o.form) o.header.e_phnum (bytes_in o.file o.header.e_phoff (o.header.e_phnum * segment_header_size o.form)) segments e

-- as many section headers as the file header says (gABI, ELF Header, e_shnum)
pub length-sections : (o : Opened) (sections : List SectionHeader) → sections_of o ≡ Some sections → length sections ≡ o.header.e_shnum
unfolding sections_of
length-sections o sections e =
    length-there (section_header o.form) (section_header_size o.form) o.header.e_shnum (bytes_in o.file o.header.e_shoff (o.header.e_shnum * section_header_size o.form)) sections e

-- as many versions as symbols
pub length-versions_read : (p : Parts) (o : Option SectionHeader) (count : ℕ) → length (versions_read p o count) ≡ count
unfolding versions_read
length-versions_read p None count = length-replicate count None
length-versions_read p (Some s) count = length-records (λ b. Some (version_id p.opened.form b)) 2 count (section_bytes (file_of p) s)

-- ## The numbers below a number

pub length-counted : (n : ℕ) → length (counted n) ≡ n
unfolding counted
length-counted zero = refl
length-counted (suc n) = length-append (counted n) (n ∷ []) ∙ ap (λ k. k + 1) (length-counted n) ∙ omega arith

pub slice_index-counted : (n i : ℕ) → i < n → slice_index (counted n) i ≡ i
unfolding counted
slice_index-counted zero i below = absurd (omega arith)
slice_index-counted (suc n) i below = elim (cases_lt i n) [
  | inl less ↦ get_or_append_left (counted n) (n ∷ []) 0 i (subst (λ k. i < k) (sym (length-counted n)) less) ∙ slice_index-counted n i less
  | inr past ↦
      let same : i ≡ length (counted n) + 0 = omega (arith, length-counted n) in
      ap (λ k. get_or (counted n ++ n ∷ []) k 0) same ∙ get_or-append-add (counted n) (n ∷ []) 0 0 ∙ omega arith
]

before_last : (xs : List ℕ) (y j : ℕ) → j < length xs → slice_get (xs ++ y ∷ []) j ≡ slice_get xs j
before_last [] y j less = absurd (omega (arith, less))
before_last (x ∷ xs) y zero less = refl
before_last (x ∷ xs) y (suc j) less = before_last xs y j (omega (arith, less))

at_last : (xs : List ℕ) (y : ℕ) → slice_get (xs ++ y ∷ []) (length xs) ≡ Some y
at_last [] y = refl
at_last (x ∷ xs) y = at_last xs y

pub slice_get-counted : (n j : ℕ) → j < n → slice_get (counted n) j ≡ Some j
unfolding counted
slice_get-counted zero j less = absurd (omega (arith, less))
slice_get-counted (suc n) j less = elim (cases_lt j n) [
  | inl below ↦ before_last (counted n) n j (omega (arith, below, length-counted n)) ∙ slice_get-counted n j below
  | inr last ↦
      let same : n ≡ j = omega (arith, less, last) in
      let at : j ≡ length (counted n) = omega (arith, same, length-counted n) in
      ap (λ (i : ℕ). slice_get (counted n ++ n ∷ []) i) at ∙ at_last (counted n) n ∙ ap (λ (m : ℕ). Some m) same
]

-- what stands at a place is the place
pub counted_at : (n j m : ℕ) → slice_get (counted n) j ≡ Some m → m ≡ j
counted_at n j m at = elim (cases_lt j n) [
  | inl less ↦ same_Some m j (sym at ∙ slice_get-counted n j less)
  | inr past ↦ absurd (none-some m (sym (slice_get_past (counted n) j (omega (arith, length-counted n))) ∙ at))
]
