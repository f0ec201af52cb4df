-- The section header table of a file: where each header's bytes stand, and that all of them lie in the file.
use Rattle.std.proofs.Common.{◌≡◌, ◌≤◌, ◌<◌, ℕ, zero, suc, ◌+◌, ◌-◌, ◌*◌, ◌/◌, Bool, true, false, List, ◌∷◌, length, take, drop, refl, sym, ap, ◌∙◌, Some, None, arith, le-div_iff_mul-le}
use Rattle.std.specs.Prelude.{min, nat_le, if◌then◌else◌}
use Rattle.std.specs.List.{slice_get}
use Rattle.std.proofs.Math.Nat.{mul-le-mul_right, suc-mul}
use Rattle.std.proofs.lemmas.Bool.{le-leb, leb-true}
use Rattle.std.proofs.lemmas.List.{drop-drop, drop-take, take-take}
use Rattle.std.proofs.lemmas.Option.{none-some, same_Some}
use Rattle.patch_bytes.specs.declared.number.Wide.{Wide}
use Rattle.patch_bytes.specs.declared.number.Wide.TheVariants.{W32, W64}
use Rattle.patch_bytes.specs.Number.{field}
use Rattle.patch_bytes.proofs.MemoryLaws.{bind_some}
use Rattle.elf_format.specs.declared.form.Form.{Form}
use Rattle.elf_format.specs.declared.records.SectionHeader.{SectionHeader}
use Rattle.elf_format.specs.File.{Opened, bytes_in, sections_of, sections_there}
use Rattle.elf_format.specs.Form.{by_class, records}
use Rattle.elf_format.specs.Records.{section_header, section_header_size}

pub header_size_filled : (form : Form) → 0 < section_header_size form
header_size_filled form = by_wide form.wide
  where
    by_wide : (w : Wide) → 0 < by_class w 40 64
    by_wide W32 = omega arith
    by_wide W64 = omega arith

-- ## Bytes of a file

-- bytes that are there lie in the file, and are those that stand there
pub bytes_within : (file : List ℕ) (offset size : ℕ) (bytes : List ℕ) → bytes_in file offset size ≡ Some bytes
    → (offset + size ≤ length file) × (field size offset file ≡ bytes)
bytes_within file offset size bytes h = by_test (nat_le (offset + size) (length file)) refl h
  where
    by_test : (b : Bool) → nat_le (offset + size) (length file) ≡ b → (if b then Some (field size offset file) else None) ≡ Some bytes
        → (offset + size ≤ length file) × (field size offset file ≡ bytes)
    by_test true is e = (leb-true (offset + size) (length file) is, same_Some (field size offset file) bytes e)
    by_test false is e = absurd (none-some bytes e)

pub bytes_there : (file : List ℕ) (offset size : ℕ) → offset + size ≤ length file
    → bytes_in file offset size ≡ Some (field size offset file)
bytes_there file offset size lies =
    ap (λ (b : Bool). if b then Some (field size offset file) else None) (le-leb (offset + size) (length file) lies)

-- ## Records

module _ {A : Type 0} (decode : List ℕ → A) (size : ℕ) where
  -- the records that lie in a front of bytes
  records-front : (n k : ℕ) (xs : List ℕ) → n * size ≤ k → records decode size n (take k xs) ≡ records decode size n xs
  unfolding records
  records-front zero k xs fits = refl
  records-front (suc n) k xs fits =
      let within : n * size + size ≤ k = omega (arith, suc-mul n size) in
      let e : k ≡ size + (k - size) = omega arith in
      let f : drop size (take k xs) ≡ take (k - size) (drop size xs) = ap (λ j. drop size (take j xs)) e ∙ drop-take size (k - size) xs in
      ap (λ l. decode l ∷ records decode size n (drop size (take k xs))) (take-take size k xs (omega arith))
      ∙ ap (λ l. decode (take size xs) ∷ records decode size n l) f
      ∙ ap (λ l. decode (take size xs) ∷ l) (records-front n (k - size) (drop size xs) (omega arith))

  -- the record at a position
  pub records-at : (n i : ℕ) (xs : List ℕ) → i < n → slice_get (records decode size n xs) i ≡ Some (decode (field size (i * size) xs))
  unfolding records
  records-at zero i xs less = absurd (omega (arith, less))
  records-at (suc n) zero xs less =
      let none : 0 ≡ 0 * size = omega arith in
      ap (λ (k : ℕ). Some (decode (take size (drop k xs)))) none
  records-at (suc n) (suc i) xs less =
      let e : size + i * size ≡ suc i * size = omega (arith, suc-mul i size) in
      records-at n i (drop size xs) (omega (arith, less))
      ∙ ap (λ (l : List ℕ). Some (decode (take size l))) (drop-drop (i * size) size xs)
      ∙ ap (λ (k : ℕ). Some (decode (take size (drop k xs)))) e

-- ## Section headers

-- what is known of section headers that are there
pub record TableAt (o : Opened) (sections : List SectionHeader) : Type 0 where
  pub within : o.header.e_shoff + o.header.e_shnum * section_header_size o.form ≤ length o.file
  pub made : sections ≡ records (section_header o.form) (section_header_size o.form) o.header.e_shnum (drop o.header.e_shoff o.file)

pub table_at : (o : Opened) (sections : List SectionHeader) → sections_of o ≡ Some sections → TableAt o sections
unfolding sections_of
table_at o sections h =
    let size : ℕ = section_header_size o.form in
    let count : ℕ = o.header.e_shnum in
    let (bytes, there, made) =
    bind_some (bytes_in o.file o.header.e_shoff (count * size)) (λ b. Some (records (section_header o.form) size count b)) sections h in
    let (lies, are) = bytes_within o.file o.header.e_shoff (count * size) bytes there in
    record {
      within = lies;
      made = sym (same_Some (records (section_header o.form) size count bytes) sections made)
          ∙ ap (records (section_header o.form) size count) (sym are)
          ∙ records-front (section_header o.form) size count (count * size) (drop o.header.e_shoff o.file) (omega arith);
    }

-- the section headers that lie in the file are all of them
pub sections_there-all : (o : Opened) (sections : List SectionHeader) → sections_of o ≡ Some sections → sections_there o ≡ sections
unfolding sections_there
sections_there-all o sections h =
    let table = table_at o sections h in
    let size : ℕ = section_header_size o.form in
    let count : ℕ = o.header.e_shnum in
    let room : ℕ = (length o.file - o.header.e_shoff) / size in
    let fits : count * size ≤ length o.file - o.header.e_shoff = let lies = table.within in omega (arith, lies) in
    let enough : count ≤ room =
    (le-div_iff_mul-le {k = size} {x = count} {y = length o.file - o.header.e_shoff} (header_size_filled o.form)).1 fits in
    let least : min count room ≡ count = omega (arith, enough) in
    ap (λ (n : ℕ). records (section_header o.form) size n (drop o.header.e_shoff o.file)) least ∙ sym table.made

-- the bytes of one of them
pub header_bytes : (o : Opened) (sections : List SectionHeader) → sections_of o ≡ Some sections → (i : ℕ) → i < o.header.e_shnum
    → (s : SectionHeader) → slice_get sections i ≡ Some s
    → (bytes : List ℕ) × (bytes_in o.file (o.header.e_shoff + i * section_header_size o.form) (section_header_size o.form) ≡ Some bytes)
    × (section_header o.form bytes ≡ s)
header_bytes o sections h i less s at =
    let table = table_at o sections h in
    let size : ℕ = section_header_size o.form in
    let count : ℕ = o.header.e_shnum in
    let start : ℕ = o.header.e_shoff + i * size in
    let more : suc i * size ≤ count * size = mul-le-mul_right size (omega (arith, less)) in
    let lies : start + size ≤ length o.file = let all = table.within in omega (arith, all, more, suc-mul i size) in
    let here : slice_get sections i ≡ Some (section_header o.form (field size (i * size) (drop o.header.e_shoff o.file))) =
    ap (λ (l : List SectionHeader). slice_get l i) table.made
    ∙ records-at (section_header o.form) size count i (drop o.header.e_shoff o.file) less in (
      field size start o.file,
      bytes_there o.file start size lies,
      ap (λ (l : List ℕ). section_header o.form (take size l)) (sym (drop-drop (i * size) o.header.e_shoff o.file))
          ∙ same_Some (section_header o.form (field size (i * size) (drop o.header.e_shoff o.file))) s (sym here ∙ at),
    )
