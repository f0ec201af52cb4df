-- A program header is read back from its bytes.
use Rattle.std.proofs.Common.{◌≡◌, ℕ, true, List, ◌++◌, length, ap, ◌∙◌}
use Rattle.patch_bytes.specs.declared.number.ByteOrder2.{ByteOrder2}
use Rattle.patch_bytes.specs.declared.number.Wide.{Wide}
use Rattle.patch_bytes.specs.declared.number.Wide.TheVariants.{W32, W64}
use Rattle.elf_format.specs.declared.form.Form.{Form}
use Rattle.elf_format.specs.declared.records.SegmentHeader.{SegmentHeader}
use Rattle.elf_format.specs.Records.{segment_header, segment_header_size}
use Rattle.elf_tables.specs.Fields.{do_fields_fit}
use Rattle.elf_tables.specs.ReadBack.{SegmentHeadersAreReadBack}
use Rattle.elf_tables.specs.Spelled.{segment_fields, spelled_segment_header}
use Rattle.elf_tables.proofs.FieldLaws.{length-fields, nth, read_nth}

form_of : Wide → ByteOrder2 → Form
form_of wide order = record { wide = wide; order = order }

-- two with the same numbers are the same
same : (q p : SegmentHeader) → q.p_type ≡ p.p_type → q.p_flags ≡ p.p_flags → q.p_offset ≡ p.p_offset → q.p_vaddr ≡ p.p_vaddr → q.p_paddr ≡ p.p_paddr → q.p_filesz ≡ p.p_filesz → q.p_memsz ≡ p.p_memsz → q.p_align ≡ p.p_align → q ≡ p
same q p e0 e1 e2 e3 e4 e5 e6 e7 =
    ap {A = ℕ} {B = SegmentHeader} (λ x. record { p_type = x; p_flags = q.p_flags; p_offset = q.p_offset; p_vaddr = q.p_vaddr; p_paddr = q.p_paddr; p_filesz = q.p_filesz; p_memsz = q.p_memsz; p_align = q.p_align }) e0
    ∙ ap {A = ℕ} {B = SegmentHeader} (λ x. record { p_type = p.p_type; p_flags = x; p_offset = q.p_offset; p_vaddr = q.p_vaddr; p_paddr = q.p_paddr; p_filesz = q.p_filesz; p_memsz = q.p_memsz; p_align = q.p_align }) e1
    ∙ ap {A = ℕ} {B = SegmentHeader} (λ x. record { p_type = p.p_type; p_flags = p.p_flags; p_offset = x; p_vaddr = q.p_vaddr; p_paddr = q.p_paddr; p_filesz = q.p_filesz; p_memsz = q.p_memsz; p_align = q.p_align }) e2
    ∙ ap {A = ℕ} {B = SegmentHeader} (λ x. record { p_type = p.p_type; p_flags = p.p_flags; p_offset = p.p_offset; p_vaddr = x; p_paddr = q.p_paddr; p_filesz = q.p_filesz; p_memsz = q.p_memsz; p_align = q.p_align }) e3
    ∙ ap {A = ℕ} {B = SegmentHeader} (λ x. record { p_type = p.p_type; p_flags = p.p_flags; p_offset = p.p_offset; p_vaddr = p.p_vaddr; p_paddr = x; p_filesz = q.p_filesz; p_memsz = q.p_memsz; p_align = q.p_align }) e4
    ∙ ap {A = ℕ} {B = SegmentHeader} (λ x. record { p_type = p.p_type; p_flags = p.p_flags; p_offset = p.p_offset; p_vaddr = p.p_vaddr; p_paddr = p.p_paddr; p_filesz = x; p_memsz = q.p_memsz; p_align = q.p_align }) e5
    ∙ ap {A = ℕ} {B = SegmentHeader} (λ x. record { p_type = p.p_type; p_flags = p.p_flags; p_offset = p.p_offset; p_vaddr = p.p_vaddr; p_paddr = p.p_paddr; p_filesz = p.p_filesz; p_memsz = x; p_align = q.p_align }) e6
    ∙ ap {A = ℕ} {B = SegmentHeader} (λ x. record { p_type = p.p_type; p_flags = p.p_flags; p_offset = p.p_offset; p_vaddr = p.p_vaddr; p_paddr = p.p_paddr; p_filesz = p.p_filesz; p_memsz = p.p_memsz; p_align = x }) e7

back_narrow : (order : ByteOrder2) (p : SegmentHeader) (rest : List ℕ) → do_fields_fit (segment_fields (form_of W32 order) p) ≡ true
    → segment_header (form_of W32 order) (spelled_segment_header (form_of W32 order) p ++ rest) ≡ p
unfolding segment_header form_of nth
back_narrow order p rest fit =
    let read = λ (i : ℕ). read_nth order (segment_fields (form_of W32 order) p) i rest fit in
    same (segment_header (form_of W32 order) (spelled_segment_header (form_of W32 order) p ++ rest)) p
    (read 0) (read 6) (read 1) (read 2) (read 3) (read 4) (read 5) (read 7)

back_wide : (order : ByteOrder2) (p : SegmentHeader) (rest : List ℕ) → do_fields_fit (segment_fields (form_of W64 order) p) ≡ true
    → segment_header (form_of W64 order) (spelled_segment_header (form_of W64 order) p ++ rest) ≡ p
unfolding segment_header form_of nth
back_wide order p rest fit =
    let read = λ (i : ℕ). read_nth order (segment_fields (form_of W64 order) p) i rest fit in
    same (segment_header (form_of W64 order) (spelled_segment_header (form_of W64 order) p ++ rest)) p
    (read 0) (read 1) (read 2) (read 3) (read 4) (read 5) (read 6) (read 7)

back : (wide : Wide) (order : ByteOrder2) (p : SegmentHeader) (rest : List ℕ) → do_fields_fit (segment_fields (form_of wide order) p) ≡ true
    → segment_header (form_of wide order) (spelled_segment_header (form_of wide order) p ++ rest) ≡ p
back W32 order p rest fit = back_narrow order p rest fit
back W64 order p rest fit = back_wide order p rest fit

long : (wide : Wide) (order : ByteOrder2) (p : SegmentHeader) → length (spelled_segment_header (form_of wide order) p) ≡ segment_header_size (form_of wide order)
unfolding form_of
long W32 order p = length-fields order (segment_fields (form_of W32 order) p)
long W64 order p = length-fields order (segment_fields (form_of W64 order) p)

pub segment_headers_are_read_back : SegmentHeadersAreReadBack
unfolding form_of
segment_headers_are_read_back form = record { long = λ p. long form.wide form.order p; back = λ p rest fit. back form.wide form.order p rest fit }
