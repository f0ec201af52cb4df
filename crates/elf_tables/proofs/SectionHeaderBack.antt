-- A section header is read back from its bytes.
use Rattle.std.proofs.Common.{◌≡◌, ℕ, true, List, ◌++◌, length, ap, ◌∙◌}
use Rattle.patch_bytes.specs.declared.number.ByteOrder2.{ByteOrder2}
use Rattle.patch_bytes.specs.declared.number.Wide.{Wide}
use Rattle.patch_bytes.specs.declared.number.Wide.TheVariants.{W32, W64}
use Rattle.elf_format.specs.declared.form.Form.{Form}
use Rattle.elf_format.specs.declared.records.SectionHeader.{SectionHeader}
use Rattle.elf_format.specs.Records.{section_header, section_header_size}
use Rattle.elf_tables.specs.Fields.{do_fields_fit}
use Rattle.elf_tables.specs.ReadBack.{SectionHeadersAreReadBack}
use Rattle.elf_tables.specs.Spelled.{section_fields, spelled_section_header}
use Rattle.elf_tables.proofs.FieldLaws.{length-fields, nth, read_nth}

form_of : Wide → ByteOrder2 → Form
form_of wide order = record { wide = wide; order = order }

-- two with the same numbers are the same
same : (q p : SectionHeader) → q.sh_name ≡ p.sh_name → q.sh_type ≡ p.sh_type → q.sh_flags ≡ p.sh_flags → q.sh_addr ≡ p.sh_addr → q.sh_offset ≡ p.sh_offset → q.sh_size ≡ p.sh_size → q.sh_link ≡ p.sh_link → q.sh_info ≡ p.sh_info → q.sh_addralign ≡ p.sh_addralign → q.sh_entsize ≡ p.sh_entsize → q ≡ p
same q p e0 e1 e2 e3 e4 e5 e6 e7 e8 e9 =
    ap {A = ℕ} {B = SectionHeader} (λ x. record { sh_name = x; sh_type = q.sh_type; sh_flags = q.sh_flags; sh_addr = q.sh_addr; sh_offset = q.sh_offset; sh_size = q.sh_size; sh_link = q.sh_link; sh_info = q.sh_info; sh_addralign = q.sh_addralign; sh_entsize = q.sh_entsize }) e0
    ∙ ap {A = ℕ} {B = SectionHeader} (λ x. record { sh_name = p.sh_name; sh_type = x; sh_flags = q.sh_flags; sh_addr = q.sh_addr; sh_offset = q.sh_offset; sh_size = q.sh_size; sh_link = q.sh_link; sh_info = q.sh_info; sh_addralign = q.sh_addralign; sh_entsize = q.sh_entsize }) e1
    ∙ ap {A = ℕ} {B = SectionHeader} (λ x. record { sh_name = p.sh_name; sh_type = p.sh_type; sh_flags = x; sh_addr = q.sh_addr; sh_offset = q.sh_offset; sh_size = q.sh_size; sh_link = q.sh_link; sh_info = q.sh_info; sh_addralign = q.sh_addralign; sh_entsize = q.sh_entsize }) e2
    ∙ ap {A = ℕ} {B = SectionHeader} (λ x. record { sh_name = p.sh_name; sh_type = p.sh_type; sh_flags = p.sh_flags; sh_addr = x; sh_offset = q.sh_offset; sh_size = q.sh_size; sh_link = q.sh_link; sh_info = q.sh_info; sh_addralign = q.sh_addralign; sh_entsize = q.sh_entsize }) e3
    ∙ ap {A = ℕ} {B = SectionHeader} (λ x. record { sh_name = p.sh_name; sh_type = p.sh_type; sh_flags = p.sh_flags; sh_addr = p.sh_addr; sh_offset = x; sh_size = q.sh_size; sh_link = q.sh_link; sh_info = q.sh_info; sh_addralign = q.sh_addralign; sh_entsize = q.sh_entsize }) e4
    ∙ ap {A = ℕ} {B = SectionHeader} (λ x. record { sh_name = p.sh_name; sh_type = p.sh_type; sh_flags = p.sh_flags; sh_addr = p.sh_addr; sh_offset = p.sh_offset; sh_size = x; sh_link = q.sh_link; sh_info = q.sh_info; sh_addralign = q.sh_addralign; sh_entsize = q.sh_entsize }) e5
    ∙ ap {A = ℕ} {B = SectionHeader} (λ x. record { sh_name = p.sh_name; sh_type = p.sh_type; sh_flags = p.sh_flags; sh_addr = p.sh_addr; sh_offset = p.sh_offset; sh_size = p.sh_size; sh_link = x; sh_info = q.sh_info; sh_addralign = q.sh_addralign; sh_entsize = q.sh_entsize }) e6
    ∙ ap {A = ℕ} {B = SectionHeader} (λ x. record { sh_name = p.sh_name; sh_type = p.sh_type; sh_flags = p.sh_flags; sh_addr = p.sh_addr; sh_offset = p.sh_offset; sh_size = p.sh_size; sh_link = p.sh_link; sh_info = x; sh_addralign = q.sh_addralign; sh_entsize = q.sh_entsize }) e7
    ∙ ap {A = ℕ} {B = SectionHeader} (λ x. record { sh_name = p.sh_name; sh_type = p.sh_type; sh_flags = p.sh_flags; sh_addr = p.sh_addr; sh_offset = p.sh_offset; sh_size = p.sh_size; sh_link = p.sh_link; sh_info = p.sh_info; sh_addralign = x; sh_entsize = q.sh_entsize }) e8
    ∙ ap {A = ℕ} {B = SectionHeader} (λ x. record { sh_name = p.sh_name; sh_type = p.sh_type; sh_flags = p.sh_flags; sh_addr = p.sh_addr; sh_offset = p.sh_offset; sh_size = p.sh_size; sh_link = p.sh_link; sh_info = p.sh_info; sh_addralign = p.sh_addralign; sh_entsize = x }) e9

back_narrow : (order : ByteOrder2) (p : SectionHeader) (rest : List ℕ) → do_fields_fit (section_fields (form_of W32 order) p) ≡ true
    → section_header (form_of W32 order) (spelled_section_header (form_of W32 order) p ++ rest) ≡ p
unfolding section_header form_of nth
back_narrow order p rest fit =
    let read = λ (i : ℕ). read_nth order (section_fields (form_of W32 order) p) i rest fit in
    same (section_header (form_of W32 order) (spelled_section_header (form_of W32 order) p ++ rest)) p
    (read 0) (read 1) (read 2) (read 3) (read 4) (read 5) (read 6) (read 7) (read 8) (read 9)

back_wide : (order : ByteOrder2) (p : SectionHeader) (rest : List ℕ) → do_fields_fit (section_fields (form_of W64 order) p) ≡ true
    → section_header (form_of W64 order) (spelled_section_header (form_of W64 order) p ++ rest) ≡ p
unfolding section_header form_of nth
back_wide order p rest fit =
    let read = λ (i : ℕ). read_nth order (section_fields (form_of W64 order) p) i rest fit in
    same (section_header (form_of W64 order) (spelled_section_header (form_of W64 order) p ++ rest)) p
    (read 0) (read 1) (read 2) (read 3) (read 4) (read 5) (read 6) (read 7) (read 8) (read 9)

back : (wide : Wide) (order : ByteOrder2) (p : SectionHeader) (rest : List ℕ) → do_fields_fit (section_fields (form_of wide order) p) ≡ true
    → section_header (form_of wide order) (spelled_section_header (form_of wide order) p ++ rest) ≡ p
back W32 order p rest fit = back_narrow order p rest fit
back W64 order p rest fit = back_wide order p rest fit

long : (wide : Wide) (order : ByteOrder2) (p : SectionHeader) → length (spelled_section_header (form_of wide order) p) ≡ section_header_size (form_of wide order)
unfolding form_of
long W32 order p = length-fields order (section_fields (form_of W32 order) p)
long W64 order p = length-fields order (section_fields (form_of W64 order) p)

pub section_headers_are_read_back : SectionHeadersAreReadBack
unfolding form_of
section_headers_are_read_back form = record { long = λ p. long form.wide form.order p; back = λ p rest fit. back form.wide form.order p rest fit }
