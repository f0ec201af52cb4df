-- A file header is read back from its bytes.
use Rattle.std.proofs.Common.{◌≡◌, ℕ, true, List, ◌++◌, length, ap, ◌∙◌}
use Rattle.patch_bytes.specs.declared.number.ByteOrder2.{ByteOrder2}
use Rattle.patch_bytes.specs.declared.number.Wide.{Wide}
use Rattle.patch_bytes.specs.declared.number.Wide.TheVariants.{W32, W64}
use Rattle.elf_format.specs.declared.form.Form.{Form}
use Rattle.elf_format.specs.declared.records.FileHeader.{FileHeader}
use Rattle.elf_format.specs.Records.{file_header, file_header_size}
use Rattle.elf_tables.specs.Fields.{do_fields_fit}
use Rattle.elf_tables.specs.ReadBack.{FileHeadersAreReadBack}
use Rattle.elf_tables.specs.Spelled.{file_header_fields, spelled_file_header}
use Rattle.elf_tables.proofs.FieldLaws.{length-fields, nth, read_nth}

form_of : Wide → ByteOrder2 → Form
form_of wide order = record { wide = wide; order = order }

-- two with the same numbers are the same
same : (q p : FileHeader) → q.os_abi ≡ p.os_abi → q.abi_version ≡ p.abi_version → q.e_type ≡ p.e_type → q.e_machine ≡ p.e_machine → q.e_entry ≡ p.e_entry → q.e_phoff ≡ p.e_phoff → q.e_shoff ≡ p.e_shoff → q.e_flags ≡ p.e_flags → q.e_phentsize ≡ p.e_phentsize → q.e_phnum ≡ p.e_phnum → q.e_shentsize ≡ p.e_shentsize → q.e_shnum ≡ p.e_shnum → q.e_shstrndx ≡ p.e_shstrndx → q ≡ p
same q p e0 e1 e2 e3 e4 e5 e6 e7 e8 e9 e10 e11 e12 =
    ap {A = ℕ} {B = FileHeader} (λ x. record { os_abi = x; abi_version = q.abi_version; e_type = q.e_type; e_machine = q.e_machine; e_entry = q.e_entry; e_phoff = q.e_phoff; e_shoff = q.e_shoff; e_flags = q.e_flags; e_phentsize = q.e_phentsize; e_phnum = q.e_phnum; e_shentsize = q.e_shentsize; e_shnum = q.e_shnum; e_shstrndx = q.e_shstrndx }) e0
    ∙ ap {A = ℕ} {B = FileHeader} (λ x. record { os_abi = p.os_abi; abi_version = x; e_type = q.e_type; e_machine = q.e_machine; e_entry = q.e_entry; e_phoff = q.e_phoff; e_shoff = q.e_shoff; e_flags = q.e_flags; e_phentsize = q.e_phentsize; e_phnum = q.e_phnum; e_shentsize = q.e_shentsize; e_shnum = q.e_shnum; e_shstrndx = q.e_shstrndx }) e1
    ∙ ap {A = ℕ} {B = FileHeader} (λ x. record { os_abi = p.os_abi; abi_version = p.abi_version; e_type = x; e_machine = q.e_machine; e_entry = q.e_entry; e_phoff = q.e_phoff; e_shoff = q.e_shoff; e_flags = q.e_flags; e_phentsize = q.e_phentsize; e_phnum = q.e_phnum; e_shentsize = q.e_shentsize; e_shnum = q.e_shnum; e_shstrndx = q.e_shstrndx }) e2
    ∙ ap {A = ℕ} {B = FileHeader} (λ x. record { os_abi = p.os_abi; abi_version = p.abi_version; e_type = p.e_type; e_machine = x; e_entry = q.e_entry; e_phoff = q.e_phoff; e_shoff = q.e_shoff; e_flags = q.e_flags; e_phentsize = q.e_phentsize; e_phnum = q.e_phnum; e_shentsize = q.e_shentsize; e_shnum = q.e_shnum; e_shstrndx = q.e_shstrndx }) e3
    ∙ ap {A = ℕ} {B = FileHeader} (λ x. record { os_abi = p.os_abi; abi_version = p.abi_version; e_type = p.e_type; e_machine = p.e_machine; e_entry = x; e_phoff = q.e_phoff; e_shoff = q.e_shoff; e_flags = q.e_flags; e_phentsize = q.e_phentsize; e_phnum = q.e_phnum; e_shentsize = q.e_shentsize; e_shnum = q.e_shnum; e_shstrndx = q.e_shstrndx }) e4
    ∙ ap {A = ℕ} {B = FileHeader} (λ x. record { os_abi = p.os_abi; abi_version = p.abi_version; e_type = p.e_type; e_machine = p.e_machine; e_entry = p.e_entry; e_phoff = x; e_shoff = q.e_shoff; e_flags = q.e_flags; e_phentsize = q.e_phentsize; e_phnum = q.e_phnum; e_shentsize = q.e_shentsize; e_shnum = q.e_shnum; e_shstrndx = q.e_shstrndx }) e5
    ∙ ap {A = ℕ} {B = FileHeader} (λ x. record { os_abi = p.os_abi; abi_version = p.abi_version; e_type = p.e_type; e_machine = p.e_machine; e_entry = p.e_entry; e_phoff = p.e_phoff; e_shoff = x; e_flags = q.e_flags; e_phentsize = q.e_phentsize; e_phnum = q.e_phnum; e_shentsize = q.e_shentsize; e_shnum = q.e_shnum; e_shstrndx = q.e_shstrndx }) e6
    ∙ ap {A = ℕ} {B = FileHeader} (λ x. record { os_abi = p.os_abi; abi_version = p.abi_version; e_type = p.e_type; e_machine = p.e_machine; e_entry = p.e_entry; e_phoff = p.e_phoff; e_shoff = p.e_shoff; e_flags = x; e_phentsize = q.e_phentsize; e_phnum = q.e_phnum; e_shentsize = q.e_shentsize; e_shnum = q.e_shnum; e_shstrndx = q.e_shstrndx }) e7
    ∙ ap {A = ℕ} {B = FileHeader} (λ x. record { os_abi = p.os_abi; abi_version = p.abi_version; e_type = p.e_type; e_machine = p.e_machine; e_entry = p.e_entry; e_phoff = p.e_phoff; e_shoff = p.e_shoff; e_flags = p.e_flags; e_phentsize = x; e_phnum = q.e_phnum; e_shentsize = q.e_shentsize; e_shnum = q.e_shnum; e_shstrndx = q.e_shstrndx }) e8
    ∙ ap {A = ℕ} {B = FileHeader} (λ x. record { os_abi = p.os_abi; abi_version = p.abi_version; e_type = p.e_type; e_machine = p.e_machine; e_entry = p.e_entry; e_phoff = p.e_phoff; e_shoff = p.e_shoff; e_flags = p.e_flags; e_phentsize = p.e_phentsize; e_phnum = x; e_shentsize = q.e_shentsize; e_shnum = q.e_shnum; e_shstrndx = q.e_shstrndx }) e9
    ∙ ap {A = ℕ} {B = FileHeader} (λ x. record { os_abi = p.os_abi; abi_version = p.abi_version; e_type = p.e_type; e_machine = p.e_machine; e_entry = p.e_entry; e_phoff = p.e_phoff; e_shoff = p.e_shoff; e_flags = p.e_flags; e_phentsize = p.e_phentsize; e_phnum = p.e_phnum; e_shentsize = x; e_shnum = q.e_shnum; e_shstrndx = q.e_shstrndx }) e10
    ∙ ap {A = ℕ} {B = FileHeader} (λ x. record { os_abi = p.os_abi; abi_version = p.abi_version; e_type = p.e_type; e_machine = p.e_machine; e_entry = p.e_entry; e_phoff = p.e_phoff; e_shoff = p.e_shoff; e_flags = p.e_flags; e_phentsize = p.e_phentsize; e_phnum = p.e_phnum; e_shentsize = p.e_shentsize; e_shnum = x; e_shstrndx = q.e_shstrndx }) e11
    ∙ ap {A = ℕ} {B = FileHeader} (λ x. record { os_abi = p.os_abi; abi_version = p.abi_version; e_type = p.e_type; e_machine = p.e_machine; e_entry = p.e_entry; e_phoff = p.e_phoff; e_shoff = p.e_shoff; e_flags = p.e_flags; e_phentsize = p.e_phentsize; e_phnum = p.e_phnum; e_shentsize = p.e_shentsize; e_shnum = p.e_shnum; e_shstrndx = x }) e12

back_narrow : (order : ByteOrder2) (p : FileHeader) (rest : List ℕ) → do_fields_fit (file_header_fields (form_of W32 order) p) ≡ true
    → file_header (form_of W32 order) (spelled_file_header (form_of W32 order) p ++ rest) ≡ p
unfolding file_header form_of nth
back_narrow order p rest fit =
    let read = λ (i : ℕ). read_nth order (file_header_fields (form_of W32 order) p) i rest fit in
    same (file_header (form_of W32 order) (spelled_file_header (form_of W32 order) p ++ rest)) p
    (read 7) (read 8) (read 16) (read 17) (read 19) (read 20) (read 21) (read 22) (read 24) (read 25) (read 26) (read 27) (read 28)

back_wide : (order : ByteOrder2) (p : FileHeader) (rest : List ℕ) → do_fields_fit (file_header_fields (form_of W64 order) p) ≡ true
    → file_header (form_of W64 order) (spelled_file_header (form_of W64 order) p ++ rest) ≡ p
unfolding file_header form_of nth
back_wide order p rest fit =
    let read = λ (i : ℕ). read_nth order (file_header_fields (form_of W64 order) p) i rest fit in
    same (file_header (form_of W64 order) (spelled_file_header (form_of W64 order) p ++ rest)) p
    (read 7) (read 8) (read 16) (read 17) (read 19) (read 20) (read 21) (read 22) (read 24) (read 25) (read 26) (read 27) (read 28)

back : (wide : Wide) (order : ByteOrder2) (p : FileHeader) (rest : List ℕ) → do_fields_fit (file_header_fields (form_of wide order) p) ≡ true
    → file_header (form_of wide order) (spelled_file_header (form_of wide order) p ++ rest) ≡ p
back W32 order p rest fit = back_narrow order p rest fit
back W64 order p rest fit = back_wide order p rest fit

long : (wide : Wide) (order : ByteOrder2) (p : FileHeader) → length (spelled_file_header (form_of wide order) p) ≡ file_header_size (form_of wide order)
unfolding form_of
long W32 order p = length-fields order (file_header_fields (form_of W32 order) p)
long W64 order p = length-fields order (file_header_fields (form_of W64 order) p)

pub file_headers_are_read_back : FileHeadersAreReadBack
unfolding form_of
file_headers_are_read_back form = record { long = λ p. long form.wide form.order p; back = λ p rest fit. back form.wide form.order p rest fit }
