-- A symbol is read back from its bytes.
use Rattle.std.proofs.Common.{◌≡◌, ℕ, true, List, ◌++◌, length, ap, ◌∙◌}
use Rattle.patch_bytes.specs.declared.number.ByteOrder2.{ByteOrder2}
use Rattle.patch_bytes.specs.declared.number.Wide.{Wide}
use Rattle.patch_bytes.specs.declared.number.Wide.TheVariants.{W32, W64}
use Rattle.elf_format.specs.declared.form.Form.{Form}
use Rattle.elf_format.specs.declared.records.SymbolNumbers.{SymbolNumbers}
use Rattle.elf_format.specs.Records.{symbol_numbers, symbol_size}
use Rattle.elf_tables.specs.Fields.{do_fields_fit}
use Rattle.elf_tables.specs.ReadBack.{SymbolsAreReadBack}
use Rattle.elf_tables.specs.Spelled.{spelled_symbol, symbol_fields}
use Rattle.elf_tables.proofs.FieldLaws.{length-fields, nth, read_nth}

form_of : Wide → ByteOrder2 → Form
form_of wide order = record { wide = wide; order = order }

-- two with the same numbers are the same
same : (q p : SymbolNumbers) → q.st_name ≡ p.st_name → q.st_info ≡ p.st_info → q.st_other ≡ p.st_other → q.st_shndx ≡ p.st_shndx → q.st_value ≡ p.st_value → q.st_size ≡ p.st_size → q ≡ p
same q p e0 e1 e2 e3 e4 e5 =
    ap {A = ℕ} {B = SymbolNumbers} (λ x. record { st_name = x; st_info = q.st_info; st_other = q.st_other; st_shndx = q.st_shndx; st_value = q.st_value; st_size = q.st_size }) e0
    ∙ ap {A = ℕ} {B = SymbolNumbers} (λ x. record { st_name = p.st_name; st_info = x; st_other = q.st_other; st_shndx = q.st_shndx; st_value = q.st_value; st_size = q.st_size }) e1
    ∙ ap {A = ℕ} {B = SymbolNumbers} (λ x. record { st_name = p.st_name; st_info = p.st_info; st_other = x; st_shndx = q.st_shndx; st_value = q.st_value; st_size = q.st_size }) e2
    ∙ ap {A = ℕ} {B = SymbolNumbers} (λ x. record { st_name = p.st_name; st_info = p.st_info; st_other = p.st_other; st_shndx = x; st_value = q.st_value; st_size = q.st_size }) e3
    ∙ ap {A = ℕ} {B = SymbolNumbers} (λ x. record { st_name = p.st_name; st_info = p.st_info; st_other = p.st_other; st_shndx = p.st_shndx; st_value = x; st_size = q.st_size }) e4
    ∙ ap {A = ℕ} {B = SymbolNumbers} (λ x. record { st_name = p.st_name; st_info = p.st_info; st_other = p.st_other; st_shndx = p.st_shndx; st_value = p.st_value; st_size = x }) e5

back_narrow : (order : ByteOrder2) (p : SymbolNumbers) (rest : List ℕ) → do_fields_fit (symbol_fields (form_of W32 order) p) ≡ true
    → symbol_numbers (form_of W32 order) (spelled_symbol (form_of W32 order) p ++ rest) ≡ p
unfolding symbol_numbers form_of nth
back_narrow order p rest fit =
    let read = λ (i : ℕ). read_nth order (symbol_fields (form_of W32 order) p) i rest fit in
    same (symbol_numbers (form_of W32 order) (spelled_symbol (form_of W32 order) p ++ rest)) p
    (read 0) (read 3) (read 4) (read 5) (read 1) (read 2)

back_wide : (order : ByteOrder2) (p : SymbolNumbers) (rest : List ℕ) → do_fields_fit (symbol_fields (form_of W64 order) p) ≡ true
    → symbol_numbers (form_of W64 order) (spelled_symbol (form_of W64 order) p ++ rest) ≡ p
unfolding symbol_numbers form_of nth
back_wide order p rest fit =
    let read = λ (i : ℕ). read_nth order (symbol_fields (form_of W64 order) p) i rest fit in
    same (symbol_numbers (form_of W64 order) (spelled_symbol (form_of W64 order) p ++ rest)) p
    (read 0) (read 1) (read 2) (read 3) (read 4) (read 5)

back : (wide : Wide) (order : ByteOrder2) (p : SymbolNumbers) (rest : List ℕ) → do_fields_fit (symbol_fields (form_of wide order) p) ≡ true
    → symbol_numbers (form_of wide order) (spelled_symbol (form_of wide order) p ++ rest) ≡ p
back W32 order p rest fit = back_narrow order p rest fit
back W64 order p rest fit = back_wide order p rest fit

long : (wide : Wide) (order : ByteOrder2) (p : SymbolNumbers) → length (spelled_symbol (form_of wide order) p) ≡ symbol_size (form_of wide order)
unfolding form_of
long W32 order p = length-fields order (symbol_fields (form_of W32 order) p)
long W64 order p = length-fields order (symbol_fields (form_of W64 order) p)

pub symbols_are_read_back : SymbolsAreReadBack
unfolding form_of
symbols_are_read_back form = record { long = λ p. long form.wide form.order p; back = λ p rest fit. back form.wide form.order p rest fit }
