-- A dynamic entry is read back from its bytes.
use Rattle.std.proofs.Common.{◌≡◌, ℕ, true, List, ◌++◌, length, ap, ◌∙◌}
use Rattle.patch_bytes.specs.declared.number.ByteOrder2.{ByteOrder2}
use Rattle.patch_bytes.specs.declared.number.Wide.{Wide}
use Rattle.patch_bytes.specs.declared.number.Wide.TheVariants.{W32, W64}
use Rattle.elf_format.specs.declared.form.Form.{Form}
use Rattle.elf_format.specs.declared.records.EntryNumbers.{EntryNumbers}
use Rattle.elf_format.specs.Records.{entry_numbers, entry_size}
use Rattle.elf_tables.specs.Fields.{do_fields_fit}
use Rattle.elf_tables.specs.ReadBack.{EntriesAreReadBack}
use Rattle.elf_tables.specs.Spelled.{entry_fields, spelled_entry}
use Rattle.elf_tables.proofs.FieldLaws.{length-fields, nth, read_nth}

form_of : Wide → ByteOrder2 → Form
form_of wide order = record { wide = wide; order = order }

-- two with the same numbers are the same
same : (q p : EntryNumbers) → q.d_tag ≡ p.d_tag → q.d_value ≡ p.d_value → q ≡ p
same q p e0 e1 =
    ap {A = ℕ} {B = EntryNumbers} (λ x. record { d_tag = x; d_value = q.d_value }) e0
    ∙ ap {A = ℕ} {B = EntryNumbers} (λ x. record { d_tag = p.d_tag; d_value = x }) e1

back_narrow : (order : ByteOrder2) (p : EntryNumbers) (rest : List ℕ) → do_fields_fit (entry_fields (form_of W32 order) p) ≡ true
    → entry_numbers (form_of W32 order) (spelled_entry (form_of W32 order) p ++ rest) ≡ p
unfolding entry_numbers form_of nth
back_narrow order p rest fit =
    let read = λ (i : ℕ). read_nth order (entry_fields (form_of W32 order) p) i rest fit in
    same (entry_numbers (form_of W32 order) (spelled_entry (form_of W32 order) p ++ rest)) p
    (read 0) (read 1)

back_wide : (order : ByteOrder2) (p : EntryNumbers) (rest : List ℕ) → do_fields_fit (entry_fields (form_of W64 order) p) ≡ true
    → entry_numbers (form_of W64 order) (spelled_entry (form_of W64 order) p ++ rest) ≡ p
unfolding entry_numbers form_of nth
back_wide order p rest fit =
    let read = λ (i : ℕ). read_nth order (entry_fields (form_of W64 order) p) i rest fit in
    same (entry_numbers (form_of W64 order) (spelled_entry (form_of W64 order) p ++ rest)) p
    (read 0) (read 1)

back : (wide : Wide) (order : ByteOrder2) (p : EntryNumbers) (rest : List ℕ) → do_fields_fit (entry_fields (form_of wide order) p) ≡ true
    → entry_numbers (form_of wide order) (spelled_entry (form_of wide order) p ++ rest) ≡ p
back W32 order p rest fit = back_narrow order p rest fit
back W64 order p rest fit = back_wide order p rest fit

long : (wide : Wide) (order : ByteOrder2) (p : EntryNumbers) → length (spelled_entry (form_of wide order) p) ≡ entry_size (form_of wide order)
unfolding form_of
long W32 order p = length-fields order (entry_fields (form_of W32 order) p)
long W64 order p = length-fields order (entry_fields (form_of W64 order) p)

pub entries_are_read_back : EntriesAreReadBack
unfolding form_of
entries_are_read_back form = record { long = λ p. long form.wide form.order p; back = λ p rest fit. back form.wide form.order p rest fit }
