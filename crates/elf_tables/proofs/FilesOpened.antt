-- A file that begins with a header's bytes is opened with that header.
use Rattle.std.proofs.Common.{◌≡◌, ℕ, ◌+◌, ◌≤◌, true, List, [], ◌++◌, length, take, refl, sym, ap, ◌∙◌, Option, Some, None, arith}
use Rattle.std.specs.Prelude.{nat_le}
use Rattle.std.proofs.lemmas.Bool.{cond-true, le-leb}
use Rattle.std.proofs.lemmas.List.{append-nil, length-append, take_at}
use Rattle.patch_bytes.specs.declared.number.ByteOrder2.{ByteOrder2}
use Rattle.patch_bytes.specs.declared.number.ByteOrder2.TheVariants.{Big, Little}
use Rattle.patch_bytes.specs.declared.number.Wide.{Wide}
use Rattle.patch_bytes.specs.declared.number.Wide.TheVariants.{W32, W64}
use Rattle.patch_bytes.specs.Memory.{◌>>=◌}
use Rattle.elf_format.specs.declared.form.Form.{Form}
use Rattle.elf_format.specs.declared.records.FileHeader.{FileHeader}
use Rattle.elf_format.specs.File.{bytes_in, form_of, opened_of}
use Rattle.elf_format.specs.Records.{file_header, file_header_size}
use Rattle.elf_tables.specs.Fields.{do_fields_fit}
use Rattle.elf_tables.specs.ReadBack.{FilesAreOpened}
use Rattle.elf_tables.specs.Spelled.{file_header_fields, spelled_file_header}
use Rattle.elf_tables.proofs.FileHeaderBack.{file_headers_are_read_back}

-- the identification tells the form
form_told : (wide : Wide) (order : ByteOrder2) (h : FileHeader) (rest : List ℕ)
    → let form : Form = record { wide = wide; order = order } in form_of (spelled_file_header form h ++ rest) ≡ Some form
form_told W32 Little h rest = refl
form_told W32 Big h rest = refl
form_told W64 Little h rest = refl
form_told W64 Big h rest = refl

module _ (form : Form) (h : FileHeader) (rest : List ℕ) (fit : do_fields_fit (file_header_fields form h) ≡ true) where
  size : ℕ
  size = file_header_size form

  bytes : List ℕ
  bytes = spelled_file_header form h

  file : List ℕ
  file = bytes ++ rest

  long : length bytes ≡ size
  unfolding bytes size
  long = (file_headers_are_read_back form).long h

  inside : size ≤ length file
  unfolding file
  inside = omega (arith, length-append bytes rest, long)

  front : bytes_in file 0 size ≡ Some bytes
  unfolding file bytes
  front = cond-true (nat_le (0 + size) (length file)) (Some (take size file)) None (le-leb (0 + size) (length file) (omega (arith, inside))) ∙ ap Some (take_at bytes rest size long)

  header : file_header form bytes ≡ h
  unfolding bytes
  header = ap (file_header form) (sym (append-nil bytes)) ∙ (file_headers_are_read_back form).back h [] fit

  opened : opened_of file ≡ Some (record { file = file; form = form; header = h })
  unfolding opened_of file bytes size
  opened =
      ap (λ (o : Option Form). o >>= λ f. bytes_in file 0 (file_header_size f) >>= λ b. Some (record { file = file; form = f; header = file_header f b })) (form_told form.wide form.order h rest)
      ∙ ap (λ (o : Option (List ℕ)). o >>= λ b. Some (record { file = file; form = form; header = file_header form b })) front
      ∙ ap (λ (x : FileHeader). Some (record { file = file; form = form; header = x })) header

pub files_are_opened : FilesAreOpened
unfolding file bytes size
files_are_opened form h rest fit = opened form h rest fit
