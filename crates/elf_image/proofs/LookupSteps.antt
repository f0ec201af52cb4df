-- The first that passes a test, in a list that is seen element by element; and how many program headers were read.
use Rattle.std.proofs.Common.{◌≡◌, ℕ, ◌+◌, Bool, true, false, cond, List, ◌∷◌, map, length, refl, sym, ap, ◌∙◌, subst, Option, Some, None, option_map, Result, Ok, Err, []}
use Rattle.std.specs.Prelude.{find, if◌then◌else◌, nat_le, position}
use Rattle.std.specs.List.{position_from}
use Rattle.std.proofs.lemmas.Iterator.Adapters.{position_from-zero}
use Rattle.std.proofs.lemmas.Option.{none-some, same_Some}
use Rattle.patch_bytes.specs.Memory.{◌>>=◌}
use Rattle.patch_bytes.specs.Number.{field}
use Rattle.elf_format.specs.declared.fault.ElfFault.{ElfFault}
use Rattle.elf_format.specs.File.{Opened, bytes_in, form_of, opened_of}
use Rattle.elf_format.specs.declared.form.Form.{Form}
use Rattle.elf_format.specs.Image.{Image, image_of}
use Rattle.elf_format.specs.declared.records.FileHeader.{FileHeader}
use Rattle.elf_format.specs.Records.{file_header, file_header_size}
use Rattle.elf_image.specs.Edited.{IsEdited}
use Rattle.elf_image.proofs.ReadImageLaws.{read_images_hold_parts}
use Rattle.elf_format.proofs.ForCallers.Lengths.{length-segments}

-- ## The first that passes

module _ {A B : Type 0} (f : A → B) (test : B → Bool) where
  position_from-map : (xs : List A) (i : ℕ) → position_from test i (map f xs) ≡ position_from (λ x. test (f x)) i xs
  position_from-map [] i = refl
  position_from-map (x ∷ xs) i = ap (λ o. cond (test (f x)) (Some i) o) (position_from-map xs (i + 1))

  pub position-map : (xs : List A) → position test (map f xs) ≡ position (λ x. test (f x)) xs
  position-map xs = position_from-zero test (map f xs) ∙ position_from-map xs 0 ∙ sym (position_from-zero (λ x. test (f x)) xs)

  first_mapped : (b : Bool) (x : A) (found : Option A) → option_map f (if b then Some x else found) ≡ (if b then Some (f x) else option_map f found)
  first_mapped true x found = refl
  first_mapped false x found = refl

  pub find-map : (xs : List A) → option_map f (find (λ x. test (f x)) xs) ≡ find test (map f xs)
  find-map [] = refl
  find-map (x ∷ xs) = first_mapped (test (f x)) x (find (λ y. test (f y)) xs) ∙ ap (λ o. if test (f x) then Some (f x) else o) (find-map xs)

-- ## Program headers

-- the header that was opened is spelled in the file's first bytes, in the file's form
header-opened : (file : List ℕ) (form : Option Form) (o : Opened)
    → (form >>= λ f. bytes_in file 0 (file_header_size f) >>= λ bytes. Some (record { file = file; form = f; header = file_header f bytes })) ≡ Some o
    → o.header ≡ file_header o.form (field (file_header_size o.form) 0 file)
header-opened file None o e = absurd (none-some o e)
header-opened file (Some f) o e = by_bytes (nat_le (0 + file_header_size f) (length file)) e
  where
    by_bytes : (b : Bool) → ((if b then Some (field (file_header_size f) 0 file) else None) >>= λ bytes. Some (record { file = file; form = f; header = file_header f bytes })) ≡ Some o
        → o.header ≡ file_header o.form (field (file_header_size o.form) 0 file)
    by_bytes true h = subst (λ (x : Opened). x.header ≡ file_header x.form (field (file_header_size x.form) 0 file))
        (same_Some (record { file = file; form = f; header = file_header f (field (file_header_size f) 0 file) }) o h) refl
    by_bytes false h = absurd (none-some o h)

header-spelled : (file : List ℕ) (o : Opened) → opened_of file ≡ Some o → o.header ≡ file_header o.form (field (file_header_size o.form) 0 file)
unfolding opened_of
header-spelled file o e = header-opened file (form_of file) o e

abbrev count-of : Result Image ElfFault → ℕ
count-of (Ok image) = length image.segments
count-of (Err fault) = 0

-- as many program headers were read from an image's source as the header there says
pub read_count : (image : Image) → IsEdited image → (read : Image) → image_of image.source ≡ Ok read
    → (file_header image.form (field (file_header_size image.form) 0 image.source)).e_phnum ≡ length read.segments
read_count image h read is =
    let (p, accepted, parts, rules, holds) = read_images_hold_parts image.source h.read h.is_read in
    let form : image.form ≡ p.opened.form = h.is_edit.form ∙ holds.form in
    ap (λ (f : Form). (file_header f (field (file_header_size f) 0 image.source)).e_phnum) form
    ∙ sym (ap (λ (x : FileHeader). x.e_phnum) (header-spelled image.source p.opened parts.opened))
    ∙ sym (length-segments p.opened p.segments parts.segments)
    ∙ sym (ap length holds.segments)
    ∙ ap count-of (sym h.is_read ∙ is)
