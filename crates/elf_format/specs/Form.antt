-- How the numbers of an ELF file are spelled: by its class and its byte order.
use Rattle.std.specs.Prelude.{ℕ, zero, suc, List, [], ◌∷◌, take, drop}
use Rattle.patch_bytes.specs.declared.number.Wide.{Wide}
use Rattle.patch_bytes.specs.declared.number.Wide.TheVariants.{W32, W64}
use Rattle.patch_bytes.specs.Number.{number_at}
pub use Rattle.elf_format.specs.declared.form.Form.{Form}

-- the first of two values in 32-bit files, the second in 64-bit files
abbrev pub by_class : {A : Type 0} → Wide → A → A → A
by_class W32 narrow wide = narrow
by_class W64 narrow wide = wide

-- the number in a field of a record's bytes: where it stands and how many bytes it takes, in 32-bit and
-- in 64-bit files
abbrev pub field_of : Form → (ℕ × ℕ) → (ℕ × ℕ) → List ℕ → ℕ
field_of form narrow wide bytes =
    let place = by_class form.wide narrow wide in
    number_at form.order place.1 place.0 bytes

-- the number in a field that stands at one place in files of both classes
abbrev pub fixed_field : Form → ℕ × ℕ → List ℕ → ℕ
fixed_field form place bytes = field_of form place place bytes

-- the records of one size that stand end to end in bytes, `count` of them
unfoldable pub records : {A : Type 0} → (List ℕ → A) → ℕ → ℕ → List ℕ → List A
records decode size zero bytes = []
records decode size (suc count) bytes = decode (take size bytes) ∷ records decode size count (drop size bytes)
