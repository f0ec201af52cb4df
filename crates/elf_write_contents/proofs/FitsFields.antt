-- Which numbers of a record may be past their fields: words of the class alone.
use Rattle.std.proofs.Common.{◌≡◌, ◌<◌, ◌^◌, ℕ, Bool, true, [], ◌∷◌, refl, sym, ap, ◌∙◌, arith}
use Rattle.std.specs.Prelude.{◌&&◌}
use Rattle.std.proofs.lemmas.Bool.{lt-ltb}
use Rattle.patch_bytes.specs.declared.number.ByteOrder2.{ByteOrder2}
use Rattle.patch_bytes.specs.declared.number.ByteOrder2.TheVariants.{Big, Little}
use Rattle.patch_bytes.specs.declared.number.Wide.{Wide}
use Rattle.patch_bytes.specs.declared.number.Wide.TheVariants.{W32, W64}
use Rattle.elf_format.specs.declared.form.Form.{Form}
use Rattle.elf_format.specs.declared.records.FileHeader.{FileHeader}
use Rattle.elf_format.specs.declared.records.SectionHeader.{SectionHeader}
use Rattle.elf_format.specs.Records.{file_header_size}
use Rattle.elf_tables.specs.Fields.{do_fields_fit, does_field_fit}
use Rattle.elf_tables.specs.Spelled.{class_number, class_word, file_header_fields, order_number, section_fields}
use Rattle.elf_write_contents.specs.FitSteps.{do_words_fit, unnamed}

-- a number that fits
skip : (t b : Bool) → t ≡ true → (t && b) ≡ b
skip t b e = ap (λ (x : Bool). x && b) e

-- the rest alone
rest : (t b c : Bool) → b ≡ c → (t && b) ≡ (t && c)
rest t b c same = ap (λ (x : Bool). t && x) same

-- numbers of one byte, of two and of four fit
byte : (n : ℕ) → n < 2 ^ 8 → does_field_fit (1, n) ≡ true
byte n less = lt-ltb n (256 ^ 1) less

half : (n : ℕ) → n < 2 ^ 16 → does_field_fit (2, n) ≡ true
half n less = lt-ltb n (256 ^ 2) less

word : (n : ℕ) → n < 2 ^ 32 → does_field_fit (4, n) ≡ true
word n less = lt-ltb n (256 ^ 4) less

-- ## Section headers

pub section_words : (form : Form) (s : SectionHeader) → s.sh_name < 2 ^ 32 → s.sh_type < 2 ^ 32 → s.sh_link < 2 ^ 32 → s.sh_info < 2 ^ 32
    → do_words_fit form (s.sh_flags ∷ s.sh_addr ∷ s.sh_offset ∷ s.sh_size ∷ s.sh_addralign ∷ s.sh_entsize ∷ []) ≡ do_fields_fit (section_fields form s)
section_words form s name type link info =
    let fits : ℕ → Bool = λ n. does_field_fit (class_word form n) in
    sym (skip _ _ (word s.sh_name name) ∙ skip _ _ (word s.sh_type type)
    ∙ rest (fits s.sh_flags) _ _ (rest (fits s.sh_addr) _ _ (rest (fits s.sh_offset) _ _ (rest (fits s.sh_size) _ _
    (skip _ _ (word s.sh_link link) ∙ skip _ _ (word s.sh_info info))))))

pub unnamed_words : (form : Form) (s : SectionHeader) → s.sh_type < 2 ^ 32 → s.sh_link < 2 ^ 32 → s.sh_info < 2 ^ 32
    → do_words_fit form (s.sh_flags ∷ s.sh_addr ∷ s.sh_offset ∷ s.sh_size ∷ s.sh_addralign ∷ s.sh_entsize ∷ []) ≡ do_fields_fit (section_fields form (unnamed s))
unnamed_words form s type link info = section_words form (unnamed s) (omega arith) type link info

-- ## The file header

class_fits : (wide : Wide) → does_field_fit (1, class_number wide) ≡ true
class_fits W32 = refl
class_fits W64 = refl

order_fits : (order : ByteOrder2) → does_field_fit (1, order_number order) ≡ true
order_fits Little = refl
order_fits Big = refl

size_fits : (wide : Wide) (order : ByteOrder2) → does_field_fit (2, file_header_size (record { wide = wide; order = order })) ≡ true
size_fits W32 order = refl
size_fits W64 order = refl

-- each number of one or two bytes fits
pub record AreSmall (h : FileHeader) : Type 0 where
  pub os_abi : h.os_abi < 2 ^ 8
  pub abi_version : h.abi_version < 2 ^ 8
  pub type : h.e_type < 2 ^ 16
  pub machine : h.e_machine < 2 ^ 16
  pub flags : h.e_flags < 2 ^ 32
  pub phentsize : h.e_phentsize < 2 ^ 16
  pub phnum : h.e_phnum < 2 ^ 16
  pub shentsize : h.e_shentsize < 2 ^ 16
  pub shnum : h.e_shnum < 2 ^ 16
  pub shstrndx : h.e_shstrndx < 2 ^ 16

with_small : (form : Form) (h : FileHeader) → AreSmall h
    → do_words_fit form (h.e_entry ∷ h.e_phoff ∷ h.e_shoff ∷ []) ≡ do_fields_fit (file_header_fields form h)
with_small form h small =
    let fits : ℕ → Bool = λ n. does_field_fit (class_word form n) in
    sym (skip _ _ (class_fits form.wide) ∙ skip _ _ (order_fits form.order)
    ∙ skip _ _ (byte h.os_abi small.os_abi) ∙ skip _ _ (byte h.abi_version small.abi_version)
    ∙ skip _ _ (half h.e_type small.type) ∙ skip _ _ (half h.e_machine small.machine)
    ∙ rest (fits h.e_entry) _ _ (rest (fits h.e_phoff) _ _ (rest (fits h.e_shoff) _ _
    (skip _ _ (word h.e_flags small.flags) ∙ skip _ _ (size_fits form.wide form.order)
    ∙ skip _ _ (half h.e_phentsize small.phentsize) ∙ skip _ _ (half h.e_phnum small.phnum) ∙ skip _ _ (half h.e_shentsize small.shentsize)
    ∙ skip _ _ (half h.e_shnum small.shnum) ∙ skip _ _ (half h.e_shstrndx small.shstrndx)))))

pub header_words : (form : Form) (h : FileHeader) → h.os_abi < 2 ^ 8 → h.abi_version < 2 ^ 8 → h.e_type < 2 ^ 16 → h.e_machine < 2 ^ 16
    → h.e_flags < 2 ^ 32 → h.e_phentsize < 2 ^ 16 → h.e_phnum < 2 ^ 16 → h.e_shentsize < 2 ^ 16 → h.e_shnum < 2 ^ 16 → h.e_shstrndx < 2 ^ 16
    → do_words_fit form (h.e_entry ∷ h.e_phoff ∷ h.e_shoff ∷ []) ≡ do_fields_fit (file_header_fields form h)
header_words form h abi version type machine flags phentsize phnum shentsize shnum shstrndx =
    with_small form h (record {
      os_abi = abi;
      abi_version = version;
      type = type;
      machine = machine;
      flags = flags;
      phentsize = phentsize;
      phnum = phnum;
      shentsize = shentsize;
      shnum = shnum;
      shstrndx = shstrndx;
    })
