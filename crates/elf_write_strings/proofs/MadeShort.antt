-- String tables that are there are so long that their new size fits with the offsets of their texts.
use Rattle.std.proofs.Common.{◌≡◌, ◌≤◌, ◌<◌, ◌^◌, ℕ, Bool, true, false, List, refl, sym, ap, ◌∙◌, subst, Some, arith}
use Rattle.std.specs.Prelude.{◌||◌, not, ◌==◌, nat_le, if◌then◌else◌}
use Rattle.std.specs.List.{list_all, slice_get}
use Rattle.std.proofs.lemmas.Bool.{and_parts, eq-eqb, false≢true, leb-true}
use Rattle.elf_format.specs.declared.constants.TheConstants.{SHT_STRTAB}
use Rattle.elf_format.specs.Image.{Image}
use Rattle.elf_format.proofs.ForCallers.Placed.{IsIn-slice_get}
use Rattle.elf_image.specs.Kept.{KeptSection, image_at_read, kept_sections}
use Rattle.elf_layout_plan.specs.Sizes.{do_texts_fit, strings_size, table_size}
use Rattle.elf_layout_plan.specs.Texts.{is_table_copied, texts_in_use}
use Rattle.elf_tables.specs.Strings.{table_length}
use Rattle.elf_layout_sizes.specs.MadeTables.{IsTooLong}
use Rattle.elf_write_spec.specs.Ready.{IsEditedReady}
use Rattle.elf_write_spec.proofs.ForCallers.NumberedSections.{kept_as}
use Rattle.elf_write_spec.proofs.ForCallers.WholeEdits.{ReadFacts, read_facts}
use Rattle.elf_write_strings.proofs.ReadTables.{ready_edit}
use Rattle.elf_write_strings.specs.WrittenStrings.{IsEditedTable}
use Rattle.elf_write_strings.proofs.TablesThere.{TableThere, edited_there}

pub all_at : {A : Type 0} (test : A → Bool) (xs : List A) (i : ℕ) (x : A) → list_all test xs ≡ true → slice_get xs i ≡ Some x → test x ≡ true
all_at test xs i x all at = (IsIn-slice_get xs i x at).passes test all

-- the texts of a string table that is made anew fit
long_size : (read image : Image) (s : KeptSection) → s.section.sh_type ≡ SHT_STRTAB → is_table_copied read image s.number ≡ false
    → do_texts_fit read image s ≡ true → table_length (texts_in_use read image s.number) ≤ 2 ^ 32
long_size read image s type anew fit =
    let size : table_size read image s ≡ table_length (texts_in_use read image s.number) =
    of_type s.section.sh_type (sym type) ∙ ap (λ (b : Bool). if b then s.section.sh_size else table_length (texts_in_use read image s.number)) anew in
    let few : nat_le (table_length (texts_in_use read image s.number)) (2 ^ 32) ≡ true =
    ap (λ (n : ℕ). nat_le n (2 ^ 32)) (sym size)
    ∙ by_tests (s.section.sh_type == SHT_STRTAB) (is_table_copied read image s.number) (nat_le (table_size read image s) (2 ^ 32))
    (eq-eqb s.section.sh_type SHT_STRTAB type) anew fit in
    leb-true (table_length (texts_in_use read image s.number)) (2 ^ 32) few
  where
    by_tests : (typed copied fits : Bool) → typed ≡ true → copied ≡ false → (not typed || copied || fits) ≡ true → fits ≡ true
    by_tests true false fits _ _ h = h
    by_tests true true fits _ e h = absurd (false≢true (sym e))
    by_tests false copied fits e _ h = absurd (false≢true e)

    of_type : (n : ℕ) → SHT_STRTAB ≡ n → table_size read image (record s { section = record s.section { sh_type = n } }) ≡ strings_size read image s
    of_type n same = subst (λ (m : ℕ). table_size read image (record s { section = record s.section { sh_type = m } }) ≡ strings_size read image s) same refl

too_long : (m n : ℕ) → n < m → m ≤ n → ⊥
too_long m n past fits = omega (arith, past, fits)

-- the sizes of the image fit
pub never_long : (read image : Image) (number : ℕ) → IsEditedReady read image → (f : ReadFacts read image) → TableThere read image f.parts number
    → IsTooLong read image number → ⊥
never_long read image number is f t long =
    let s : KeptSection = kept_as t.i t.at.number t.at.section in
    let sized : list_all (do_texts_fit (image_at_read image) image) (kept_sections image) ≡ true = (and_parts _ _ is.sized).1 in
    let all : list_all (do_texts_fit read image) (kept_sections image) ≡ true =
    ap (λ (r : Image). list_all (do_texts_fit r image) (kept_sections image)) is.at_read ∙ sized in
    let fit : do_texts_fit read image s ≡ true = all_at (do_texts_fit read image) (kept_sections image) t.i s all t.at.is_kept in
    let own : IsTooLong read image s.number = subst (IsTooLong read image) (sym t.is_number) long in
    too_long (table_length (texts_in_use read image s.number)) (2 ^ 32) own.long (long_size read image s t.type own.anew fit)

pub never_too_long : (read image : Image) (number : ℕ) → IsEditedReady read image → IsEditedTable image number
    → IsTooLong read image number → ⊥
never_too_long read image number is edited long =
    let f = read_facts read image (ready_edit is) in
    never_long read image number is f (edited_there read image f number edited) long
