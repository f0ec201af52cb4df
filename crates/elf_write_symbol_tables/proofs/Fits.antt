-- Numbers of a record fit their fields: they were read from bytes.
use Rattle.std.proofs.Common.{◌≡◌, ◌<◌, ◌≤◌, ◌^◌, ◌*◌, ◌/◌, ℕ, true, List, [], ◌∷◌, length, refl, Some, arith, le-div_iff_mul-le}
use Rattle.std.specs.Prelude.{nat_lt}
use Rattle.std.specs.List.{slice_get}
use Rattle.std.proofs.lemmas.Bool.{and_from, and_parts, lt-ltb, ltb-true}
use Rattle.patch_bytes.specs.Bytes.{AreBytes}
use Rattle.patch_bytes.specs.Number.{field, number_at}
use Rattle.patch_bytes.specs.declared.number.ByteOrder2.{ByteOrder2}
use Rattle.patch_bytes.specs.declared.number.Wide.{Wide}
use Rattle.patch_bytes.specs.declared.number.Wide.TheVariants.{W32, W64}
use Rattle.patch_bytes.proofs.NumberLaws.{AreBytes-drop, AreBytes-take}
use Rattle.elf_format.specs.declared.form.Form.{Form}
use Rattle.elf_format.specs.Records.{symbol_numbers, symbol_size, symbols_in}
use Rattle.elf_format.proofs.ForCallers.Lengths.{length-records}
use Rattle.elf_format.proofs.ForCallers.NumberSteps.{number_at-below}
use Rattle.elf_tables.specs.Fields.{do_fields_fit}
use Rattle.elf_tables.specs.Spelled.{symbol_fields}
use Rattle.elf_write_symbols.proofs.ForCallers.HeaderTables.{records-at}

six_fit : (a b c d e g : ℕ × ℕ) → a.1 < 256 ^ a.0 → b.1 < 256 ^ b.0 → c.1 < 256 ^ c.0 → d.1 < 256 ^ d.0 → e.1 < 256 ^ e.0 → g.1 < 256 ^ g.0
    → do_fields_fit (a ∷ b ∷ c ∷ d ∷ e ∷ g ∷ []) ≡ true
six_fit a b c d e g ha hb hc hd he hg =
    and_from _ _ (lt-ltb a.1 (256 ^ a.0) ha)
    (and_from _ _ (lt-ltb b.1 (256 ^ b.0) hb)
    (and_from _ _ (lt-ltb c.1 (256 ^ c.0) hc)
    (and_from _ _ (lt-ltb d.1 (256 ^ d.0) hd)
    (and_from _ _ (lt-ltb e.1 (256 ^ e.0) he)
    (and_from _ _ (lt-ltb g.1 (256 ^ g.0) hg) refl)))))

form_of : Wide → ByteOrder2 → Form
form_of wide order = record { wide = wide; order = order }

-- numbers that are read from bytes
read_fits : (wide : Wide) (order : ByteOrder2) (part : List ℕ) → AreBytes part
    → do_fields_fit (symbol_fields (form_of wide order) (symbol_numbers (form_of wide order) part)) ≡ true
unfolding symbol_numbers form_of
read_fits W32 order part are =
    let field : ℕ → ℕ → ℕ × ℕ = λ n pos. (n, number_at order n pos part) in
    let below = λ (n pos : ℕ). number_at-below order n pos part are in
    six_fit (field 4 0) (field 4 4) (field 4 8) (field 1 12) (field 1 13) (field 2 14)
    (below 4 0) (below 4 4) (below 4 8) (below 1 12) (below 1 13) (below 2 14)
read_fits W64 order part are =
    let field : ℕ → ℕ → ℕ × ℕ = λ n pos. (n, number_at order n pos part) in
    let below = λ (n pos : ℕ). number_at-below order n pos part are in
    six_fit (field 4 0) (field 1 4) (field 1 5) (field 2 6) (field 8 8) (field 8 16)
    (below 4 0) (below 1 4) (below 1 5) (below 2 6) (below 8 8) (below 8 16)

-- one number that fits, and the rest
first_fits : (a : ℕ × ℕ) (fs : List (ℕ × ℕ)) → do_fields_fit (a ∷ fs) ≡ true → (a.1 < 256 ^ a.0) × (do_fields_fit fs ≡ true)
first_fits a fs h =
    let both = and_parts (nat_lt a.1 (256 ^ a.0)) (do_fields_fit fs) h in
    (ltb-true a.1 (256 ^ a.0) both.0, both.1)

record SixFit (a b c d e g : ℕ × ℕ) : Type 0 where
  pub first : a.1 < 256 ^ a.0
  pub second : b.1 < 256 ^ b.0
  pub third : c.1 < 256 ^ c.0
  pub fourth : d.1 < 256 ^ d.0
  pub fifth : e.1 < 256 ^ e.0
  pub sixth : g.1 < 256 ^ g.0

six_parts : (a b c d e g : ℕ × ℕ) → do_fields_fit (a ∷ b ∷ c ∷ d ∷ e ∷ g ∷ []) ≡ true → SixFit a b c d e g
six_parts a b c d e g fits =
    let (first, one) = first_fits a (b ∷ c ∷ d ∷ e ∷ g ∷ []) fits in
    let (second, two) = first_fits b (c ∷ d ∷ e ∷ g ∷ []) one in
    let (third, three) = first_fits c (d ∷ e ∷ g ∷ []) two in
    let (fourth, four) = first_fits d (e ∷ g ∷ []) three in
    let (fifth, five) = first_fits e (g ∷ []) four in
    let (sixth, _) = first_fits g [] five in
    record { first = first; second = second; third = third; fourth = fourth; fifth = fifth; sixth = sixth }

-- ## The record at a position

pub length-symbols : (form : Form) (bytes : List ℕ) → length (symbols_in form bytes) ≡ length bytes / symbol_size form
length-symbols form bytes = length-records (symbol_numbers form) (symbol_size form) (length bytes / symbol_size form) bytes

-- the record at a position begins in the bytes
pub record_begins : (form : Form) (bytes : List ℕ) (number : ℕ) → 0 < symbol_size form → number < length (symbols_in form bytes)
    → number * symbol_size form ≤ length bytes
record_begins form bytes number some within =
    let less : number ≤ length bytes / symbol_size form = omega (arith, within, length-symbols form bytes) in
    (le-div_iff_mul-le some).0 less

pub symbol_at : (form : Form) (bytes : List ℕ) (number : ℕ) → number < length (symbols_in form bytes)
    → slice_get (symbols_in form bytes) number ≡ Some (symbol_numbers form (field (symbol_size form) (number * symbol_size form) bytes))
symbol_at form bytes number within =
    records-at (symbol_numbers form) (symbol_size form) (length bytes / symbol_size form) number bytes
    (omega (arith, within, length-symbols form bytes))

pub record_fits : (form : Form) (bytes : List ℕ) (place : ℕ) → AreBytes bytes
    → do_fields_fit (symbol_fields form (symbol_numbers form (field (symbol_size form) place bytes))) ≡ true
unfolding form_of
record_fits form bytes place are =
    read_fits form.wide form.order (field (symbol_size form) place bytes) (AreBytes-take (symbol_size form) _ (AreBytes-drop place bytes are))
