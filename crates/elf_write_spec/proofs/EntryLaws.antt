-- A relocation whose second word is another: what it shows, and which of its bytes stay.
use Rattle.std.proofs.Common.{◌≡◌, ℕ, ◌+◌, ◌-◌, ◌*◌, ◌/◌, ◌%◌, ◌^◌, ◌≤◌, ◌<◌, List, ◌++◌, length, take, drop, get_or, refl, sym, ap, ◌∙◌, subst, inl, inr, Option, Some, None, Result, Ok, Err, arith}
use Rattle.std.specs.Prelude.{◌==◌, if◌then◌else◌, OnOk, is_ok}
use Rattle.std.proofs.lemmas.Bool.{cases_lt}
use Rattle.std.proofs.lemmas.List.{append_assoc, get_or-append_right, get_or-drop, get_or-take, get_or_append_left, length-take-le}
use Rattle.std.proofs.lemmas.Nat.{div-mul-add, mod-mul-add, mod_below}
use Rattle.patch_bytes.specs.declared.number.ByteOrder2.{ByteOrder2}
use Rattle.patch_bytes.specs.declared.number.Wide.{Wide}
use Rattle.patch_bytes.specs.declared.number.Wide.TheVariants.{W32, W64}
use Rattle.patch_bytes.specs.Number.{bytes_of, number_at, with_number, word_size}
use Rattle.patch_bytes.proofs.NumberLaws.{length-bytes_of, length-with_number, number_at-append_left, number_at-append_right, number_at-bytes_of, number_at-drop, number_at-take}
use Rattle.elf_format.specs.declared.constants.TheConstants.{SHT_RELA}
use Rattle.elf_format.specs.declared.form.Form.{Form}
use Rattle.elf_format.specs.Records.{Relocation, relocation, relocation_size}
use Rattle.elf_write_spec.specs.Renumbered.{new_symbol, renumbered, symbol_limit}
use Rattle.elf_write_spec.specs.Steps.{new_info, symbol_in}

-- ## Three words, of which the second is another

module _ (order : ByteOrder2) (w x : ℕ) (entry : List ℕ) (long : w + w ≤ length entry) where
  -- what stands behind the first word
  behind : List ℕ
  behind = bytes_of order w x ++ drop (w + w) entry

  laid : with_number order w w x entry ≡ take w entry ++ behind
  unfolding with_number behind
  laid = refl

  front : length (take w entry) ≡ w
  front = length-take-le w entry (omega arith)

  first : number_at order w 0 (with_number order w w x entry) ≡ number_at order w 0 entry
  first =
      ap (number_at order w 0) laid ∙ number_at-append_left order w 0 (take w entry) behind (omega (arith, front))
      ∙ number_at-take order w w 0 entry (omega arith)

  -- what stands so far behind the first word
  back : (pos : ℕ) → number_at order w (w + pos) (with_number order w w x entry) ≡ number_at order w pos behind
  back pos = ap (number_at order w (w + pos)) laid ∙ number_at-append_right order w w pos (take w entry) behind front

  second : x < 256 ^ w → number_at order w w (with_number order w w x entry) ≡ x
  unfolding behind
  second fits =
      let here : w ≡ w + 0 = omega arith in
      ap (λ (p : ℕ). number_at order w p (with_number order w w x entry)) here ∙ back 0 ∙ number_at-bytes_of order w x (drop (w + w) entry) fits

  third : number_at order w (w + w) (with_number order w w x entry) ≡ number_at order w (w + w) entry
  unfolding behind
  third =
      let here : w ≡ w + 0 = omega arith in
      let there : w + w + 0 ≡ w + w = omega arith in
      back w ∙ ap (λ (p : ℕ). number_at order w p (bytes_of order w x ++ drop (w + w) entry)) here
      ∙ number_at-append_right order w w 0 (bytes_of order w x) (drop (w + w) entry) (length-bytes_of order w x)
      ∙ number_at-drop order w (w + w) 0 entry ∙ ap (λ (p : ℕ). number_at order w p entry) there

  -- each byte of the other words stays
  kept : (j : ℕ) → (w ≤ j → j < w + w → ⊥) → get_or (with_number order w w x entry) j 0 ≡ get_or entry j 0
  unfolding behind
  kept j out = elim (cases_lt j w) [
    | inl less ↦
        ap (λ (l : List ℕ). get_or l j 0) laid ∙ get_or_append_left (take w entry) behind 0 j (subst (λ n. j < n) (sym front) less) ∙ get_or-take w entry j 0 less
    | inr past ↦ elim (cases_lt j (w + w)) [
      | inl less ↦ absurd (out past less)
      | inr above ↦
          let at : w + w + (j - w - w) ≡ j = omega arith in
          ap (λ (l : List ℕ). get_or l j 0) laid ∙ get_or-append_right (take w entry) behind w j 0 front past
          ∙ get_or-append_right (bytes_of order w x) (drop (w + w) entry) w (j - w) 0 (length-bytes_of order w x) (omega arith)
          ∙ get_or-drop (w + w) entry (j - w - w) 0 ∙ ap (λ (k : ℕ). get_or entry k 0) at
    ]
  ]

-- the parts of an entry, one behind another
pub pushed_parts : {T E : Type 0} → (order : ByteOrder2) (w x : ℕ) (entry old one two new : List ℕ) (result : Result T E) → one ≡ old ++ take w entry → two ≡ one ++ bytes_of order w x
    → new ≡ (if is_ok result then two ++ drop (2 * w) entry else two) → OnOk result (new ≡ old ++ with_number order w w x entry)
unfolding with_number
pushed_parts order w x entry old one two new (Ok t) first second third =
    let twice : 2 * w ≡ w + w = omega arith in
    third ∙ ap (λ (n : ℕ). two ++ drop n entry) twice ∙ ap (λ (l : List ℕ). l ++ drop (w + w) entry) (second ∙ ap (λ (l : List ℕ). l ++ bytes_of order w x) first)
    ∙ append_assoc (old ++ take w entry) (bytes_of order w x) (drop (w + w) entry) ∙ append_assoc old (take w entry) (bytes_of order w x ++ drop (w + w) entry)
pushed_parts order w x entry old one two new (Err e) first second third = tt

-- ## What the relocation shows

-- two with the same numbers are the same
same : (x y : Relocation) → x.r_offset ≡ y.r_offset → x.r_symbol ≡ y.r_symbol → x.r_type ≡ y.r_type → x.r_addend ≡ y.r_addend → x ≡ y
same x y e0 e1 e2 e3 =
    ap {A = ℕ} {B = Relocation} (λ n. record { r_offset = n; r_symbol = x.r_symbol; r_type = x.r_type; r_addend = x.r_addend }) e0
    ∙ ap {A = ℕ} {B = Relocation} (λ n. record { r_offset = y.r_offset; r_symbol = n; r_type = x.r_type; r_addend = x.r_addend }) e1
    ∙ ap {A = ℕ} {B = Relocation} (λ n. record { r_offset = y.r_offset; r_symbol = y.r_symbol; r_type = n; r_addend = x.r_addend }) e2
    ∙ ap {A = Option ℕ} {B = Relocation} (λ n. record { r_offset = y.r_offset; r_symbol = y.r_symbol; r_type = y.r_type; r_addend = n }) e3

form_of : Wide → ByteOrder2 → Form
form_of wide order = record { wide = wide; order = order }

-- the relocation with the new number of its symbol
abbrev pub changed_entry : Form → List ℕ → List ℕ → List ℕ
changed_entry form numbers entry = with_number form.order (word_size form.wide) (word_size form.wide) (new_info form numbers entry) entry

module _ (order : ByteOrder2) (kind : ℕ) (numbers entry : List ℕ) where
  narrow : 8 ≤ length entry → new_symbol numbers (symbol_in (form_of W32 order) entry) < symbol_limit (form_of W32 order)
      → relocation (form_of W32 order) kind (changed_entry (form_of W32 order) numbers entry) ≡ renumbered (new_symbol numbers) (relocation (form_of W32 order) kind entry)
  unfolding relocation form_of
  narrow long fits =
      let info : ℕ = number_at order 4 4 entry in
      let symbol : ℕ = new_symbol numbers (info / 256) in
      let new : ℕ = symbol * 256 + info % 256 in
      let bytes : List ℕ = with_number order 4 4 new entry in
      let low : info % 256 < 256 = mod_below info 256 (omega arith) in
      let named : number_at order 4 4 bytes ≡ new = second order 4 new entry long (omega (arith, fits, low)) in
      same (relocation (form_of W32 order) kind bytes) (renumbered (new_symbol numbers) (relocation (form_of W32 order) kind entry))
      (first order 4 new entry long)
      (ap (λ (n : ℕ). n / 256) named ∙ div-mul-add symbol 256 (info % 256) low)
      (ap (λ (n : ℕ). n % 256) named ∙ mod-mul-add symbol 256 (info % 256) low)
      (ap (λ (n : ℕ). if kind == SHT_RELA then Some n else None) (third order 4 new entry long))

  wide : 16 ≤ length entry → new_symbol numbers (symbol_in (form_of W64 order) entry) < symbol_limit (form_of W64 order)
      → relocation (form_of W64 order) kind (changed_entry (form_of W64 order) numbers entry) ≡ renumbered (new_symbol numbers) (relocation (form_of W64 order) kind entry)
  unfolding relocation form_of
  wide long fits =
      let info : ℕ = number_at order 8 8 entry in
      let symbol : ℕ = new_symbol numbers (info / 0x100000000) in
      let new : ℕ = symbol * 0x100000000 + info % 0x100000000 in
      let bytes : List ℕ = with_number order 8 8 new entry in
      let low : info % 0x100000000 < 0x100000000 = mod_below info 0x100000000 (omega arith) in
      let named : number_at order 8 8 bytes ≡ new = second order 8 new entry long (omega (arith, fits, low)) in
      same (relocation (form_of W64 order) kind bytes) (renumbered (new_symbol numbers) (relocation (form_of W64 order) kind entry))
      (first order 8 new entry long)
      (ap (λ (n : ℕ). n / 0x100000000) named ∙ div-mul-add symbol 0x100000000 (info % 0x100000000) low)
      (ap (λ (n : ℕ). n % 0x100000000) named ∙ mod-mul-add symbol 0x100000000 (info % 0x100000000) low)
      (ap (λ (n : ℕ). if kind == SHT_RELA then Some n else None) (third order 8 new entry long))

both : (wide : Wide) (order : ByteOrder2) (kind : ℕ) (numbers entry : List ℕ) → word_size wide + word_size wide ≤ length entry
    → new_symbol numbers (symbol_in (form_of wide order) entry) < symbol_limit (form_of wide order)
    → relocation (form_of wide order) kind (changed_entry (form_of wide order) numbers entry) ≡ renumbered (new_symbol numbers) (relocation (form_of wide order) kind entry)
both W32 order kind numbers entry long fits = narrow order kind numbers entry long fits
both W64 order kind numbers entry long fits = wide order kind numbers entry long fits

-- a relocation has two words at least
two_words : (wide : Wide) (order : ByteOrder2) (kind : ℕ) → word_size wide + word_size wide ≤ relocation_size (form_of wide order) kind
unfolding form_of
two_words W32 order kind = grind arith
two_words W64 order kind = grind arith

room_for_info : (form : Form) (kind : ℕ) → word_size form.wide + word_size form.wide ≤ relocation_size form kind
unfolding form_of
room_for_info form kind = two_words form.wide form.order kind

pub two_words_there : (form : Form) (kind : ℕ) (entry : List ℕ) → length entry ≡ relocation_size form kind → 2 * word_size form.wide ≤ length entry
two_words_there form kind entry whole = omega (arith, room_for_info form kind, whole)

-- the symbol of the relocation in bytes
pub symbol_of : (form : Form) (kind : ℕ) (entry : List ℕ) → (relocation form kind entry).r_symbol ≡ symbol_in form entry
unfolding relocation
symbol_of form kind entry = refl

module _ (form : Form) (kind : ℕ) (numbers entry : List ℕ) (whole : length entry ≡ relocation_size form kind) where
  there : word_size form.wide + word_size form.wide ≤ length entry
  there = omega (arith, room_for_info form kind, whole)

  pub relocation-changed : new_symbol numbers (relocation form kind entry).r_symbol < symbol_limit form
      → relocation form kind (changed_entry form numbers entry) ≡ renumbered (new_symbol numbers) (relocation form kind entry)
  unfolding form_of
  relocation-changed fits =
      both form.wide form.order kind numbers entry there (subst (λ (n : ℕ). new_symbol numbers n < symbol_limit form) (symbol_of form kind entry) fits)

  pub length-changed_entry : length (changed_entry form numbers entry) ≡ length entry
  length-changed_entry = length-with_number form.order (word_size form.wide) (word_size form.wide) (new_info form numbers entry) entry there

  pub kept-changed_entry : (j : ℕ) → (word_size form.wide ≤ j → j < word_size form.wide + word_size form.wide → ⊥) → get_or (changed_entry form numbers entry) j 0 ≡ get_or entry j 0
  kept-changed_entry = kept form.order (word_size form.wide) (new_info form numbers entry) entry there
