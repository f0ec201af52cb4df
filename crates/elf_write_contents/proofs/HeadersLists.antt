-- Lists on the way to the section headers: symbols up to the last local one, headers that are made one by one, and a number that doesn't fit.
use Rattle.std.proofs.Common.{◌≡◌, ℕ, zero, suc, ◌+◌, ◌<◌, ◌≤◌, ◌^◌, ◌⊎◌, Bool, true, false, ◌&&◌, cond, List, [], ◌∷◌, ◌++◌, length, take, refl, sym, ap, ◌∙◌, subst, inl, inr, Some, arith}
use Rattle.std.specs.Prelude.{if◌then◌else◌, not, ◌==◌, nat_lt}
use Rattle.std.specs.List.{list_all, slice_get}
use Rattle.std.proofs.lemmas.Bool.{and_left, and_right, le-ltb, ne_eqb}
use Rattle.std.proofs.lemmas.List.{length-take-le, length_push, take_more}
use Rattle.std.proofs.lemmas.Option.{get_or_from_slice_get, none-some, same_Some, slice_get_within}
use Rattle.elf_format.specs.declared.form.Form.{Form}
use Rattle.elf_format.specs.declared.records.SectionHeader.{SectionHeader}
use Rattle.elf_format.specs.Dynamic.{Entry}
use Rattle.elf_format.specs.Image.{Image}
use Rattle.elf_format.specs.Options.{list_at}
use Rattle.elf_format.specs.Places.{Place}
use Rattle.elf_format.specs.Views.{NamedSymbol}
use Rattle.elf_tables.specs.Fields.{do_fields_fit, does_field_fit}
use Rattle.elf_tables.specs.Spelled.{class_word, file_header_fields, section_fields, segment_fields}
use Rattle.elf_write_symbol_tables.specs.Found.{is_local}
use Rattle.elf_image.specs.Kept.{KeptSection, kept_sections}
use Rattle.elf_layout_plan.specs.Memory.{Resized}
use Rattle.elf_layout_plan.specs.Plan.{Plan, resized}
use Rattle.elf_write_spec.specs.Final.{final}
use Rattle.elf_write_spec.specs.Headers.{IsHeaderOf, behind_locals, written_header, written_info, written_section}
use Rattle.elf_write_contents.specs.HeaderSteps.{AreMade, IsHeaderAt}
use Rattle.elf_write_contents.specs.Inner.{AreHeaders}
use Rattle.elf_write_contents.specs.Numbers.{do_header_numbers_fit, do_numbers_fit, do_sections_fit, does_entry_fit}
use Rattle.elf_write_contents.proofs.NumbersUnfit.{headers_unfit}

-- ## Behind the last local symbol

-- what a symbol makes of those behind it
before : NamedSymbol → ℕ → ℕ
before y behind = if not (behind == 0) then behind + 1 else if is_local y then 1 else 0

behind_last : (xs : List NamedSymbol) (y : NamedSymbol) (b : Bool) → is_local y ≡ b
    → behind_locals (xs ++ y ∷ []) ≡ cond b (length xs + 1) (behind_locals xs)
unfolding behind_locals before
behind_last [] y b is = ap (λ (c : Bool). cond c 1 0) is
behind_last (x ∷ xs) y true is =
    ap (before x) (behind_last xs y true is)
    ∙ ap (λ (c : Bool). if not c then length xs + 1 + 1 else if is_local x then 1 else 0) (ne_eqb (length xs + 1) 0 (λ e. omega (arith, e)))
    ∙ omega arith
behind_last (x ∷ xs) y false is = ap (before x) (behind_last xs y false is)

pub behind_more : (ys : List NamedSymbol) (i : ℕ) (y : NamedSymbol) (b : Bool) → slice_get ys i ≡ Some y → is_local y ≡ b
    → behind_locals (take (i + 1) ys) ≡ cond b (i + 1) (behind_locals (take i ys))
behind_more ys i y b at is =
    let within : i < length ys = slice_get_within ys i y at in
    let taken : take (i + 1) ys ≡ take i ys ++ y ∷ [] =
    take_more ys i y within ∙ ap (λ (x : NamedSymbol). take i ys ++ x ∷ []) (get_or_from_slice_get ys i y y at) in
    ap behind_locals taken ∙ behind_last (take i ys) y b is
    ∙ ap (λ (n : ℕ). cond b (n + 1) (behind_locals (take i ys))) (length-take-le i ys (omega (arith, within)))

-- ## Headers, one by one

-- an element of a list behind which another was put
pushed : (hs : List SectionHeader) (h : SectionHeader) (j : ℕ) (x : SectionHeader) → slice_get (hs ++ h ∷ []) j ≡ Some x
    → (slice_get hs j ≡ Some x) ⊎ ((j ≡ length hs) × (h ≡ x))
pushed [] h zero x at = inr (refl, same_Some h x at)
pushed [] h (suc j) x at = absurd (none-some x at)
pushed (g ∷ hs) h zero x at = inl at
pushed (g ∷ hs) h (suc j) x at = elim (pushed hs h j x at) [ inl old ↦ inl old | inr last ↦ inr (ap suc last.0, last.1) ]

module _ (r : Resized) (names : List ℕ) (ss : List KeptSection) (ps : List Place) where
  pub made_more : (hs more : List SectionHeader) (i : ℕ) (h : SectionHeader) → AreMade r names ss ps hs i → IsHeaderAt r names ss ps i h
      → more ≡ hs ++ h ∷ [] → AreMade r names ss ps more (i + 1)
  made_more hs more i h made here is_more = record {
    count = ap length is_more ∙ length_push hs h ∙ ap (λ (n : ℕ). n + 1) made.count;
    each = λ j x at. elim (pushed hs h j x (ap (λ (l : List SectionHeader). slice_get l j) (sym is_more) ∙ at)) [
      | inl old ↦ made.each j x old
      | inr last ↦
          let own : i ≡ j = omega (arith, last.0, made.count) in
          subst (λ (y : SectionHeader). IsHeaderAt r names ss ps j y) last.1
          (subst (λ (k : ℕ). IsHeaderAt r names ss ps k h) own here)
    ];
  }

pub made_all : (r : Resized) (names : List ℕ) (ss : List KeptSection) (ps : List Place) (hs : List SectionHeader)
    → length ps ≡ length ss → AreMade r names ss ps hs (length ss) → AreHeaders r names ss ps hs
made_all r names ss ps hs long made = by_position ss ps hs long made.count made.each
  where
    by_position : (ss : List KeptSection) (ps : List Place) (hs : List SectionHeader) → length ps ≡ length ss → length hs ≡ length ss
        → ((j : ℕ) (h : SectionHeader) → slice_get hs j ≡ Some h → IsHeaderAt r names ss ps j h) → AreHeaders r names ss ps hs
    by_position [] [] [] long count each = tt
    by_position [] [] (h ∷ hs) long count each = absurd (omega (arith, count))
    by_position [] (p ∷ ps) hs long count each = absurd (omega (arith, long))
    by_position (s ∷ ss) [] hs long count each = absurd (omega (arith, long))
    by_position (s ∷ ss) (p ∷ ps) [] long count each = absurd (omega (arith, count))
    by_position (s ∷ ss) (p ∷ ps) (h ∷ hs) long count each =
        let (k, q, k_at, q_at, is) = each zero h refl in
        let is_here : IsHeaderOf r names s.section q h =
        subst (λ (x : KeptSection). IsHeaderOf r names x.section q h) (sym (same_Some s k k_at)) is in (
          subst (λ (x : Place). IsHeaderOf r names s.section x h) (sym (same_Some p q q_at)) is_here,
          by_position ss ps hs (omega (arith, long)) (omega (arith, count)) (λ j x at. each (suc j) x at),
        )

-- ## A number that doesn't fit

fields_far : (fs gs : List (ℕ × ℕ)) (n : ℕ) → 2 ^ 32 ≤ n → do_fields_fit (fs ++ (4, n) ∷ gs) ≡ false
fields_far [] gs n far = and_left (nat_lt n (256 ^ 4)) (do_fields_fit gs) (le-ltb n (256 ^ 4) far)
fields_far (f ∷ fs) gs n far = and_right (does_field_fit f) (do_fields_fit (fs ++ (4, n) ∷ gs)) (fields_far fs gs n far)

-- a section header of which sh_info doesn't fit
header_far : (form : Form) (h : SectionHeader) → 2 ^ 32 ≤ h.sh_info → do_fields_fit (section_fields form h) ≡ false
header_far form h far =
    fields_far
    ((4, h.sh_name) ∷ (4, h.sh_type) ∷ class_word form h.sh_flags ∷ class_word form h.sh_addr ∷ class_word form h.sh_offset
    ∷ class_word form h.sh_size ∷ (4, h.sh_link) ∷ [])
    (class_word form h.sh_addralign ∷ class_word form h.sh_entsize ∷ []) h.sh_info far

pub far_section : (r : Resized) (ss : List KeptSection) (ps : List Place) (i : ℕ) (s : KeptSection) (p : Place)
    → slice_get ss i ≡ Some s → slice_get ps i ≡ Some p → 2 ^ 32 ≤ written_info r.read r.image s.section → do_sections_fit r ss ps ≡ false
far_section r [] ps i s p s_at p_at far = absurd (none-some s s_at)
far_section r (k ∷ ss) [] i s p s_at p_at far = absurd (none-some p p_at)
far_section r (k ∷ ss) (q ∷ ps) zero s p s_at p_at far =
    and_left (do_fields_fit (section_fields r.image.form (written_section r k.section q 0))) (do_sections_fit r ss ps)
    (header_far r.image.form (written_section r k.section q 0)
    (subst (λ (x : KeptSection). 2 ^ 32 ≤ written_info r.read r.image x.section) (sym (same_Some k s s_at)) far))
far_section r (k ∷ ss) (q ∷ ps) (suc i) s p s_at p_at far =
    and_right (do_fields_fit (section_fields r.image.form (written_section r k.section q 0))) (do_sections_fit r ss ps)
    (far_section r ss ps i s p s_at p_at far)

far_headers : (image : Image) (plan : Plan) → do_sections_fit (resized image) (kept_sections image) plan.places ≡ false
    → do_header_numbers_fit image plan ≡ false
unfolding do_header_numbers_fit
far_headers image plan far =
    let r : Resized = resized image in
    let entries : Bool = list_all (does_entry_fit r plan) (list_at (λ (es : List Entry). es) (final r.read image).entries) in
    let headers : Bool =
    do_fields_fit (file_header_fields image.form (written_header image plan))
    && list_all (λ p. do_fields_fit (segment_fields image.form p)) plan.segments in
    and_left (headers && do_sections_fit r (kept_sections image) plan.places) entries
    (and_right headers (do_sections_fit r (kept_sections image) plan.places) far)

pub far_numbers : (image : Image) (plan : Plan) → do_sections_fit (resized image) (kept_sections image) plan.places ≡ false
    → do_numbers_fit image plan ≡ false
far_numbers image plan far = headers_unfit image plan (far_headers image plan far)
