-- Numbers end to end: how long they are, and that each is read back.
use Rattle.std.proofs.Common.{◌≡◌, ℕ, zero, suc, ◌+◌, ◌^◌, ◌<◌, true, List, [], ◌∷◌, ◌++◌, length, take, map, refl, sym, ap, ◌∙◌, arith}
use Rattle.std.proofs.lemmas.Bool.{and_parts, ltb-true}
use Rattle.std.specs.Prelude.{Err, Ok, OnOk, Result, get_or}
use Rattle.std.proofs.lemmas.List.{append_assoc, append-nil, length-append, map-append, take_more}
use Rattle.patch_bytes.specs.declared.number.ByteOrder2.{ByteOrder2}
use Rattle.patch_bytes.specs.declared.number.ByteOrder2.TheVariants.{Big, Little}
use Rattle.patch_bytes.specs.Number.{bytes_of, number_at}
use Rattle.patch_bytes.proofs.NumberLaws.{length-bytes_of, number_at-append_right, number_at-bytes_of}
use Rattle.elf_tables.specs.Fields.{do_fields_fit, does_field_fit, fields, widths}

-- ## How long they are

pub length-fields : (order : ByteOrder2) (fs : List (ℕ × ℕ)) → length (fields order fs) ≡ widths fs
length-fields order [] = refl
length-fields order (f ∷ fs) =
    length-append (bytes_of order f.0 f.1) (fields order fs) ∙ omega (arith, length-bytes_of order f.0 f.1, length-fields order fs)

-- ## Each is read back

-- the number with that position, 0 in no bytes where there is none
unfoldable pub nth : List (ℕ × ℕ) → ℕ → ℕ × ℕ
nth [] i = (0, 0)
nth (f ∷ fs) zero = f
nth (f ∷ fs) (suc i) = nth fs i

pub number_at-none : (order : ByteOrder2) (pos : ℕ) (bytes : List ℕ) → number_at order 0 pos bytes ≡ 0
unfolding number_at
number_at-none Little pos bytes = refl
number_at-none Big pos bytes = refl

pub read_nth : (order : ByteOrder2) (fs : List (ℕ × ℕ)) (i : ℕ) (rest : List ℕ) → do_fields_fit fs ≡ true
    → number_at order (nth fs i).0 (widths (take i fs)) (fields order fs ++ rest) ≡ (nth fs i).1
unfolding nth
read_nth order [] i rest fit = number_at-none order (widths (take i [])) rest
read_nth order (f ∷ fs) zero rest fit =
    let fits = ltb-true f.1 (256 ^ f.0) (and_parts (does_field_fit f) (do_fields_fit fs) fit).0 in
    ap (number_at order f.0 0) (append_assoc (bytes_of order f.0 f.1) (fields order fs) rest)
    ∙ number_at-bytes_of order f.0 f.1 (fields order fs ++ rest) fits
read_nth order (f ∷ fs) (suc i) rest fit =
    let others = (and_parts (does_field_fit f) (do_fields_fit fs) fit).1 in
    ap (number_at order (nth fs i).0 (f.0 + widths (take i fs))) (append_assoc (bytes_of order f.0 f.1) (fields order fs) rest)
    ∙ number_at-append_right order (nth fs i).0 f.0 (widths (take i fs)) (bytes_of order f.0 f.1) (fields order fs ++ rest) (length-bytes_of order f.0 f.1)
    ∙ read_nth order fs i rest others

-- ## One more number

pub fields-append : (order : ByteOrder2) (fs gs : List (ℕ × ℕ)) → fields order (fs ++ gs) ≡ fields order fs ++ fields order gs
fields-append order [] gs = refl
fields-append order (f ∷ fs) gs =
    ap (λ bytes. bytes_of order f.0 f.1 ++ bytes) (fields-append order fs gs) ∙ sym (append_assoc (bytes_of order f.0 f.1) (fields order fs) (fields order gs))

pub fields_more : {A : Type 0} → (seen : A → ℕ × ℕ) (order : ByteOrder2) (items was now : List ℕ) (numbers : List A) (i : ℕ) (d : A) → i < length numbers
    → was ≡ items ++ fields order (map seen (take i numbers))
    → now ≡ was ++ bytes_of order (seen (get_or numbers i d)).0 (seen (get_or numbers i d)).1
    → now ≡ items ++ fields order (map seen (take (i + 1) numbers))
fields_more seen order items was now numbers i d inside before step =
    let made = fields order (map seen (take i numbers)) in
    let more : List ℕ = bytes_of order (seen (get_or numbers i d)).0 (seen (get_or numbers i d)).1 in
    let all : fields order (map seen (take (i + 1) numbers)) ≡ made ++ (more ++ []) =
    ap (λ l. fields order (map seen l)) (take_more numbers i d inside)
    ∙ ap (fields order) (map-append seen (take i numbers) (get_or numbers i d ∷ []))
    ∙ fields-append order (map seen (take i numbers)) (seen (get_or numbers i d) ∷ []) in
    step ∙ ap (λ l. l ++ more) before ∙ append_assoc items made more
    ∙ ap (λ l. items ++ l) (sym (all ∙ ap (λ l. made ++ l) (append-nil more)))

-- ## Numbers behind numbers

both : (order : ByteOrder2) (items was now : List ℕ) (fs gs : List (ℕ × ℕ)) → was ≡ items ++ fields order fs → now ≡ was ++ fields order gs
    → now ≡ items ++ fields order (fs ++ gs)
both order items was now fs gs before step =
    step ∙ ap (λ l. l ++ fields order gs) before ∙ append_assoc items (fields order fs) (fields order gs)
    ∙ ap (λ l. items ++ l) (sym (fields-append order fs gs))

pub both_pushed : {T E : Type 0} → (order : ByteOrder2) (items was now : List ℕ) (fs gs : List (ℕ × ℕ)) (result : Result T E) → was ≡ items ++ fields order fs
    → OnOk result (now ≡ was ++ fields order gs) → OnOk result (now ≡ items ++ fields order (fs ++ gs))
both_pushed order items was now fs gs (Ok x) before step = both order items was now fs gs before step
both_pushed order items was now fs gs (Err e) before step = step
