-- A dynamic list that is spelled with zeros behind it is found by a reader.
use Rattle.std.proofs.Common.{◌≡◌, ◌≢◌, ◌≤◌, ◌<◌, ℕ, ◌+◌, ◌-◌, true, List, [], ◌∷◌, ◌++◌, length, take, drop, replicate, refl, sym, ap, ◌∙◌, arith, Option, Some, None}
use Rattle.std.specs.List.{flat_map, list_all}
use Rattle.std.proofs.lemmas.Bool.{and_parts}
use Rattle.std.proofs.lemmas.List.{append-nil, append_assoc, drop_at, length-append, length-replicate, take-replicate, take_at}
use Rattle.patch_bytes.specs.declared.number.ByteOrder2.{ByteOrder2}
use Rattle.patch_bytes.specs.declared.number.ByteOrder2.TheVariants.{Big, Little}
use Rattle.patch_bytes.specs.declared.number.Wide.{Wide}
use Rattle.patch_bytes.specs.declared.number.Wide.TheVariants.{W32, W64}
use Rattle.patch_bytes.specs.Memory.{memory_of}
use Rattle.patch_bytes.specs.Number.{number_at}
use Rattle.elf_format.specs.declared.form.Form.{Form}
use Rattle.elf_format.specs.Dynamic.{entries_at}
use Rattle.elf_format.specs.declared.records.EntryNumbers.{EntryNumbers}
use Rattle.elf_format.specs.Records.{entry_numbers, entry_size}
use Rattle.elf_format.proofs.ForCallers.EntrySteps.{entries_end, entries_goes}
use Rattle.elf_format.proofs.ForCallers.ReadingSteps.{with_front}
use Rattle.elf_layout_plan.specs.Fields.{do_fields_fit}
use Rattle.elf_layout_plan.specs.Spelled.{entry_fields, spelled_entry}
use Rattle.elf_layout_plan.proofs.ForCallers.EntryBack.{entries_are_read_back}
use Rattle.elf_layout_plan.proofs.ForCallers.ApartLists.{Each}

form_of : Wide → ByteOrder2 → Form
form_of wide order = record { wide = wide; order = order }

-- zeros are a DT_NULL
zeros-tag : (wide : Wide) (order : ByteOrder2) (n : ℕ) → entry_size (form_of wide order) ≤ n
    → (entry_numbers (form_of wide order) (take (entry_size (form_of wide order)) (replicate n 0))).d_tag ≡ 0
unfolding entry_numbers form_of number_at
zeros-tag W32 Little n h = ap (λ bytes. number_at Little 4 0 bytes) (take-replicate 8 n 0 h)
zeros-tag W32 Big n h = ap (λ bytes. number_at Big 4 0 bytes) (take-replicate 8 n 0 h)
zeros-tag W64 Little n h = ap (λ bytes. number_at Little 8 0 bytes) (take-replicate 16 n 0 h)
zeros-tag W64 Big n h = ap (λ bytes. number_at Big 8 0 bytes) (take-replicate 16 n 0 h)

module _ (form : Form) where
  null-tag : (n : ℕ) → entry_size form ≤ n → (entry_numbers form (take (entry_size form) (replicate n 0))).d_tag ≡ 0
  unfolding form_of
  null-tag n h = zeros-tag form.wide form.order n h

  -- an entry that stands first is read first, and what is behind it is left
  first-entry : (e : EntryNumbers) (more : List ℕ) → do_fields_fit (entry_fields form e) ≡ true
      → (entry_numbers form (take (entry_size form) (spelled_entry form e ++ more)) ≡ e) ×
      (drop (entry_size form) (spelled_entry form e ++ more) ≡ more)
  first-entry e more fits =
      let back = entries_are_read_back form in (
        ap (entry_numbers form) (take_at (spelled_entry form e) more (entry_size form) (back.long e)
            ∙ sym (append-nil (spelled_entry form e))) ∙ back.back e [] fits,
        drop_at (spelled_entry form e) more (entry_size form) (back.long e),
      )

  module _ (room n : ℕ) (long : entry_size form ≤ n) (whole : Option (List EntryNumbers)) where
    -- a list's bytes, and zeros
    abbrev bytes_of : List EntryNumbers → List ℕ
    bytes_of raw = flat_map (spelled_entry form) raw ++ replicate n 0

    read-on : (made raw : List EntryNumbers) (i : ℕ) → i + length raw < room
        → list_all (λ e. do_fields_fit (entry_fields form e)) raw ≡ true
        → Each (λ e. e.d_tag ≢ 0) raw → with_front made (entries_at (room - i) form (memory_of (bytes_of raw)) 0) ≡ whole
        → whole ≡ Some (made ++ raw)
    read-on made [] i less fits tags so_far =
        entries_end form made room i (replicate n 0) whole (omega arith) (omega (arith, length-replicate {A = ℕ} n 0))
        (null-tag n long) so_far
        ∙ ap Some (sym (append-nil made))
    read-on made (e ∷ es) i less fits tags so_far =
        let both = and_parts (do_fields_fit (entry_fields form e)) (list_all (λ x. do_fields_fit (entry_fields form x)) es) fits in
        let size : ℕ = entry_size form in
        let rest : List ℕ = spelled_entry form e ++ bytes_of es in
        let same : bytes_of (e ∷ es) ≡ rest = append_assoc (spelled_entry form e) (flat_map (spelled_entry form) es) (replicate n 0) in
        let first = first-entry e (bytes_of es) both.0 in
        let here : with_front made (entries_at (room - i) form (memory_of rest) 0) ≡ whole =
        ap (λ (l : List ℕ). with_front made (entries_at (room - i) form (memory_of l) 0)) (sym same) ∙ so_far in
        let fit : size ≤ length rest = omega (
          arith,
          length-append (spelled_entry form e) (bytes_of es),
          (entries_are_read_back form).long e,
        ) in
        let next = entries_goes form made room i rest whole (omega arith) fit
        (λ null. tags.0 (ap (λ (x : EntryNumbers). x.d_tag) (sym first.0) ∙ null)) here in
        let on : with_front (made ++ e ∷ []) (entries_at (room - (i + 1)) form (memory_of (bytes_of es)) 0) ≡ whole =
        ap (λ (x : EntryNumbers). with_front (made ++ x ∷ []) (entries_at (room - (i + 1)) form (memory_of (bytes_of es)) 0)) (sym first.0)
        ∙ ap (λ (l : List ℕ). with_front (made ++ entry_numbers form (take size rest) ∷ [])
        (entries_at (room - (i + 1)) form (memory_of l) 0)) (sym first.1) ∙ next in
        read-on (made ++ e ∷ []) es (i + 1) (omega arith) both.1 tags.1 on ∙ ap Some (append_assoc made (e ∷ []) es)

  -- entries that aren't DT_NULL, with room for one more
  pub spelled-read : (raw : List EntryNumbers) (room n : ℕ) → entry_size form ≤ n → length raw < room
      → list_all (λ e. do_fields_fit (entry_fields form e)) raw ≡ true
      → Each (λ e. e.d_tag ≢ 0) raw → entries_at room form (memory_of (flat_map (spelled_entry form) raw ++ replicate n 0)) 0 ≡ Some raw
  spelled-read raw room n long less fits tags =
      let bytes : List ℕ = flat_map (spelled_entry form) raw ++ replicate n 0 in
      let all : room - 0 ≡ room = omega arith in
      read-on room n long (entries_at room form (memory_of bytes) 0) [] raw 0 (omega arith) fits tags
      (ap (λ (m : ℕ). with_front [] (entries_at m form (memory_of bytes) 0)) all
      ∙ with_front-nil (entries_at room form (memory_of bytes) 0))
    where
      with_front-nil : (o : Option (List EntryNumbers)) → with_front [] o ≡ o
      with_front-nil None = refl
      with_front-nil (Some xs) = refl
