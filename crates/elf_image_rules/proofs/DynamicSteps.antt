-- The steps of looking for DT_NULL without keeping the entries before it.
use Rattle.std.proofs.Common.{◌≡◌, ◌≤◌, ◌<◌, ℕ, ◌+◌, ◌-◌, true, false, List, [], ◌∷◌, length, take, drop, refl, sym, ap, ◌∙◌, Option, Some, None}
use Rattle.std.specs.Prelude.{is_some}
use Rattle.elf_format.specs.Memory.{memory_of}
use Rattle.elf_format.specs.Dynamic.{entries_at}
use Rattle.elf_format.specs.declared.form.Form.{Form}
use Rattle.elf_format.specs.declared.records.EntryNumbers.{EntryNumbers}
use Rattle.elf_format.specs.Records.{entry_numbers, entry_size}
use Rattle.elf_format.proofs.ForCallers.EntrySteps.{entries_end, entries_goes, entries_none, entries_short}
use Rattle.elf_format.proofs.ForCallers.ReadingSteps.{with_front}

-- entries in front of a list don't change whether it is there
there-with_front : (front : List EntryNumbers) (o : Option (List EntryNumbers)) → is_some (with_front front o) ≡ is_some o
there-with_front front None = refl
there-with_front front (Some xs) = refl

module _ (form : Form) (room i : ℕ) (rest : List ℕ) where
  -- the entries of the rest, among those that are left of the room
  abbrev left : Option (List EntryNumbers)
  left = entries_at (room - i) form (memory_of rest) 0

  abbrev first : EntryNumbers
  first = entry_numbers form (take (entry_size form) rest)

  pub end_goes : i < room → entry_size form ≤ length rest → (first.d_tag ≡ 0 → ⊥) → is_some (entries_at (room - (i + 1)) form (memory_of (drop (entry_size form) rest)) 0) ≡ is_some left
  end_goes less fits nonzero =
      sym (there-with_front (first ∷ []) (entries_at (room - (i + 1)) form (memory_of (drop (entry_size form) rest)) 0))
      ∙ ap is_some (entries_goes form [] room i rest (with_front [] left) less fits nonzero refl) ∙ there-with_front [] left

  pub end_here : i < room → entry_size form ≤ length rest → first.d_tag ≡ 0 → is_some left ≡ true
  end_here less fits is_zero = sym (there-with_front [] left) ∙ ap is_some (entries_end form [] room i rest (with_front [] left) less fits is_zero refl)

  pub end_short : i < room → length rest < entry_size form → is_some left ≡ false
  end_short less short = sym (there-with_front [] left) ∙ ap is_some (entries_short form [] room i rest (with_front [] left) less short refl)

  pub end_none : room ≤ i → is_some left ≡ false
  end_none past = sym (there-with_front [] left) ∙ ap is_some (entries_none form [] room i rest (with_front [] left) past refl)
