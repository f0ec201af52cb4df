-- The steps of reading bytes, texts and dynamic entries wherever they are seen.
use Rattle.std.proofs.Common.{◌≡◌, ◌≤◌, ◌<◌, ℕ, zero, suc, ◌+◌, ◌-◌, List, [], ◌∷◌, ◌++◌, refl, sym, ap, ◌∙◌, Option, Some, None, arith}
use Rattle.std.proofs.lemmas.List.{append-nil}
use Rattle.patch_bytes.specs.Memory.{◌>>=◌, Memory, bytes_at, text_at}
use Rattle.patch_bytes.proofs.MemoryLaws.{some_bind}
use Rattle.elf_format.specs.declared.view_fault.ViewFault.{ViewFault}
use Rattle.elf_format.specs.declared.view_fault.ViewFault.TheVariants as faults
use Rattle.elf_format.specs.Dynamic.{entries_at}
use Rattle.elf_format.specs.declared.form.Form.{Form}
use Rattle.elf_format.specs.Answers.{Fails}
use Rattle.elf_format.specs.declared.records.EntryNumbers.{EntryNumbers}
use Rattle.elf_format.specs.Records.{entry_numbers, entry_size}
use Rattle.elf_format.proofs.ReadingSteps.{with_front, with_front-cons}

module _ (m : Memory) (made : List ℕ) (count i place : ℕ) where
  next_place : place + i + 1 ≡ place + (i + 1)
  next_place = omega arith

  -- ## Bytes

  one_byte : i < count → bytes_at (count - i) m (place + i) ≡ (m (place + i) >>= (λ b. bytes_at (count - (i + 1)) m (place + (i + 1)) >>= (λ r. Some (b ∷ r))))
  unfolding bytes_at
  one_byte less =
      let k : count - i ≡ suc (count - (i + 1)) = omega arith in
      ap (λ n. bytes_at n m (place + i)) k ∙ ap (λ q. m (place + i) >>= (λ b. bytes_at (count - (i + 1)) m q >>= (λ r. Some (b ∷ r)))) next_place

  pub byte_goes : (b : ℕ) (whole : Option (List ℕ)) → i < count → m (place + i) ≡ Some b → with_front made (bytes_at (count - i) m (place + i)) ≡ whole
      → with_front (made ++ b ∷ []) (bytes_at (count - (i + 1)) m (place + (i + 1))) ≡ whole
  byte_goes b whole less here so_far =
      sym (with_front-cons made b (bytes_at (count - (i + 1)) m (place + (i + 1))))
      ∙ sym (ap (with_front made) (one_byte less ∙ some_bind (m (place + i)) (λ c. bytes_at (count - (i + 1)) m (place + (i + 1)) >>= (λ r. Some (c ∷ r))) b here)) ∙ so_far

  pub byte_absent : (whole : Option (List ℕ)) → i < count → m (place + i) ≡ None → with_front made (bytes_at (count - i) m (place + i)) ≡ whole → whole ≡ None
  byte_absent whole less here so_far =
      sym so_far ∙ ap (with_front made) (one_byte less ∙ ap (λ o. o >>= (λ c. bytes_at (count - (i + 1)) m (place + (i + 1)) >>= (λ r. Some (c ∷ r)))) here)

  pub bytes_done : (whole : Option (List ℕ)) → count ≤ i → with_front made (bytes_at (count - i) m (place + i)) ≡ whole → whole ≡ Some made
  unfolding bytes_at
  bytes_done whole past so_far =
      let k : count - i ≡ 0 = omega arith in
      sym so_far ∙ ap (λ n. with_front made (bytes_at n m (place + i))) k ∙ ap Some (append-nil made)

  -- ## Texts

  after : ℕ → Option (List ℕ)
  after byte = elim byte [ zero ↦ Some [] | suc b ↦ text_at (count - (i + 1)) m (place + (i + 1)) >>= (λ rest. Some (suc b ∷ rest)) ]

  one_letter : i < count → text_at (count - i) m (place + i) ≡ (m (place + i) >>= after)
  unfolding text_at after
  one_letter less =
      let k : count - i ≡ suc (count - (i + 1)) = omega arith in
      ap (λ n. text_at n m (place + i)) k
      ∙ ap (λ q. m (place + i) >>= (λ byte. elim byte [ zero ↦ Some [] | suc b ↦ text_at (count - (i + 1)) m q >>= (λ rest. Some (suc b ∷ rest)) ])) next_place

  pub letter_goes : (b : ℕ) (whole : Option (List ℕ)) → i < count → m (place + i) ≡ Some b → (b ≡ 0 → ⊥) → with_front made (text_at (count - i) m (place + i)) ≡ whole
      → with_front (made ++ b ∷ []) (text_at (count - (i + 1)) m (place + (i + 1))) ≡ whole
  unfolding after
  letter_goes zero whole less here nonzero so_far = absurd (nonzero refl)
  letter_goes (suc b) whole less here nonzero so_far =
      sym (with_front-cons made (suc b) (text_at (count - (i + 1)) m (place + (i + 1))))
      ∙ sym (ap (with_front made) (one_letter less ∙ some_bind (m (place + i)) after (suc b) here)) ∙ so_far

  pub text_ended : (b : ℕ) (whole : Option (List ℕ)) → i < count → m (place + i) ≡ Some b → b ≡ 0 → with_front made (text_at (count - i) m (place + i)) ≡ whole → whole ≡ Some made
  unfolding after
  text_ended b whole less here is_zero so_far =
      sym so_far ∙ ap (with_front made) (one_letter less ∙ some_bind (m (place + i)) after b here ∙ ap after is_zero) ∙ ap Some (append-nil made)

  pub letter_absent : (whole : Option (List ℕ)) → i < count → m (place + i) ≡ None → with_front made (text_at (count - i) m (place + i)) ≡ whole → whole ≡ None
  letter_absent whole less here so_far = sym so_far ∙ ap (with_front made) (one_letter less ∙ ap (λ o. o >>= after) here)

  pub text_endless : (whole : Option (List ℕ)) → count ≤ i → with_front made (text_at (count - i) m (place + i)) ≡ whole → whole ≡ None
  unfolding text_at
  text_endless whole past so_far =
      let k : count - i ≡ 0 = omega arith in
      sym so_far ∙ ap (λ n. with_front made (text_at n m (place + i))) k

-- ## Dynamic entries

module _ (m : Memory) (form : Form) (made : List EntryNumbers) (room i place : ℕ) where
  tail : Option (List EntryNumbers)
  tail = entries_at (room - (i + 1)) form m (place + entry_size form)

  by_tag : EntryNumbers → ℕ → Option (List EntryNumbers)
  by_tag e tag = elim tag [ zero ↦ Some [] | suc _ ↦ tail >>= (λ rest. Some (e ∷ rest)) ]

  then : List ℕ → Option (List EntryNumbers)
  unfolding by_tag tail
  then bytes = by_tag (entry_numbers form bytes) (entry_numbers form bytes).d_tag

  one_entry : i < room → entries_at (room - i) form m place ≡ (bytes_at (entry_size form) m place >>= then)
  unfolding entries_at then by_tag tail
  one_entry less =
      let k : room - i ≡ suc (room - (i + 1)) = omega arith in
      ap (λ n. entries_at n form m place) k

  goes_on : (e : EntryNumbers) (tag : ℕ) → (tag ≡ 0 → ⊥) → (tail >>= (λ r. Some (e ∷ r))) ≡ by_tag e tag
  unfolding by_tag
  goes_on e zero h = absurd (h refl)
  goes_on e (suc tag) h = refl

  pub entry_goes : (bytes : List ℕ) (whole : Option (List EntryNumbers)) → i < room → bytes_at (entry_size form) m place ≡ Some bytes → ((entry_numbers form bytes).d_tag ≡ 0 → ⊥)
      → with_front made (entries_at (room - i) form m place) ≡ whole
      → with_front (made ++ entry_numbers form bytes ∷ []) (entries_at (room - (i + 1)) form m (place + entry_size form)) ≡ whole
  unfolding then tail
  entry_goes bytes whole less here nonzero so_far =
      sym (with_front-cons made (entry_numbers form bytes) tail)
      ∙ ap (with_front made) (goes_on (entry_numbers form bytes) (entry_numbers form bytes).d_tag nonzero)
      ∙ sym (ap (with_front made) (one_entry less ∙ some_bind (bytes_at (entry_size form) m place) then bytes here)) ∙ so_far

  pub list_ended : (bytes : List ℕ) (whole : Option (List EntryNumbers)) → i < room → bytes_at (entry_size form) m place ≡ Some bytes → (entry_numbers form bytes).d_tag ≡ 0
      → with_front made (entries_at (room - i) form m place) ≡ whole → whole ≡ Some made
  unfolding then by_tag
  list_ended bytes whole less here is_zero so_far =
      sym so_far ∙ ap (with_front made) (one_entry less ∙ some_bind (bytes_at (entry_size form) m place) then bytes here ∙ ap (by_tag (entry_numbers form bytes)) is_zero) ∙ ap Some (append-nil made)

  pub entry_fails : (fault : ViewFault) (whole : Option (List EntryNumbers)) → i < room → Fails fault (bytes_at (entry_size form) m place)
      → with_front made (entries_at (room - i) form m place) ≡ whole → Fails fault whole
  entry_fails faults.Absent whole less here so_far = sym so_far ∙ ap (with_front made) (one_entry less ∙ ap (λ o. o >>= then) here)
  entry_fails faults.Memory whole less here so_far = tt

  pub list_endless : (whole : Option (List EntryNumbers)) → room ≤ i → with_front made (entries_at (room - i) form m place) ≡ whole → whole ≡ None
  unfolding entries_at
  list_endless whole past so_far =
      let k : room - i ≡ 0 = omega arith in
      sym so_far ∙ ap (λ n. with_front made (entries_at n form m place)) k
