-- The steps of reading the dynamic list from a list of bytes.
use Rattle.std.proofs.Common.{◌≡◌, ◌≤◌, ◌<◌, ℕ, zero, suc, ◌+◌, ◌-◌, List, [], ◌∷◌, ◌++◌, length, take, drop, refl, sym, ap, ◌∙◌, Option, Some, None, arith, zero-add}
use Rattle.std.specs.List.{slice_get}
use Rattle.std.proofs.lemmas.List.{append-nil}
use Rattle.patch_bytes.specs.declared.number.Wide.{Wide}
use Rattle.patch_bytes.specs.declared.number.Wide.TheVariants.{W32, W64}
use Rattle.patch_bytes.specs.Memory.{◌>>=◌, bytes_at, memory_of}
use Rattle.patch_bytes.proofs.MemoryLaws.{bytes_at-memory_of, some_bind}
use Rattle.elf_format.specs.Dynamic.{entries_at}
use Rattle.elf_format.specs.Form.{Form, by_class}
use Rattle.elf_format.specs.Records.{EntryNumbers, entry_numbers, entry_size}
use Rattle.elf_format.proofs.ReadingSteps.{with_front, with_front-cons}
use Rattle.elf_format.proofs.TableSteps.{bytes_at-past}

slice_get-drop : (a b : ℕ) (xs : List ℕ) → slice_get (drop a xs) b ≡ slice_get xs (a + b)
slice_get-drop zero b xs = ap (slice_get xs) (sym (zero-add b))
slice_get-drop (suc a) b [] = refl
slice_get-drop (suc a) b (x ∷ xs) =
    let e : suc a + b ≡ suc (a + b) = omega arith in
    slice_get-drop a b xs ∙ sym (ap (slice_get (x ∷ xs)) e)

bytes_at-drop : (n a b : ℕ) (xs : List ℕ) → bytes_at n (memory_of (drop a xs)) b ≡ bytes_at n (memory_of xs) (a + b)
unfolding bytes_at
bytes_at-drop zero a b xs = refl
bytes_at-drop (suc n) a b xs =
    let e : a + (b + 1) ≡ (a + b) + 1 = omega arith in
    let more : bytes_at n (memory_of (drop a xs)) (b + 1) ≡ bytes_at n (memory_of xs) ((a + b) + 1) = bytes_at-drop n a (b + 1) xs ∙ ap (bytes_at n (memory_of xs)) e in
    ap (λ o. o >>= (λ c. bytes_at n (memory_of (drop a xs)) (b + 1) >>= (λ r. Some (c ∷ r)))) (slice_get-drop a b xs)
    ∙ ap (λ o. slice_get xs (a + b) >>= (λ c. o >>= (λ r. Some (c ∷ r)))) more

behind : (tail : Option (List EntryNumbers)) (e : EntryNumbers) (tag : ℕ) → Option (List EntryNumbers)
behind tail e tag = elim tag [ zero ↦ Some [] | suc _ ↦ tail >>= (λ rest. Some (e ∷ rest)) ]

-- the entries of what lies from a place on
pub entries_at-drop : (form : Form) (room a b : ℕ) (xs : List ℕ) → entries_at room form (memory_of (drop a xs)) b ≡ entries_at room form (memory_of xs) (a + b)
unfolding entries_at behind
entries_at-drop form zero a b xs = refl
entries_at-drop form (suc room) a b xs =
    let size : ℕ = entry_size form in
    let e : a + (b + size) ≡ (a + b) + size = omega arith in
    let more : entries_at room form (memory_of (drop a xs)) (b + size) ≡ entries_at room form (memory_of xs) ((a + b) + size) = entries_at-drop form room a (b + size) xs ∙ ap (entries_at room form (memory_of xs)) e in
    ap (λ o. o >>= (λ c. behind (entries_at room form (memory_of (drop a xs)) (b + size)) (entry_numbers form c) (entry_numbers form c).d_tag)) (bytes_at-drop size a b xs)
    ∙ ap (λ t. bytes_at size (memory_of xs) (a + b) >>= (λ c. behind t (entry_numbers form c) (entry_numbers form c).d_tag)) more

entry_size-pos : (w : Wide) → 0 < by_class w 8 16
entry_size-pos W32 = omega arith
entry_size-pos W64 = omega arith

module _ (form : Form) where
  -- the first entry, and what is behind it
  first_entry : (room : ℕ) (rest : List ℕ) → entry_size form ≤ length rest
      → entries_at (suc room) form (memory_of rest) 0 ≡ behind (entries_at room form (memory_of (drop (entry_size form) rest)) 0) (entry_numbers form (take (entry_size form) rest)) (entry_numbers form (take (entry_size form) rest)).d_tag
  unfolding entries_at behind
  first_entry room rest fits =
      let size : ℕ = entry_size form in
      let place : size + 0 ≡ 0 + size = omega arith in
      let shifted : entries_at room form (memory_of (drop size rest)) 0 ≡ entries_at room form (memory_of rest) (0 + size) = entries_at-drop form room size 0 rest ∙ ap (entries_at room form (memory_of rest)) place in
      let after : List ℕ → Option (List EntryNumbers) = λ c. behind (entries_at room form (memory_of rest) (0 + size)) (entry_numbers form c) (entry_numbers form c).d_tag in
      some_bind (bytes_at size (memory_of rest) 0) after (take size rest) (bytes_at-memory_of size 0 rest (omega arith))
      ∙ sym (ap (λ t. behind t (entry_numbers form (take size rest)) (entry_numbers form (take size rest)).d_tag) shifted)

  pub entries_goes : (made : List EntryNumbers) (room i : ℕ) (rest : List ℕ) (whole : Option (List EntryNumbers)) → i < room → entry_size form ≤ length rest
      → ((entry_numbers form (take (entry_size form) rest)).d_tag ≡ 0 → ⊥) → with_front made (entries_at (room - i) form (memory_of rest) 0) ≡ whole
      → with_front (made ++ entry_numbers form (take (entry_size form) rest) ∷ []) (entries_at (room - (i + 1)) form (memory_of (drop (entry_size form) rest)) 0) ≡ whole
  unfolding behind
  entries_goes made room i rest whole less fits nonzero so_far =
      let k : room - i ≡ suc (room - (i + 1)) = omega arith in
      let e : EntryNumbers = entry_numbers form (take (entry_size form) rest) in
      let tail : Option (List EntryNumbers) = entries_at (room - (i + 1)) form (memory_of (drop (entry_size form) rest)) 0 in
      sym (with_front-cons made e tail) ∙ ap (with_front made) (by_tag tail e e.d_tag nonzero)
      ∙ sym (ap (with_front made) (ap (λ n. entries_at n form (memory_of rest) 0) k ∙ first_entry (room - (i + 1)) rest fits)) ∙ so_far
    where
      by_tag : (tail : Option (List EntryNumbers)) (e : EntryNumbers) (tag : ℕ) → (tag ≡ 0 → ⊥) → (tail >>= (λ r. Some (e ∷ r))) ≡ behind tail e tag
      by_tag tail e zero h = absurd (h refl)
      by_tag tail e (suc tag) h = refl

  pub entries_end : (made : List EntryNumbers) (room i : ℕ) (rest : List ℕ) (whole : Option (List EntryNumbers)) → i < room → entry_size form ≤ length rest
      → (entry_numbers form (take (entry_size form) rest)).d_tag ≡ 0 → with_front made (entries_at (room - i) form (memory_of rest) 0) ≡ whole → whole ≡ Some made
  unfolding behind
  entries_end made room i rest whole less fits is_zero so_far =
      let k : room - i ≡ suc (room - (i + 1)) = omega arith in
      let e : EntryNumbers = entry_numbers form (take (entry_size form) rest) in
      let tail : Option (List EntryNumbers) = entries_at (room - (i + 1)) form (memory_of (drop (entry_size form) rest)) 0 in
      sym so_far ∙ ap (with_front made) (ap (λ n. entries_at n form (memory_of rest) 0) k ∙ first_entry (room - (i + 1)) rest fits ∙ ap (behind tail e) is_zero) ∙ ap Some (append-nil made)

  pub entries_short : (made : List EntryNumbers) (room i : ℕ) (rest : List ℕ) (whole : Option (List EntryNumbers)) → i < room → length rest < entry_size form
      → with_front made (entries_at (room - i) form (memory_of rest) 0) ≡ whole → whole ≡ None
  unfolding entries_at behind
  entries_short made room i rest whole less short so_far =
      let k : room - i ≡ suc (room - (i + 1)) = omega arith in
      let size : ℕ = entry_size form in
      let after : List ℕ → Option (List EntryNumbers) = λ c. behind (entries_at (room - (i + 1)) form (memory_of rest) (0 + size)) (entry_numbers form c) (entry_numbers form c).d_tag in
      sym so_far ∙ ap (with_front made) (ap (λ n. entries_at n form (memory_of rest) 0) k ∙ ap (λ o. o >>= after) (bytes_at-past size 0 rest (entry_size-pos form.wide) (omega arith)))

  pub entries_none : (made : List EntryNumbers) (room i : ℕ) (rest : List ℕ) (whole : Option (List EntryNumbers)) → room ≤ i
      → with_front made (entries_at (room - i) form (memory_of rest) 0) ≡ whole → whole ≡ None
  unfolding entries_at
  entries_none made room i rest whole past so_far =
      let k : room - i ≡ 0 = omega arith in
      sym so_far ∙ ap (with_front made) (ap (λ n. entries_at n form (memory_of rest) 0) k)
