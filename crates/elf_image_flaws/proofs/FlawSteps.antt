-- The steps of finding what contradicts a rule: record by record, and which texts are there.
use Rattle.std.proofs.Common.{◌≡◌, ◌≤◌, ◌<◌, ℕ, zero, suc, ◌+◌, ◌-◌, ◌++◌, Bool, true, false, cond, List, [], ◌∷◌, length, take, drop, get_or, refl, sym, ap, ◌∙◌, Option, Some, None, append_assoc, arith, inl, inr, map}
use Rattle.std.specs.Prelude.{◌||◌, ◌==◌, find, is_some, not, slice_index}
use Rattle.std.specs.List.{flat_map, list_any}
use Rattle.std.proofs.lemmas.Bool.{cases_lt, le-ltb, lt-ltb, ne_eqb, true≢false}
use Rattle.std.proofs.lemmas.List.{drop-drop, drop_all, drop_more, flat_map_more, get_or-drop, length-drop, map_more, take_more}
use Rattle.std.proofs.lemmas.List.Folds.{list_any_at}
use Rattle.patch_bytes.specs.Memory.{◌>>=◌, memory_of, text_at}
use Rattle.elf_format.specs.declared.records.SectionHeader.{SectionHeader}
use Rattle.elf_format.specs.File.{Parts}
use Rattle.elf_format.specs.Form.{records}
use Rattle.elf_format.specs.Options.{first_there}
use Rattle.elf_format.proofs.ForCallers.ReadingSteps.{text_at-in, text_in}
use Rattle.elf_image_flaws.specs.declared.flaws.Flaw.{Flaw}
use Rattle.elf_image_flaws.specs.declared.flaws.Flaw.TheVariants.{NoRecordText}
use Rattle.elf_image_flaws.specs.Flaws.{EndsTexts, are_definitions_whole, are_needs_whole, first_flawed, first_told, numbered, place_told, records_flaw, version_flaw, broken_versions}

-- ## Record by record

module _ (told : ℕ → List ℕ → Option Flaw) (size count i : ℕ) (rest : List ℕ) where
  -- what is told of the records from the i-th on
  abbrev pub told_from : Option Flaw
  told_from = first_told told i (records (λ r. r) size (count - i) rest)

  told_first : i < count → told_from ≡ first_there (told i (take size rest)) (first_told told (i + 1) (records (λ r. r) size (count - (i + 1)) (drop size rest)))
  unfolding first_told records
  told_first less =
      let k : count - i ≡ suc (count - (i + 1)) = omega (arith, less) in
      ap (λ n. first_told told i (records (λ r. r) size n rest)) k

  pub told_here : (flaw : Flaw) (whole : Option Flaw) → i < count → told i (take size rest) ≡ Some flaw → told_from ≡ whole → Some flaw ≡ whole
  told_here flaw whole less here so_far =
      sym (told_first less ∙ ap (λ o. first_there o (first_told told (i + 1) (records (λ r. r) size (count - (i + 1)) (drop size rest)))) here) ∙ so_far

  pub told_goes : (whole : Option Flaw) → i < count → told i (take size rest) ≡ None → told_from ≡ whole
      → first_told told (i + 1) (records (λ r. r) size (count - (i + 1)) (drop size rest)) ≡ whole
  told_goes whole less none so_far =
      sym (told_first less ∙ ap (λ o. first_there o (first_told told (i + 1) (records (λ r. r) size (count - (i + 1)) (drop size rest)))) none) ∙ so_far

  pub told_done : (whole : Option Flaw) → count ≤ i → told_from ≡ whole → None ≡ whole
  unfolding first_told records
  told_done whole past so_far =
      let k : count - i ≡ 0 = omega (arith, past) in
      sym (ap (λ n. first_told told i (records (λ r. r) size n rest)) k) ∙ so_far

-- ## Section by section

-- a section that stands for none
abbrev pub no_section : SectionHeader
no_section = record { sh_name = 0; sh_type = 0; sh_flags = 0; sh_addr = 0; sh_offset = 0; sh_size = 0; sh_link = 0; sh_info = 0; sh_addralign = 0; sh_entsize = 0 }

module _ (told : ℕ → SectionHeader → Option Flaw) (xs : List SectionHeader) (i : ℕ) where
  -- what is told of the sections from the i-th on
  abbrev pub flaws_from : Option (ℕ × Flaw)
  flaws_from = first_told (numbered told) i (drop i xs)

  flaws_first : i < length xs → flaws_from ≡ first_there (numbered told i (get_or xs i no_section)) (first_told (numbered told) (i + 1) (drop (i + 1) xs))
  unfolding first_told
  flaws_first less = ap (first_told (numbered told) i) (drop_more xs i no_section less)

  after : Option Flaw → Option (ℕ × Flaw)
  after o = first_there (o >>= λ flaw. Some (i, flaw)) (first_told (numbered told) (i + 1) (drop (i + 1) xs))

  pub flaw_here : (flaw : Flaw) (whole : Option (ℕ × Flaw)) → i < length xs → told i (get_or xs i no_section) ≡ Some flaw → flaws_from ≡ whole → Some (i, flaw) ≡ whole
  unfolding after
  flaw_here flaw whole less here so_far = sym (flaws_first less ∙ ap after here) ∙ so_far

  pub flaw_goes : (whole : Option (ℕ × Flaw)) → i < length xs → told i (get_or xs i no_section) ≡ None → flaws_from ≡ whole
      → first_told (numbered told) (i + 1) (drop (i + 1) xs) ≡ whole
  unfolding after
  flaw_goes whole less none so_far = sym (flaws_first less ∙ ap after none) ∙ so_far

  pub flaw_done : (whole : Option (ℕ × Flaw)) → length xs ≤ i → flaws_from ≡ whole → None ≡ whole
  unfolding first_told
  flaw_done whole past so_far = sym (ap (first_told (numbered told) i) (drop_all i xs past)) ∙ so_far

-- ## Texts of records

module _ (there : ℕ → Bool) where
  places_told : (xs ys : List ℕ) → place_told there (xs ++ ys) ≡ first_there (place_told there xs) (place_told there ys)
  places_told [] ys = refl
  places_told (x ∷ xs) ys = one_more (there x) (places_told xs ys)
    where
      one_more : (b : Bool) → place_told there (xs ++ ys) ≡ first_there (place_told there xs) (place_told there ys)
          → (cond (not b) (Some x) (find (λ place. not (there place)) (xs ++ ys)) >>= (λ place. Some (NoRecordText place)))
          ≡ first_there (cond (not b) (Some x) (find (λ place. not (there place)) xs) >>= (λ place. Some (NoRecordText place))) (place_told there ys)
      one_more true same = same
      one_more false same = refl

  module _ {A : Type 0} (f : A → List ℕ) (xs : List A) (i : ℕ) (d : A) where
    places_first : i < length xs → place_told there (flat_map f (drop i xs)) ≡ first_there (place_told there (f (get_or xs i d))) (place_told there (flat_map f (drop (i + 1) xs)))
    places_first less = ap (λ l. place_told there (flat_map f l)) (drop_more xs i d less) ∙ places_told (f (get_or xs i d)) (flat_map f (drop (i + 1) xs))

    pub place_here : (flaw : Flaw) (whole : Option Flaw) → i < length xs → place_told there (f (get_or xs i d)) ≡ Some flaw → place_told there (flat_map f (drop i xs)) ≡ whole → Some flaw ≡ whole
    place_here flaw whole less here so_far = sym (places_first less ∙ ap (λ o. first_there o (place_told there (flat_map f (drop (i + 1) xs)))) here) ∙ so_far

    pub place_goes : (whole : Option Flaw) → i < length xs → place_told there (f (get_or xs i d)) ≡ None → place_told there (flat_map f (drop i xs)) ≡ whole
        → place_told there (flat_map f (drop (i + 1) xs)) ≡ whole
    place_goes whole less none so_far = sym (places_first less ∙ ap (λ o. first_there o (place_told there (flat_map f (drop (i + 1) xs)))) none) ∙ so_far

-- ## Versions

module _ {A : Type 0} (xs : List A) (i : ℕ) (d : A) (made init new : List ℕ) where
  -- one number more
  pub pushed : (f : A → ℕ) (n : ℕ) → i < length xs → new ≡ made ++ n ∷ [] → n ≡ f (get_or xs i d) → made ≡ init ++ map f (take i xs) → new ≡ init ++ map f (take (i + 1) xs)
  pushed f n less is same so_far =
      is ∙ ap (λ l. l ++ n ∷ []) so_far ∙ append_assoc init (map f (take i xs)) (n ∷ [])
      ∙ ap (λ l. init ++ l) (ap (λ m. map f (take i xs) ++ m ∷ []) same ∙ sym (map_more f xs i d less))

  -- the numbers of one element more
  pub pushed_all : (f : A → List ℕ) (ns : List ℕ) → i < length xs → new ≡ made ++ ns → ns ≡ f (get_or xs i d) → made ≡ init ++ flat_map f (take i xs) → new ≡ init ++ flat_map f (take (i + 1) xs)
  pushed_all f ns less is same so_far =
      is ∙ ap (λ l. l ++ ns) so_far ∙ ap (λ m. (init ++ flat_map f (take i xs)) ++ m) same ∙ flat_map_more f init (take i xs) (get_or xs i d)
      ∙ ap (λ l. init ++ flat_map f l) (sym (take_more xs i d less))

module _ (p : Parts) (defined needed : Bool) (sections : List SectionHeader) (first : Option (ℕ × Flaw)) (d : defined ≡ are_definitions_whole p) (n : needed ≡ are_needs_whole p)
    (s : sections ≡ p.sections) (is : first ≡ first_flawed (λ _ t. records_flaw defined needed t) sections) where
  first_is : first ≡ first_flawed (λ _ t. records_flaw (are_definitions_whole p) (are_needs_whole p) t) p.sections
  first_is =
      is ∙ ap (λ b. first_flawed (λ _ t. records_flaw b needed t) sections) d ∙ ap (λ b. first_flawed (λ _ t. records_flaw (are_definitions_whole p) b t) sections) n
      ∙ ap (first_flawed (λ _ t. records_flaw (are_definitions_whole p) (are_needs_whole p) t)) s

  pub versions_partial : (x : ℕ × Flaw) → first ≡ Some x → Some x ≡ broken_versions p
  unfolding broken_versions
  versions_partial x e = ap (λ o. first_there o (first_flawed (λ _ t. version_flaw p t) p.sections)) (sym e ∙ first_is)

  pub versions_other : (rest : Option (ℕ × Flaw)) → first ≡ None → rest ≡ first_flawed (λ _ t. version_flaw p t) p.sections → rest ≡ broken_versions p
  unfolding broken_versions
  versions_other rest e same = same ∙ ap (λ o. first_there o (first_flawed (λ _ t. version_flaw p t) p.sections)) (sym e ∙ first_is)

-- ## Texts

some_made : (b : ℕ) (o : Option (List ℕ)) → is_some (o >>= (λ rest. Some (b ∷ rest))) ≡ is_some o
some_made b None = refl
some_made b (Some x) = refl

-- a text is there where a NUL is
text_in-there : (xs : List ℕ) → is_some (text_in xs) ≡ list_any (λ b. b == 0) xs
unfolding text_in
text_in-there [] = refl
text_in-there (zero ∷ xs) = refl
text_in-there (suc b ∷ xs) =
    some_made (suc b) (text_in xs) ∙ text_in-there xs ∙ sym (ap (λ t. t || list_any (λ c. c == 0) xs) (ne_eqb (suc b) 0 (λ e. omega (arith, e))))

there_by : (room place : ℕ) (xs : List ℕ) → length xs ≤ room → is_some (text_at room (memory_of xs) place) ≡ list_any (λ b. b == 0) (drop place xs)
there_by room place xs long = ap is_some (text_at-in room place xs (omega (arith, long))) ∙ text_in-there (drop place xs)

none_behind : (k : ℕ) (xs : List ℕ) → list_any (λ b. b == 0) xs ≡ false → list_any (λ b. b == 0) (drop k xs) ≡ false
none_behind zero xs none = none
none_behind (suc k) [] none = none
none_behind (suc k) (x ∷ xs) none = none_behind k xs (or_last (x == 0) (list_any (λ b. b == 0) xs) none)
  where
    or_last : (a b : Bool) → (a || b) ≡ false → b ≡ false
    or_last true b e = absurd (true≢false e)
    or_last false b e = e

-- one byte more from the end that is no NUL
pub none_before : (end : ℕ) (xs : List ℕ) → 0 < end → end ≤ length xs → (slice_index xs (end - 1) ≡ 0 → ⊥) → list_any (λ b. b == 0) (drop end xs) ≡ false
    → list_any (λ b. b == 0) (drop (end - 1) xs) ≡ false
none_before end xs some within other none =
    let e : end - 1 + 1 ≡ end = omega (arith, some) in
    ap (list_any (λ b. b == 0)) (drop_more xs (end - 1) 0 (omega (arith, some, within)))
    ∙ ap (λ t. t || list_any (λ b. b == 0) (drop (end - 1 + 1) xs)) (ne_eqb (slice_index xs (end - 1)) 0 other)
    ∙ ap (λ n. list_any (λ b. b == 0) (drop n xs)) e ∙ none

-- behind the last NUL no text is there
past_end : (room end place : ℕ) (xs : List ℕ) → length xs ≤ room → end ≤ place → list_any (λ b. b == 0) (drop end xs) ≡ false → false ≡ is_some (text_at room (memory_of xs) place)
past_end room end place xs long past none =
    let k : end + (place - end) ≡ place = omega (arith, past) in
    sym (there_by room place xs long ∙ sym (ap (λ n. list_any (λ b. b == 0) (drop n xs)) k) ∙ sym (ap (list_any (λ b. b == 0)) (drop-drop (place - end) end xs)) ∙ none_behind (place - end) (drop end xs) none)

pub ends_at_none : (room end : ℕ) (xs : List ℕ) → length xs ≤ room → end ≤ 0 → list_any (λ b. b == 0) (drop end xs) ≡ false → EndsTexts room (memory_of xs) end
ends_at_none room end xs long first none place = le-ltb place end (omega (arith, first)) ∙ past_end room end place xs long (omega (arith, first)) none

pub ends_at_last : (room end : ℕ) (xs : List ℕ) → length xs ≤ room → 0 < end → end ≤ length xs → (slice_index xs (end - 1) == 0) ≡ true → list_any (λ b. b == 0) (drop end xs) ≡ false
    → EndsTexts room (memory_of xs) end
ends_at_last room end xs long some within last none place =
    elim (cases_lt place end) [
      | inl less ↦
          let k : ℕ = end - 1 - place in
          let at : place + k ≡ end - 1 = omega (arith, less) in
          lt-ltb place end less
          ∙ sym (there_by room place xs long ∙ list_any_at (λ b. b == 0) (drop place xs) k 0 (omega (arith, less, within, length-drop place xs))
          (ap (λ b. b == 0) (get_or-drop place xs k 0 ∙ ap (slice_index xs) at) ∙ last))
      | inr past ↦ le-ltb place end past ∙ past_end room end place xs long past none
    ]
