-- Which texts are there, and which names.
use Rattle.std.proofs.Common.{◌≡◌, ◌≤◌, ◌<◌, ◌+◌, ◌-◌, ℕ, zero, suc, true, false, List, [], ◌∷◌, length, drop, take, refl, sym, ap, ◌∙◌, subst, inl, inr, Option, Some, None, arith}
use Rattle.std.specs.Prelude.{◌&&◌, ◌==◌, is_some, slice_index}
use Rattle.std.proofs.lemmas.List.{drop_more, get_or-drop, get_or-take, length-drop, take_rest}
use Rattle.std.proofs.lemmas.Bool.{cases_lt, eqb-true, ne_eqb, true≢false}
use Rattle.std.proofs.lemmas.Option.{none-some, same_Some}
use Rattle.memchr.specs.Find.{Nowhere, Passes, is_byte}
use Rattle.elf_format.specs.Memory.{◌>>=◌, memory_of, text_at}
use Rattle.elf_format.proofs.ForCallers.MemoryLaws.{bind_some}
use Rattle.elf_format.specs.Form.{records}
use Rattle.elf_format.specs.Options.{each}
use Rattle.elf_format.specs.declared.records.SymbolNumbers.{SymbolNumbers}
use Rattle.elf_format.specs.Views.{names_of}
use Rattle.elf_format.proofs.ForCallers.ReadingSteps.{text_at-in, text_found, text_in, text_missing}

-- what is made of a value is there where the value is
pub some_made : {A B : Type 0} → (o : Option A) (f : A → B) → is_some (o >>= (λ x. Some (f x))) ≡ is_some o
some_made None f = refl
some_made (Some x) f = refl

-- ## A text

ends_at : (xs : List ℕ) (k : ℕ) → k < length xs → Passes (is_byte 0) xs k → is_some (text_in xs) ≡ true
unfolding text_in
ends_at [] k less here = absurd (omega arith)
ends_at (zero ∷ xs) k less here = refl
ends_at (suc b ∷ xs) zero less here = let is_zero : suc b ≡ 0 = eqb-true (suc b) 0 here in absurd (omega arith)
ends_at (suc b ∷ xs) (suc k) less here = some_made (text_in xs) (λ rest. suc b ∷ rest) ∙ ends_at xs k (omega arith) here

-- a text that begins at a NUL or before it is there
pub text_before : (room place last : ℕ) (xs : List ℕ) → length xs ≤ room → place ≤ last → last < length xs → Passes (is_byte 0) xs last
    → is_some (text_at room (memory_of xs) place) ≡ true
text_before room place last xs long low high here =
    let k : ℕ = last - place in
    let same : place + k ≡ last = omega (arith, low) in
    ap is_some (text_at-in room place xs (omega (arith, long)))
    ∙ ends_at (drop place xs) k (subst (λ n. k < n) (sym (length-drop place xs)) (omega (arith, low, high)))
    (subst (λ n. is_byte 0 n ≡ true) (sym (get_or-drop place xs k 0 ∙ ap (slice_index xs) same)) here)

-- one that begins behind the last NUL isn't
pub text_behind : (room place from : ℕ) (xs : List ℕ) → length xs ≤ room → from ≤ place → Nowhere (Passes (is_byte 0) xs) from (length xs)
    → is_some (text_at room (memory_of xs) place) ≡ false
text_behind room place from xs long low none =
    ap is_some (text_at-in room place xs (omega (arith, long))
    ∙ text_missing (drop place xs) (λ j _ less here.
    none (place + j) (omega (arith, low)) (let shorter : j < length xs - place = subst (λ n. j < n) (length-drop place xs) less in omega (arith, shorter))
    (subst (λ n. is_byte 0 n ≡ true) (get_or-drop place xs j 0) here)))

-- where a text is there, so is its first byte
pub there_within : (room place : ℕ) (xs : List ℕ) → length xs ≤ room → is_some (text_at room (memory_of xs) place) ≡ true → place < length xs
there_within room place xs long there =
    elim (cases_lt place (length xs)) [
      | inl less ↦ less
      | inr past ↦ absurd (true≢false (sym there ∙ text_behind room place (length xs) xs long past (λ k low high. absurd (omega (arith, low, high)))))
    ]

first_byte : (b : ℕ) (rest name : List ℕ) → text_in (b ∷ rest) ≡ Some name → (length name == 0) ≡ (b == 0)
unfolding text_in
first_byte zero rest name is = ap (λ (n : List ℕ). length n == 0) (sym (same_Some [] name is))
first_byte (suc b) rest name is =
    let (more, _, made) = bind_some (text_in rest) (λ r. Some (suc b ∷ r)) name is in
    ap (λ (n : List ℕ). length n == 0) (sym (same_Some (suc b ∷ more) name made)) ∙ ne_eqb (suc (length more)) 0 (λ e. omega (arith, e)) ∙ sym (ne_eqb (suc b) 0 (λ e. omega (arith, e)))

-- a text is empty where a NUL stands at its place
pub empty_at : (room place : ℕ) (xs name : List ℕ) → length xs ≤ room → place < length xs → text_at room (memory_of xs) place ≡ Some name
    → (length name == 0) ≡ (slice_index xs place == 0)
empty_at room place xs name long less is =
    first_byte (slice_index xs place) (drop (place + 1) xs) name
    (ap text_in (sym (drop_more xs place 0 less)) ∙ sym (text_at-in room place xs (omega (arith, long))) ∙ is)

-- the text at a place is that of the bytes from there on
pub text_of_rest : (place : ℕ) (bytes : List ℕ) → text_at (length bytes) (memory_of bytes) place ≡ text_in (take (length bytes - place) (drop place bytes))
text_of_rest place bytes = text_at-in (length bytes) place bytes (omega arith) ∙ ap text_in (sym (take_rest bytes place))

-- Bytes begin with a text: a NUL stands behind it, and none in it.
pub record BeginWith (xs name : List ℕ) : Type 0 where
  pub less : length name < length xs
  pub front : take (length name) xs ≡ name
  pub nul : Passes (is_byte 0) xs (length name)
  pub before : Nowhere (Passes (is_byte 0) name) 0 (length name)

none_more : (b : ℕ) (xs : List ℕ) → Nowhere (Passes (is_byte 0) xs) 0 (length xs) → Nowhere (Passes (is_byte 0) (suc b ∷ xs)) 0 (length (suc b ∷ xs))
none_more b xs none zero low high here = let is_zero : suc b ≡ 0 = eqb-true (suc b) 0 here in absurd (omega (arith, is_zero))
none_more b xs none (suc k) low high here = none k (omega arith) (omega (arith, high)) here

-- a text of bytes is the one that they begin with
pub text_stands : (xs name : List ℕ) → text_in xs ≡ Some name → BeginWith xs name
unfolding text_in
text_stands [] name is = absurd (none-some name is)
text_stands (zero ∷ xs) name is =
    subst (BeginWith (zero ∷ xs)) (same_Some [] name is) (record { less = omega arith; front = refl; nul = refl; before = λ k low high. absurd (omega (arith, high)) })
text_stands (suc b ∷ xs) name is =
    let (more, there, made) = bind_some (text_in xs) (λ r. Some (suc b ∷ r)) name is in
    let stands = text_stands xs more there in
    subst (BeginWith (suc b ∷ xs)) (same_Some (suc b ∷ more) name made)
    (record { less = omega (arith, stands.less); front = ap (λ l. suc b ∷ l) stands.front; nul = stands.nul; before = none_more b more stands.before })

-- bytes that begin with a text show it
pub text_shown : (xs name : List ℕ) → BeginWith xs name → text_in xs ≡ Some name
text_shown xs name stands =
    text_found xs (length name) stands.less stands.nul
    (λ k low high here. stands.before k low high
    (subst (λ n. is_byte 0 n ≡ true) (sym (get_or-take (length name) xs k 0 high) ∙ ap (λ l. slice_index l k) stands.front) here))
    ∙ ap Some stands.front

-- ## The names of all records

module _ {A B : Type 0} (f : A → Option B) where
  both_there : (y : Option B) (ys : Option (List B)) → is_some (y >>= (λ z. ys >>= (λ zs. Some (z ∷ zs)))) ≡ (is_some y && is_some ys)
  both_there None ys = refl
  both_there (Some z) ys = some_made ys (λ zs. z ∷ zs)

  pub each_there : (decode : List ℕ → A) (size count i : ℕ) (rest : List ℕ) → i < count
      → is_some (each f (records decode size (count - i) rest)) ≡ (is_some (f (decode (take size rest))) && is_some (each f (records decode size (count - (i + 1)) (drop size rest))))
  unfolding each records
  each_there decode size count i rest less =
      let k : count - i ≡ suc (count - (i + 1)) = omega (arith, less) in
      ap (λ n. is_some (each f (records decode size n rest))) k
      ∙ both_there (f (decode (take size rest))) (each f (records decode size (count - (i + 1)) (drop size rest)))

  pub none_left : (decode : List ℕ → A) (size count i : ℕ) (rest : List ℕ) → count ≤ i → is_some (each f (records decode size (count - i) rest)) ≡ true
  unfolding each records
  none_left decode size count i rest past =
      let k : count - i ≡ 0 = omega (arith, past) in
      ap (λ n. is_some (each f (records decode size n rest))) k

-- how far a text may be looked for makes no difference past the end of the bytes
pub same_names : (room : ℕ) (xs : List ℕ) (ys : List SymbolNumbers) → length xs ≤ room → names_of room (memory_of xs) ys ≡ names_of (length xs) (memory_of xs) ys
unfolding each
same_names room xs [] long = refl
same_names room xs (y ∷ ys) long =
    let first : text_at room (memory_of xs) y.st_name ≡ text_at (length xs) (memory_of xs) y.st_name =
    text_at-in room y.st_name xs (omega (arith, long)) ∙ sym (text_at-in (length xs) y.st_name xs (omega arith)) in
    ap (λ o. o >>= (λ z. names_of room (memory_of xs) ys >>= (λ zs. Some (z ∷ zs)))) first
    ∙ ap (λ o. text_at (length xs) (memory_of xs) y.st_name >>= (λ z. o >>= (λ zs. Some (z ∷ zs)))) (same_names room xs ys long)
