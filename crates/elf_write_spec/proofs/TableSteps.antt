-- Relocation by relocation: what was made so far with what is left is the whole, and what the whole is.
use Rattle.std.proofs.Common.{◌≡◌, ℕ, zero, suc, ◌+◌, ◌-◌, ◌*◌, ◌/◌, ◌≤◌, ◌<◌, Bool, true, false, List, [], ◌∷◌, ◌++◌, length, take, drop, get_or, map, refl, sym, ap, ◌∙◌, subst, inl, inr, arith}
use Rattle.std.specs.Prelude.{◌&&◌}
use Rattle.std.specs.List.{list_all}
use Rattle.std.proofs.Math.Nat.{div-mul-le_self, suc-mul}
use Rattle.std.proofs.lemmas.Bool.{and_parts, cases_lt, ltb-true}
use Rattle.std.proofs.lemmas.List.{append_assoc, drop_at, get_or-append_right, get_or-drop, get_or-take, get_or_append_left, length-append, length-drop, length-take-le, take_at}
use Rattle.patch_bytes.specs.Number.{word_size}
use Rattle.elf_format.specs.declared.form.Form.{Form}
use Rattle.elf_format.specs.Form.{records}
use Rattle.elf_format.specs.Records.{Relocation, relocation, relocation_size}
use Rattle.elf_format.proofs.ForCallers.TableSteps.{rest_left}
use Rattle.elf_write_spec.specs.Renumbered.{AreRenumbered, do_relocations_fit, does_relocation_fit, new_symbol, renumbered, symbol_limit}
use Rattle.elf_write_spec.proofs.EntryLaws.{changed_entry, kept-changed_entry, length-changed_entry, relocation-changed}

-- ## Where a loop starts and ends

pub from_start : {A : Type 0} → (f : ℕ → A) (n : ℕ) → f (n - 0) ≡ f n
from_start f n = let k : n - 0 ≡ n = omega arith in ap f k

pub all_there : (size long : ℕ) → (long / size - 0) * size ≤ long
all_there size long = let k : long / size ≡ long / size - 0 = omega arith in subst (λ (n : ℕ). n * size ≤ long) k (div-mul-le_self long size)

-- how many relocations the content has
abbrev pub count_of : Form → ℕ → List ℕ → ℕ
count_of form kind content = length content / relocation_size form kind

pub at_end : (form : Form) (kind i size : ℕ) (content : List ℕ) → size ≡ relocation_size form kind → length content / size ≤ i → count_of form kind content ≤ i
at_end form kind i size content is past = subst (λ (n : ℕ). length content / n ≤ i) is past

-- every relocation that is left passes
abbrev pub AllPass : (Relocation → Bool) → Form → ℕ → ℕ → List ℕ → Bool → Type 0
AllPass test form kind count bytes whole = list_all test (records (relocation form kind) (relocation_size form kind) count bytes) ≡ whole

pub none_fails : (test : Relocation → Bool) (form : Form) (kind count i : ℕ) (rest : List ℕ) → count ≤ i → AllPass test form kind (count - i) rest true
unfolding records
none_fails test form kind count i rest past =
    let k : count - i ≡ 0 = omega arith in
    ap (λ (n : ℕ). list_all test (records (relocation form kind) (relocation_size form kind) n rest)) k

-- ## A turn of a loop

-- The loop takes a relocation from the front of the rest, and leaves what lies behind it.
pub record Turn (form : Form) (kind i : ℕ) (content rest entry after : List ℕ) : Type 0 where
  pub less : i < count_of form kind content
  pub taken : entry ≡ take (relocation_size form kind) rest
  pub left : after ≡ drop (relocation_size form kind) rest

pub turn : (form : Form) (kind i size : ℕ) (content rest entry after : List ℕ) → size ≡ relocation_size form kind → i < length content / size → entry ≡ take size rest → after ≡ drop size rest
    → Turn form kind i content rest entry after
turn form kind i size content rest entry after is less taken left =
    record {
      less = subst (λ (n : ℕ). i < length content / n) is less;
      taken = taken ∙ ap (λ (n : ℕ). take n rest) is;
      left = left ∙ ap (λ (n : ℕ). drop n rest) is;
    }

module _ (form : Form) (kind i : ℕ) (content rest entry after : List ℕ) (t : Turn form kind i content rest entry after) where
  -- the room for those that are left
  pub room_left : (count_of form kind content - i) * relocation_size form kind ≤ length rest → (count_of form kind content - (i + 1)) * relocation_size form kind ≤ length after
  room_left room =
      let size : ℕ = relocation_size form kind in
      let n : ℕ = count_of form kind content - (i + 1) in
      subst (λ (l : List ℕ). n * size ≤ length l) (sym t.left)
      (subst (λ (m : ℕ). n * size ≤ m) (sym (length-drop size rest)) (rest_left (count_of form kind content) i size (length rest) t.less room))

  module _ (test : Relocation → Bool) where
    others : Bool
    others = list_all test (records (relocation form kind) (relocation_size form kind) (count_of form kind content - (i + 1)) after)

    -- the test of the first one, and of those behind
    cut : AllPass test form kind (count_of form kind content - i) rest (test (relocation form kind entry) && others)
    unfolding records others
    cut =
        let size : ℕ = relocation_size form kind in
        let n : ℕ = count_of form kind content - (i + 1) in
        let less : i < count_of form kind content = t.less in
        let k : count_of form kind content - i ≡ suc n = omega (arith, less) in
        ap (λ (m : ℕ). list_all test (records (relocation form kind) size m rest)) k
        ∙ ap (λ (e : List ℕ). test (relocation form kind e) && list_all test (records (relocation form kind) size n (drop size rest))) (sym t.taken)
        ∙ ap (λ (l : List ℕ). test (relocation form kind entry) && list_all test (records (relocation form kind) size n l)) (sym t.left)

    pub passes : AllPass test form kind (count_of form kind content - i) rest true
        → (test (relocation form kind entry) ≡ true) × AllPass test form kind (count_of form kind content - (i + 1)) after true
    unfolding others
    passes all = and_parts (test (relocation form kind entry)) others (sym cut ∙ all)

    -- where the first one passes, those behind decide; where it doesn't, it decides
    pub others_decide : (whole : Bool) → test (relocation form kind entry) ≡ true → AllPass test form kind (count_of form kind content - i) rest whole
        → AllPass test form kind (count_of form kind content - (i + 1)) after whole
    unfolding others
    others_decide whole pass so_far = sym (ap (λ (b : Bool). b && others) pass) ∙ sym cut ∙ so_far

    pub first_decides : (whole : Bool) → test (relocation form kind entry) ≡ false → AllPass test form kind (count_of form kind content - i) rest whole → false ≡ whole
    first_decides whole fails so_far = sym (ap (λ (b : Bool). b && others) fails) ∙ sym cut ∙ so_far

-- ## Entries of one size, each changed

module _ (size : ℕ) (change : List ℕ → List ℕ) where
  -- the first so many are changed
  pub changed : ℕ → List ℕ → List ℕ
  changed zero bytes = bytes
  changed (suc count) bytes = change (take size bytes) ++ changed count (drop size bytes)

  changed-goes : (made was : List ℕ) (count i : ℕ) (rest entry after whole : List ℕ) → i < count → entry ≡ take size rest → after ≡ drop size rest → was ≡ made ++ change entry
      → made ++ changed (count - i) rest ≡ whole → was ++ changed (count - (i + 1)) after ≡ whole
  unfolding changed
  changed-goes made was count i rest entry after whole less taken left step so_far =
      let k : count - i ≡ suc (count - (i + 1)) = omega arith in
      ap (λ (l : List ℕ). was ++ changed (count - (i + 1)) l) left
      ∙ ap (λ (l : List ℕ). l ++ changed (count - (i + 1)) (drop size rest)) (step ∙ ap (λ (e : List ℕ). made ++ change e) taken)
      ∙ append_assoc made (change (take size rest)) (changed (count - (i + 1)) (drop size rest))
      ∙ sym (ap (λ (n : ℕ). made ++ changed n rest) k) ∙ so_far

  changed-done : (made : List ℕ) (count i : ℕ) (rest whole : List ℕ) → count ≤ i → made ++ changed (count - i) rest ≡ whole → made ++ rest ≡ whole
  unfolding changed
  changed-done made count i rest whole past so_far =
      let k : count - i ≡ 0 = omega arith in
      sym (ap (λ (n : ℕ). made ++ changed n rest) k) ∙ so_far

  module _ (keeps : (e : List ℕ) → length e ≡ size → length (change e) ≡ length e) where
    -- one entry more is there, and the bytes behind it
    here : (count : ℕ) (bytes : List ℕ) → suc count * size ≤ length bytes → length (take size bytes) ≡ size
    here count bytes room = length-take-le size bytes (omega (arith, suc-mul count size, room))

    behind : (count : ℕ) (bytes : List ℕ) → suc count * size ≤ length bytes → count * size ≤ length (drop size bytes)
    behind count bytes room = omega (arith, suc-mul count size, room, length-drop size bytes)

    first_long : (count : ℕ) (bytes : List ℕ) → suc count * size ≤ length bytes → length (change (take size bytes)) ≡ size
    first_long count bytes room = keeps (take size bytes) (here count bytes room) ∙ here count bytes room

    length-changed : (count : ℕ) (bytes : List ℕ) → count * size ≤ length bytes → length (changed count bytes) ≡ length bytes
    unfolding changed
    length-changed zero bytes room = refl
    length-changed (suc count) bytes room =
        length-append (change (take size bytes)) (changed count (drop size bytes))
        ∙ omega (arith, first_long count bytes room, length-changed count (drop size bytes) (behind count bytes room), length-drop size bytes, suc-mul count size, room)

    -- what the entries show
    records-changed : {A : Type 0} → (decode : List ℕ → A) (f : A → A) (test : A → Bool) → ((e : List ℕ) → length e ≡ size → test (decode e) ≡ true → decode (change e) ≡ f (decode e))
        → (count : ℕ) (bytes : List ℕ) → count * size ≤ length bytes → list_all test (records decode size count bytes) ≡ true
        → records decode size count (changed count bytes) ≡ map f (records decode size count bytes)
    unfolding changed records
    records-changed decode f test shows zero bytes room pass = refl
    records-changed decode f test shows (suc count) bytes room pass =
        let parts = and_parts (test (decode (take size bytes))) (list_all test (records decode size count (drop size bytes))) pass in
        let first : List ℕ = change (take size bytes) in
        let others : List ℕ = changed count (drop size bytes) in
        let shown : decode (take size (first ++ others)) ≡ f (decode (take size bytes)) =
        ap decode (take_at first others size (first_long count bytes room)) ∙ shows (take size bytes) (here count bytes room) parts.0 in
        let rest : records decode size count (drop size (first ++ others)) ≡ map f (records decode size count (drop size bytes)) =
        ap (records decode size count) (drop_at first others size (first_long count bytes room))
        ∙ records-changed decode f test shows count (drop size bytes) (behind count bytes room) parts.1 in
        ap (λ x. x ∷ records decode size count (drop size (first ++ others))) shown ∙ ap (λ xs. f (decode (take size bytes)) ∷ xs) rest

    -- a byte that lies between two places of no entry stays
    kept-changed : (from to : ℕ) → ((e : List ℕ) → length e ≡ size → (j : ℕ) → (from ≤ j → j < to → ⊥) → get_or (change e) j 0 ≡ get_or e j 0)
        → (count : ℕ) (bytes : List ℕ) → count * size ≤ length bytes → (i : ℕ) → ((k : ℕ) → k < count → k * size + from ≤ i → i < k * size + to → ⊥)
        → get_or (changed count bytes) i 0 ≡ get_or bytes i 0
    unfolding changed
    kept-changed from to stays zero bytes room i out = refl
    kept-changed from to stays (suc count) bytes room i out = elim (cases_lt i size) [
      | inl less ↦
          get_or_append_left (change (take size bytes)) (changed count (drop size bytes)) 0 i (subst (λ (n : ℕ). i < n) (sym (first_long count bytes room)) less)
          ∙ stays (take size bytes) (here count bytes room) i (λ low high. out 0 (omega arith) (omega (arith, low)) (omega (arith, high)))
          ∙ get_or-take size bytes i 0 less
      | inr past ↦
          let at : size + (i - size) ≡ i = omega arith in
          get_or-append_right (change (take size bytes)) (changed count (drop size bytes)) size i 0 (first_long count bytes room) past
          ∙ kept-changed from to stays count (drop size bytes) (behind count bytes room) (i - size)
          (λ k less low high. out (suc k) (omega (arith, less)) (omega (arith, low, suc-mul k size)) (omega (arith, high, suc-mul k size, past)))
          ∙ get_or-drop size bytes (i - size) 0 ∙ ap (λ (p : ℕ). get_or bytes p 0) at
    ]

-- ## The relocations of a section

module _ (form : Form) (kind : ℕ) (numbers old : List ℕ) where
  -- what is made
  pub changed_bytes : List ℕ
  changed_bytes = changed (relocation_size form kind) (changed_entry form numbers) (length old / relocation_size form kind) old

  -- what was made, with what is left
  abbrev pub IsMade : List ℕ → ℕ → List ℕ → Type 0
  IsMade made count rest = made ++ changed (relocation_size form kind) (changed_entry form numbers) count rest ≡ changed_bytes

  pub made-starts : (made : List ℕ) → made ≡ [] → IsMade made (count_of form kind old - 0) old
  unfolding changed_bytes
  made-starts made none =
      ap (λ (l : List ℕ). l ++ changed (relocation_size form kind) (changed_entry form numbers) (count_of form kind old - 0) old) none
      ∙ from_start (λ (n : ℕ). changed (relocation_size form kind) (changed_entry form numbers) n old) (count_of form kind old)

  pub made-goes : (i : ℕ) (rest entry after made was : List ℕ) → Turn form kind i old rest entry after → was ≡ made ++ changed_entry form numbers entry
      → IsMade made (count_of form kind old - i) rest → IsMade was (count_of form kind old - (i + 1)) after
  made-goes i rest entry after made was t step so_far =
      changed-goes (relocation_size form kind) (changed_entry form numbers) made was (count_of form kind old) i rest entry after changed_bytes t.less t.taken t.left step so_far

  pub made-ends : (i : ℕ) (rest made : List ℕ) → count_of form kind old ≤ i → IsMade made (count_of form kind old - i) rest → made ++ rest ≡ changed_bytes
  made-ends i rest made past so_far = changed-done (relocation_size form kind) (changed_entry form numbers) made (count_of form kind old) i rest changed_bytes past so_far

  pub renumbered-changed : do_relocations_fit form kind numbers old ≡ true → AreRenumbered form kind numbers old changed_bytes
  unfolding changed_bytes
  renumbered-changed fit =
      let size : ℕ = relocation_size form kind in
      let count : ℕ = length old / size in
      let word : ℕ = word_size form.wide in
      let room : count * size ≤ length old = div-mul-le_self (length old) size in
      let keeps = λ (e : List ℕ) (long : length e ≡ size). length-changed_entry form kind numbers e long in
      let long : length changed_bytes ≡ length old = length-changed size (changed_entry form numbers) keeps count old room in
      let shows = λ (e : List ℕ) (whole : length e ≡ size) (fits : does_relocation_fit form numbers (relocation form kind e) ≡ true).
      relocation-changed form kind numbers e whole (ltb-true (new_symbol numbers (relocation form kind e).r_symbol) (symbol_limit form) fits) in
      let stays = λ (e : List ℕ) (whole : length e ≡ size). kept-changed_entry form kind numbers e whole in
      record {
        relocations =
            ap (λ (n : ℕ). records (relocation form kind) size (n / size) changed_bytes) long
            ∙ records-changed size (changed_entry form numbers) keeps (relocation form kind) (renumbered (new_symbol numbers)) (does_relocation_fit form numbers) shows count old room fit;
        long = long;
        kept = λ i out. kept-changed size (changed_entry form numbers) keeps word (word + word) stays count old room i
            (λ k less low high. out (record { entry = k; whole = less; behind = low; before = omega (arith, high) }));
      }
