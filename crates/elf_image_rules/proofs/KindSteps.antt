-- The steps of a test of records that stand end to end, one after another, and of records that tables share.
use Rattle.std.proofs.Common.{◌≡◌, ◌≤◌, ◌<◌, ℕ, zero, suc, ◌+◌, ◌-◌, ◌*◌, ◌/◌, List, [], ◌∷◌, ◌++◌, length, take, drop, get_or, refl, sym, ap, subst, ◌∙◌, inl, inr, Bool, true, false, cond, arith, add-one}
use Rattle.std.specs.Prelude.{◌&&◌, ◌==◌}
use Rattle.std.specs.List.{list_all}
use Rattle.std.proofs.Math.Nat.{add-mul-div_right, div-eq-sub-div, div-eq_of_lt, div-mul-le_self, le_trans, mul-le-mul_right, suc-mul}
use Rattle.std.proofs.lemmas.Bool.{eq-eqb, eqb-true, false≢true, ne_eqb}
use Rattle.std.specs.List.Sorted.{IsPermutation}
use Rattle.std.proofs.lemmas.List.Sorted.{All-permutation, IsPermutation-sym}
use Rattle.std.proofs.lemmas.List.Sums.{AllPass-from_list_all, list_all-from_AllPass}
use Rattle.std.proofs.lemmas.List.{at_drop_all, at_drop_more, drop-drop, drop-take, length-drop, length-take, take-take}
use Rattle.std.proofs.lemmas.List.Folds.{list_all-append}
use Rattle.elf_image_rules.specs.declared.kind.Run.{Run}
use Rattle.elf_image_rules.specs.LinkSteps.{IsAmong}
use Rattle.elf_format.specs.File.{has_file_bytes, section_bytes}
use Rattle.elf_format.specs.Form.{records}
use Rattle.elf_format.specs.declared.records.SectionHeader.{SectionHeader}

-- one record fewer lies whole in the rest
pub one_fewer : (size : ℕ) (rest : List ℕ) → 0 < size → size ≤ length rest → length rest / size ≡ suc (length (drop size rest) / size)
one_fewer size rest pos fits = div-eq-sub-div pos fits ∙ add-one ((length rest - size) / size) ∙ ap (λ n. suc (n / size)) (sym (length-drop size rest))

pub none_whole : (size : ℕ) (rest : List ℕ) → length rest < size → length rest / size ≡ 0
none_whole size rest short = div-eq_of_lt short

-- A loop over the records of bytes that passes on while they pass a test, and ends at the first that doesn't.
module _ {A : Type 0} (test : A → Bool) (decode : List ℕ → A) (size : ℕ) where
  -- the records that lie whole in the rest
  abbrev pub all_pass : List ℕ → Bool
  all_pass rest = list_all test (records decode size (length rest / size) rest)

  first_passes : (n m : ℕ) (rest head : List ℕ) (answer whole : Bool) → n ≡ suc m → head ≡ take size rest → answer ≡ test (decode head) → answer ≡ true
      → list_all test (records decode size n rest) ≡ whole → list_all test (records decode size m (drop size rest)) ≡ whole
  unfolding records
  first_passes n m rest head answer whole e front is passes so_far =
      let yes : test (decode (take size rest)) ≡ true = ap (λ r. test (decode r)) (sym front) ∙ sym is ∙ passes in
      sym (ap (λ b. b && list_all test (records decode size m (drop size rest))) yes) ∙ sym (ap (λ k. list_all test (records decode size k rest)) e) ∙ so_far

  first_fails : (n m : ℕ) (rest head : List ℕ) (answer whole : Bool) → n ≡ suc m → head ≡ take size rest → answer ≡ test (decode head) → answer ≡ false
      → list_all test (records decode size n rest) ≡ whole → false ≡ whole
  unfolding records
  first_fails n m rest head answer whole e front is fails so_far =
      let no : test (decode (take size rest)) ≡ false = ap (λ r. test (decode r)) (sym front) ∙ sym is ∙ fails in
      sym (ap (λ b. b && list_all test (records decode size m (drop size rest))) no) ∙ sym (ap (λ k. list_all test (records decode size k rest)) e) ∙ so_far

  none_left : (n : ℕ) (rest : List ℕ) (whole : Bool) → n ≡ 0 → list_all test (records decode size n rest) ≡ whole → true ≡ whole
  unfolding records
  none_left n rest whole e so_far = sym (ap (λ k. list_all test (records decode size k rest)) e) ∙ so_far

  pub all_goes : (rest head after : List ℕ) (answer whole : Bool) → 0 < size → size ≤ length rest → head ≡ take size rest → after ≡ drop size rest
      → answer ≡ test (decode head) → answer ≡ true → all_pass rest ≡ whole → all_pass after ≡ whole
  all_goes rest head after answer whole pos fits front back is passes so_far =
      ap all_pass back ∙ first_passes (length rest / size) (length (drop size rest) / size) rest head answer whole (one_fewer size rest pos fits) front is passes so_far

  pub all_ends : (rest head : List ℕ) (answer whole : Bool) → 0 < size → size ≤ length rest → head ≡ take size rest
      → answer ≡ test (decode head) → answer ≡ false → all_pass rest ≡ whole → false ≡ whole
  all_ends rest head answer whole pos fits front is fails so_far =
      first_fails (length rest / size) (length (drop size rest) / size) rest head answer whole (one_fewer size rest pos fits) front is fails so_far

  pub all_done : (rest : List ℕ) (whole : Bool) → length rest < size → all_pass rest ≡ whole → true ≡ whole
  all_done rest whole short so_far = none_left (length rest / size) rest whole (none_whole size rest short) so_far

-- ## Records that several tables share

module _ {A : Type 0} (decode : List ℕ → A) (size : ℕ) where
  -- so many records, and then so many more
  pub records-append : (m n : ℕ) (xs : List ℕ) → records decode size (m + n) xs ≡ records decode size m xs ++ records decode size n (drop (m * size) xs)
  unfolding records
  records-append zero n xs =
      let e : zero + n ≡ n = omega arith in
      let f : zero * size ≡ 0 = omega arith in
      ap (λ k. records decode size k xs) e ∙ sym (ap (λ k. records decode size n (drop k xs)) f)
  records-append (suc m) n xs =
      let e : suc m + n ≡ suc (m + n) = omega arith in
      let f : size + m * size ≡ suc m * size = omega (arith, suc-mul m size) in
      ap (λ k. records decode size k xs) e
      ∙ ap (λ l. decode (take size xs) ∷ l) (records-append m n (drop size xs))
      ∙ ap (λ l. decode (take size xs) ∷ (records decode size m (drop size xs) ++ records decode size n l)) (drop-drop (m * size) size xs)
      ∙ ap (λ k. decode (take size xs) ∷ (records decode size m (drop size xs) ++ records decode size n (drop k xs))) f

  -- the records that lie in a front of a list
  pub records-take : (n k : ℕ) (xs : List ℕ) → n * size ≤ k → records decode size n (take k xs) ≡ records decode size n xs
  unfolding records
  records-take zero k xs fits = refl
  records-take (suc n) k xs fits =
      let within : n * size + size ≤ k = omega (arith, suc-mul n size) in
      let e : k ≡ size + (k - size) = omega arith in
      let f : drop size (take k xs) ≡ take (k - size) (drop size xs) = ap (λ j. drop size (take j xs)) e ∙ drop-take size (k - size) xs in
      ap (λ l. decode l ∷ records decode size n (drop size (take k xs))) (take-take size k xs (omega arith))
      ∙ ap (λ l. decode (take size xs) ∷ records decode size n l) f
      ∙ ap (λ l. decode (take size xs) ∷ l) (records-take n (k - size) (drop size xs) (omega arith))

  none_fits : (n : ℕ) (xs : List ℕ) → 0 < size → n * size ≤ 0 → records decode size n [] ≡ records decode size n xs
  unfolding records
  none_fits zero xs pos fits = refl
  none_fits (suc n) xs pos fits = absurd (omega (arith, suc-mul n size))

  -- the records of a section are those of the file from its offset on
  pub records-section : (file : List ℕ) (s : SectionHeader) (n : ℕ) → 0 < size → n * size ≤ length (section_bytes file s)
      → records decode size n (section_bytes file s) ≡ records decode size n (drop s.sh_offset file)
  unfolding section_bytes
  records-section file s n pos = by_bytes (has_file_bytes s)
    where
      by_bytes : (b : Bool) → n * size ≤ length (cond b (take s.sh_size (drop s.sh_offset file)) []) → records decode size n (cond b (take s.sh_size (drop s.sh_offset file)) []) ≡ records decode size n (drop s.sh_offset file)
      by_bytes true fits = records-take n s.sh_size (drop s.sh_offset file) (omega (arith, length-take s.sh_size (drop s.sh_offset file)))
      by_bytes false fits = none_fits n (drop s.sh_offset file) pos fits

module _ {A : Type 0} (test : A → Bool) (decode : List ℕ → A) (size : ℕ) where
  -- the records of a run pass a test
  abbrev pub run_passes : List ℕ → Run → Bool
  run_passes file run = list_all test (records decode size run.count (drop run.start file))

  parts_pass : (m n : ℕ) (xs : List ℕ) → list_all test (records decode size (m + n) xs) ≡ (list_all test (records decode size m xs) && list_all test (records decode size n (drop (m * size) xs)))
  parts_pass m n xs = ap (list_all test) (records-append decode size m n xs) ∙ list_all-append test (records decode size m xs) (records decode size n (drop (m * size) xs))

  -- part of what passes passes
  and_left : (a b : Bool) → (a && b) ≡ true → a ≡ true
  and_left true b e = refl
  and_left false b e = absurd (false≢true e)

  and_right : (a b : Bool) → (a && b) ≡ true → b ≡ true
  and_right true b e = e
  and_right false b e = absurd (false≢true e)

  -- what is among a run that passes passes
  pub among_passes : (file : List ℕ) (run done : Run) (n : ℕ) → IsAmong size run done n → run_passes file done ≡ true → run_passes file (record run { count = n }) ≡ true
  unfolding records
  among_passes file run done n (inl none) passes = ap (λ k. run_passes file (record run { count = k })) none
  among_passes file run done n (inr w) passes =
      let before : ℕ = w.0 in
      let left : ℕ = done.count - (before + n) in
      let e : done.count ≡ before + (n + left) = omega arith in
      let all : list_all test (records decode size (before + (n + left)) (drop done.start file)) ≡ true = sym (ap (λ k. list_all test (records decode size k (drop done.start file))) e) ∙ passes in
      let behind : list_all test (records decode size (n + left) (drop (before * size) (drop done.start file))) ≡ true = and_right _ _ (sym (parts_pass before (n + left) (drop done.start file)) ∙ all) in
      let here : list_all test (records decode size n (drop (before * size) (drop done.start file))) ≡ true = and_left _ _ (sym (parts_pass n left (drop (before * size) (drop done.start file))) ∙ behind) in
      sym (ap (λ l. list_all test (records decode size n l)) (drop-drop (before * size) done.start file ∙ ap (λ k. drop k file) (sym w.1))) ∙ here

  -- the records of a section, behind the first that pass
  fewer : (long k : ℕ) → 0 < size → k * size ≤ long → (long - k * size) / size ≡ long / size - k
  fewer long k pos fits =
      let e : long ≡ (long - k * size) + k * size = omega arith in
      let q : long / size ≡ (long - k * size) / size + k = ap (λ l. l / size) e ∙ add-mul-div_right (long - k * size) k pos in
      omega arith

  inside_fits : (long k : ℕ) → k ≤ long / size → k * size ≤ long
  inside_fits long k inside = le_trans (mul-le-mul_right size inside) (div-mul-le_self long size)

  pub count_behind : (bytes : List ℕ) (skip : ℕ) → 0 < size → skip ≤ length bytes / size → length (drop (skip * size) bytes) / size ≡ length bytes / size - skip
  count_behind bytes skip pos inside = ap (λ k. k / size) (length-drop (skip * size) bytes) ∙ fewer (length bytes) skip pos (inside_fits (length bytes) skip inside)

  front_is : (file : List ℕ) (s : SectionHeader) (skip : ℕ) → 0 < size → skip ≤ length (section_bytes file s) / size
      → list_all test (records decode size skip (section_bytes file s)) ≡ list_all test (records decode size skip (drop s.sh_offset file))
  front_is file s skip pos inside = ap (list_all test) (records-section decode size file s skip pos (inside_fits (length (section_bytes file s)) skip inside))

  pub behind_decides : (file : List ℕ) (s : SectionHeader) (skip : ℕ) → 0 < size → skip ≤ length (section_bytes file s) / size
      → list_all test (records decode size skip (drop s.sh_offset file)) ≡ true → all_pass test decode size (section_bytes file s) ≡ all_pass test decode size (drop (skip * size) (section_bytes file s))
  behind_decides file s skip pos inside front =
      let b : List ℕ = section_bytes file s in
      let n : ℕ = length b / size in
      let split : n ≡ skip + (n - skip) = omega arith in
      ap (λ k. list_all test (records decode size k b)) split ∙ parts_pass skip (n - skip) b
      ∙ ap (λ x. x && list_all test (records decode size (n - skip) (drop (skip * size) b))) (front_is file s skip pos inside ∙ front)
      ∙ sym (ap (λ k. list_all test (records decode size k (drop (skip * size) b))) (count_behind b skip pos inside))

  -- so many records more behind the first ones that pass
  pub more_pass : (file : List ℕ) (s : SectionHeader) (skip more : ℕ) → 0 < size → skip + more ≤ length (section_bytes file s) / size
      → list_all test (records decode size skip (drop s.sh_offset file)) ≡ true → list_all test (records decode size more (drop (skip * size) (section_bytes file s))) ≡ true
      → list_all test (records decode size (skip + more) (drop s.sh_offset file)) ≡ true
  more_pass file s skip more pos inside front behind =
      sym (front_is file s (skip + more) pos inside) ∙ parts_pass skip more (section_bytes file s)
      ∙ ap (λ x. x && list_all test (records decode size more (drop (skip * size) (section_bytes file s)))) (front_is file s skip pos (omega arith) ∙ front) ∙ behind

  pub rest_decides : (file : List ℕ) (s : SectionHeader) (done run : Run) (skip : ℕ) (rest : List ℕ) → 0 < size → run.start ≡ s.sh_offset → run.count ≡ length (section_bytes file s) / size
      → skip ≤ run.count → IsAmong size run done skip → run_passes file done ≡ true → rest ≡ drop (skip * size) (section_bytes file s)
      → all_pass test decode size (section_bytes file s) ≡ all_pass test decode size rest
  rest_decides file s done run skip rest pos start count within among passes is =
      let front : list_all test (records decode size skip (drop s.sh_offset file)) ≡ true = sym (ap (λ k. list_all test (records decode size skip (drop k file))) start) ∙ among_passes file run done skip among passes in
      behind_decides file s skip pos (omega arith) front ∙ sym (ap (all_pass test decode size) is)

  -- a section whose records pass, as a run
  pub section_passes : (file : List ℕ) (s : SectionHeader) (run : Run) → 0 < size → run.start ≡ s.sh_offset → run.count ≡ length (section_bytes file s) / size
      → run_passes file run ≡ all_pass test decode size (section_bytes file s)
  section_passes file s run pos start count =
      let fits : length (section_bytes file s) / size * size ≤ length (section_bytes file s) = div-mul-le_self (length (section_bytes file s)) size in
      ap (λ k. list_all test (records decode size k (drop run.start file))) count
      ∙ ap (λ k. list_all test (records decode size (length (section_bytes file s) / size) (drop k file))) start
      ∙ sym (ap (list_all test) (records-section decode size file s (length (section_bytes file s) / size) pos fits))

  -- what the rest of a section answers is what the section does, by the width that its records have
  pub step_decides : (file : List ℕ) (s : SectionHeader) (done run : Run) (skip width : ℕ) (bytes rest : List ℕ) (answer : Bool) → 0 < size → size ≡ width → bytes ≡ section_bytes file s
      → run.start ≡ s.sh_offset → run.count ≡ length bytes / size → skip ≤ run.count → IsAmong size run done skip → run_passes file done ≡ true
      → rest ≡ drop (skip * size) bytes → answer ≡ all_pass test decode width rest → answer ≡ all_pass test decode width (section_bytes file s)
  step_decides file s done run skip width bytes rest answer pos wide is start count within among passes from answers =
      let same : run.count ≡ length (section_bytes file s) / size = count ∙ ap (λ b. length b / size) is in
      answers ∙ sym (ap (λ w. all_pass test decode w rest) wide)
      ∙ sym (rest_decides file s done run skip rest pos start same within among passes (from ∙ ap (drop (skip * size)) is))
      ∙ ap (λ w. all_pass test decode w (section_bytes file s)) wide

  pub step_runs : (file : List ℕ) (s : SectionHeader) (run : Run) (width : ℕ) (bytes : List ℕ) → 0 < size → size ≡ width → bytes ≡ section_bytes file s
      → run.start ≡ s.sh_offset → run.count ≡ length bytes / size → run_passes file run ≡ all_pass test decode width (section_bytes file s)
  step_runs file s run width bytes pos wide is start count =
      section_passes file s run pos start (count ∙ ap (λ b. length b / size) is) ∙ ap (λ w. all_pass test decode w (section_bytes file s)) wide

-- A loop over a list that goes on while its elements pass a test.
module _ {X : Type 0} (test : X → Bool) where
  pub each_goes : (xs : List X) (i : ℕ) (d : X) (whole : Bool) → i < length xs → test (get_or xs i d) ≡ true → list_all test (drop i xs) ≡ whole → list_all test (drop (i + 1) xs) ≡ whole
  each_goes xs i d whole less passes so_far = sym (ap (λ b. b && list_all test (drop (i + 1) xs)) passes) ∙ sym (at_drop_more (list_all test) xs i d less) ∙ so_far

  pub each_ends : (xs : List X) (i : ℕ) (d : X) (whole : Bool) → i < length xs → test (get_or xs i d) ≡ false → list_all test (drop i xs) ≡ whole → false ≡ whole
  each_ends xs i d whole less fails so_far = sym (ap (λ b. b && list_all test (drop (i + 1) xs)) fails) ∙ sym (at_drop_more (list_all test) xs i d less) ∙ so_far

  pub each_done : (xs : List X) (i : ℕ) (whole : Bool) → length xs ≤ i → list_all test (drop i xs) ≡ whole → true ≡ whole
  each_done xs i whole past so_far = sym (at_drop_all (list_all test) xs i past) ∙ so_far

  all_moved : (xs ys : List X) → IsPermutation xs ys → list_all test xs ≡ true → list_all test ys ≡ true
  all_moved xs ys order e = list_all-from_AllPass test ys (All-permutation (λ x. test x ≡ true) xs ys order (AllPass-from_list_all test xs e))

  -- in another order, the elements pass where they did
  pub moved_pass : (xs ys : List X) → IsPermutation xs ys → list_all test ys ≡ list_all test xs
  moved_pass xs ys order = by_answers (list_all test xs) (list_all test ys) refl refl
    where
      by_answers : (a b : Bool) → list_all test xs ≡ a → list_all test ys ≡ b → b ≡ a
      by_answers true true e f = refl
      by_answers false false e f = refl
      by_answers true false e f = sym f ∙ all_moved xs ys order e
      by_answers false true e f = sym (sym e ∙ all_moved ys xs (IsPermutation-sym xs ys order) f)

-- a section header that stands for none
abbrev pub no_section : SectionHeader
no_section = record { sh_name = 0; sh_type = 0; sh_flags = 0; sh_addr = 0; sh_offset = 0; sh_size = 0; sh_link = 0; sh_info = 0; sh_addralign = 0; sh_entsize = 0 }

-- ## How many of the first records pass

same_number : (n : ℕ) → (n == n) ≡ true
same_number n = eq-eqb n n refl

module _ {A : Type 0} (test : A → Bool) (decode : List ℕ → A) where
  -- so many of the first records of bytes pass, and where they aren't all, not all pass
  pub record Counted (size : ℕ) (bytes : List ℕ) (count : ℕ) : Type 0 where
    pub within : count ≤ length bytes / size
    pub good : list_all test (records decode size count bytes) ≡ true
    pub all : (count == length bytes / size) ≡ list_all test (records decode size (length bytes / size) bytes)

  -- so many records have passed, and the rest is behind them
  pub record Counting (size : ℕ) (bytes rest : List ℕ) (count : ℕ) : Type 0 where
    pub behind : rest ≡ drop (count * size) bytes
    pub left : count + length rest / size ≡ length bytes / size
    pub good : list_all test (records decode size count bytes) ≡ true
    pub all : all_pass test decode size rest ≡ all_pass test decode size bytes

  pub counting_starts : (size : ℕ) (bytes : List ℕ) → Counting size bytes bytes 0
  unfolding records
  counting_starts size bytes =
      let e : 0 * size ≡ 0 = omega arith in
      record { behind = sym (ap (λ n. drop n bytes) e); left = omega arith; good = refl; all = refl }

  one_passes : (size : ℕ) (ys : List ℕ) → test (decode (take size ys)) ≡ true → list_all test (records decode size 1 ys) ≡ true
  unfolding records
  one_passes size ys passed = ap (λ b. b && true) passed

  pub counting_goes : (size : ℕ) (bytes rest head after : List ℕ) (count : ℕ) (answer : Bool) → 0 < size → size ≤ length rest → head ≡ take size rest → after ≡ drop size rest
      → answer ≡ test (decode head) → answer ≡ true → Counting size bytes rest count → Counting size bytes after (count + 1)
  counting_goes size bytes rest head after count answer pos fits front back is passes so_far =
      let yes : test (decode (take size rest)) ≡ true = ap (λ r. test (decode r)) (sym front) ∙ sym is ∙ passes in
      let one : test (decode (take size (drop (count * size) bytes))) ≡ true = sym (ap (λ r. test (decode (take size r))) so_far.behind) ∙ yes in
      let place : count * size + size ≡ (count + 1) * size = sym (suc-mul count size) ∙ ap (λ n. n * size) (sym (add-one count)) in
      let fewer : length rest / size ≡ suc (length after / size) = one_fewer size rest pos fits ∙ sym (ap (λ l. suc (length l / size)) back) in
      record {
        behind = back ∙ ap (drop size) so_far.behind ∙ drop-drop size (count * size) bytes ∙ ap (λ n. drop n bytes) place;
        left = omega (arith, so_far.left);
        good = parts_pass test decode size count 1 bytes ∙ ap (λ b. b && list_all test (records decode size 1 (drop (count * size) bytes))) so_far.good ∙ one_passes size (drop (count * size) bytes) one;
        all = all_goes test decode size rest head after answer (all_pass test decode size bytes) pos fits front back is passes so_far.all;
      }

  pub counting_ends : (size : ℕ) (bytes rest head : List ℕ) (count : ℕ) (answer : Bool) → 0 < size → size ≤ length rest → head ≡ take size rest
      → answer ≡ test (decode head) → answer ≡ false → Counting size bytes rest count → Counted size bytes count
  counting_ends size bytes rest head count answer pos fits front is fails so_far =
      let fewer : length rest / size ≡ suc (length (drop size rest) / size) = one_fewer size rest pos fits in
      let less : count < length bytes / size = omega (arith, so_far.left) in
      record {
        within = omega arith;
        good = so_far.good;
        all = ne_eqb count (length bytes / size) (omega arith) ∙ all_ends test decode size rest head answer (all_pass test decode size bytes) pos fits front is fails so_far.all;
      }

-- A section whose first records are known to pass, and so many behind them: all pass where these are all.
module _ {A : Type 0} (test : A → Bool) (decode : List ℕ → A) (size : ℕ) (file : List ℕ) (s : SectionHeader) where
  less_front : (a b n : ℕ) → a ≤ n → ((a + b) == n) ≡ (b == (n - a))
  less_front a b n le = by_sum (a + b == n) refl
    where
      by_sum : (t : Bool) → (a + b == n) ≡ t → (a + b == n) ≡ (b == (n - a))
      by_sum true e =
          let same : a + b ≡ n = eqb-true (a + b) n e in
          e ∙ sym (eq-eqb b (n - a) (omega arith))
      by_sum false e = e ∙ sym (ne_eqb b (n - a) (λ h. false≢true (sym e ∙ eq-eqb (a + b) n (omega arith))))

  pub counted_fits : (skip count : ℕ) (bytes rest : List ℕ) → 0 < size → bytes ≡ section_bytes file s → skip ≤ length bytes / size → rest ≡ drop (skip * size) bytes
      → list_all test (records decode size skip (drop s.sh_offset file)) ≡ true → Counted test decode size rest count
      → ((skip + count) == (length bytes / size)) ≡ all_pass test decode size (section_bytes file s)
  counted_fits skip count bytes rest pos is inside behind front counted =
      let left : length rest / size ≡ length bytes / size - skip = ap (λ l. length l / size) behind ∙ count_behind test decode size bytes skip pos inside in
      let within : skip ≤ length (section_bytes file s) / size = subst (λ b. skip ≤ length b / size) is inside in
      let from : rest ≡ drop (skip * size) (section_bytes file s) = behind ∙ ap (drop (skip * size)) is in
      less_front skip count (length bytes / size) inside ∙ sym (ap (λ n. count == n) left) ∙ counted.all ∙ ap (all_pass test decode size) from
      ∙ sym (behind_decides test decode size file s skip pos within front)

  pub counted_known : (skip count : ℕ) (bytes rest : List ℕ) → 0 < size → bytes ≡ section_bytes file s → skip ≤ length bytes / size → rest ≡ drop (skip * size) bytes
      → list_all test (records decode size skip (drop s.sh_offset file)) ≡ true → Counted test decode size rest count
      → list_all test (records decode size (skip + count) (drop s.sh_offset file)) ≡ true
  counted_known skip count bytes rest pos is inside behind front counted =
      let left : length rest / size ≡ length bytes / size - skip = ap (λ l. length l / size) behind ∙ count_behind test decode size bytes skip pos inside in
      let both : skip + count ≤ length bytes / size = omega (arith, counted.within) in
      let within : skip + count ≤ length (section_bytes file s) / size = subst (λ b. skip + count ≤ length b / size) is both in
      let from : rest ≡ drop (skip * size) (section_bytes file s) = behind ∙ ap (drop (skip * size)) is in
      more_pass test decode size file s skip count pos within front (sym (ap (λ r. list_all test (records decode size count r)) from) ∙ counted.good)
