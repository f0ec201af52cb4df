-- Changes of slices that are decided one after another, and carried out from the last one back.
use Rattle.std.proofs.Common.{◌≡◌, ◌<◌, ◌+◌, ℕ, zero, suc, List, [], ◌∷◌, ◌++◌, length, take, drop, get_or, set, refl, sym, ap, ◌∙◌, subst, arith}
use Rattle.std.specs.List.{AllZip}
use Rattle.std.proofs.lemmas.List.{append-nil, append_assoc, drop_all, drop_more, get_or-take, get_or_append_left, get_or_push, length-take, length-take-le, length_push, set_at, take-append-drop, take-take, take_all, take_at, take_more}
use Rattle.arwen_macho.specs.declared.change.Change.{Change}
use Rattle.arwen_macho.specs.FatSlice.{HeldSlice, IsReadyIn, changed_macho, changed_machos, front_of, fronts_over}
use Rattle.arwen_macho.specs.FatState.{put_at}
use Rattle.arwen_macho.proofs.FatStepLaws.{AllZip_push}

-- one element more of the one list, and its partner at the end of the other
pub AllZip_more : {A B : Type 0} (R : A → B → Type 0) (xs : List A) (ys : List B) (i : ℕ) (x : A) (y : B) → i < length xs → x ≡ get_or xs i x → AllZip R (take i xs) ys → R x y → AllZip R (take (i + 1) xs) (ys ++ y ∷ [])
AllZip_more {A} {B} R xs ys i x y inside is all here =
    let P : List A → Type 0 = λ l. AllZip R l (ys ++ y ∷ []) in
    let last : take i xs ++ get_or xs i x ∷ [] ≡ take i xs ++ x ∷ [] = ap (λ (z : A). take i xs ++ z ∷ []) (sym is) in
    subst P (sym (take_more xs i x inside ∙ last)) (AllZip_push R (take i xs) ys x y all here)

-- a list about one of its elements
pub split_at : {A : Type 0} (xs : List A) (i : ℕ) (x : A) → i < length xs → x ≡ get_or xs i x → xs ≡ take i xs ++ x ∷ drop (i + 1) xs
split_at {A} xs i x inside is =
    sym (take-append-drop i xs)
    ∙ ap (λ (l : List A). take i xs ++ l) (drop_more xs i x inside ∙ ap (λ (z : A). z ∷ drop (i + 1) xs) (sym is))

length-zip : {A B : Type 0} (R : A → B → Type 0) (xs : List A) (ys : List B) → AllZip R xs ys → length xs ≡ length ys
length-zip R [] [] all = refl
length-zip R [] (y ∷ ys) all = absurd all
length-zip R (x ∷ xs) [] all = absurd all
length-zip R (x ∷ xs) (y ∷ ys) all = ap suc (length-zip R xs ys all.1)

drop-zip : {A B : Type 0} (R : A → B → Type 0) (n : ℕ) (xs : List A) (ys : List B) → AllZip R xs ys → AllZip R (drop n xs) (drop n ys)
drop-zip R zero xs ys all = all
drop-zip R (suc n) [] [] all = tt
drop-zip R (suc n) [] (y ∷ ys) all = absurd all
drop-zip R (suc n) (x ∷ xs) [] all = absurd all
drop-zip R (suc n) (x ∷ xs) (y ∷ ys) all = drop-zip R n xs ys all.1

-- the changes that are left are the first ones of all; those behind them are carried out
pub record Carried (slices : List HeldSlice) (changes : List Change) (copy : List ℕ) (left : List Change) (slices_now : List HeldSlice) (copy_now : List ℕ) : Type 0 where
  pub left_is : left ≡ take (length left) changes
  pub slices_are : slices_now ≡ take (length left) slices ++ changed_machos (drop (length left) slices) (drop (length left) changes)
  pub copy_is : copy_now ≡ fronts_over (drop (length left) slices) (drop (length left) changes) copy

pub none_carried : (len : ℕ) (slices : List HeldSlice) (changes : List Change) (copy : List ℕ) → AllZip (IsReadyIn len) slices changes → Carried slices changes copy changes slices copy
none_carried len slices changes copy ready =
    let n : ℕ = length changes in
    let long : length slices ≡ n = length-zip (IsReadyIn len) slices changes ready in
    let none : drop n slices ≡ [] = drop_all n slices (omega arith) in
    let left : drop n changes ≡ [] = drop_all n changes (omega arith) in
    record {
      left_is = sym (take_all n changes (omega arith));
      slices_are = sym (ap (λ (l : List HeldSlice). take n slices ++ changed_machos l (drop n changes)) none ∙ append-nil (take n slices) ∙ take_all n slices (omega arith));
      copy_is = sym (ap (λ (l : List HeldSlice). fronts_over l (drop n changes) copy) none);
    }

-- the last change that is left, and its slice
pub record LastIs (slices : List HeldSlice) (changes : List Change) (left : List Change) (change : Change) : Type 0 where
  pub left_is : left ≡ take (length left) changes
  pub next : drop (length left) changes ≡ change ∷ drop (length left + 1) changes
  pub some : length left < length slices

pub last_is : (len : ℕ) (slices : List HeldSlice) (changes before left : List Change) (change : Change) → AllZip (IsReadyIn len) slices changes → before ≡ take (length before) changes → before ≡ left ++ change ∷ [] → LastIs slices changes left change
last_is len slices changes before left change ready was pushed =
    let k : ℕ = length left in
    let long : length slices ≡ length changes = length-zip (IsReadyIn len) slices changes ready in
    let one : length before ≡ k + 1 = ap length pushed ∙ length_push left change in
    let some : k < length changes = omega (arith, ap length was, length-take (length before) changes) in
    let same : left ++ change ∷ [] ≡ take (k + 1) changes = sym pushed ∙ was ∙ ap (λ (n : ℕ). take n changes) one in
    let here : change ≡ get_or changes k change =
    sym (get_or_push left change change k refl)
    ∙ ap (λ (l : List Change). get_or l k change) same
    ∙ get_or-take (k + 1) changes k change (omega arith) in
    record {
      left_is = sym (take_at left (change ∷ []) k refl) ∙ ap (take k) same ∙ take-take k (k + 1) changes (omega arith);
      next = drop_more changes k change some ∙ ap (λ (c : Change). c ∷ drop (k + 1) changes) (sym here);
      some = omega arith;
    }

-- the slices at the last change that is left
slice_next : (slices : List HeldSlice) (changes before left : List Change) (change : Change) (slices_now : List HeldSlice) (m : HeldSlice) → length before ≡ length left + 1 → LastIs slices changes left change → slices_now ≡ take (length before) slices ++ changed_machos (drop (length before) slices) (drop (length before) changes) → m ≡ get_or slices_now (length left) m → m ≡ get_or slices (length left) m
slice_next slices changes before left change slices_now m one last now is =
    let k : ℕ = length left in
    let some = last.some in
    let done : List HeldSlice = changed_machos (drop (length before) slices) (drop (length before) changes) in
    let long : length (take (length before) slices) ≡ length before = length-take-le (length before) slices (omega arith) in
    is
    ∙ ap (λ (l : List HeldSlice). get_or l k m) now
    ∙ get_or_append_left (take (length before) slices) done m k (omega arith)
    ∙ get_or-take (length before) slices k m (omega arith)

next_slice : (slices : List HeldSlice) (k : ℕ) (m : HeldSlice) → k < length slices → m ≡ get_or slices k m → drop k slices ≡ m ∷ drop (k + 1) slices
next_slice slices k m some is = drop_more slices k m some ∙ ap (λ (x : HeldSlice). x ∷ drop (k + 1) slices) (sym is)

-- the last change that is left is ready
pub last_ready : (len : ℕ) (slices : List HeldSlice) (changes : List Change) (copy : List ℕ) (before left : List Change) (change : Change) (slices_now : List HeldSlice) (copy_now : List ℕ) (m : HeldSlice) → AllZip (IsReadyIn len) slices changes → Carried slices changes copy before slices_now copy_now → before ≡ left ++ change ∷ [] → m ≡ get_or slices_now (length left) m → IsReadyIn len m change
last_ready len slices changes copy before left change slices_now copy_now m ready carried pushed is =
    let k : ℕ = length left in
    let last = last_is len slices changes before left change ready carried.left_is pushed in
    let one : length before ≡ k + 1 = ap length pushed ∙ length_push left change in
    let here = slice_next slices changes before left change slices_now m one last carried.slices_are is in
    let P : List HeldSlice → Type 0 = λ l. AllZip (IsReadyIn len) l (drop k changes) in
    let Q : List Change → Type 0 = λ l. AllZip (IsReadyIn len) (m ∷ drop (k + 1) slices) l in
    (subst Q last.next (subst P (next_slice slices k m last.some here) (drop-zip (IsReadyIn len) k slices changes ready))).0

-- the last change that is left is carried out
pub one_carried : (len : ℕ) (slices : List HeldSlice) (changes : List Change) (copy : List ℕ) (before left : List Change) (change : Change) (slices_now : List HeldSlice) (copy_now : List ℕ) (m : HeldSlice) → AllZip (IsReadyIn len) slices changes → Carried slices changes copy before slices_now copy_now → before ≡ left ++ change ∷ [] → m ≡ get_or slices_now (length left) m → Carried slices changes copy left (set slices_now (length left) (changed_macho m change)) (put_at m.arch.offset (front_of m change) copy_now)
one_carried len slices changes copy before left change slices_now copy_now m ready carried pushed is =
    let k : ℕ = length left in
    let last = last_is len slices changes before left change ready carried.left_is pushed in
    let some = last.some in
    let one : length before ≡ k + 1 = ap length pushed ∙ length_push left change in
    let here = slice_next slices changes before left change slices_now m one last carried.slices_are is in
    let next : drop k slices ≡ m ∷ drop (k + 1) slices = next_slice slices k m last.some here in
    let new : HeldSlice = changed_macho m change in
    let done : List HeldSlice = changed_machos (drop (k + 1) slices) (drop (k + 1) changes) in
    let front : List HeldSlice = take k slices in
    let was : slices_now ≡ front ++ m ∷ done =
    carried.slices_are
    ∙ ap (λ (n : ℕ). take n slices ++ changed_machos (drop n slices) (drop n changes)) one
    ∙ ap (λ (l : List HeldSlice). l ++ done) (take_more slices k m last.some ∙ ap (λ (x : HeldSlice). front ++ x ∷ []) (sym here))
    ∙ append_assoc front (m ∷ []) done in
    let then_slices : changed_machos (drop k slices) (drop k changes) ≡ new ∷ done =
    ap (λ (l : List HeldSlice). changed_machos l (drop k changes)) next
    ∙ ap (changed_machos (m ∷ drop (k + 1) slices)) last.next in
    let then_copy : fronts_over (drop k slices) (drop k changes) copy ≡ put_at m.arch.offset (front_of m change) (fronts_over (drop (k + 1) slices) (drop (k + 1) changes) copy) =
    ap (λ (l : List HeldSlice). fronts_over l (drop k changes) copy) next
    ∙ ap (λ (l : List Change). fronts_over (m ∷ drop (k + 1) slices) l copy) last.next in
    record {
      left_is = last.left_is;
      slices_are =
          ap (λ (l : List HeldSlice). set l k new) was
          ∙ set_at front m done new k (length-take-le k slices (omega arith))
          ∙ ap (λ (l : List HeldSlice). front ++ l) (sym then_slices);
      copy_is =
          ap (put_at m.arch.offset (front_of m change)) (carried.copy_is ∙ ap (λ (n : ℕ). fronts_over (drop n slices) (drop n changes) copy) one)
          ∙ sym then_copy;
    }
