-- The steps of making slots anew and of laying them.
use Rattle.std.proofs.Common.{◌≡◌, ◌≤◌, ◌<◌, ℕ, ◌+◌, Bool, true, false, List, [], ◌∷◌, ◌++◌, length, map, not, take, drop, filter, get_or, refl, sym, ap, ◌∙◌, subst, append_assoc, arith}
use Rattle.std.specs.List.{All, list_all, range_with_len}
use Rattle.std.proofs.lemmas.List.{append-nil, at_drop_all, at_drop_more, length-append, length-drop, length-take-le, map-append, map-id, take_all}
use Rattle.std.proofs.lemmas.List.Elements.{filter-append}
use Rattle.std.proofs.lemmas.List.FromFn.{get_or-range_with_len, length-range_with_len, map-range_with_len_more}
use Rattle.std.proofs.lemmas.List.Folds.{list_all-append, list_all_at, list_all_more}
use Rattle.macho_signatures.specs.declared.directory.Directory.{Directory}
use Rattle.macho_signatures.specs.declared.pages.PageHash.{PageHash}
use Rattle.macho_signatures.specs.declared.pages.UnfitPage.{UnfitPage}
use Rattle.macho_signatures.specs.declared.renewal.ByteRange.{ByteRange}
use Rattle.macho_signatures.specs.declared.renewal.Slot.{Slot}
use Rattle.macho_signatures.specs.Pages.{do_pages_fit, hash_bytes, is_fit, page_hash, pages_of, slot_place, unfit_from, unfit_in}
use Rattle.macho_signatures.specs.Signature.{IsPlaced, LiesIn}
use Rattle.macho_signatures.specs.Renewed.{SlotLies, is_touched, laid, renewed_slots, slot_for, slots_in, with_slot}

-- ## Slots of a directory

range_more : (n : ℕ) → range_with_len 0 (n + 1) ≡ range_with_len 0 n ++ n ∷ []
range_more n =
    sym (map-id (range_with_len 0 (n + 1))) ∙ map-range_with_len_more (λ (k : ℕ). k) 0 n n (omega arith) ∙ ap (λ xs. xs ++ n ∷ []) (map-id (range_with_len 0 n))

kept_more : (f : ℕ → Slot) (p : ℕ → Bool) (n : ℕ) → map f (filter p (range_with_len 0 (n + 1))) ≡ map f (filter p (range_with_len 0 n)) ++ map f (filter p (n ∷ []))
kept_more f p n =
    ap (λ xs. map f (filter p xs)) (range_more n) ∙ ap (map f) (filter-append p (range_with_len 0 n) (n ∷ [])) ∙ map-append f (filter p (range_with_len 0 n)) (filter p (n ∷ []))

abbrev slot : ℕ → PageHash → Slot
slot place hash = record { place = place; hash = hash }

-- a page more, which is touched or isn't
pub slot_pushed : (d : Directory) (touched : List ByteRange) (bytes : List ℕ) (n place : ℕ) (hash : PageHash) (old made next : List Slot) (answer : Bool) → made ≡ old ++ map (slot_for d bytes) (filter (is_touched d touched) (range_with_len 0 n)) → next ≡ made ++ record { place = place; hash = hash } ∷ [] → place ≡ slot_place d n → hash ≡ page_hash d n bytes → answer ≡ is_touched d touched n → answer ≡ true → next ≡ old ++ map (slot_for d bytes) (filter (is_touched d touched) (range_with_len 0 (n + 1)))
slot_pushed d touched bytes n place hash old made next answer before push stands has told is =
    let f : ℕ → Slot = slot_for d bytes in
    let p : ℕ → Bool = is_touched d touched in
    let here : p n ≡ true = sym told ∙ is in
    let last : map f (filter p (n ∷ [])) ≡ f n ∷ [] = rw here refl in
    let same : slot place hash ≡ f n = ap (λ (k : ℕ). slot k hash) stands ∙ ap (slot (slot_place d n)) has in
    push ∙ ap (λ xs. xs ++ slot place hash ∷ []) before ∙ append_assoc old (map f (filter p (range_with_len 0 n))) (slot place hash ∷ [])
    ∙ ap (λ x. old ++ (map f (filter p (range_with_len 0 n)) ++ x ∷ [])) same
    ∙ sym (ap (λ xs. old ++ xs) (kept_more f p n ∙ ap (λ xs. map f (filter p (range_with_len 0 n)) ++ xs) last))

pub slot_left : (d : Directory) (touched : List ByteRange) (bytes : List ℕ) (n : ℕ) (old made : List Slot) (answer : Bool) → made ≡ old ++ map (slot_for d bytes) (filter (is_touched d touched) (range_with_len 0 n)) → answer ≡ is_touched d touched n → answer ≡ false → made ≡ old ++ map (slot_for d bytes) (filter (is_touched d touched) (range_with_len 0 (n + 1)))
slot_left d touched bytes n old made answer before told isnt =
    let f : ℕ → Slot = slot_for d bytes in
    let p : ℕ → Bool = is_touched d touched in
    let here : p n ≡ false = sym told ∙ isnt in
    let last : map f (filter p (n ∷ [])) ≡ [] = rw here refl in
    before ∙ sym (ap (λ xs. old ++ xs) (kept_more f p n ∙ ap (λ xs. map f (filter p (range_with_len 0 n)) ++ xs) last ∙ append-nil (map f (filter p (range_with_len 0 n)))))

pub slots_all : (d : Directory) (touched : List ByteRange) (bytes : List ℕ) (n : ℕ) (old made : List Slot) → n ≤ d.count → d.count ≤ n → made ≡ old ++ map (slot_for d bytes) (filter (is_touched d touched) (range_with_len 0 n)) → made ≡ old ++ slots_in d touched bytes
unfolding slots_in
slots_all d touched bytes n old made below above before =
    let all : n ≡ d.count = omega arith in
    before ∙ ap (λ (k : ℕ). old ++ map (slot_for d bytes) (filter (is_touched d touched) (range_with_len 0 k))) all

-- ## Slots of all

pub directory_more : (ds seen : List Directory) (touched : List ByteRange) (bytes : List ℕ) (i : ℕ) (e : Directory) (old next all : List Slot) → seen ≡ ds → i < length seen → next ≡ old ++ slots_in (get_or seen i e) touched bytes → old ++ renewed_slots (drop i ds) touched bytes ≡ all → next ++ renewed_slots (drop (i + 1) ds) touched bytes ≡ all
directory_more ds seen touched bytes i e old next all same inside made before =
    let long : length seen ≡ length ds = ap length same in
    let here = at_drop_more (λ xs. renewed_slots xs touched bytes) ds i e (omega (arith, long, inside)) in
    let first : slots_in (get_or seen i e) touched bytes ≡ slots_in (get_or ds i e) touched bytes = ap (λ xs. slots_in (get_or xs i e) touched bytes) same in
    ap (λ xs. xs ++ renewed_slots (drop (i + 1) ds) touched bytes) (made ∙ ap (λ xs. old ++ xs) first)
    ∙ append_assoc old (slots_in (get_or ds i e) touched bytes) (renewed_slots (drop (i + 1) ds) touched bytes)
    ∙ ap (λ xs. old ++ xs) (sym here) ∙ before

pub directories_all : (ds seen : List Directory) (touched : List ByteRange) (bytes : List ℕ) (i : ℕ) (made all : List Slot) → seen ≡ ds → length seen ≤ i → made ++ renewed_slots (drop i ds) touched bytes ≡ all → made ≡ all
directories_all ds seen touched bytes i made all same past before =
    let long : length seen ≡ length ds = ap length same in
    let none = at_drop_all (λ xs. renewed_slots xs touched bytes) ds i (omega (arith, long, past)) in
    sym (append-nil made) ∙ sym (ap (λ xs. made ++ xs) none) ∙ before

-- ## Laid slots

pub length-with_slot : (s : Slot) (bytes : List ℕ) → SlotLies (length bytes) s → length (with_slot s bytes) ≡ length bytes
unfolding with_slot
length-with_slot s bytes lies =
    let hash = hash_bytes s.hash in
    let front = length-take-le s.place bytes (omega (arith, lies)) in
    let back = length-drop (s.place + length hash) bytes in
    let inner = length-append hash (drop (s.place + length hash) bytes) in
    let outer = length-append (take s.place bytes) (hash ++ drop (s.place + length hash) bytes) in
    omega (arith, front, back, inner, outer, lies)

pub laid_more : (slots : List Slot) (i : ℕ) (e : Slot) (now next all : List ℕ) → i < length slots → next ≡ with_slot (get_or slots i e) now → laid (drop i slots) now ≡ all → laid (drop (i + 1) slots) next ≡ all
laid_more slots i e now next all inside made before =
    ap (laid (drop (i + 1) slots)) made ∙ sym (at_drop_more (λ xs. laid xs now) slots i e inside) ∙ before

pub lies_at : (slots : List Slot) (i : ℕ) (e : Slot) (old now : List ℕ) → All (SlotLies (length old)) slots → length now ≡ length old → i < length slots → SlotLies (length now) (get_or slots i e)
lies_at slots i e old now lie long inside = let h = lie i e inside in omega (arith, h, long)

pub placed_at : (start len : ℕ) (ds seen : List Directory) (i : ℕ) (e : Directory) → All (IsPlaced start len) ds → seen ≡ ds → i < length seen → LiesIn len (get_or seen i e)
placed_at start len ds seen i e placed same inside =
    let P : List Directory → Type 0 = λ xs. All (IsPlaced start len) xs in
    (subst P (sym same) placed i e inside).lies

-- ## Pages that don't fit

abbrev unfit : ℕ → ℕ → UnfitPage
unfit number page = record { directory = number; page = page }

unfit_more : (f : ℕ → UnfitPage) (p : ℕ → Bool) (n : ℕ) → map f (filter p (range_with_len 0 (n + 1))) ≡ map f (filter p (range_with_len 0 n)) ++ map f (filter p (n ∷ []))
unfit_more f p n =
    ap (λ xs. map f (filter p xs)) (range_more n) ∙ ap (map f) (filter-append p (range_with_len 0 n) (n ∷ [])) ∙ map-append f (filter p (range_with_len 0 n)) (filter p (n ∷ []))

abbrev pub unfit_upto : ℕ → Directory → List ℕ → ℕ → List UnfitPage
unfit_upto number d bytes n = map (λ page. record { directory = number; page = page }) (filter (λ page. not (is_fit d bytes page)) (range_with_len 0 n))

pub unfit_pushed : (number : ℕ) (d : Directory) (bytes : List ℕ) (n : ℕ) (old made next : List UnfitPage) (answer : Bool) → made ≡ old ++ unfit_upto number d bytes n → next ≡ made ++ record { directory = number; page = n } ∷ [] → answer ≡ is_fit d bytes n → answer ≡ false → next ≡ old ++ unfit_upto number d bytes (n + 1)
unfit_pushed number d bytes n old made next answer before push told isnt =
    let f : ℕ → UnfitPage = unfit number in
    let p : ℕ → Bool = λ page. not (is_fit d bytes page) in
    let here : is_fit d bytes n ≡ false = sym told ∙ isnt in
    let last : map f (filter p (n ∷ [])) ≡ f n ∷ [] = rw here refl in
    push ∙ ap (λ xs. xs ++ f n ∷ []) before ∙ append_assoc old (map f (filter p (range_with_len 0 n))) (f n ∷ [])
    ∙ sym (ap (λ xs. old ++ xs) (unfit_more f p n ∙ ap (λ xs. map f (filter p (range_with_len 0 n)) ++ xs) last))

pub unfit_left : (number : ℕ) (d : Directory) (bytes : List ℕ) (n : ℕ) (old made : List UnfitPage) (answer : Bool) → made ≡ old ++ unfit_upto number d bytes n → answer ≡ is_fit d bytes n → answer ≡ true → made ≡ old ++ unfit_upto number d bytes (n + 1)
unfit_left number d bytes n old made answer before told is =
    let f : ℕ → UnfitPage = unfit number in
    let p : ℕ → Bool = λ page. not (is_fit d bytes page) in
    let here : is_fit d bytes n ≡ true = sym told ∙ is in
    let last : map f (filter p (n ∷ [])) ≡ [] = rw here refl in
    before ∙ sym (ap (λ xs. old ++ xs) (unfit_more f p n ∙ ap (λ xs. map f (filter p (range_with_len 0 n)) ++ xs) last ∙ append-nil (map f (filter p (range_with_len 0 n)))))

pub unfit_all : (number : ℕ) (d : Directory) (bytes : List ℕ) (n : ℕ) (old made : List UnfitPage) → n ≤ d.count → d.count ≤ n → made ≡ old ++ unfit_upto number d bytes n → made ≡ old ++ unfit_in number d bytes
unfolding unfit_in
unfit_all number d bytes n old made below above before =
    let all : n ≡ d.count = omega arith in
    before ∙ ap (λ (k : ℕ). old ++ unfit_upto number d bytes k) all

pub unfit_directory : (ds : List Directory) (bytes : List ℕ) (i : ℕ) (e : Directory) (old next all : List UnfitPage) → i < length ds → next ≡ old ++ unfit_in i (get_or ds i e) bytes → old ++ unfit_from i (drop i ds) bytes ≡ all → next ++ unfit_from (i + 1) (drop (i + 1) ds) bytes ≡ all
unfit_directory ds bytes i e old next all inside made before =
    let here = at_drop_more (λ xs. unfit_from i xs bytes) ds i e inside in
    ap (λ xs. xs ++ unfit_from (i + 1) (drop (i + 1) ds) bytes) made
    ∙ append_assoc old (unfit_in i (get_or ds i e) bytes) (unfit_from (i + 1) (drop (i + 1) ds) bytes)
    ∙ ap (λ xs. old ++ xs) (sym here) ∙ before

pub unfit_done : (ds : List Directory) (bytes : List ℕ) (i : ℕ) (made all : List UnfitPage) → length ds ≤ i → made ++ unfit_from i (drop i ds) bytes ≡ all → made ≡ all
unfit_done ds bytes i made all past before =
    let none = at_drop_all (λ xs. unfit_from i xs bytes) ds i past in
    sym (append-nil made) ∙ sym (ap (λ xs. made ++ xs) none) ∙ before

-- ## Whether all fit

pub fit_more : (f : ℕ → Bool) (n : ℕ) (answer : Bool) → list_all f (range_with_len 0 n) ≡ true → answer ≡ f n → answer ≡ true → list_all f (range_with_len 0 (n + 1)) ≡ true
fit_more f n answer before told is =
    let here : f n ≡ true = sym told ∙ is in
    ap (list_all f) (range_more n) ∙ list_all-append f (range_with_len 0 n) (n ∷ []) ∙ rw (before, here) refl

pub fit_all : (f : ℕ → Bool) (n count : ℕ) → n ≤ count → count ≤ n → list_all f (range_with_len 0 n) ≡ true → true ≡ list_all f (range_with_len 0 count)
fit_all f n count below above before =
    let all : n ≡ count = omega arith in
    sym (ap (λ (k : ℕ). list_all f (range_with_len 0 k)) (sym all) ∙ before)

pub one_unfit : (f : ℕ → Bool) (n count : ℕ) (answer : Bool) → n < count → answer ≡ f n → answer ≡ false → false ≡ list_all f (range_with_len 0 count)
one_unfit f n count answer inside told isnt =
    let long = length-range_with_len 0 count in
    let here : get_or (range_with_len 0 count) n 0 ≡ n = get_or-range_with_len 0 count n 0 inside ∙ omega arith in
    sym (list_all_at f (range_with_len 0 count) n 0 (omega (arith, long, inside)) (ap f here ∙ sym told ∙ isnt))

abbrev pub fits_here : List ℕ → Directory → Bool
fits_here bytes d = list_all (is_fit d bytes) (pages_of d)

pub directory_fits : (ds seen : List Directory) (bytes : List ℕ) (i : ℕ) (e : Directory) (answer : Bool) → seen ≡ ds → i < length seen → list_all (fits_here bytes) (take i ds) ≡ true → answer ≡ fits_here bytes (get_or seen i e) → answer ≡ true → list_all (fits_here bytes) (take (i + 1) ds) ≡ true
directory_fits ds seen bytes i e answer same inside before told is =
    let long : length seen ≡ length ds = ap length same in
    let here : fits_here bytes (get_or ds i e) ≡ true = ap (λ xs. fits_here bytes (get_or xs i e)) (sym same) ∙ sym told ∙ is in
    list_all_more (fits_here bytes) ds i e (omega (arith, long, inside)) ∙ rw (before, here) refl

pub directory_unfit : (ds seen : List Directory) (bytes : List ℕ) (i : ℕ) (e : Directory) (answer : Bool) → seen ≡ ds → i < length seen → answer ≡ fits_here bytes (get_or seen i e) → answer ≡ false → false ≡ do_pages_fit ds bytes
unfolding do_pages_fit
directory_unfit ds seen bytes i e answer same inside told isnt =
    let long : length seen ≡ length ds = ap length same in
    sym (list_all_at (fits_here bytes) ds i e (omega (arith, long, inside)) (ap (λ xs. fits_here bytes (get_or xs i e)) (sym same) ∙ sym told ∙ isnt))

pub directories_fit : (ds seen : List Directory) (bytes : List ℕ) (i : ℕ) → seen ≡ ds → length seen ≤ i → list_all (fits_here bytes) (take i ds) ≡ true → true ≡ do_pages_fit ds bytes
unfolding do_pages_fit
directories_fit ds seen bytes i same past before =
    let long : length seen ≡ length ds = ap length same in
    sym (ap (list_all (fits_here bytes)) (sym (take_all i ds (omega (arith, long, past)))) ∙ before)

pub placed_read : (start len : ℕ) (ds : List Directory) (i : ℕ) (d : Directory) → All (IsPlaced start len) ds → i < length ds → d ≡ get_or ds i d → LiesIn len d
placed_read start len ds i d placed inside is =
    let P : Directory → Type 0 = λ x. IsPlaced start len x in
    (subst P (sym is) (placed i d inside)).lies

pub unfit_read : (ds : List Directory) (bytes : List ℕ) (i : ℕ) (d : Directory) (old next all : List UnfitPage) → i < length ds → d ≡ get_or ds i d → next ≡ old ++ unfit_in i d bytes → old ++ unfit_from i (drop i ds) bytes ≡ all → next ++ unfit_from (i + 1) (drop (i + 1) ds) bytes ≡ all
unfit_read ds bytes i d old next all inside is made before =
    unfit_directory ds bytes i d old next all inside (made ∙ ap (λ x. old ++ unfit_in i x bytes) is) before
