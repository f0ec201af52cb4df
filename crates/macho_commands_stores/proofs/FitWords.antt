-- That no page of a directory fails to fit, as it is told and as a statement.
use Rattle.std.proofs.Common.{◌≡◌, ◌<◌, ◌+◌, ℕ, Bool, true, false, not, List, [], ◌∷◌, ◌++◌, map, filter, get_or, refl, sym, ap, ◌∙◌, inl, inr, arith}
use Rattle.std.specs.List.{All}
use Rattle.std.proofs.lemmas.Bool.{cases_Bool, not-false}
use Rattle.std.proofs.lemmas.List.Elements.{All-cons, All-head, All-nil, All-tail}
use Rattle.std.proofs.lemmas.List.FromFn.{get_or-range_with_len, length-range_with_len}
use Rattle.std.proofs.lemmas.Slice.Eq.{bytes_eq-Decides}
use Rattle.macho_signatures.specs.Pages.{AllFit, Fits, hash_bytes, is_fit, page_hash, pages_of, slot_of, unfit_from, unfit_in}
use Rattle.macho_signatures.specs.declared.directory.Directory.{Directory}
use Rattle.macho_signatures.specs.declared.pages.UnfitPage.{UnfitPage}
use Rattle.macho_commands_stores.specs.Kept.{layout_of}

-- ## A page

fit_is : (d : Directory) (bytes : List ℕ) (page : ℕ) → Fits d bytes page → is_fit d bytes page ≡ true
unfolding Fits is_fit
fit_is d bytes page fits = (bytes_eq-Decides (slot_of d page bytes) (hash_bytes (page_hash d page bytes))).1 fits

fits_of : (d : Directory) (bytes : List ℕ) (page : ℕ) → is_fit d bytes page ≡ true → Fits d bytes page
unfolding Fits is_fit
fits_of d bytes page is = (bytes_eq-Decides (slot_of d page bytes) (hash_bytes (page_hash d page bytes))).0 is

-- ## Lists without an element that passes

filter_nothing : (p : ℕ → Bool) (ns : List ℕ) → All (λ n. p n ≡ false) ns → filter p ns ≡ []
filter_nothing p [] none = refl
filter_nothing p (n ∷ ns) none =
    let here : p n ≡ false = All-head (λ m. p m ≡ false) n ns none in
    let rest = filter_nothing p ns (All-tail (λ m. p m ≡ false) n ns none) in
    rw here rest

nothing_passes : (p : ℕ → Bool) (ns : List ℕ) → filter p ns ≡ [] → All (λ n. p n ≡ false) ns
nothing_passes p [] none = All-nil (λ m. p m ≡ false)
nothing_passes p (n ∷ ns) none =
    elim (cases_Bool (p n)) [
      | inl passes ↦ let some = rw passes at none in absurd (cc)
      | inr fails ↦ let rest = rw fails at none in All-cons (λ m. p m ≡ false) n ns fails (nothing_passes p ns rest)
    ]

map_nothing : (f : ℕ → UnfitPage) (ns : List ℕ) → map f ns ≡ [] → ns ≡ []
map_nothing f [] none = refl
map_nothing f (n ∷ ns) none = absurd (cc)

-- ## A directory

abbrev is_unfit : Directory → List ℕ → ℕ → Bool
is_unfit d bytes page = not (is_fit d bytes page)

in_none : (number : ℕ) (d : Directory) (bytes : List ℕ) → ((page : ℕ) → page < d.count → Fits d bytes page) → unfit_in number d bytes ≡ []
unfolding unfit_in
in_none number d bytes fits =
    let none : filter (is_unfit d bytes) (pages_of d) ≡ [] =
    filter_nothing (is_unfit d bytes) (pages_of d)
    (λ k e here.
    let long = length-range_with_len 0 d.count in
    let inside : k < d.count = omega (arith, here, long) in
    let is = get_or-range_with_len 0 d.count k e inside in
    let page : ℕ = get_or (pages_of d) k e in
    ap not (fit_is d bytes page (fits page (omega (arith, is, inside))))) in
    ap (map (λ page. record { directory = number; page = page })) none

none_in : (number : ℕ) (d : Directory) (bytes : List ℕ) → unfit_in number d bytes ≡ [] → (page : ℕ) → page < d.count → Fits d bytes page
unfolding unfit_in
none_in number d bytes none page inside =
    let empty = map_nothing (λ page. record { directory = number; page = page }) (filter (is_unfit d bytes) (pages_of d)) none in
    let each = nothing_passes (is_unfit d bytes) (pages_of d) empty in
    let long = length-range_with_len 0 d.count in
    let at = get_or-range_with_len 0 d.count page 0 inside in
    let is : get_or (pages_of d) page 0 ≡ page = omega (arith, at) in
    let fails : is_unfit d bytes (get_or (pages_of d) page 0) ≡ false = each page 0 (omega (arith, long, inside)) in
    fits_of d bytes page (not-false (is_fit d bytes page) (ap (is_unfit d bytes) (sym is) ∙ fails))

-- ## Several

append_nothing : (xs ys : List UnfitPage) → xs ++ ys ≡ [] → (xs ≡ []) × (ys ≡ [])
append_nothing [] ys none = (refl, none)
append_nothing (x ∷ xs) ys none = absurd (cc)

pub all_fit_none : (number : ℕ) (ds : List Directory) (bytes : List ℕ) → AllFit ds bytes → unfit_from number ds bytes ≡ []
all_fit_none number [] bytes fits = refl
all_fit_none number (d ∷ ds) bytes fits =
    let P : Directory → Type 0 = λ x. (page : ℕ) → page < x.count → Fits x bytes page in
    let here : unfit_in number d bytes ≡ [] = in_none number d bytes (All-head P d ds fits) in
    let rest = all_fit_none (number + 1) ds bytes (All-tail P d ds fits) in
    rw (here, rest) refl

pub none_all_fit : (number : ℕ) (ds : List Directory) (bytes : List ℕ) → unfit_from number ds bytes ≡ [] → AllFit ds bytes
none_all_fit number [] bytes none = All-nil _
none_all_fit number (d ∷ ds) bytes none =
    let P : Directory → Type 0 = λ x. (page : ℕ) → page < x.count → Fits x bytes page in
    let both = append_nothing (unfit_in number d bytes) (unfit_from (number + 1) ds bytes) none in
    All-cons P d ds (none_in number d bytes both.0) (none_all_fit (number + 1) ds bytes both.1)

-- the lengths of identifiers don't matter
same_unfit : (number : ℕ) (d : Directory) (bytes : List ℕ) → unfit_in number (layout_of d) bytes ≡ unfit_in number d bytes
unfolding unfit_in is_fit page_hash
same_unfit number d bytes = refl

layouts_unfit : (number : ℕ) (ds : List Directory) (bytes : List ℕ) → unfit_from number (map layout_of ds) bytes ≡ unfit_from number ds bytes
layouts_unfit number [] bytes = refl
layouts_unfit number (d ∷ ds) bytes =
    let here = same_unfit number d bytes in
    let rest = layouts_unfit (number + 1) ds bytes in
    rw (here, rest) refl

pub same_layouts_unfit : (number : ℕ) (ds es : List Directory) (bytes : List ℕ) → map layout_of ds ≡ map layout_of es → unfit_from number ds bytes ≡ unfit_from number es bytes
same_layouts_unfit number ds es bytes same =
    sym (layouts_unfit number ds bytes) ∙ ap (λ (l : List Directory). unfit_from number l bytes) same ∙ layouts_unfit number es bytes
