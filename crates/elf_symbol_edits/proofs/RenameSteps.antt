-- Sections that get other names.
use Rattle.std.proofs.Common.{◌≡◌, ℕ, zero, suc, ◌+◌, Bool, true, false, ◌||◌, List, [], ◌∷◌, ◌++◌, length, map, drop, refl, sym, ap, ◌∙◌, Option, Some, None, is_some, arith, add-one}
use Rattle.std.specs.Prelude.{All, IfSome, if◌then◌else◌, unwrap_or, not}
use Rattle.std.specs.List.{flat_map, list_any, slice_get}
use Rattle.std.specs.Str.{bytes_eq}
use Rattle.std.proofs.lemmas.Bool.{or_parts}
use Rattle.std.proofs.lemmas.List.{append_assoc, drop_more, length-append, length-map}
use Rattle.std.proofs.lemmas.List.Elements.{All-cons, All-head, All-nil, All-tail}
use Rattle.std.proofs.lemmas.List.Folds.{list_any-append}
use Rattle.std.proofs.lemmas.Option.{get_or_from_slice_get, none-some, same_Some, slice_get_within}
use Rattle.patch_bytes.specs.ByteString.{StringValue}
use Rattle.elf_format.specs.Image.{Image, ImageSection}
use Rattle.elf_format.specs.Options.{first_there}
use Rattle.elf_edits.specs.Symbols.{behind_first, has_new_name}
use Rattle.elf_edits.specs.Texts.{holds_nul, value_of}
use Rattle.elf_image.specs.ImageModel.{text_model}
use Rattle.elf_image.specs.SectionEdits.{with_section_name}
use Rattle.elf_image_symbols.specs.EditedList.{IsName, changed_at}
use Rattle.elf_symbol_edits.specs.Named.{is_section_renamed, renamed_section, section_name}
use Rattle.elf_symbol_edits.specs.Steps.{AreNames, named_if, with_name_at, with_names, with_names_behind, with_section_names}
use Rattle.elf_symbol_edits.specs.SymbolEdit.{RenameSections, edited, written}

-- ## What is made of a list from a place on

-- one element more is made
pub maps_one : {A B : Type 0} (f : A → B) (made now whole : List B) (xs : List A) (i : ℕ) (x : A) → slice_get xs i ≡ Some x → now ≡ made ++ f x ∷ [] → made ++ map f (drop i xs) ≡ whole
    → now ++ map f (drop (i + 1) xs) ≡ whole
maps_one {A} f made now whole xs i x at more so_far =
    ap (λ ys. ys ++ map f (drop (i + 1) xs)) more ∙ append_assoc made (f x ∷ []) (map f (drop (i + 1) xs))
    ∙ sym (ap (λ (l : List A). made ++ map f l) (drop_more xs i x (slice_get_within xs i x at) ∙ ap (λ y. y ∷ drop (i + 1) xs) (get_or_from_slice_get xs i x x at)))
    ∙ so_far

-- ## Names without a NUL

pub All-pushed : {X : Type 0} (P : X → Type 0) (xs : List X) (x : X) → All P (xs ++ x ∷ []) → All P xs × P x
All-pushed P [] x all = (All-nil P, All-head P x [] all)
All-pushed P (y ∷ xs) x all =
    let rest = All-pushed P xs x (All-tail P y (xs ++ x ∷ []) all) in
    (All-cons P y xs (All-head P y (xs ++ x ∷ []) all) rest.0, rest.1)

either : (found : Option (List ℕ)) (b : Bool) (v new : List ℕ) → (found ≡ Some new → holds_nul new ≡ false) → holds_nul v ≡ false → first_there found (if b then Some v else None) ≡ Some new → holds_nul new ≡ false
either (Some value) b v new later here h = later h
either None true v new later here h = ap holds_nul (sym (same_Some v new h)) ∙ here
either None false v new later here h = absurd (none-some new h)

value_whole : (ps : List (List ℕ × List ℕ)) (old new : List ℕ) → list_any holds_nul (flat_map (λ pair. pair.0 ∷ pair.1 ∷ []) ps) ≡ false → value_of ps old ≡ Some new → holds_nul new ≡ false
value_whole [] old new free h = absurd (none-some new h)
value_whole (p ∷ ps) old new free h =
    let parts = or_parts (holds_nul p.0) (holds_nul p.1 || list_any holds_nul (flat_map (λ pair. pair.0 ∷ pair.1 ∷ []) ps)) free in
    let more = or_parts (holds_nul p.1) (list_any holds_nul (flat_map (λ pair. pair.0 ∷ pair.1 ∷ []) ps)) parts.1 in
    either (value_of ps old) (bytes_eq old p.0) p.1 new (λ later. value_whole ps old new more.1 later) more.0 h

-- the names that some pairs have are without one
pub names_whole : (pairs : List (List ℕ × List ℕ)) (sections : List ImageSection) → list_any holds_nul (flat_map (λ pair. pair.0 ∷ pair.1 ∷ []) pairs) ≡ false
    → AreNames (map (λ s. value_of pairs (section_name s)) sections)
names_whole pairs [] free = All-nil (λ n. IfSome n IsName)
names_whole pairs (s ∷ ss) free = All-cons (λ n. IfSome n IsName) (value_of pairs s.name) (map (λ s. value_of pairs (section_name s)) ss) (of_name (value_of pairs s.name) refl) (names_whole pairs ss free)
  where
    of_name : (o : Option (List ℕ)) → value_of pairs s.name ≡ o → IfSome o IsName
    of_name None e = tt
    of_name (Some name) e = ap not (value_whole pairs s.name name free e)

-- ## Names are put from the last one back

changed_behind : (s : ImageSection) (ss : List ImageSection) (k : ℕ) (f : ImageSection → ImageSection) → changed_at (k + 1) f (s ∷ ss) ≡ s ∷ changed_at k f ss
changed_behind s ss k f = ap (λ (n : ℕ). changed_at n f (s ∷ ss)) (add-one k)

-- the last name first
with_last : (ns : List (Option (List ℕ))) (name : List ℕ) (ss : List ImageSection) → with_names (ns ++ Some name ∷ []) ss ≡ with_names ns (changed_at (length ns) (with_section_name name) ss)
with_last [] name [] = refl
with_last [] name (s ∷ ss) = refl
with_last (n ∷ ns) name [] = refl
with_last (n ∷ ns) name (s ∷ ss) = ap (λ l. named_if n s ∷ l) (with_last ns name ss)

with_none : (ns : List (Option (List ℕ))) (ss : List ImageSection) → with_names (ns ++ None ∷ []) ss ≡ with_names ns ss
with_none [] [] = refl
with_none [] (s ∷ ss) = refl
with_none (n ∷ ns) [] = refl
with_none (n ∷ ns) (s ∷ ss) = ap (λ l. named_if n s ∷ l) (with_none ns ss)

last_behind : (ns : List (Option (List ℕ))) (name : List ℕ) (ss : List ImageSection)
    → with_names_behind (ns ++ Some name ∷ []) ss ≡ with_names_behind ns (changed_at (length ns + 1) (with_section_name name) ss)
last_behind ns name [] = refl
last_behind ns name (s ∷ ss) = ap (λ l. s ∷ l) (with_last ns name ss) ∙ sym (ap (with_names_behind ns) (changed_behind s ss (length ns) (with_section_name name)))

none_behind : (ns : List (Option (List ℕ))) (ss : List ImageSection) → with_names_behind (ns ++ None ∷ []) ss ≡ with_names_behind ns ss
none_behind ns [] = refl
none_behind ns (s ∷ ss) = ap (λ l. s ∷ l) (with_none ns ss)

or_true : (a b : Bool) → (a || (b || (true || false))) ≡ (true || b)
or_true true b = refl
or_true false true = refl
or_true false false = refl

or_false : (b : Bool) → (b || false) ≡ b
or_false true = refl
or_false false = refl

-- one name put, and those that are left
pub name_put : (ns : List (Option (List ℕ))) (name : Option (List ℕ)) (i : ℕ) (image new : Image) → i ≡ length ns + 1 → new ≡ with_name_at i name image
    → with_section_names ns new ≡ with_section_names (ns ++ name ∷ []) image
name_put ns None i image new at is =
    ap (with_section_names ns) is
    ∙ sym (ap (λ (b : Bool). record image { changed = image.changed || b; sections = with_names_behind (ns ++ None ∷ []) image.sections }) (list_any-append is_some ns (None ∷ []) ∙ or_false (list_any is_some ns))
    ∙ ap (λ (l : List ImageSection). record image { changed = image.changed || list_any is_some ns; sections = l }) (none_behind ns image.sections))
name_put ns (Some name) i image new at is =
    ap (with_section_names ns) (is ∙ ap (λ (k : ℕ). with_name_at k (Some name) image) at)
    ∙ sym (ap (λ (b : Bool). record image { changed = b; sections = with_names_behind (ns ++ Some name ∷ []) image.sections }) (ap (λ (b : Bool). image.changed || b) (list_any-append is_some ns (Some name ∷ [])) ∙ or_true image.changed (list_any is_some ns))
    ∙ ap (λ (l : List ImageSection). record image { changed = true || list_any is_some ns; sections = l }) (last_behind ns name image.sections))

length-changed : (i : ℕ) (f : ImageSection → ImageSection) (ss : List ImageSection) → length (changed_at i f ss) ≡ length ss
length-changed i f [] = refl
length-changed zero f (s ∷ ss) = refl
length-changed (suc i) f (s ∷ ss) = ap suc (length-changed i f ss)

-- an image has as many sections as before
pub as_many : (i : ℕ) (name : Option (List ℕ)) (image new : Image) → new ≡ with_name_at i name image → length new.sections ≡ length image.sections
as_many i None image new is = ap (λ (x : Image). length x.sections) is
as_many i (Some name) image new is = ap (λ (x : Image). length x.sections) is ∙ length-changed i (with_section_name name) image.sections

-- there is a name, by the texts that are held
pub any_text : (ns : List (Option StringValue)) → list_any is_some ns ≡ list_any is_some (map text_model ns)
any_text [] = refl
any_text (None ∷ ns) = any_text ns
any_text (Some n ∷ ns) = refl

-- where the last name is put
pub place_left : (left : List (Option StringValue)) (n : ℕ) → n ≡ length left → n + 1 ≡ length (map text_model left) + 1
place_left left n is = omega (arith, length-map left text_model, is)

pub one_less : (names left : List (Option StringValue)) (name : Option StringValue) → names ≡ left ++ name ∷ [] → length names ≡ length left + 1
one_less names left name was = ap (λ (l : List (Option StringValue)). length l) was ∙ length-append left (name ∷ [])

-- ## The names of some pairs

module _ (pairs : List (List ℕ × List ℕ)) where
  abbrev pub names_of : List ImageSection → List (Option (List ℕ))
  names_of sections = map (λ s. value_of pairs (section_name s)) sections

  named_by : (o : Option (List ℕ)) (s : ImageSection) → named_if o s ≡ with_section_name (unwrap_or o s.name) s
  named_by None s = refl
  named_by (Some name) s = refl

  each_named : (ss : List ImageSection) → with_names (names_of ss) ss ≡ map (renamed_section pairs) ss
  each_named [] = refl
  each_named (s ∷ ss) = ap (λ x. x ∷ with_names (names_of ss) ss) (named_by (value_of pairs s.name) s) ∙ ap (λ l. renamed_section pairs s ∷ l) (each_named ss)

  all_named : (ss : List ImageSection) → with_names_behind (names_of (drop 1 ss)) ss ≡ behind_first (renamed_section pairs) ss
  all_named [] = refl
  all_named (s ∷ ss) = ap (λ l. s ∷ l) (each_named ss)

  pub any_named : (ss : List ImageSection) → list_any is_some (names_of ss) ≡ list_any (λ s. has_new_name pairs s.name) ss
  any_named [] = refl
  any_named (s ∷ ss) = ap (λ b. has_new_name pairs s.name || b) (any_named ss)

  same_name : (o : Option (List ℕ)) (s : ImageSection) → is_some o ≡ false → with_section_name (unwrap_or o s.name) s ≡ s
  same_name None s h = refl
  same_name (Some name) s h = absurd (cc)

  none_named : (ss : List ImageSection) → list_any (λ s. has_new_name pairs s.name) ss ≡ false → map (renamed_section pairs) ss ≡ ss
  none_named [] none = refl
  none_named (s ∷ ss) none =
      let parts = or_parts (has_new_name pairs s.name) (list_any (λ s. has_new_name pairs s.name) ss) none in
      ap (λ x. x ∷ map (renamed_section pairs) ss) (same_name (value_of pairs s.name) s parts.0) ∙ ap (λ l. s ∷ l) (none_named ss parts.1)

  pub none_at_all : (ss : List ImageSection) → is_section_renamed pairs ss ≡ false → behind_first (renamed_section pairs) ss ≡ ss
  none_at_all [] none = refl
  none_at_all (s ∷ ss) none = ap (λ l. s ∷ l) (none_named ss none)

  -- the edited image
  pub sections_named : (image : Image) → with_section_names (names_of (drop 1 image.sections)) image ≡ edited (RenameSections pairs) image
  sections_named image =
      ap (λ (b : Bool). record image { changed = image.changed || b; sections = with_names_behind (names_of (drop 1 image.sections)) image.sections }) (any_named (drop 1 image.sections))
      ∙ ap (λ (l : List ImageSection). record image { changed = image.changed || is_section_renamed pairs image.sections; sections = l }) (all_named image.sections)
      ∙ by_test (is_section_renamed pairs image.sections) refl
    where
      or_some : (a : Bool) → (a || true) ≡ true
      or_some true = refl
      or_some false = refl

      by_test : (b : Bool) → is_section_renamed pairs image.sections ≡ b
          → record image { changed = image.changed || b; sections = behind_first (renamed_section pairs) image.sections } ≡ (if b then written (RenameSections pairs) image else image)
      by_test true e = ap (λ (c : Bool). record image { changed = c; sections = behind_first (renamed_section pairs) image.sections }) (or_some image.changed)
      by_test false e =
          ap (λ (c : Bool). record image { changed = c; sections = behind_first (renamed_section pairs) image.sections }) (or_false image.changed)
          ∙ ap (λ (l : List ImageSection). record image { sections = l }) (none_at_all image.sections e)
