-- Where the texts of the dynamic list stand.
use Rattle.std.proofs.Common.{◌≡◌, ℕ, zero, suc, ◌+◌, ◌≤◌, ◌<◌, Bool, true, false, cond, List, [], ◌∷◌, ◌++◌, length, map, drop, take, get_or, append_assoc, refl, sym, ap, ◌∙◌, subst, Option, Some, None, arith, length-append, inl, inr}
use Rattle.std.specs.Prelude.{Contains, IfSome, IsSome, min, not, ◌==◌, unwrap_or}
use Rattle.std.specs.List.{slice_get}
use Rattle.std.specs.Borrow.{Bor}
use Rattle.std.specs.Str.{bytes_eq}
use Rattle.std.specs.Cmp.Lexicographic.{bytes_decides}
use Rattle.std.proofs.lemmas.Bool.{cases_lt, eq-eqb, eqb-true, false≢true, ne_eqb}
use Rattle.std.proofs.lemmas.List.{drop_all, drop_more, get_or-map, length-map, take_more}
use Rattle.std.proofs.lemmas.List.Elements.{Contains-get_or}
use Rattle.std.proofs.lemmas.Option.{none-some, same_Some, slice_get_within}
use Rattle.patch_bytes.specs.Memory.{◌>>=◌}
use Rattle.elf_format.specs.declared.constants.TheConstants.{SHT_DYNAMIC, SHT_DYNSYM}
use Rattle.elf_format.specs.declared.records.EntryNumbers.{EntryNumbers}
use Rattle.elf_format.specs.Answers.{borrowed}
use Rattle.elf_format.specs.Dynamic.{Auto, Entry, Integer, Text}
use Rattle.elf_format.specs.File.{Parts}
use Rattle.elf_format.specs.Image.{Image, ImageSection}
use Rattle.elf_format.specs.Options.{first_there, is_some_and, list_at}
use Rattle.elf_image.specs.declared.dynamic.Dynamic.{Dynamic}
use Rattle.elf_image.specs.declared.section.Section.{Section}
use Rattle.elf_image.specs.ImageModel.{entry_model, section_model}
use Rattle.elf_image.specs.Lookups.{type_position}
use Rattle.elf_tables.specs.Strings.{StandsAt, place_of}
use Rattle.elf_image.specs.Kept.{KeptSection, dynamic_strings_number, kept_of_type, link_of_type}
use Rattle.elf_layout_plan.specs.Needs.{written_entries}
use Rattle.elf_layout_plan.specs.Texts.{is_subsequence, texts_of_entries}
use Rattle.elf_write_spec.specs.Headers.{Reads}
use Rattle.elf_write_strings.specs.declared.made.Made.{Made}
use Rattle.elf_write_strings.specs.PlacedTexts.{EntriesStand, IsContentOfUser, IsUnedited, TellsAll, TextsStand, content_at, has_text, link_at, numbers_in, places_among}
use Rattle.elf_write_strings.specs.WrittenStrings.{AreStrings, IsTold, content_read, is_list_left, made_of, strings_at}
use Rattle.elf_write_spec.specs.Ready.{IsEditedReady}
use Rattle.elf_write_strings.proofs.LinksAt.{Link, NoLink}
use Rattle.elf_write_strings.proofs.LinksAt as tables
use Rattle.elf_write_strings.proofs.ReadTables.{ContentWas, content_was, entries_stand, facts, read_unedited, ready_edit, same_read}
use Rattle.elf_write_strings.proofs.TablesThere.{content_same, dynamic_there}
use Rattle.elf_write_strings.proofs.TextsTold.{told_list}
use Rattle.elf_write_strings.proofs.UsersStay.{has_link, users_stay}
use Rattle.elf_write_strings.proofs.VersionsShown.{number_found, strings_copied}
use Rattle.elf_write_spec.proofs.ForCallers.WholeEdits.{read_facts}

-- ## Places that are made one by one

-- one text more stands at one place more
pub stand_more : (strings : List ℕ) (ts : List (List ℕ)) (ps : List ℕ) → TextsStand strings ts ps → (t : List ℕ) (p : ℕ)
    → Reads strings p t → TextsStand strings (ts ++ t ∷ []) (ps ++ p ∷ [])
stand_more strings [] [] are t p here = (here, tt)
stand_more strings [] (q ∷ qs) are t p here = absurd are
stand_more strings (u ∷ us) [] are t p here = absurd are
stand_more strings (u ∷ us) (q ∷ qs) are t p here = (are.0, stand_more strings us qs are.1 t p here)

map-more : (ts : List (Bor (List ℕ))) (t : Bor (List ℕ)) → map borrowed (ts ++ t ∷ []) ≡ map borrowed ts ++ t.now ∷ []
map-more [] t = refl
map-more (u ∷ us) t = ap (λ (l : List (List ℕ)). u.now ∷ l) (map-more us t)

pub stand_next : (strings : List ℕ) (texts : List (Bor (List ℕ))) (i : ℕ) (d : Bor (List ℕ)) (ps : List ℕ) → i < length texts
    → TextsStand strings (map borrowed (take i texts)) ps → (p : ℕ) → Reads strings p (get_or texts i d).now
    → TextsStand strings (map borrowed (take (i + 1) texts)) (ps ++ p ∷ [])
stand_next strings texts i d ps within are p here =
    subst (λ (ts : List (List ℕ)). TextsStand strings ts (ps ++ p ∷ []))
    (sym (ap (map borrowed) (take_more texts i d within) ∙ map-more (take i texts) (get_or texts i d)))
    (stand_more strings (map borrowed (take i texts)) ps are (get_or texts i d).now p here)

-- a text is read where a table tells its place
pub reads_from : (bytes : List ℕ) (o : Option ℕ) (text : List ℕ) (v w : ℕ) → IfSome o (λ place. StandsAt bytes place text) → o ≡ Some v → w ≡ v
    → Reads bytes w text
reads_from bytes None text v w stands some same = absurd (none-some v some)
reads_from bytes (Some u) text v w stands some same =
    subst (λ (n : ℕ). Reads bytes n text) (same_Some u v some ∙ sym same) stands.read

-- ## Places among entries

by_has : (b : Bool) (t : List ℕ) (ts : List (List ℕ)) (x : EntryNumbers) (es : List Entry) (xs : List EntryNumbers) → List ℕ
by_has b t ts x es xs = elim b as (λ _. List ℕ) [ true ↦ x.d_value ∷ places_among ts es xs | _ ↦ places_among (t ∷ ts) es xs ]

-- the next text is that of the entry
next_found : (ts : List (List ℕ)) (n : ℕ) (e : Entry) (es : List Entry) (x : EntryNumbers) (xs : List EntryNumbers)
    → is_some_and (λ t. has_text t e) (slice_get ts n) ≡ true
    → places_among (drop n ts) (e ∷ es) (x ∷ xs) ≡ x.d_value ∷ places_among (drop (n + 1) ts) es xs
unfolding by_has
next_found [] n e es x xs h = absurd (false≢true h)
next_found (t ∷ ts) zero e es x xs h = ap (λ (b : Bool). by_has b t ts x es xs) h
next_found (t ∷ ts) (suc n) e es x xs h =
    let next : suc (n + 1) ≡ suc n + 1 = omega arith in
    next_found ts n e es x xs h
    ∙ ap (λ (m : ℕ). x.d_value ∷ places_among (drop m (t ∷ ts)) es xs) next

-- the next text isn't that of the entry
next_passed : (ts : List (List ℕ)) (n : ℕ) (e : Entry) (es : List Entry) (x : EntryNumbers) (xs : List EntryNumbers)
    → is_some_and (λ t. has_text t e) (slice_get ts n) ≡ false
    → places_among (drop n ts) (e ∷ es) (x ∷ xs) ≡ places_among (drop n ts) es xs
unfolding by_has
next_passed [] zero e es x xs h = refl
next_passed [] (suc n) e es x xs h = refl
next_passed (t ∷ ts) zero e es x xs h = ap (λ (b : Bool). by_has b t ts x es xs) h
next_passed (t ∷ ts) (suc n) e es x xs h = next_passed ts n e es x xs h

-- no entry is left
pub ended : (ts : List (List ℕ)) (xs : List EntryNumbers) → places_among ts [] xs ≡ []
ended [] xs = refl
ended (t ∷ ts) xs = refl

ended_numbers : (ts : List (List ℕ)) (es : List Entry) → places_among ts es [] ≡ []
ended_numbers [] es = refl
ended_numbers (t ∷ ts) [] = refl
ended_numbers (t ∷ ts) (e ∷ es) = refl

module _ (ts : List (List ℕ)) (es : List Dynamic) (xs : List EntryNumbers) (whole made : List ℕ) (i : ℕ) (e : Dynamic) (x : EntryNumbers) where
  left : ℕ → ℕ → List ℕ
  left n j = places_among (drop n ts) (map entry_model (drop j es)) (drop j xs)

  split : i < length es → i < length xs
      → left (length made) i
      ≡ places_among (drop (length made) ts) (entry_model (get_or es i e) ∷ map entry_model (drop (i + 1) es)) (get_or xs i x ∷ drop (i + 1) xs)
  unfolding left
  split in_es in_xs =
      ap (λ (l : List Dynamic). places_among (drop (length made) ts) (map entry_model l) (drop i xs)) (drop_more es i e in_es)
      ∙ ap (λ (l : List EntryNumbers). places_among (drop (length made) ts) (entry_model (get_or es i e) ∷ map entry_model (drop (i + 1) es)) l)
      (drop_more xs i x in_xs)

  -- one place more
  one_found : i < length es → i < length xs → is_some_and (λ t. has_text t (entry_model (get_or es i e))) (slice_get ts (length made)) ≡ true
      → made ++ places_among (drop (length made) ts) (map entry_model (drop i es)) (drop i xs) ≡ whole
      → (made ++ (get_or xs i x).d_value ∷ [])
      ++ places_among (drop (length (made ++ (get_or xs i x).d_value ∷ [])) ts) (map entry_model (drop (i + 1) es)) (drop (i + 1) xs) ≡ whole
  unfolding left
  one_found in_es in_xs h all =
      let value : ℕ = (get_or xs i x).d_value in
      ap (λ (n : ℕ). (made ++ value ∷ []) ++ left n (i + 1)) (length-append made (value ∷ []))
      ∙ append_assoc made (value ∷ []) (left (length made + 1) (i + 1))
      ∙ ap (λ (l : List ℕ). made ++ l) (sym (next_found ts (length made) (entry_model (get_or es i e)) (map entry_model (drop (i + 1) es))
      (get_or xs i x) (drop (i + 1) xs) h))
      ∙ ap (λ (l : List ℕ). made ++ l) (sym (split in_es in_xs))
      ∙ all

  one_passed : i < length es → i < length xs → is_some_and (λ t. has_text t (entry_model (get_or es i e))) (slice_get ts (length made)) ≡ false
      → made ++ places_among (drop (length made) ts) (map entry_model (drop i es)) (drop i xs) ≡ whole
      → made ++ places_among (drop (length made) ts) (map entry_model (drop (i + 1) es)) (drop (i + 1) xs) ≡ whole
  unfolding left
  one_passed in_es in_xs h all =
      ap (λ (l : List ℕ). made ++ l) (sym (next_passed ts (length made) (entry_model (get_or es i e)) (map entry_model (drop (i + 1) es))
      (get_or xs i x) (drop (i + 1) xs) h))
      ∙ ap (λ (l : List ℕ). made ++ l) (sym (split in_es in_xs))
      ∙ all

  -- the next text is that of the entry, by what is known in the loop
  pub is_found : (n : ℕ) → n ≡ length made → i < min (length es) (length xs) → e ≡ get_or es i e
      → is_some_and (λ t. has_text t (entry_model e)) (slice_get ts n) ≡ true
      → made ++ places_among (drop (length made) ts) (map entry_model (drop i es)) (drop i xs) ≡ whole
      → (made ++ (get_or xs i x).d_value ∷ [])
      ++ places_among (drop (length (made ++ (get_or xs i x).d_value ∷ [])) ts) (map entry_model (drop (i + 1) es)) (drop (i + 1) xs) ≡ whole
  is_found n long within is h all =
      one_found (omega (arith, within)) (omega (arith, within))
      (ap (λ (y : Dynamic). is_some_and (λ t. has_text t (entry_model y)) (slice_get ts (length made))) (sym is)
      ∙ ap (λ (m : ℕ). is_some_and (λ t. has_text t (entry_model e)) (slice_get ts m)) (sym long) ∙ h) all

  pub is_passed : (n : ℕ) → n ≡ length made → i < min (length es) (length xs) → e ≡ get_or es i e
      → is_some_and (λ t. has_text t (entry_model e)) (slice_get ts n) ≡ false
      → made ++ places_among (drop (length made) ts) (map entry_model (drop i es)) (drop i xs) ≡ whole
      → made ++ places_among (drop (length made) ts) (map entry_model (drop (i + 1) es)) (drop (i + 1) xs) ≡ whole
  is_passed n long within is h all =
      one_passed (omega (arith, within)) (omega (arith, within))
      (ap (λ (y : Dynamic). is_some_and (λ t. has_text t (entry_model y)) (slice_get ts (length made))) (sym is)
      ∙ ap (λ (m : ℕ). is_some_and (λ t. has_text t (entry_model e)) (slice_get ts m)) (sym long) ∙ h) all

module _ (ts : List (List ℕ)) (es : List Dynamic) (xs : List EntryNumbers) (whole made : List ℕ) (i : ℕ) where
  nil_right : (l : List ℕ) → l ++ [] ≡ l
  nil_right [] = refl
  nil_right (y ∷ ys) = ap (λ (l : List ℕ). y ∷ l) (nil_right ys)

  -- all entries were looked at
  all_looked : made ++ places_among (drop (length made) ts) (map entry_model (drop i es)) (drop i xs) ≡ whole
      → length es ≤ i → made ≡ whole
  all_looked all past =
      sym (nil_right made) ∙ ap (λ (l : List ℕ). made ++ l) (sym (ap (λ (l : List Dynamic). places_among (drop (length made) ts) (map entry_model l) (drop i xs))
      (drop_all i es past) ∙ ended (drop (length made) ts) (drop i xs))) ∙ all

  all_numbers : made ++ places_among (drop (length made) ts) (map entry_model (drop i es)) (drop i xs) ≡ whole
      → length xs ≤ i → made ≡ whole
  all_numbers all past =
      sym (nil_right made) ∙ ap (λ (l : List ℕ). made ++ l) (sym (ap (λ (l : List EntryNumbers). places_among (drop (length made) ts) (map entry_model (drop i es)) l)
      (drop_all i xs past) ∙ ended_numbers (drop (length made) ts) (map entry_model (drop i es)))) ∙ all

  pub all_places : made ++ places_among (drop (length made) ts) (map entry_model (drop i es)) (drop i xs) ≡ whole
      → min (length es) (length xs) ≤ i → made ≡ whole
  all_places all past = elim (cases_lt i (length es)) [
    | inl less ↦ all_numbers all (omega (arith, less, past))
    | inr more ↦ all_looked all more
  ]

-- ## Entries whose texts stand where they say

module _ (strings : List ℕ) where
  -- a text that is the next one, or another one
  by_text : (b : Bool) (t own : List ℕ) → bytes_eq t own ≡ b → (ts : List (List ℕ)) (us : List (List ℕ)) (x : EntryNumbers) (es : List Entry) (xs : List EntryNumbers)
      → Reads strings x.d_value own
      → (is_subsequence ts us ≡ true → TextsStand strings ts (places_among ts es xs))
      → (is_subsequence (t ∷ ts) us ≡ true → TextsStand strings (t ∷ ts) (places_among (t ∷ ts) es xs))
      → (elim b as (λ _. Bool) [ true ↦ is_subsequence ts us | _ ↦ is_subsequence (t ∷ ts) us ]) ≡ true
      → TextsStand strings (t ∷ ts) (by_has b t ts x es xs)
  unfolding by_has
  by_text true t own is ts us x es xs here found passed h =
      (subst (λ (u : List ℕ). Reads strings x.d_value u) (sym ((bytes_decides t own).0 is)) here, found h)
  by_text false t own is ts us x es xs here found passed h = passed h

  -- texts of the entries, with some left out, stand at the places that are given for them
  pub texts_stand : (es : List Entry) (xs : List EntryNumbers) → EntriesStand strings es xs → (ts : List (List ℕ))
      → is_subsequence ts (texts_of_entries es) ≡ true → TextsStand strings ts (places_among ts es xs)
  unfolding is_subsequence by_has
  texts_stand es xs stand [] h = tt
  texts_stand [] xs stand (t ∷ ts) h = absurd (false≢true h)
  texts_stand (e ∷ es) [] stand (t ∷ ts) h = absurd stand
  texts_stand (Auto tag ∷ es) (x ∷ xs) stand (t ∷ ts) h = texts_stand es xs stand.1 (t ∷ ts) h
  texts_stand (Integer tag number ∷ es) (x ∷ xs) stand (t ∷ ts) h = texts_stand es xs stand.1 (t ∷ ts) h
  texts_stand (Text tag own ∷ es) (x ∷ xs) stand (t ∷ ts) h =
      by_text (bytes_eq t own) t own refl ts (texts_of_entries es) x es xs stand.0.read (texts_stand es xs stand.1 ts)
      (texts_stand es xs stand.1 (t ∷ ts)) h

-- ## Both kinds of tables

-- what is read of two parts of a list of entries is one
texts_at : (o : Option (List Entry)) → list_at texts_of_entries o ≡ texts_of_entries (list_at (λ es. es) o)
texts_at None = refl
texts_at (Some es) = refl

module _ (read image : Image) (is : IsEditedReady read image) (list : ℕ) (at : type_position image SHT_DYNAMIC ≡ Some list) where
  -- the section of the dynamic list, at that position
  record ListHere : Type 0 where
    pub section : KeptSection
    pub now : kept_of_type SHT_DYNAMIC image ≡ Some section
    pub there : slice_get image.sections list ≡ Some section.section

  here : ListHere
  here = elim (tables.link_at image SHT_DYNAMIC is.edited) [
    | NoLink none not ↦ absurd (none-some list (sym none ∙ at))
    | Link j k position there found ↦
        let own : 0 + j ≡ list = same_Some (0 + j) list (sym position ∙ at) in
        let index : j ≡ list = omega (arith, own) in
        record {
          section = k;
          now = found;
          there = ap (slice_get image.sections) (sym index) ∙ there;
        }
  ]

  pub list_within : list < length image.sections
  list_within = slice_get_within image.sections list here.section.section here.there

  section_link : link_at image list ≡ here.section.section.sh_link
  section_link = ap (λ (o : Option ImageSection). unwrap_or (o >>= λ s. Some s.sh_link) 0) here.there

  pub linked_now : link_of_type SHT_DYNAMIC image ≡ Some (link_at image list)
  linked_now = ap (λ (o : Option KeptSection). o >>= λ s. Some s.section.sh_link) here.now ∙ ap (λ (n : ℕ). Some n) (sym section_link)

  -- the dynamic list has its texts among the dynamic strings
  pub strings_number : dynamic_strings_number image ≡ Some (link_at image list)
  strings_number = ap (λ (o : Option ℕ). first_there o (link_of_type SHT_DYNSYM image)) linked_now

  user_here : IsContentOfUser image SHT_DYNAMIC (link_at image list) (content_at image list)
  user_here = record {
    section = here.section;
    there = here.now;
    link = sym section_link;
    content = ap (λ (o : Option ImageSection). unwrap_or (o >>= λ s. Some s.content) []) here.there;
  }

  -- each text that was read stands where its entry says
  pub read_stand : EntriesStand (content_read image (link_at image list)) (list_at (λ es. es) read.entries) (numbers_in read (content_at image list))
  read_stand =
      let f = read_facts read image (ready_edit is) in
      let un : IsUnedited read = read_unedited is in
      let was = content_was read image f SHT_DYNAMIC (link_at image list) (content_at image list) refl user_here in
      let same : f.parts ≡ (facts read un).parts = same_read is in
      subst (λ (l : List ℕ). EntriesStand l (list_at (λ es. es) read.entries) (numbers_in read (content_at image list)))
      (content_same read image f (link_at image list) (dynamic_there read image f (link_at image list) strings_number))
      (entries_stand read un (link_at image list) (content_at image list)
      (subst (λ (p : Parts). ContentWas p SHT_DYNAMIC (link_at image list) (content_at image list)) same was))

  -- the texts stand in a table that is copied with the places of its texts
  pub if_copied : (made : List Made) → made_of made (link_at image list) ≡ None → AreStrings read image made → (ts : List (List ℕ))
      → ts ≡ list_at texts_of_entries (written_entries read image)
      → TextsStand (strings_at image made (link_at image list)) ts
      (places_among ts (list_at (λ es. es) read.entries) (numbers_in read (content_at image list)))
  if_copied made none are ts own =
      let left : is_list_left read image ≡ true =
      (users_stay read image (link_at image list) (are.as_read (link_at image list) (inl strings_number) none).stay).list
      (has_link image SHT_DYNAMIC (link_at image list) linked_now) in
      subst (λ (strings : List ℕ). TextsStand strings ts (places_among ts (list_at (λ es. es) read.entries) (numbers_in read (content_at image list))))
      (strings_copied image made (link_at image list) none)
      (texts_stand (content_read image (link_at image list)) (list_at (λ es. es) read.entries) (numbers_in read (content_at image list)) read_stand ts
      (ap (λ (us : List (List ℕ)). is_subsequence us (texts_of_entries (list_at (λ es. es) read.entries))) own
      ∙ ap (is_subsequence (list_at texts_of_entries (written_entries read image))) (sym (texts_at read.entries)) ∙ left))

  -- a table that is told anew tells each text of the list
  held : (made : List Made) (m : Made) → made_of made (link_at image list) ≡ Some m → IsTold read image m
      → TellsAll m.table (list_at texts_of_entries (written_entries read image))
  held made m found told =
      told_list read image m told (linked_now ∙ ap (λ (n : ℕ). Some n) (sym (number_found made (link_at image list) m found)))

  pub made_holds : (made : List Made) (m : Made) → made_of made (link_at image list) ≡ Some m → AreStrings read image made → (texts : List (Bor (List ℕ)))
      → map borrowed texts ≡ list_at texts_of_entries (written_entries read image)
      → (k : ℕ) (d : Bor (List ℕ)) → k < length texts → IsSome (place_of m.table (get_or texts k d).now)
  made_holds made m some are texts own k d within =
      let inside : k < length (map borrowed texts) = omega (arith, within, length-map texts borrowed) in
      let has : Contains (map borrowed texts) (get_or (map borrowed texts) k d.now) = Contains-get_or (map borrowed texts) k d.now inside in
      held made m some (are.told (link_at image list) m some) (get_or texts k d).now
      (subst (λ (ts : List (List ℕ)). Contains ts (get_or texts k d).now) own
      (subst (λ (t : List ℕ). Contains (map borrowed texts) t) (get_or-map borrowed texts k d d.now within) has))

-- ## Texts of which some are left out

subsequence_by : Bool → List ℕ → List (List ℕ) → List (List ℕ) → Bool
subsequence_by b t ts us = elim b [ true ↦ is_subsequence ts us | _ ↦ is_subsequence (t ∷ ts) us ]

-- the next text is that of the entry
left_found : (ts : List (List ℕ)) (n : ℕ) (e : Entry) (es : List Entry) → is_some_and (λ t. has_text t e) (slice_get ts n) ≡ true
    → is_subsequence (drop n ts) (texts_of_entries (e ∷ es)) ≡ is_subsequence (drop (n + 1) ts) (texts_of_entries es)
unfolding is_subsequence subsequence_by
left_found [] n e es h = absurd (false≢true h)
left_found (t ∷ ts) zero (Auto tag) es h = absurd (false≢true h)
left_found (t ∷ ts) zero (Integer tag number) es h = absurd (false≢true h)
left_found (t ∷ ts) zero (Text tag own) es h = ap (λ (b : Bool). subsequence_by b t ts (texts_of_entries es)) h
left_found (t ∷ ts) (suc n) e es h =
    let next : suc (n + 1) ≡ suc n + 1 = omega arith in
    left_found ts n e es h ∙ ap (λ (m : ℕ). is_subsequence (drop m (t ∷ ts)) (texts_of_entries es)) next

-- the next text isn't that of the entry
left_passed : (ts : List (List ℕ)) (n : ℕ) (e : Entry) (es : List Entry) → is_some_and (λ t. has_text t e) (slice_get ts n) ≡ false
    → is_subsequence (drop n ts) (texts_of_entries (e ∷ es)) ≡ is_subsequence (drop n ts) (texts_of_entries es)
unfolding is_subsequence subsequence_by
left_passed [] zero e es h = refl
left_passed [] (suc n) e es h = refl
left_passed (t ∷ ts) zero (Auto tag) es h = refl
left_passed (t ∷ ts) zero (Integer tag number) es h = refl
left_passed (t ∷ ts) zero (Text tag own) es h = ap (λ (b : Bool). subsequence_by b t ts (texts_of_entries es)) h
left_passed (t ∷ ts) (suc n) e es h = left_passed ts n e es h

-- the texts that are left, by what is known in the loop
pub left_next : (ts : List (List ℕ)) (es : List Dynamic) (n m i : ℕ) (e : Dynamic) (b is : Bool) → i < length es → e ≡ get_or es i e
    → b ≡ is_some_and (λ t. has_text t (entry_model e)) (slice_get ts n) → m ≡ cond b (n + 1) n
    → is_subsequence (drop n ts) (texts_of_entries (map entry_model (drop i es))) ≡ is
    → is_subsequence (drop m ts) (texts_of_entries (map entry_model (drop (i + 1) es))) ≡ is
left_next ts es n m i e b is within own tells next so_far =
    let split : map entry_model (drop i es) ≡ entry_model e ∷ map entry_model (drop (i + 1) es) =
    ap (map entry_model) (drop_more es i e within) ∙ ap (λ (x : Dynamic). entry_model x ∷ map entry_model (drop (i + 1) es)) (sym own) in
    let all : is_subsequence (drop n ts) (texts_of_entries (entry_model e ∷ map entry_model (drop (i + 1) es))) ≡ is =
    ap (λ (l : List Entry). is_subsequence (drop n ts) (texts_of_entries l)) (sym split) ∙ so_far in
    by_test b tells next all
  where
    by_test : (b : Bool) → b ≡ is_some_and (λ t. has_text t (entry_model e)) (slice_get ts n) → m ≡ cond b (n + 1) n
        → is_subsequence (drop n ts) (texts_of_entries (entry_model e ∷ map entry_model (drop (i + 1) es))) ≡ is
        → is_subsequence (drop m ts) (texts_of_entries (map entry_model (drop (i + 1) es))) ≡ is
    by_test true tells next all =
        ap (λ (k : ℕ). is_subsequence (drop k ts) (texts_of_entries (map entry_model (drop (i + 1) es)))) next
        ∙ sym (left_found ts n (entry_model e) (map entry_model (drop (i + 1) es)) (sym tells)) ∙ all
    by_test false tells next all =
        ap (λ (k : ℕ). is_subsequence (drop k ts) (texts_of_entries (map entry_model (drop (i + 1) es)))) next
        ∙ sym (left_passed ts n (entry_model e) (map entry_model (drop (i + 1) es)) (sym tells)) ∙ all

same_next : (n m : ℕ) → (suc n == suc m) ≡ (n == m)
same_next n m = by_test (n == m) refl
  where
    by_test : (b : Bool) → (n == m) ≡ b → (suc n == suc m) ≡ b
    by_test true is = eq-eqb (suc n) (suc m) (ap suc (eqb-true n m is))
    by_test false is = ne_eqb (suc n) (suc m) (λ e. false≢true (sym is ∙ eq-eqb n m (omega (arith, e))))

-- the next text is one of them
pub next_within : (ts : List (List ℕ)) (n : ℕ) (e : Entry) → is_some_and (λ t. has_text t e) (slice_get ts n) ≡ true → n < length ts
next_within [] n e h = absurd (false≢true h)
next_within (t ∷ ts) zero e h = omega arith
next_within (t ∷ ts) (suc n) e h = omega (arith, next_within ts n e h)

-- no text is left where all were found
pub left_end : (ts : List (List ℕ)) (es : List Dynamic) (n i : ℕ) (is : Bool) → length es ≤ i
    → is_subsequence (drop n ts) (texts_of_entries (map entry_model (drop i es))) ≡ is → n ≤ length ts → (n == length ts) ≡ is
unfolding is_subsequence
left_end ts es n i is past so_far inside =
    let ended : is_subsequence (drop n ts) [] ≡ is =
    ap (λ (l : List Dynamic). is_subsequence (drop n ts) (texts_of_entries (map entry_model l))) (sym (drop_all i es past)) ∙ so_far in
    by_order ts n inside ∙ ended
  where
    by_order : (ts : List (List ℕ)) (n : ℕ) → n ≤ length ts → (n == length ts) ≡ is_subsequence (drop n ts) []
    by_order [] n inside =
        let none : n ≡ 0 = omega (arith, inside) in
        subst (λ (k : ℕ). (k == 0) ≡ is_subsequence (drop k []) []) (sym none) refl
    by_order (t ∷ ts) zero inside = ne_eqb 0 (length (t ∷ ts)) (λ e. omega (arith, e))
    by_order (t ∷ ts) (suc n) inside = same_next n (length ts) ∙ by_order ts n (omega (arith, inside))

-- ## The bytes of a section of an image

pub content_of : (sections : List Section) (i : ℕ) (d : Section) → i < length sections
    → unwrap_or (slice_get (map section_model sections) i >>= λ s. Some s.content) [] ≡ (get_or sections i d).content.now
content_of [] i d within = absurd (omega (arith, within))
content_of (s ∷ ss) zero d within = refl
content_of (s ∷ ss) (suc i) d within = content_of ss i d (omega (arith, within))

-- what a section of an image links to
pub link_of : (sections : List Section) (i : ℕ) (d : Section) → i < length sections
    → unwrap_or (slice_get (map section_model sections) i >>= λ s. Some s.sh_link) 0 ≡ (get_or sections i d).sh_link
link_of [] i d within = absurd (omega (arith, within))
link_of (s ∷ ss) zero d within = refl
link_of (s ∷ ss) (suc i) d within = link_of ss i d (omega (arith, within))

-- what a section that is lent links to
pub link_lent : (image : Image) (list : ℕ) (sections : List Section) (d : Section) → map section_model sections ≡ image.sections
    → list < length sections → (get_or sections list d).sh_link ≡ link_at image list
link_lent image list sections d same within =
    sym (link_of sections list d within)
    ∙ ap (λ (ss : List ImageSection). unwrap_or (slice_get ss list >>= λ s. Some s.sh_link) 0) same
