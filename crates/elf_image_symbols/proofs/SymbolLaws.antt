-- Symbols with their changes.
use Rattle.std.proofs.Common.{◌≡◌, ◌≢◌, ℕ, ◌<◌, Bool, true, false, List, [], length, map, get_or, refl, sym, ap, ◌∙◌, subst, inl, inr, Option, Some, None, arith}
use Rattle.std.specs.Prelude.{◌⊎◌, bytes_eq, insert, slice_get, option_map}
use Rattle.std.specs.List.{All}
use Rattle.std.proofs.lemmas.Bool.{both_ways, cases_eq}
use Rattle.std.proofs.lemmas.List.{ext_get_or, get_or-map, length-map}
use Rattle.std.proofs.lemmas.Option.{same_Some, slice_get-get_or}
use Rattle.std.proofs.lemmas.Slice.Eq.{bytes_eq-Decides}
use Rattle.elf_format.specs.declared.version_id.VersionId.{VersionId}
use Rattle.elf_format.specs.Image.{counted}
use Rattle.elf_format.specs.Views.{NamedSymbol}
use Rattle.elf_image_symbols.proofs.ForCallers.Lengths.{length-counted, slice_index-counted}
use Rattle.elf_image_symbols.specs.TableSymbols.{symbol_with}
use Rattle.elf_image_symbols.specs.declared.change.Change.{Change}
use Rattle.elf_image_symbols.specs.Changes.{HasName, IsGapFor, IsPlaceOf, Leaves, change_of, changed, changed_by, no_symbol, number_of, read_at, symbol_now, version_by}
use Rattle.elf_image_symbols.specs.EditedList.{IsEditedSymbol, IsName, as_global, changed_at}
use Rattle.elf_image_symbols.specs.Rising.{AreRising}
use Rattle.elf_image_symbols.proofs.ChangeLaws.{change_of-changed_here, change_of-changed_other, change_of-each, change_of-gap, change_of-insert_here, change_of-insert_other, change_of-place, change_of-some, changes_below}

-- ## One symbol

-- the symbol as it was read is there
pub read_there : (read : List NamedSymbol) (n : ℕ) → n < length read → slice_get read n ≡ Some (read_at read n)
read_there read n less = slice_get-get_or read n no_symbol less

-- a part of it that is read there
pub read_part : {A : Type 0} (part : NamedSymbol → A) (read : List NamedSymbol) (n : ℕ) (t : A) → n < length read → option_map part (slice_get read n) ≡ Some t → part (read_at read n) ≡ t
read_part part read n t less is = same_Some (part (read_at read n)) t (sym (ap (option_map part) (read_there read n less)) ∙ is)

pub now-same : (read : List NamedSymbol) (cs ds : List Change) (n : ℕ) → change_of ds n ≡ change_of cs n → symbol_now read ds n ≡ symbol_now read cs n
unfolding symbol_now
now-same read cs ds n same = ap (λ (o : Option Change). changed o (read_at read n)) same

pub now-some : (read : List NamedSymbol) (cs : List Change) (n : ℕ) (c : Change) → change_of cs n ≡ Some c → symbol_now read cs n ≡ changed_by c (read_at read n)
unfolding symbol_now
now-some read cs n c is = ap (λ (o : Option Change). changed o (read_at read n)) is

pub now-none : (read : List NamedSymbol) (cs : List Change) (n : ℕ) → change_of cs n ≡ None → symbol_now read cs n ≡ read_at read n
unfolding symbol_now
now-none read cs n is = ap (λ (o : Option Change). changed o (read_at read n)) is

-- no change is of the numbers of a record
pub now-numbers : (read : List NamedSymbol) (cs : List Change) (n place : ℕ) → symbol_with place (symbol_now read cs n) ≡ symbol_with place (read_at read n)
unfolding symbol_now
now-numbers read cs n place = by_change (change_of cs n)
  where
    by_change : (o : Option Change) → symbol_with place (changed o (read_at read n)) ≡ symbol_with place (read_at read n)
    by_change None = refl
    by_change (Some c) = refl

-- a change that gives back the name, and clears nothing, makes nothing of its symbol
pub makes-nothing : (c : Change) (y : NamedSymbol) → c.name.bytes ≡ y.name → c.is_cleared ≡ false → changed_by c y ≡ y
makes-nothing c y named keeps =
    ap (λ (b : Bool). record y { name = c.name.bytes; version = version_by b y.version }) keeps ∙ ap (λ (n : List ℕ). record y { name = n }) named

-- ## A change is put in that makes nothing of its symbol

pub now-inserted : (read : List NamedSymbol) (cs : List Change) (c : Change) (k : ℕ) → IsGapFor cs c.number k → c.name.bytes ≡ (read_at read c.number).name → c.is_cleared ≡ false
    → (m : ℕ) → symbol_now read (insert cs k c) m ≡ symbol_now read cs m
now-inserted read cs c k gap named keeps m = elim (cases_eq m c.number) [
  | inl same ↦
      subst (λ (n : ℕ). symbol_now read (insert cs k c) n ≡ symbol_now read cs n) (sym same)
      (now-some read (insert cs k c) c.number c (change_of-insert_here cs c k gap.within gap.before)
      ∙ makes-nothing c (read_at read c.number) named keeps
      ∙ sym (now-none read cs c.number (change_of-gap cs c.number k gap)))
  | inr other ↦ now-same read cs (insert cs k c) m (change_of-insert_other cs c k m other)
]

-- ## A change is changed

-- what a change of a change makes of symbols, where a change makes of them what it tells
module _ (f : Change → Change) (h : NamedSymbol → NamedSymbol) (keeps : (c : Change) → number_of (f c) ≡ number_of c) (makes : (c : Change) (y : NamedSymbol) → changed_by (f c) y ≡ h (changed_by c y)) where
  pub now-changed_here : (read : List NamedSymbol) (cs : List Change) (n k : ℕ) → IsPlaceOf cs n k → symbol_now read (changed_at k f cs) n ≡ h (symbol_now read cs n)
  now-changed_here read cs n k place =
      let d : Change = record { number = n; name = record { bytes = []; is_owned = false }; is_cleared = false } in
      now-some read (changed_at k f cs) n (f (get_or cs k d)) (change_of-changed_here f keeps cs n k d place.within place.before place.here)
      ∙ makes (get_or cs k d) (read_at read n)
      ∙ ap h (sym (now-some read cs n (get_or cs k d) (change_of-place cs n k d place.within place.before place.here)))

  pub now-changed_other : (read : List NamedSymbol) (cs : List Change) (n k m : ℕ) → IsPlaceOf cs n k → m ≢ n → symbol_now read (changed_at k f cs) m ≡ symbol_now read cs m
  now-changed_other read cs n k m place other = now-same read cs (changed_at k f cs) m (change_of-changed_other f keeps cs n k m other place.within place.here)

-- a version that is cleared is the global one, cleared before or not
pub clears : (c : Change) (y : NamedSymbol) → changed_by (record c { is_cleared = true }) y ≡ record (changed_by c y) { version = as_global (changed_by c y).version }
clears c y = ap (λ (v : Option VersionId). record y { name = c.name.bytes; version = v }) (by_version c.is_cleared y.version)
  where
    by_version : (b : Bool) (v : Option VersionId) → as_global v ≡ as_global (version_by b v)
    by_version true None = refl
    by_version true (Some id) = refl
    by_version false v = refl

-- ## What a symbol can be

version_stays : (b : Bool) (v : Option VersionId) → (version_by b v ≡ v) ⊎ (version_by b v ≡ as_global v)
version_stays true v = inr refl
version_stays false v = inl refl

pub is_edited : (read : List NamedSymbol) (cs : List Change) (n : ℕ) → All (HasName read) cs → IsEditedSymbol (read_at read n) (symbol_now read cs n)
unfolding symbol_now
is_edited read cs n named = by_change (change_of cs n) refl
  where
    by_change : (o : Option Change) → change_of cs n ≡ o → IsEditedSymbol (read_at read n) (changed o (read_at read n))
    by_change None is = record { named = inl refl; versioned = inl refl; same = refl }
    by_change (Some c) is =
        let (has, at) = change_of-some (HasName read) cs n c named is in
        record {
          named = subst (λ (k : ℕ). (c.name.bytes ≡ (read_at read k).name) ⊎ IsName c.name.bytes) at has;
          versioned = version_stays c.is_cleared (read_at read n).version;
          same = refl;
        }

-- ## All symbols

module _ {A : Type 0} (part : NamedSymbol → A) (read : List NamedSymbol) (now : ℕ → NamedSymbol) where
  shown_at : (m : ℕ) (d : A) → m < length read → get_or (map part (map now (counted (length read)))) m d ≡ part (now m)
  shown_at m d less =
      let there : m < length (counted (length read)) = omega (arith, less, length-counted (length read)) in
      get_or-map part (map now (counted (length read))) m (now m) d (omega (arith, there, length-map (counted (length read)) now))
      ∙ ap part (get_or-map now (counted (length read)) m 0 (now m) there ∙ ap now (slice_index-counted (length read) m less))

  read_part_at : (m : ℕ) (d : A) → m < length read → get_or (map part read) m d ≡ part (read_at read m)
  read_part_at m d less = get_or-map part read m no_symbol d less

  -- where each has what was read, all have
  pub all_from_each : ((m : ℕ) → m < length read → part (now m) ≡ part (read_at read m)) → map part (map now (counted (length read))) ≡ map part read
  all_from_each each =
      let long : length (map part (map now (counted (length read)))) ≡ length read =
      length-map (map now (counted (length read))) part ∙ length-map (counted (length read)) now ∙ length-counted (length read) in
      ext_get_or (part no_symbol) (map part (map now (counted (length read)))) (map part read) (long ∙ sym (length-map read part))
      (λ m less.
      let there : m < length read = omega (arith, less, long) in
      shown_at m (part no_symbol) there ∙ each m there ∙ sym (read_part_at m (part no_symbol) there))

  -- where all have what was read, each has
  pub each_from_all : map part (map now (counted (length read))) ≡ map part read → (m : ℕ) → m < length read → part (now m) ≡ part (read_at read m)
  each_from_all all m less = sym (shown_at m (part no_symbol) less) ∙ ap (λ (l : List A). get_or l m (part no_symbol)) all ∙ read_part_at m (part no_symbol) less

module _ {A : Type 0} (part : NamedSymbol → A) (read : List NamedSymbol) (cs : List Change) where
  pub each_left : All (Leaves part read) cs → (m : ℕ) → part (symbol_now read cs m) ≡ part (read_at read m)
  unfolding symbol_now
  each_left all m = by_change (change_of cs m) refl
    where
      by_change : (o : Option Change) → change_of cs m ≡ o → part (changed o (read_at read m)) ≡ part (read_at read m)
      by_change None is = refl
      by_change (Some c) is =
          let (leaves, at) = change_of-some (Leaves part read) cs m c all is in
          subst (λ (k : ℕ). part (changed_by c (read_at read k)) ≡ part (read_at read k)) at leaves

  pub all_leave : AreRising 0 (length read) (map number_of cs) → ((m : ℕ) → m < length read → part (symbol_now read cs m) ≡ part (read_at read m)) → All (Leaves part read) cs
  all_leave rising each k d less =
      let c : Change = get_or cs k d in
      ap part (sym (now-some read cs (number_of c) c (change_of-each (length read) cs rising k d less)))
      ∙ each (number_of c) (changes_below (length read) cs rising k d less)

-- ## Whether a change leaves its symbol

module _ (read : List NamedSymbol) (c : Change) (y : NamedSymbol) (is : read_at read c.number ≡ y) where
  pub leaves_no_name : bytes_eq c.name.bytes y.name ≡ false → Leaves (λ (z : NamedSymbol). z.name) read c → ⊥
  leaves_no_name other leaves =
      both_ways (bytes_eq c.name.bytes y.name) other ((bytes_eq-Decides c.name.bytes y.name).1 (leaves ∙ ap (λ (z : NamedSymbol). z.name) is))

  pub leaves_all : bytes_eq c.name.bytes y.name ≡ true → version_by c.is_cleared y.version ≡ y.version → Leaves (λ (z : NamedSymbol). z) read c
  leaves_all same version =
      ap (changed_by c) is
      ∙ ap (λ (v : Option VersionId). record y { name = c.name.bytes; version = v }) version
      ∙ ap (λ (n : List ℕ). record y { name = n }) ((bytes_eq-Decides c.name.bytes y.name).0 same)
      ∙ sym is

  pub leaves_version : Leaves (λ (z : NamedSymbol). z) read c → version_by c.is_cleared y.version ≡ y.version
  leaves_version leaves = ap (λ (z : NamedSymbol). z.version) (sym (ap (changed_by c) is) ∙ leaves ∙ is)
