-- Needed versions that stay, and the entries of the dynamic list with them.
use Rattle.std.proofs.Common.{◌≡◌, ℕ, ◌∙◌, List, [], ◌∷◌, Bool, true, false, Option, Some, None, Ok, map, refl, sym, ap}
use Rattle.std.specs.Prelude.{Result, Err, filter, not, ◌&&◌, ◌||◌, if◌then◌else◌}
use Rattle.std.specs.Option.{option_map}
use Rattle.std.proofs.lemmas.List.Elements.{filter_agree}
use Rattle.elf_format.specs.declared.fault.ElfFault.{ElfFault}
use Rattle.elf_format.specs.Dynamic.{Entry}
use Rattle.elf_format.specs.Image.{Image, image_of}
use Rattle.elf_format.specs.Options.{is_some_and}
use Rattle.elf_format.specs.Versions.{VersionName, VersionNeeds}
use Rattle.elf_format.specs.Views.{NamedSymbol}
use Rattle.elf_tables.specs.Edited.{IsEdited}
use Rattle.elf_tables.specs.Kept.{image_at_read}
use Rattle.elf_layout_plan.specs.Needs.{are_needs_gone, is_empty, is_version_dropped, is_version_used, lists_needs, staying_needs, written_entries, written_needs}
use Rattle.elf_layout_plan.specs.Staying.{is_of_needs, mark_of, staying_entries, unmarked_needs}
use Rattle.elf_layout_plan.specs.WrittenNeeds.{AreWritten}

-- ## The versions that stay, by a test of their indices in place of marks

abbrev names_by : (ℕ → Bool) → List VersionName → List VersionName
names_by gone names = filter (λ v. not (gone v.index)) names

abbrev with_names_by : (ℕ → Bool) → VersionNeeds → VersionNeeds
with_names_by gone n = record n { versions = names_by gone n.versions }

abbrev stays_by : (ℕ → Bool) → VersionNeeds → Bool
stays_by gone n = is_empty n.versions || not (is_empty (names_by gone n.versions))

abbrev needs_by : (ℕ → Bool) → List VersionNeeds → List VersionNeeds
needs_by gone needs = map (with_names_by gone) (filter (stays_by gone) needs)

map_agree : {A B : Type 0} (f g : A → B) → ((x : A) → f x ≡ g x) → (xs : List A) → map f xs ≡ map g xs
map_agree f g same [] = refl
map_agree f g same (x ∷ xs) = ap (λ y. y ∷ map f xs) (same x) ∙ ap (λ ys. g x ∷ ys) (map_agree f g same xs)

module _ (some gone : ℕ → Bool) (same : (index : ℕ) → some index ≡ gone index) where
  names_agree : (names : List VersionName) → names_by some names ≡ names_by gone names
  names_agree names = filter_agree (λ v. not (some v.index)) (λ v. not (gone v.index)) (λ v. ap not (same v.index)) names

  stays_agree : (n : VersionNeeds) → stays_by some n ≡ stays_by gone n
  stays_agree n = ap (λ (l : List VersionName). is_empty n.versions || not (is_empty l)) (names_agree n.versions)

  with_agree : (n : VersionNeeds) → with_names_by some n ≡ with_names_by gone n
  with_agree n = ap (λ (l : List VersionName). record n { versions = l }) (names_agree n.versions)

  needs_agree : (needs : List VersionNeeds) → needs_by some needs ≡ needs_by gone needs
  needs_agree needs =
      ap (map (with_names_by some)) (filter_agree (stays_by some) (stays_by gone) stays_agree needs)
      ∙ map_agree (with_names_by some) (with_names_by gone) with_agree (filter (stays_by gone) needs)

-- where no version goes all records stay
all_names : (names : List VersionName) → names_by (λ _. false) names ≡ names
all_names [] = refl
all_names (v ∷ vs) = ap (λ l. v ∷ l) (all_names vs)

stays_always : (n : VersionNeeds) → stays_by (λ _. false) n ≡ true
stays_always n = ap (λ (l : List VersionName). is_empty n.versions || not (is_empty l)) (all_names n.versions) ∙ either (is_empty n.versions)
  where
    either : (b : Bool) → (b || not b) ≡ true
    either true = refl
    either false = refl

unchanged : (n : VersionNeeds) → with_names_by (λ _. false) n ≡ n
unchanged n = ap (λ (l : List VersionName). record n { versions = l }) (all_names n.versions)

all_needs : (needs : List VersionNeeds) → needs_by (λ _. false) needs ≡ needs
all_needs [] = refl
all_needs (n ∷ ns) =
    ap (λ (b : Bool). map (with_names_by (λ _. false)) (if b then n ∷ filter (stays_by (λ _. false)) ns else filter (stays_by (λ _. false)) ns)) (stays_always n)
    ∙ ap (λ m. m ∷ needs_by (λ _. false) ns) (unchanged n)
    ∙ ap (λ l. n ∷ l) (all_needs ns)

-- ## What is written

-- all where the dynamic list doesn't lead to them
pub stays_apart : (read image : Image) → is_some_and lists_needs image.entries ≡ false → written_needs read image ≡ image.needs
unfolding written_needs
stays_apart read image apart = ap (λ (b : Bool). if b then staying_needs read image else image.needs) apart

-- all needed versions stay where the dynamic symbols are those that were read
pub stays_same : (read image : Image) → image.dynamic_symbols ≡ read.dynamic_symbols → written_needs read image ≡ image.needs
unfolding written_needs
stays_same read image same = either (is_some_and lists_needs image.entries)
  where
    not_both : (b : Bool) → (b && not b) ≡ false
    not_both true = refl
    not_both false = refl

    none : (index : ℕ) → is_version_dropped read image index ≡ false
    none index =
        ap (λ (ys : List NamedSymbol). is_version_used read.dynamic_symbols index && not (is_version_used ys index)) same
        ∙ not_both (is_version_used read.dynamic_symbols index)

    either : (b : Bool) → (if b then staying_needs read image else image.needs) ≡ image.needs
    either true = needs_agree (is_version_dropped read image) (λ _. false) none image.needs ∙ all_needs image.needs
    either false = refl

-- without a mark all stay
pub unmarked_all : (needs : List VersionNeeds) → unmarked_needs [] needs ≡ needs
unmarked_all needs = needs_agree (mark_of []) (λ _. false) (λ index. refl) needs ∙ all_needs needs

-- the marks of versions that are dropped, where the list leads to them
pub written_marked : (read image : Image) (marks : List Bool) → ((index : ℕ) → mark_of marks index ≡ is_version_dropped read image index) → is_some_and lists_needs image.entries ≡ true
    → unmarked_needs marks image.needs ≡ written_needs read image
unfolding written_needs
written_marked read image marks dropped led =
    needs_agree (mark_of marks) (is_version_dropped read image) dropped image.needs ∙ ap (λ (b : Bool). if b then staying_needs read image else image.needs) (sym led)

-- ## The dynamic list

all_entries : (entries : List Entry) → staying_entries false entries ≡ entries
all_entries [] = refl
all_entries (e ∷ es) = ap (λ l. e ∷ l) (all_entries es)

entries_by : (gone : Bool) (entries : Option (List Entry))
    → option_map (staying_entries gone) entries ≡ (if gone then option_map (λ es. filter (λ e. not (is_of_needs e)) es) entries else entries)
entries_by true entries = refl
entries_by false None = refl
entries_by false (Some es) = ap (λ (l : List Entry). Some l) (all_entries es)

-- ## Both

pub are_written : (read image : Image) (marks : List Bool) (gone : Bool) → unmarked_needs marks image.needs ≡ written_needs read image
    → gone ≡ (not (is_empty image.needs) && is_empty (unmarked_needs marks image.needs)) → AreWritten read image (record { marks = marks; are_gone = gone })
unfolding written_entries
are_written read image marks gone needs is =
    let same : gone ≡ are_needs_gone read image = is ∙ ap (λ (l : List VersionNeeds). not (is_empty image.needs) && is_empty l) needs in
    record {
      needs = needs;
      entries = entries_by gone image.entries
          ∙ ap (λ (b : Bool). if b then option_map (λ es. filter (λ e. not (is_of_needs e)) es) image.entries else image.entries) same;
      gone = same;
    }

-- all of an image that was read
pub all_written : (read : Image) → AreWritten read read (record { marks = []; are_gone = false })
all_written read =
    are_written read read [] false (unmarked_all read.needs ∙ sym (stays_same read read refl))
    (sym (ap (λ (l : List VersionNeeds). not (is_empty read.needs) && is_empty l) (unmarked_all read.needs) ∙ not_both (is_empty read.needs)))
  where
    not_both : (b : Bool) → (not b && b) ≡ false
    not_both true = refl
    not_both false = refl

-- ## The image as it was read

pub at_read : (image read : Image) → IsEdited image → read ≡ image_at_read image → image_of image.source ≡ Ok read
at_read image read is same =
    is.is_read ∙ ap (λ (r : Image). Ok r) (sym (same ∙ ap (λ (o : Result Image ElfFault). elim o [ Ok found ↦ found | Err _ ↦ image ]) is.is_read))
