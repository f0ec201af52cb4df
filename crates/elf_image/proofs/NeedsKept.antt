-- Records of needed versions of which the libraries' names may be others.
use Rattle.std.proofs.Common.{◌≡◌, ◌∙◌, ℕ, List, [], ◌∷◌, map, true, Option, Some, None, inl, inr, refl, sym, ap, subst}
use Rattle.std.specs.Prelude.{IsSome}
use Rattle.std.proofs.lemmas.Bool.{true≢false}
use Rattle.std.proofs.lemmas.Option.{none-some}
use Rattle.elf_format.specs.Dynamic.{Entry}
use Rattle.elf_format.specs.Image.{Image}
use Rattle.elf_format.specs.Versions.{VersionName, VersionNeeds}
use Rattle.elf_image.specs.Edited.{AreEntriesOf, AreSameNeeds, IsEdited, IsName, IsSameNeed}
use Rattle.elf_image.proofs.Kept.{needs_complete}

-- ## What they keep

-- where there were no needed versions there are none
pub needs_of_none : (now : List VersionNeeds) → AreSameNeeds [] now → now ≡ []
needs_of_none [] same = refl
needs_of_none (n ∷ ns) same = absurd same

-- what is asked of each library's versions has the answers of read
pub versions_same : {A : Type 0} (f : List VersionName → A) (read now : List VersionNeeds) → AreSameNeeds read now
    → map (λ n. f n.versions) now ≡ map (λ n. f n.versions) read
versions_same f [] [] same = refl
versions_same f [] (n ∷ ns) same = absurd same
versions_same f (old ∷ olds) [] same = absurd same
versions_same f (old ∷ olds) (n ∷ ns) same =
    ap (λ v. f v ∷ map (λ n. f n.versions) ns) (ap (λ (x : VersionNeeds). x.versions) same.0.1)
    ∙ ap (λ l. f old.versions ∷ l) (versions_same f olds ns same.1)

first_text : List (List ℕ) → List ℕ
first_text [] = []
first_text (t ∷ ts) = t

other_texts : List (List ℕ) → List (List ℕ)
other_texts [] = []
other_texts (t ∷ ts) = ts

-- with the names of read they are those of read
pub needs_by_files : (read now : List VersionNeeds) → AreSameNeeds read now → map (λ n. n.file) now ≡ map (λ n. n.file) read → now ≡ read
unfolding first_text other_texts
needs_by_files [] [] same files = refl
needs_by_files [] (n ∷ ns) same files = absurd same
needs_by_files (old ∷ olds) [] same files = absurd same
needs_by_files (old ∷ olds) (n ∷ ns) same files =
    ap (λ (x : VersionNeeds). x ∷ ns) (same.0.1 ∙ ap (λ (f : List ℕ). record old { file = f }) (ap first_text files))
    ∙ ap (λ (l : List VersionNeeds). old ∷ l) (needs_by_files olds ns same.1 (ap other_texts files))

-- ## One after the other

need_after : (read mid now : VersionNeeds) → IsSameNeed read mid → IsSameNeed mid now → IsSameNeed read now
need_after read mid now first second = (
  elim second.0 [
    | inl same ↦ elim first.0 [ inl was ↦ inl (same ∙ was) | inr named ↦ inr (subst IsName (sym same) named) ]
    | inr named ↦ inr named
  ],
  second.1 ∙ ap (λ (m : VersionNeeds). record m { file = now.file }) first.1,
)

needs_after : (read mid now : List VersionNeeds) → AreSameNeeds read mid → AreSameNeeds mid now → AreSameNeeds read now
needs_after [] [] [] first second = tt
needs_after [] [] (n ∷ ns) first second = absurd second
needs_after [] (m ∷ ms) now first second = absurd first
needs_after (r ∷ rs) [] now first second = absurd first
needs_after (r ∷ rs) (m ∷ ms) [] first second = absurd second
needs_after (r ∷ rs) (m ∷ ms) (n ∷ ns) first second =
    (need_after r m n first.0 second.0, needs_after rs ms ns first.1 second.1)

-- a list was read where there is one now
list_was_read : (read now : Option (List Entry)) → AreEntriesOf read now → IsSome now → read ≡ None → ⊥
list_was_read None None is there none = absurd (true≢false (sym there))
list_was_read None (Some now) is there none = absurd is
list_was_read (Some read) now is there none = none-some read (sym none)

-- other records in place of those that are there
pub with_needs : (image : Image) (new : List VersionNeeds) → IsEdited image → IsSome image.entries → AreSameNeeds image.needs new
    → IsEdited (record image { changed = true; needs = new })
with_needs image new h there same = record {
  read = h.read;
  is_read = h.is_read;
  is_edit = record {
    form = h.is_edit.form;
    header = h.is_edit.header;
    segments = h.is_edit.segments;
    sections = h.is_edit.sections;
    symbols = h.is_edit.symbols;
    dynamic_symbols = h.is_edit.dynamic_symbols;
    definitions = h.is_edit.definitions;
    needs = record {
      same = needs_after h.read.needs image.needs new h.is_edit.needs.same same;
      unlisted = λ none. absurd (list_was_read h.read.entries image.entries h.is_edit.entries there none);
    };
    entries = h.is_edit.entries;
    interpreter = h.is_edit.interpreter;
    complete = needs_complete h.read image new h.is_edit.complete;
    unchanged = λ e. absurd (true≢false e);
  };
}
