-- The first section of a type, by its position and by its number.
use Rattle.std.proofs.Common.{◌≡◌, ℕ, suc, ◌+◌, Bool, true, false, cond, List, [], ◌∷◌, length, refl, sym, ap, ◌∙◌, subst, Option, Some, None, arith}
use Rattle.std.specs.Prelude.{find, ◌==◌}
use Rattle.std.specs.List.{position_from, slice_get}
use Rattle.std.proofs.lemmas.Iterator.Adapters.{position_from-zero}
use Rattle.elf_format.specs.Image.{Image, ImageSection}
use Rattle.elf_image.specs.Edited.{IsEdited}
use Rattle.elf_image.specs.Lookups.{type_position}
use Rattle.elf_image.specs.Kept.{KeptSection, kept_from, kept_of_type}

abbrev kept_as : ℕ → ℕ → ImageSection → KeptSection
kept_as p n s = record { position = p; number = n; section = s }

-- either no section is there, or one stands at a position and links to a table
pub data LinkAt (q : ℕ) (sections : List ImageSection) (position : Option ℕ) (found : Option KeptSection) : Type 0 where
  NoLink : position ≡ None → found ≡ None → LinkAt q sections position found
  Link : (i : ℕ) → (k : KeptSection) → position ≡ Some (q + i) → slice_get sections i ≡ Some k.section → found ≡ Some k
      → LinkAt q sections position found

linked : (test : ImageSection → Bool) (q p n : ℕ) (ns : List ℕ) (s : ImageSection) (ss : List ImageSection) (b : Bool) (o : Option ℕ) (f : Option KeptSection)
    → LinkAt (q + 1) ss o f → LinkAt q (s ∷ ss) (cond b (Some q) o) (cond b (Some (kept_as p n s)) f)
linked test q p n ns s ss true o f at = Link 0 (kept_as p n s) (ap (λ (m : ℕ). Some m) (omega arith)) refl refl
linked test q p n ns s ss false o f (NoLink none not) = NoLink none not
linked test q p n ns s ss false o f (Link i k there at found) =
    Link (suc i) k (there ∙ ap (λ (m : ℕ). Some m) (omega arith)) at found

link_from : (test : ImageSection → Bool) (q p : ℕ) (ns : List ℕ) (ss : List ImageSection) → length ns ≡ length ss
    → LinkAt q ss (position_from test q ss) (find (λ k. test k.section) (kept_from p ns ss))
link_from test q p [] [] long = NoLink refl refl
link_from test q p [] (s ∷ ss) long = absurd (omega (arith, long))
link_from test q p (n ∷ ns) [] long = absurd (omega (arith, long))
link_from test q p (n ∷ ns) (s ∷ ss) long =
    linked test q p n ns s ss (test s) (position_from test (q + 1) ss) (find (λ k. test k.section) (kept_from (p + 1) ns ss))
    (link_from test (q + 1) (p + 1) ns ss (omega (arith, long)))

pub link_at : (image : Image) (type : ℕ) → IsEdited image → LinkAt 0 image.sections (type_position image type) (kept_of_type type image)
link_at image type is =
    subst (λ (o : Option ℕ). LinkAt 0 image.sections o (kept_of_type type image))
    (sym (position_from-zero (λ (s : ImageSection). s.sh_type == type) image.sections))
    (link_from (λ s. s.sh_type == type) 0 0 image.section_numbers image.sections is.is_edit.sections.numbered)
