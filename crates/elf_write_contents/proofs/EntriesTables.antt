-- Where the tables come to stand that the dynamic list names.
use Rattle.std.proofs.Common.{◌≡◌, ℕ, ◌+◌, Bool, true, false, cond, List, [], ◌∷◌, length, refl, sym, ap, ◌∙◌, Option, Some, arith}
use Rattle.std.specs.Prelude.{find, ◌==◌}
use Rattle.std.specs.List.{position_from, slice_get}
use Rattle.std.proofs.lemmas.Iterator.Adapters.{position_from-zero}
use Rattle.patch_bytes.specs.Memory.{◌>>=◌}
use Rattle.elf_format.specs.declared.constants.TheConstants.{SHT_DYNAMIC, SHT_DYNSYM}
use Rattle.elf_format.specs.Image.{Image, ImageSection}
use Rattle.elf_format.specs.Options.{first_there}
use Rattle.elf_format.specs.Places.{Place}
use Rattle.elf_image.specs.Edited.{IsEdited}
use Rattle.elf_image.specs.Lookups.{dynamic_strings_position, link_position, section_position, type_position}
use Rattle.elf_image.specs.Kept.{KeptSection, dynamic_strings_number, kept_at_number, kept_from, kept_of_type, link_of_type}
use Rattle.elf_layout_plan.specs.Plan.{Plan}
use Rattle.elf_write_spec.specs.Contents.{place_of_kept, strings_place}
use Rattle.elf_write_contents.specs.EntrySteps.{place_at}
use Rattle.elf_write_symbol_tables.proofs.ForCallers.LinksAt.{Link, LinkAt, NoLink, link_at}

abbrev kept_as : ℕ → ℕ → ImageSection → KeptSection
kept_as p n s = record { position = p; number = n; section = s }

module _ (places : List Place) where
  by_one : (b : Bool) (k : KeptSection) (rest : Option KeptSection) (other : Option ℕ)
      → (rest >>= λ x. slice_get places x.position) ≡ (other >>= λ i. slice_get places i)
      → (cond b (Some k) rest >>= λ x. slice_get places x.position) ≡ (cond b (Some k.position) other >>= λ i. slice_get places i)
  by_one true k rest other same = refl
  by_one false k rest other same = same

  -- the first that is there with such a section, by the sections alone
  by_sections : (test : ImageSection → Bool) (p : ℕ) (ns : List ℕ) (ss : List ImageSection) → length ns ≡ length ss
      → (find (λ k. test k.section) (kept_from p ns ss) >>= λ x. slice_get places x.position)
      ≡ (position_from test p ss >>= λ i. slice_get places i)
  by_sections test p [] [] long = refl
  by_sections test p [] (s ∷ ss) long = absurd (omega (arith, long))
  by_sections test p (n ∷ ns) [] long = absurd (omega (arith, long))
  by_sections test p (n ∷ ns) (s ∷ ss) long =
      by_one (test s) (kept_as p n s) (find (λ k. test k.section) (kept_from (p + 1) ns ss)) (position_from test (p + 1) ss)
      (by_sections test (p + 1) ns ss (omega (arith, long)))

  -- the first that is there with such a number, by the numbers alone
  by_numbers : (test : ℕ → Bool) (p : ℕ) (ns : List ℕ) (ss : List ImageSection) → length ns ≡ length ss
      → (find (λ k. test k.number) (kept_from p ns ss) >>= λ x. slice_get places x.position)
      ≡ (position_from test p ns >>= λ i. slice_get places i)
  by_numbers test p [] [] long = refl
  by_numbers test p [] (s ∷ ss) long = absurd (omega (arith, long))
  by_numbers test p (n ∷ ns) [] long = absurd (omega (arith, long))
  by_numbers test p (n ∷ ns) (s ∷ ss) long =
      by_one (test n) (kept_as p n s) (find (λ k. test k.number) (kept_from (p + 1) ns ss)) (position_from test (p + 1) ns)
      (by_numbers test (p + 1) ns ss (omega (arith, long)))

-- where the first section of a type comes to stand
pub type_place : (image : Image) (plan : Plan) (type : ℕ) → IsEdited image
    → place_of_kept plan (kept_of_type type image) ≡ place_at plan (type_position image type)
type_place image plan type is =
    by_sections plan.places (λ s. s.sh_type == type) 0 image.section_numbers image.sections is.is_edit.sections.numbered
    ∙ ap (place_at plan) (sym (position_from-zero (λ (s : ImageSection). s.sh_type == type) image.sections))

-- where the section comes to stand that had a number
number_place : (image : Image) (plan : Plan) (number : ℕ) → IsEdited image
    → place_of_kept plan (kept_at_number number image) ≡ place_at plan (section_position image number)
number_place image plan number is =
    by_numbers plan.places (λ n. n == number) 0 image.section_numbers image.sections is.is_edit.sections.numbered
    ∙ ap (place_at plan) (sym (position_from-zero (λ (n : ℕ). n == number) image.section_numbers))

-- ## The dynamic strings

module _ (image : Image) (plan : Plan) (is : IsEdited image) where
  abbrev place_numbered : Option ℕ → Option Place
  place_numbered o = place_of_kept plan (o >>= λ number. kept_at_number number image)

  abbrev place_linked : Option ℕ → Option Place
  place_linked o = place_at plan (o >>= λ i. link_position image i)

  -- the table of a user
  of_user : (i : ℕ) (k : KeptSection) → slice_get image.sections i ≡ Some k.section
      → place_of_kept plan (kept_at_number k.section.sh_link image) ≡ place_linked (Some (0 + i))
  of_user i k at =
      number_place image plan k.section.sh_link is
      ∙ ap (λ (o : Option ImageSection). place_at plan (o >>= λ s. section_position image s.sh_link)) (sym at)
      ∙ ap (λ (m : ℕ). place_linked (Some m)) (omega arith)

  of_symbols : LinkAt 0 image.sections (type_position image SHT_DYNSYM) (kept_of_type SHT_DYNSYM image)
      → place_numbered (link_of_type SHT_DYNSYM image) ≡ place_linked (type_position image SHT_DYNSYM)
  of_symbols (NoLink none not) =
      ap (λ (o : Option KeptSection). place_numbered (o >>= λ s. Some s.section.sh_link)) not
      ∙ ap place_linked (sym none)
  of_symbols (Link i k there at found) =
      ap (λ (o : Option KeptSection). place_numbered (o >>= λ s. Some s.section.sh_link)) found
      ∙ of_user i k at ∙ ap place_linked (sym there)

  of_list : LinkAt 0 image.sections (type_position image SHT_DYNAMIC) (kept_of_type SHT_DYNAMIC image)
      → place_numbered (dynamic_strings_number image) ≡ place_linked (first_there (type_position image SHT_DYNAMIC) (type_position image SHT_DYNSYM))
  of_list (NoLink none not) =
      ap (λ (o : Option KeptSection). place_numbered (first_there (o >>= λ s. Some s.section.sh_link) (link_of_type SHT_DYNSYM image))) not
      ∙ of_symbols (link_at image SHT_DYNSYM is)
      ∙ ap (λ (o : Option ℕ). place_linked (first_there o (type_position image SHT_DYNSYM))) (sym none)
  of_list (Link i k there at found) =
      ap (λ (o : Option KeptSection). place_numbered (first_there (o >>= λ s. Some s.section.sh_link) (link_of_type SHT_DYNSYM image))) found
      ∙ of_user i k at
      ∙ ap (λ (o : Option ℕ). place_linked (first_there o (type_position image SHT_DYNSYM))) (sym there)

  -- where the dynamic strings come to stand
  pub strings_stand : strings_place image plan ≡ place_at plan (dynamic_strings_position image)
  strings_stand = of_list (link_at image SHT_DYNAMIC is)
