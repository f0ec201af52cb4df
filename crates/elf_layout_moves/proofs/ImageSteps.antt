-- The sections of an image one by one, with their numbers at read and their new sizes.
use Rattle.std.proofs.Common.{◌≡◌, ℕ, ◌+◌, ◌<◌, List, [], ◌∷◌, ◌++◌, true, false, append_assoc, drop, get_or, length, map, refl, sym, ap, ◌∙◌, arith}
use Rattle.std.specs.Prelude.{Some, slice_get, slice_index}
use Rattle.std.proofs.lemmas.List.{length-map}
use Rattle.std.proofs.lemmas.Option.{slice_get-get_or, slice_get-map, slice_get_read}
use Rattle.elf_format.specs.Image.{Image, ImageSection}
use Rattle.elf_image.specs.ImageModel.{section_model}
use Rattle.elf_image.specs.declared.section.Section.{Section}
use Rattle.elf_layout_plan.specs.Blocks.{Block}
use Rattle.elf_image.specs.Kept.{KeptSection, dynamic_strings_number, interpreter_number}
use Rattle.elf_layout_plan.specs.Memory.{Resized, SizedSection, sized_from, takes_memory}
use Rattle.elf_layout_moves.specs.ImageBlocks.{AreNumbered, kept_behind, made_block, section_blocks_from, sized_at}
use Rattle.elf_layout_moves.proofs.MoverLaws.{drop_here}

-- a section that is looked at is the image's
pub seen_section : (image : Image) (xs ys : List Section) (k : ℕ) (x : Section) → map section_model ys ≡ image.sections → map section_model xs ≡ image.sections
    → k < length ys → x ≡ get_or xs k x → slice_get image.sections k ≡ Some (section_model x)
seen_section image xs ys k x also are within is =
    let long : length ys ≡ length image.sections = sym (length-map ys section_model) ∙ ap length also in
    let same : length xs ≡ length image.sections = sym (length-map xs section_model) ∙ ap length are in
    let at : slice_get xs k ≡ Some x = slice_get_read xs (length xs) k x refl (omega arith) is in
    ap (λ (ss : List ImageSection). slice_get ss k) (sym are) ∙ slice_get-map section_model xs k ∙ rw at refl

-- the next section
abbrev pub kept_at : Image → ℕ → ImageSection → KeptSection
kept_at image k s = record { position = k; number = slice_index image.section_numbers k; section = s }

module _ (image : Image) (numbered : AreNumbered image) (k : ℕ) (s : ImageSection) (within : k < length image.sections) (at : slice_get image.sections k ≡ Some s) where
  pub kept_next : kept_behind image k ≡ kept_at image k s ∷ kept_behind image (k + 1)
  kept_next = rw (drop_here image.section_numbers k (slice_index image.section_numbers k) (slice_get-get_or image.section_numbers k 0 (omega (arith, numbered))), drop_here image.sections k s at)

-- ## Blocks

module _ (r : Resized) (numbered : AreNumbered r.image) (sized : length r.sizes ≡ length r.image.sections) (k : ℕ) (s : ImageSection)
    (within : k < length r.image.sections) (at : slice_get r.image.sections k ≡ Some s) where
  abbrev sized_here : SizedSection
  sized_here = sized_at k (slice_index r.image.section_numbers k) s (slice_index r.sizes k)

  sized_next : sized_from (kept_behind r.image k) (drop k r.sizes) ≡ sized_here ∷ sized_from (kept_behind r.image (k + 1)) (drop (k + 1) r.sizes)
  sized_next = rw (kept_next r.image numbered k s within at, drop_here r.sizes k (slice_index r.sizes k) (slice_get-get_or r.sizes k 0 (omega (arith, sized))))

  pub block_next : takes_memory s ≡ true
      → section_blocks_from r k ≡ made_block r (interpreter_number r.read) (dynamic_strings_number r.image) k s ∷ section_blocks_from r (k + 1)
  block_next is = rw (sized_next, is)

  pub block_passed : takes_memory s ≡ false → section_blocks_from r k ≡ section_blocks_from r (k + 1)
  block_passed isnt = rw (sized_next, isnt)

-- one block more behind those that are made
pub pushed : (made base rest next all : List Block) (b x : Block) → b ≡ x → made ≡ base ++ b ∷ [] → rest ≡ x ∷ next → base ++ rest ≡ all → made ++ next ≡ all
pushed made base rest next all b x same is begins before =
    rw (is, append_assoc, same) (ap (λ (l : List Block). base ++ l) (sym begins) ∙ before)
