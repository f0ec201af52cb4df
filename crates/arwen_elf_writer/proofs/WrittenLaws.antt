-- What is said of an image that a writer lends holds of the writer's.
use Rattle.std.proofs.Common.{◌≡◌, ◌+◌, ◌++◌, [], ℕ, List, All, drop, length, take, true, false, arith, refl, sym, ap, ◌∙◌, subst}
use Rattle.std.proofs.lemmas.List.{append-nil, drop_all, take_all}
use Rattle.std.proofs.lemmas.List.Elements.{All-nil}
use Rattle.byte_store.specs.Composed.{IsChange, IsDifference, Stands, made_of, owned_patches}
use Rattle.byte_store.specs.Laid.{LiesIn, Patch, changed}
use Rattle.byte_store.specs.declared.composed.Difference.{Difference}
use Rattle.std.proofs.lemmas.Bool.{true≢false}
use Rattle.elf_image.specs.Image.{Image}
use Rattle.elf_layout_plan.specs.declared.fault.LayoutFault.{LayoutFault}
use Rattle.elf_layout_plan.specs.declared.fault.LayoutFault.TheVariants as layout
use Rattle.elf_write.specs.WrittenFile.{IsWrittenOf}
use Rattle.elf_apply.specs.declared.error.ElfError.{ElfError}
use Rattle.arwen_elf_writer.specs.Written.{IsImageWritten, IsNoDifference, IsNoEdit, IsNoImage, IsTold}

module _ (lent image : Image) (same : lent ≡ image) where
  -- bytes that were read, of an image that was not edited
  pub source_written : (bytes : List ℕ) → lent.changed ≡ false → bytes ≡ lent.source → IsImageWritten image bytes
  source_written bytes unedited are = record {
    unchanged = λ _. are ∙ ap (λ (i : Image). i.source) same;
    edited = λ changed. absurd (true≢false (sym changed ∙ sym (ap (λ (i : Image). i.changed) same) ∙ unedited));
  }

  -- bytes of an image that was edited
  pub edit_written : (bytes : List ℕ) → lent.changed ≡ true → IsWrittenOf lent bytes → IsImageWritten image bytes
  edit_written bytes edited written = record {
    unchanged = λ unedited. absurd (true≢false (sym edited ∙ ap (λ (i : Image). i.changed) same ∙ unedited));
    edited = λ _. subst (λ (i : Image). IsWrittenOf i bytes) same written;
  }

  -- the image was edited, so nothing is said of an image that was not
  pub no_source : {A : Type 0} → lent.changed ≡ true → image.changed ≡ false → A
  no_source edited unedited = absurd (true≢false (sym edited ∙ ap (λ (i : Image). i.changed) same ∙ unedited))

refused : (image : Image) (fault : LayoutFault) (e : ElfError) → image.changed ≡ true → IsNoEdit image fault → IsTold fault e → IsNoImage image e
refused image layout.Overlap e edited none told = subst (IsNoImage image) (sym told) (edited, none)
refused image layout.NumberTooLarge e edited none told = subst (IsNoImage image) (sym told) (edited, none)
refused image layout.Memory e edited none told = subst (IsNoImage image) (sym told) tt

-- why an image that was edited has no bytes
pub edit_refused : (lent image : Image) (fault : LayoutFault) (e : ElfError) → lent ≡ image → lent.changed ≡ true → IsNoEdit lent fault → IsTold fault e → IsNoImage image e
edit_refused lent image fault e same edited none told = subst (λ (i : Image). IsNoImage i e) same (refused lent fault e edited none told)

-- a difference that changes nothing
module _ (bytes : List ℕ) (d : Difference) (none : IsNoDifference bytes d) where
  no_patches : owned_patches d.pieces.items ≡ []
  no_patches = ap owned_patches none.no_pieces

  pub none_made : made_of bytes d ≡ bytes
  none_made =
      ap (λ (ps : List Patch). changed d.growth.items ps d.new_length bytes) no_patches
      ∙ ap (λ (xs : List ℕ). take d.new_length (bytes ++ xs)) none.no_growth
      ∙ ap (take d.new_length) (append-nil bytes)
      ∙ take_all d.new_length bytes (omega (arith, none.as_long))

  pub none_differs : IsDifference bytes d
  none_differs =
      let A : (Patch → Type 0) → Type 0 = λ P. All P (owned_patches d.pieces.items) in
      let of : (P : Patch → Type 0) → A P = λ P. subst (λ (ps : List Patch). All P ps) (sym no_patches) (All-nil P) in record {
        inside = of (LiesIn (length bytes + length d.growth.items));
        end = omega (arith, none.as_long);
        changes = of (IsChange bytes);
        parts = record {
          made = refl;
          grown = none.no_growth ∙ sym (ap (drop (length bytes)) none_made ∙ drop_all (length bytes) bytes (omega arith));
          stand = of (Stands (made_of bytes d));
        };
      }
