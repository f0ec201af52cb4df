-- The versions of a file by the one section of a type.
use Rattle.std.proofs.Common.{◌≡◌, List, [], length, sym, ap, ◌∙◌, refl, Option, Some, None}
use Rattle.patch_bytes.specs.Memory.{Memory}
use Rattle.elf_format.specs.File.{Parts}
use Rattle.elf_format.specs.Image.{definitions_read, needs_read}
use Rattle.elf_format.specs.Options.{each, list_at}
use Rattle.elf_format.specs.declared.records.SectionHeader.{SectionHeader}
use Rattle.elf_format.specs.Rules.{definition_steps, file_of, linked_texts, need_steps}
use Rattle.elf_format.specs.Versions.{DefinitionNumbers, NeedNumbers, shown_definition, shown_need, values_of}

-- nothing was found, where no value that is there was
pub none_found : {A : Type 0} → (found o : Option A) → ((x : A) → found ≡ Some x → ⊥) → found ≡ o → None ≡ o
none_found None o h e = e
none_found (Some x) o h e = absurd (h x refl)

module _ (p : Parts) (o : Option SectionHeader) where
  pub definitions_none : None ≡ o → definitions_read p o ≡ Some []
  unfolding definitions_read
  definitions_none e = ap (definitions_read p) (sym e)

  pub needs_none : None ≡ o → needs_read p o ≡ Some []
  unfolding needs_read
  needs_none e = ap (needs_read p) (sym e)

module _ (p : Parts) (o : Option SectionHeader) (s : SectionHeader) (texts : Memory) (is : Some s ≡ o) (same_texts : texts ≡ linked_texts p s) where
  pub definitions_some : (walked : List DefinitionNumbers) → walked ≡ list_at (λ t. values_of (definition_steps p t)) o → each (shown_definition (length (file_of p)) texts) walked ≡ definitions_read p o
  unfolding definitions_read
  definitions_some walked same =
      ap (λ t. each (shown_definition (length (file_of p)) t) walked) same_texts
      ∙ ap (each (shown_definition (length (file_of p)) (linked_texts p s))) (same ∙ sym (ap (list_at (λ t. values_of (definition_steps p t))) is))
      ∙ ap (definitions_read p) is

  pub needs_some : (walked : List NeedNumbers) → walked ≡ list_at (λ t. values_of (need_steps p t)) o → each (shown_need (length (file_of p)) texts) walked ≡ needs_read p o
  unfolding needs_read
  needs_some walked same =
      ap (λ t. each (shown_need (length (file_of p)) t) walked) same_texts
      ∙ ap (each (shown_need (length (file_of p)) (linked_texts p s))) (same ∙ sym (ap (list_at (λ t. values_of (need_steps p t))) is))
      ∙ ap (needs_read p) is
