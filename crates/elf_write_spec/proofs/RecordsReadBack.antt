-- The defined and the needed versions of a written file are those of the image in its final form.
use Rattle.std.proofs.Common.{◌≡◌, ℕ, true, cond, List, [], length, refl, sym, ap, ◌∙◌, subst, Option, Some, None, arith}
use Rattle.std.specs.Prelude.{◌==◌, if◌then◌else◌}
use Rattle.std.proofs.lemmas.Option.{cond_some, same_Some}
use Rattle.patch_bytes.specs.Memory.{◌>>=◌, Memory, memory_of}
use Rattle.patch_bytes.proofs.MemoryLaws.{bind_some}
use Rattle.elf_format.specs.declared.constants.TheConstants.{SHT_DYNSYM, SHT_GNU_VERDEF, SHT_GNU_VERNEED, SHT_SYMTAB}
use Rattle.elf_format.specs.declared.form.Form.{Form}
use Rattle.elf_format.specs.declared.records.SectionHeader.{SectionHeader}
use Rattle.elf_format.specs.File.{section_of_type}
use Rattle.elf_format.specs.Image.{ImageSection, definitions_read, needs_read}
use Rattle.elf_format.specs.Options.{each, is_one_of}
use Rattle.elf_format.specs.Rules.{definition_steps, linked_texts, need_steps, text_users}
use Rattle.elf_format.specs.Versions.{DefinitionNumbers, NeedNumbers, Step, VersionDefinition, VersionNeeds, definition_at, is_whole_walk, need_at, shown_definition, shown_need, values_of, chain_steps}
use Rattle.elf_format.specs.Views.{defined_versions, needed_versions, whole_chain}
use Rattle.elf_format.proofs.ForCallers.Agreement.{each-agrees, shown_definition-keeps, shown_need-keeps}
use Rattle.elf_image.specs.Edited.{AreSameNeeds}
use Rattle.elf_image.specs.Kept.{image_at_read}
use Rattle.elf_image.proofs.ForCallers.NeedsKept.{needs_of_none}
use Rattle.elf_layout_plan.specs.Memory.{Resized}
use Rattle.elf_layout_plan.specs.Plan.{resized}
use Rattle.elf_write_spec.specs.ReadBack.{HasWrittenParts, written_parts}
use Rattle.elf_write_spec.specs.Contents.{AreDefinitionsIn, AreNeedsIn, table_in}
use Rattle.elf_write_spec.specs.Final.{final, new_number}
use Rattle.elf_write_spec.specs.Headers.{behind_locals, is_info_number, written_info}
use Rattle.elf_write_spec.specs.Output.{IsPlannedOutput, Output, written_bytes}
use Rattle.elf_write_spec.proofs.ContentsReadBack.{bytes_are, definitions_content, linked_at, needs_content, texts_fit}
use Rattle.elf_write_spec.proofs.StayingVersions.{no_needs}
use Rattle.elf_write_spec.proofs.StringsReadBack.{definitions_shared, needs_shared, texts_kept}
use Rattle.elf_write_spec.proofs.WholeEdits.{needs_written}
use Rattle.elf_write_spec.proofs.WholeFacts.{ReadFacts, SectionAt, There, Nowhere, read_facts, type_at}

-- ## Chains

-- a chain whose records are all there, and each shown
record IsShown {A B : Type 0} (read : ℕ → Option (Step A)) (show : A → Option B) (count : ℕ) (values : List B) : Type 0 where
  whole : is_whole_walk count (chain_steps read count 0) ≡ true
  shown : each show (values_of (chain_steps read count 0)) ≡ Some values

chain_shown : {A B : Type 0} (read : ℕ → Option (Step A)) (show : A → Option B) (count : ℕ) (values : List B)
    → (whole_chain read count >>= λ xs. each show xs) ≡ Some values → IsShown read show count values
unfolding whole_chain
chain_shown {A} {B} read show count values h =
    let steps : List (Step A) = chain_steps read count 0 in
    let (xs, chain, made) = bind_some (cond (is_whole_walk count steps) (Some (values_of steps)) None) (λ xs. each show xs) values h in
    let (whole, same) = cond_some (is_whole_walk count steps) (values_of steps) xs chain in
    record { whole = whole; shown = ap (each show) same ∙ made }

definitions_shown : (form : Form) (room : ℕ) (bytes strings : List ℕ) (count : ℕ) (ds : List VersionDefinition)
    → defined_versions form room (table_in bytes strings count) ≡ Some ds
    → IsShown (definition_at form (memory_of bytes)) (shown_definition room (memory_of strings)) count ds
unfolding defined_versions
definitions_shown form room bytes strings count ds h = chain_shown (definition_at form (memory_of bytes))
    (shown_definition room (memory_of strings)) count ds h

needs_shown : (form : Form) (room : ℕ) (bytes strings : List ℕ) (count : ℕ) (ns : List VersionNeeds)
    → needed_versions form room (table_in bytes strings count) ≡ Some ns
    → IsShown (need_at form (memory_of bytes)) (shown_need room (memory_of strings)) count ns
unfolding needed_versions
needs_shown form room bytes strings count ns h = chain_shown (need_at form (memory_of bytes))
    (shown_need room (memory_of strings)) count ns h

-- ## Counts

-- sh_info by the section's type
abbrev info_by : ℕ → ℕ → ℕ → ℕ → ℕ → ℕ → ℕ
info_by a b c d other type =
    if type == SHT_SYMTAB then a
    else if type == SHT_DYNSYM then b
    else if type == SHT_GNU_VERDEF then c
    else if type == SHT_GNU_VERNEED then d
    else other

info_is : (r : Resized) (s : ImageSection) (type : ℕ) → s.sh_type ≡ type → written_info r.read r.image s
    ≡ info_by (behind_locals (final r.read r.image).symbols) (behind_locals (final r.read r.image).dynamic_symbols)
    (length r.image.definitions)
    (length (final r.read r.image).needs) (if is_info_number s then new_number r.image s.sh_info else s.sh_info) type
info_is r s type e =
    ap (info_by (behind_locals (final r.read r.image).symbols) (behind_locals (final r.read r.image).dynamic_symbols)
    (length r.image.definitions)
    (length (final r.read r.image).needs) (if is_info_number s then new_number r.image s.sh_info else s.sh_info)) e

module _ (w : Output) (is : IsPlannedOutput w) (f : ReadFacts w) (i : ℕ) (at : SectionAt w f.parts i) where
  section_type : at.section.sh_type ≡ at.old.sh_type
  section_type = ap (λ (x : ImageSection). x.sh_type) at.of_old.fields

  header_info : at.header.sh_info ≡ written_info (image_at_read w.image) w.image at.section
  header_info = ap (λ (h : SectionHeader). h.sh_info) at.written.has_header.fields

  definitions_count : at.old.sh_type ≡ SHT_GNU_VERDEF → at.header.sh_info ≡ length w.image.definitions
  definitions_count e = header_info ∙ info_is (resized w.image) at.section SHT_GNU_VERDEF (section_type ∙ e)

  needs_count : at.old.sh_type ≡ SHT_GNU_VERNEED → at.header.sh_info ≡ length (final (image_at_read w.image) w.image).needs
  needs_count e = header_info ∙ info_is (resized w.image) at.section SHT_GNU_VERNEED (section_type ∙ e)

-- ## The records of a written file

module _ (w : Output) (is : IsPlannedOutput w) (has : HasWrittenParts w) (f : ReadFacts w) (i : ℕ) (at : SectionAt w f.parts i) where
  pub record AreDefinitionsReadBack : Type 0 where
    pub whole : is_whole_walk at.header.sh_info (definition_steps (written_parts w) at.header) ≡ true
    pub shown : each (shown_definition (length (written_bytes w)) (linked_texts (written_parts w) at.header))
        (values_of (definition_steps (written_parts w) at.header))
        ≡ Some w.image.definitions

  pub record AreNeedsReadBack : Type 0 where
    pub whole : is_whole_walk at.header.sh_info (need_steps (written_parts w) at.header) ≡ true
    pub shown : each (shown_need (length (written_bytes w)) (linked_texts (written_parts w) at.header))
        (values_of (need_steps (written_parts w) at.header))
        ≡ Some (final (image_at_read w.image) w.image).needs

  pub definitions_at : at.old.sh_type ≡ SHT_GNU_VERDEF → section_of_type SHT_GNU_VERDEF f.parts.sections ≡ Some at.old → AreDefinitionsReadBack
  definitions_at e was =
      let l = linked_at w is f i at (ap (is_one_of text_users) e) in
      let room : ℕ = length (written_bytes w) in
      let count : ℕ = length w.image.definitions in
      let ds : List VersionDefinition = w.image.definitions in
      let texts : Memory = linked_texts (written_parts w) at.header in
      let content : AreDefinitionsIn w.image l.table.bytes at.bytes =
      subst (λ (xs : List ℕ). AreDefinitionsIn w.image xs at.bytes) l.are_strings (definitions_content w is f i at e) in
      let shown = definitions_shown w.image.form room at.bytes l.table.bytes count ds (content.read room (texts_fit w is has f i at l)) in
      let steps : definition_steps (written_parts w) at.header ≡ chain_steps (definition_at w.image.form (memory_of at.bytes)) count 0 =
      ap (λ (xs : List ℕ). chain_steps (definition_at w.image.form (memory_of xs)) at.header.sh_info 0) (bytes_are w is has f i at)
      ∙ ap (λ (n : ℕ). chain_steps (definition_at w.image.form (memory_of at.bytes)) n 0) (definitions_count w is f i at e) in
      record {
        whole = ap (λ (n : ℕ). is_whole_walk n (definition_steps (written_parts w) at.header)) (definitions_count w is f i at e)
            ∙ ap (is_whole_walk count) steps ∙ shown.whole;
        shown = ap (λ (xs : List (Step DefinitionNumbers)). each (shown_definition room texts) (values_of xs)) steps
            ∙ each-agrees (shown_definition room (memory_of l.table.bytes)) (shown_definition room texts)
            (shown_definition-keeps room room (omega arith) (memory_of l.table.bytes) texts
            (texts_kept w is has f i at l (definitions_shared w is has f at.old was)))
            (values_of (chain_steps (definition_at w.image.form (memory_of at.bytes)) count 0)) ds shown.shown;
      }

  pub needs_at : at.old.sh_type ≡ SHT_GNU_VERNEED → section_of_type SHT_GNU_VERNEED f.parts.sections ≡ Some at.old → AreNeedsReadBack
  needs_at e was =
      let l = linked_at w is f i at (ap (is_one_of text_users) e) in
      let room : ℕ = length (written_bytes w) in
      let ns : List VersionNeeds = (final (image_at_read w.image) w.image).needs in
      let count : ℕ = length ns in
      let texts : Memory = linked_texts (written_parts w) at.header in
      let content : AreNeedsIn (resized w.image) l.table.bytes at.bytes =
      subst (λ (xs : List ℕ). AreNeedsIn (resized w.image) xs at.bytes) l.are_strings (needs_content w is f i at e) in
      let shown = needs_shown w.image.form room at.bytes l.table.bytes count ns (content.read room (texts_fit w is has f i at l)) in
      let steps : need_steps (written_parts w) at.header ≡ chain_steps (need_at w.image.form (memory_of at.bytes)) count 0 =
      ap (λ (xs : List ℕ). chain_steps (need_at w.image.form (memory_of xs)) at.header.sh_info 0) (bytes_are w is has f i at)
      ∙ ap (λ (n : ℕ). chain_steps (need_at w.image.form (memory_of at.bytes)) n 0) (needs_count w is f i at e) in
      record {
        whole = ap (λ (n : ℕ). is_whole_walk n (need_steps (written_parts w) at.header)) (needs_count w is f i at e)
            ∙ ap (is_whole_walk count) steps ∙ shown.whole;
        shown = ap (λ (xs : List (Step NeedNumbers)). each (shown_need room texts) (values_of xs)) steps
            ∙ each-agrees (shown_need room (memory_of l.table.bytes)) (shown_need room texts)
            (shown_need-keeps room room (omega arith) (memory_of l.table.bytes) texts
            (texts_kept w is has f i at l (needs_shared w is has f at.old was)))
            (values_of (chain_steps (need_at w.image.form (memory_of at.bytes)) count 0)) ns shown.shown;
      }

-- ## All of them

module _ (w : Output) (is : IsPlannedOutput w) (has : HasWrittenParts w) (f : ReadFacts w) where
  definitions_there : (i : ℕ) (at : SectionAt w f.parts i) → at.old.sh_type ≡ SHT_GNU_VERDEF
      → section_of_type SHT_GNU_VERDEF f.parts.sections ≡ Some at.old
      → definitions_read (written_parts w) (Some at.header) ≡ Some w.image.definitions
  unfolding definitions_read
  definitions_there i at e was = (definitions_at w is has f i at e was).shown

  definitions_nowhere : section_of_type SHT_GNU_VERDEF f.parts.sections ≡ None
      → definitions_read (written_parts w) None ≡ Some w.image.definitions
  unfolding definitions_read
  definitions_nowhere was =
      let of_none : definitions_read f.parts None ≡ Some (image_at_read w.image).definitions = ap (definitions_read f.parts) (sym was)
      ∙ f.holds.definitions in
      of_none ∙ ap (λ (ds : List VersionDefinition). Some ds) (sym f.edit.definitions)

  needs_there : (i : ℕ) (at : SectionAt w f.parts i) → at.old.sh_type ≡ SHT_GNU_VERNEED
      → section_of_type SHT_GNU_VERNEED f.parts.sections ≡ Some at.old
      → needs_read (written_parts w) (Some at.header) ≡ Some (final (image_at_read w.image) w.image).needs
  unfolding needs_read
  needs_there i at e was = (needs_at w is has f i at e was).shown

  needs_nowhere : section_of_type SHT_GNU_VERNEED f.parts.sections ≡ None
      → needs_read (written_parts w) None ≡ Some (final (image_at_read w.image) w.image).needs
  unfolding needs_read
  needs_nowhere was =
      let of_none : needs_read f.parts None ≡ Some (image_at_read w.image).needs = ap (needs_read f.parts) (sym was) ∙ f.holds.needs in
      let empty : w.image.needs ≡ [] =
      needs_of_none w.image.needs (subst (λ (ns : List VersionNeeds). AreSameNeeds ns w.image.needs)
      (sym (same_Some [] (image_at_read w.image).needs of_none)) f.edit.needs.same) in
      ap (λ (ns : List VersionNeeds). Some ns)
      (sym (needs_written (image_at_read w.image) w.image ∙ no_needs (image_at_read w.image) w.image empty))

-- the defined versions
pub definitions_read_back : (w : Output) → IsPlannedOutput w → HasWrittenParts w
    → definitions_read (written_parts w) (section_of_type SHT_GNU_VERDEF w.headers) ≡ Some w.image.definitions
definitions_read_back w is has =
    let f = read_facts w is in
    elim (type_at w is f SHT_GNU_VERDEF refl) [
      | Nowhere was now none ↦ ap (definitions_read (written_parts w)) now ∙ definitions_nowhere w is has f was
      | There i at e was now there ↦ ap (definitions_read (written_parts w)) now ∙ definitions_there w is has f i at e was
    ]

-- the needed versions
pub needs_read_back : (w : Output) → IsPlannedOutput w → HasWrittenParts w
    → needs_read (written_parts w) (section_of_type SHT_GNU_VERNEED w.headers) ≡ Some (final (image_at_read w.image) w.image).needs
needs_read_back w is has =
    let f = read_facts w is in
    elim (type_at w is f SHT_GNU_VERNEED refl) [
      | Nowhere was now none ↦ ap (needs_read (written_parts w)) now ∙ needs_nowhere w is has f was
      | There i at e was now there ↦ ap (needs_read (written_parts w)) now ∙ needs_there w is has f i at e was
    ]
