-- Every accepted file has an image, which shows what its section headers show and what a loader sees.
use Rattle.std.proofs.Common.{◌≡◌, ℕ, Bool, true, false, List, [], ◌∷◌, ◌++◌, length, map, refl, sym, ap, ◌∙◌, subst, Option, Some, None, Result, Ok, Err}
use Rattle.std.specs.Prelude.{◌&&◌}
use Rattle.std.proofs.Math.Path.{fun_ext}
use Rattle.std.proofs.lemmas.Option.{same_Some}
use Rattle.patch_bytes.specs.Memory.{memory_of}
use Rattle.patch_bytes.proofs.MemoryLaws.{bind_some, some_bind}
use Rattle.elf_format.specs.declared.constants.TheConstants.{DT_SYMTAB, DT_VERDEF, DT_VERDEFNUM, DT_VERNEED, DT_VERNEEDNUM, DT_VERSYM, SHT_DYNAMIC}
use Rattle.elf_format.specs.declared.fault.ElfFault.{ElfFault}
use Rattle.elf_format.specs.declared.fault.ElfFault.TheVariants.{BadText, Truncated, Unsupported}
use Rattle.elf_format.specs.Dynamic.{Entry, entries_at, has_tag, shown_entry}
use Rattle.elf_format.specs.File.{Opened, Parts, opened_of, parts_of, section_bytes, section_of_type}
use Rattle.elf_format.specs.Image.{Image, ImagesShow, entries_read, image_in, image_of, interpreter_read, lists_tag, seen_symbol, shown, shown_if, shown_outline, shown_with_entries}
use Rattle.elf_format.specs.Options.{each}
use Rattle.elf_format.specs.Seen.{view_by_dynamic}
use Rattle.elf_format.specs.Stages.{last_rules, link_rules, parts_read}
use Rattle.elf_format.specs.Records.{EntryNumbers, SectionHeader}
use Rattle.elf_format.specs.Rules.{◌>>=◌, ArePartsOf, MeetsRules, Rule, accepted_parts, checked, do_texts_end, fault_of, file_of, identification_rules, is_file_kind, linked_texts, placement_rules, raw_entries, rule, table_rules, there_or}
use Rattle.elf_format.specs.Versions.{VersionDefinition, VersionNeeds}
use Rattle.elf_format.specs.Views.{NamedSymbol, View, outline_of, section_view, tables_by_sections, view_of}
use Rattle.elf_format.proofs.Accepted.{accepted, no_fault}
use Rattle.elf_format.proofs.ImageTables.{definitions_shown, entries_shown, needs_shown, symbols_shown, tags_listed}
use Rattle.elf_format.proofs.ImageTexts.{IsImageOf, image_made}
pub use Rattle.elf_format.proofs.ImageTexts.{texts_there}
use Rattle.elf_format.proofs.SectionViewSteps.{shown_from}
use Rattle.elf_format.proofs.ViewsAgree.{nat_le_refl, raw_both, there_if, view_of-parts, views_agree}

-- ## The rules, part by part

-- steps that answer the same behind a first one
bind_same : {A B : Type 0} → (r : Result A ElfFault) (f g : A → Result B ElfFault) → ((x : A) → f x ≡ g x) → (r >>= f) ≡ (r >>= g)
bind_same (Ok x) f g h = h x
bind_same (Err fault) f g h = refl

-- steps may be put together from either end
bind_joined : {A B C : Type 0} → (r : Result A ElfFault) (f : A → Result B ElfFault) (g : B → Result C ElfFault) → ((r >>= f) >>= g) ≡ (r >>= λ x. f x >>= g)
bind_joined (Ok x) f g = refl
bind_joined (Err fault) f g = refl

-- a rule, and then others
rule_first : {A : Type 0} → (r : Rule A) (rs : List (Rule A)) (x : A) (b : Bool) → Result A ElfFault
rule_first r rs x b = elim b [ true ↦ checked rs x | _ ↦ Err r.fault ]

rule_joined : {A : Type 0} → (r : Rule A) (rs ss : List (Rule A)) (x : A) → checked (rs ++ ss) x ≡ (checked rs x >>= λ _. checked ss x) → (b : Bool)
    → rule_first r (rs ++ ss) x b ≡ (rule_first r rs x b >>= λ _. checked ss x)
unfolding rule_first
rule_joined r rs ss x more true = more
rule_joined r rs ss x more false = refl

-- rules, and then others
checked_joined : {A : Type 0} → (rs ss : List (Rule A)) (x : A) → checked (rs ++ ss) x ≡ (checked rs x >>= λ _. checked ss x)
unfolding checked rule_first
checked_joined [] ss x = refl
checked_joined (r ∷ rs) ss x = rule_joined r rs ss x (checked_joined rs ss x) (r.holds x)

-- the rules on tables, by their three parts
by_table_parts : Parts → Result Parts ElfFault
by_table_parts p = checked link_rules p >>= λ _. checked (rule do_texts_end BadText ∷ []) p >>= λ _. checked last_rules p

tables_by_parts : (p : Parts) → checked table_rules p ≡ by_table_parts p
unfolding by_table_parts
tables_by_parts p =
    checked_joined link_rules (rule do_texts_end BadText ∷ last_rules) p
    ∙ bind_same (checked link_rules p) (λ _. checked (rule do_texts_end BadText ∷ last_rules) p) (λ _. checked (rule do_texts_end BadText ∷ []) p >>= λ _. checked last_rules p)
    (λ _. checked_joined (rule do_texts_end BadText ∷ []) last_rules p)

-- all rules, by the steps of the reader
pub accepted_by_parts : (file : List ℕ)
    → accepted_parts file ≡ (parts_read file >>= λ p. checked placement_rules p >>= λ _. checked link_rules p >>= λ _. checked (rule do_texts_end BadText ∷ []) p >>= λ _. checked last_rules p)
unfolding accepted_parts parts_read by_table_parts
accepted_by_parts file =
    let placing : Parts → Result Parts ElfFault = λ p. checked placement_rules p >>= λ _. checked table_rules p in
    let by_parts : Parts → Result Parts ElfFault = λ p. checked placement_rules p >>= λ _. by_table_parts p in
    let parts : Opened → Result Parts ElfFault = λ o. there_or Truncated (parts_of o) in
    let kind : Opened → Result Parts ElfFault = λ o. checked (rule is_file_kind Unsupported ∷ []) o >>= λ _. parts o in
    let opening : Result Parts ElfFault = there_or Truncated (opened_of file) >>= kind in
    let placed : (p : Parts) → placing p ≡ by_parts p = λ p. bind_same (checked placement_rules p) (λ _. checked table_rules p) (λ _. by_table_parts p) (λ _. tables_by_parts p) in
    let kinds : (o : Opened) → (checked (rule is_file_kind Unsupported ∷ []) o >>= λ _. parts o >>= placing) ≡ (kind o >>= by_parts) = λ o.
    bind_same (checked (rule is_file_kind Unsupported ∷ []) o) (λ _. parts o >>= placing) (λ _. parts o >>= by_parts) (λ _. bind_same (parts o) placing by_parts placed)
    ∙ sym (bind_joined (checked (rule is_file_kind Unsupported ∷ []) o) (λ _. parts o) by_parts) in
    bind_same (checked identification_rules file) (λ _. there_or Truncated (opened_of file) >>= λ o. checked (rule is_file_kind Unsupported ∷ []) o >>= λ _. parts o >>= placing) (λ _. opening >>= by_parts)
    (λ _. bind_same (there_or Truncated (opened_of file)) (λ o. checked (rule is_file_kind Unsupported ∷ []) o >>= λ _. parts o >>= placing) (λ o. kind o >>= by_parts) kinds
    ∙ sym (bind_joined (there_or Truncated (opened_of file)) kind by_parts))
    ∙ sym (bind_joined (checked identification_rules file) (λ _. opening) by_parts)

-- ## What an image shows

-- what an image shows, with these entries
shown_by : Image → Option (List Entry) → View
shown_by image o = elim o [
  | None ↦ shown_outline image
  | Some entries ↦ record (shown_outline image) {
    entries = Some entries;
    symbols = shown_if (lists_tag DT_SYMTAB entries) (map (seen_symbol (lists_tag DT_VERSYM entries)) image.dynamic_symbols);
    definitions = shown_if (lists_tag DT_VERDEF entries && lists_tag DT_VERDEFNUM entries) image.definitions;
    needs = shown_if (lists_tag DT_VERNEED entries && lists_tag DT_VERNEEDNUM entries) image.needs;
  }
]

shown_with : (image : Image) (o : Option (List Entry)) → o ≡ image.entries → shown_by image o ≡ shown image
unfolding shown_by
shown_with image o e = same o ∙ ap (shown_with_entries image) e
  where
    same : (es : Option (List Entry)) → shown_by image es ≡ shown_with_entries image es
    same None = refl
    same (Some entries) = refl

-- a view by its outline and its tags
view_with : View → List Entry → (ℕ → Bool) → List NamedSymbol → List VersionDefinition → List VersionNeeds → View
view_with outline entries tag symbols definitions needs = record outline {
  entries = Some entries;
  symbols = shown_if (tag DT_SYMTAB) (map (seen_symbol (tag DT_VERSYM)) symbols);
  definitions = shown_if (tag DT_VERDEF && tag DT_VERDEFNUM) definitions;
  needs = shown_if (tag DT_VERNEED && tag DT_VERNEEDNUM) needs;
}

module _ (p : Parts) (rules : MeetsRules p) (image : Image) (is : IsImageOf p image) where
  outline : View
  outline = outline_of p.opened p.segments (interpreter_read p)

  -- by the entries and their tags
  with_tags : (es : List Entry) (tag : ℕ → Bool) → ((t : ℕ) → tag t ≡ lists_tag t es)
      → view_with outline es tag image.dynamic_symbols image.definitions image.needs ≡ shown_by image (Some es)
  unfolding view_with shown_by outline
  with_tags es tag same =
      ap (λ f. view_with outline es f image.dynamic_symbols image.definitions image.needs) (fun_ext same)
      ∙ ap (λ v. view_with v es (λ t. lists_tag t es) image.dynamic_symbols image.definitions image.needs) (sym is.outline)

  -- by the dynamic section
  shown_by_list : (o : Option SectionHeader) → section_of_type SHT_DYNAMIC p.sections ≡ o → view_by_dynamic p.opened.form (file_of p) outline p.sections o ≡ Some (shown image)
  unfolding outline entries_read shown_by view_with
  shown_by_list None e =
      let read : entries_read p None ≡ Some image.entries = ap (entries_read p) (sym e) ∙ is.entries in
      ap Some (sym is.outline ∙ shown_with image None (same_Some None image.entries read))
  shown_by_list (Some list) e =
      let file : List ℕ = file_of p in
      let raw : List EntryNumbers = raw_entries p in
      let read : entries_read p (Some list) ≡ Some image.entries = ap (entries_read p) (sym e) ∙ is.entries in
      let (es, es_there, made) = bind_some (each (shown_entry (length file) (linked_texts p list)) raw) (λ l. Some (Some l)) image.entries read in
      let (_, _, by_section, _) = raw_both p rules list e (length file) (nat_le_refl (length file)) in
      let tag : (t : ℕ) → has_tag t raw ≡ lists_tag t es = λ t. tags_listed (length file) (linked_texts p list) t raw es es_there in
      some_bind (entries_at (length file) p.opened.form (memory_of (section_bytes file list)) 0) (λ r. view_of p.opened.form (length file) outline r (tables_by_sections p.opened.form file p.sections list)) raw by_section
      ∙ view_of-parts p.opened.form (length file) outline raw (tables_by_sections p.opened.form file p.sections list) es
      (shown_if (has_tag DT_SYMTAB raw) (map (seen_symbol (has_tag DT_VERSYM raw)) image.dynamic_symbols))
      (shown_if (has_tag DT_VERDEF raw && has_tag DT_VERDEFNUM raw) image.definitions)
      (shown_if (has_tag DT_VERNEED raw && has_tag DT_VERNEEDNUM raw) image.needs)
      (entries_shown p rules list e es es_there)
      (symbols_shown p rules list e image.dynamic_symbols is.dynamic_symbols)
      (definitions_shown p rules list e image.definitions is.definitions)
      (needs_shown p rules list e image.needs is.needs)
      ∙ ap Some (with_tags es (λ t. has_tag t raw) tag ∙ shown_with image (Some es) (same_Some (Some es) image.entries made))

-- the section view of an accepted file is what its image shows
pub sections_show : (file : List ℕ) (p : Parts) (image : Image) → accepted_parts file ≡ Ok p → image_in p ≡ Some image → section_view file ≡ Some (shown image)
unfolding outline
sections_show file p image h made =
    let (parts, rules) = accepted file p h in
    let own : ArePartsOf (file_of p) p = subst (λ f. ArePartsOf f p) (sym parts.same_file) parts in
    subst (λ f. section_view f ≡ Some (shown image)) parts.same_file
    (shown_from (file_of p) p.opened p.segments p.sections own.opened parts.segments parts.sections
    ∙ shown_by_list p rules image (image_made p image made) (section_of_type SHT_DYNAMIC p.sections) refl)

-- ## The image of a file

-- an answer is an image or a fault
no_image : (fault : ElfFault) (image : Image) → Err fault ≡ Ok image → ⊥
no_image fault image h = cc

no_refusal : (fault : ElfFault) (image : Image) → Ok image ≡ Err fault → ⊥
no_refusal fault image h = cc

-- an image that is there, or the fault of a text
image_or : (o : Option Image) (image : Image) → there_or BadText o ≡ Ok image → o ≡ Some image
image_or None image h = absurd (no_image BadText image h)
image_or (Some x) image h = cc

-- what reading answers, by the parts that are accepted
answer_by : Result Parts ElfFault → Result Image ElfFault
answer_by r = elim r [ Ok p ↦ there_or BadText (image_in p) | Err fault ↦ Err fault ]

answered : (file : List ℕ) (r : Result Parts ElfFault) → accepted_parts file ≡ r → image_of file ≡ answer_by r
unfolding image_of answer_by
answered file r e = ap answer_by e

fault_by : Result Parts ElfFault → Option ElfFault
fault_by r = elim r [ Ok _ ↦ None | Err fault ↦ Some fault ]

faulty : (file : List ℕ) (r : Result Parts ElfFault) → accepted_parts file ≡ r → fault_of file ≡ fault_by r
unfolding fault_of fault_by
faulty file r e = ap fault_by e

-- accepted parts have an image
image_there : (file : List ℕ) (p : Parts) → accepted_parts file ≡ Ok p → (image : Image) × (image_in p ≡ Some image)
image_there file p h =
    let (_, rules) = accepted file p h in
    there_if (image_in p) (texts_there p ∙ rules.texts)

-- an image that is answered is that of accepted parts
pub image_from : (file : List ℕ) (image : Image) → image_of file ≡ Ok image → (r : Result Parts ElfFault) → accepted_parts file ≡ r → (p : Parts) × (accepted_parts file ≡ Ok p) × (image_in p ≡ Some image)
unfolding answer_by
image_from file image h (Ok p) e = (p, e, image_or (image_in p) image (sym (answered file (Ok p) e) ∙ h))
image_from file image h (Err fault) e = absurd (no_image fault image (sym (answered file (Err fault) e) ∙ h))

-- a fault that is answered is that of a rule
fault_from : (file : List ℕ) (fault : ElfFault) → image_of file ≡ Err fault → (r : Result Parts ElfFault) → accepted_parts file ≡ r → fault_of file ≡ Some fault
unfolding answer_by fault_by
fault_from file fault h (Ok p) e =
    let (image, there) = image_there file p e in
    absurd (no_refusal fault image (ap (there_or BadText) (sym there) ∙ sym (answered file (Ok p) e) ∙ h))
fault_from file fault h (Err other) e =
    let same : Err other ≡ Err fault = sym (answered file (Err other) e) ∙ h in
    faulty file (Err other) e ∙ cc

-- an accepted file, from its image
accepted_from : (file : List ℕ) (image : Image) → image_of file ≡ Ok image → fault_of file ≡ None
unfolding fault_by
accepted_from file image h =
    let (p, parts, _) = image_from file image h (accepted_parts file) refl in
    faulty file (Ok p) parts

-- an image shows what the section headers show
by_sections_from : (file : List ℕ) (image : Image) → image_of file ≡ Ok image → section_view file ≡ Some (shown image)
by_sections_from file image h =
    let (p, parts, made) = image_from file image h (accepted_parts file) refl in
    sections_show file p image parts made

-- Accepted files have images that show both views; other files are answered with their fault.
pub images_show : ImagesShow
unfolding answer_by
images_show = record {
  there = λ file h.
      let (p, parts) = no_fault file h in
      let (image, made) = image_there file p parts in
      (image, answered file (Ok p) parts ∙ ap (there_or BadText) made);
  accepted = accepted_from;
  by_sections = by_sections_from;
  by_loader = λ file image h.
      let (view, left, right, _) = views_agree file (accepted_from file image h) in
      right ∙ sym left ∙ by_sections_from file image h;
  refused = λ file fault h. fault_from file fault h (accepted_parts file) refl;
}
