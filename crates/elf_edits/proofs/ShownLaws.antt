-- What an edited image shows.
use Rattle.std.proofs.Common.{◌≡◌, ℕ, Bool, true, ◌||◌, ◌&&◌, List, [], ◌∷◌, map, refl, sym, ap, subst, ◌∙◌, Option, Some, None, false, option_map, Result, Ok, Err}
use Rattle.std.specs.Prelude.{if◌then◌else◌, ◌==◌}
use Rattle.std.proofs.lemmas.Bool.{cond-true, cond-false}
use Rattle.patch_bytes.specs.Memory.{◌>>=◌}
use Rattle.elf_format.specs.declared.constants.TheConstants.{DT_SYMTAB, DT_VERDEF, DT_VERDEFNUM, DT_VERNEED, DT_VERNEEDNUM, DT_VERSYM, PT_GNU_STACK}
use Rattle.elf_format.specs.declared.records.SegmentHeader.{SegmentHeader}
use Rattle.elf_image.specs.Dynamic.{Entry}
use Rattle.elf_image.specs.File.{segment_of_type}
use Rattle.elf_image.specs.Image.{Image, lists_tag, seen_symbol, shown, shown_if}
use Rattle.elf_image.specs.Leave.{spare_facts}
use Rattle.elf_image.specs.Versions.{VersionDefinition, VersionNeeds}
use Rattle.elf_image.specs.Views.{NamedSymbol}
use Rattle.elf_edits.specs.Cause.{Cause, cause}
use Rattle.elf_edits.specs.Edit.{AllowDynamicMove, ClearExecStack, Edit, SetExecStack, SetPageSize, edited_entries, edited_needs, edited_symbols}
use Rattle.elf_edits.specs.Edited.{edited_image, edited_leave, edited_segments, edited_view, segments_with_leave, stack_change, stack_flags_changed, step, touches, with_align, with_stack_changed}
use Rattle.elf_edits.specs.Laws.{EditsShow, KeepsTheRest}
use Rattle.elf_edits.proofs.EditLaws.{IsUntouched, symtab_untouched, tags_kept, verdef_untouched, verdefnum_untouched, verneed_untouched, verneednum_untouched, versym_untouched}
use Rattle.elf_edits.proofs.ListLaws.{by_test}
use Rattle.elf_edits.proofs.SpareLaws.{others_found}
use Rattle.elf_edits.proofs.SymbolLaws.{seen_edited}

-- ## The stack

flags_of : Option SegmentHeader → Option ℕ
flags_of o = o >>= (λ p. Some p.p_flags)

stack_in : List SegmentHeader → Option SegmentHeader
stack_in ps = segment_of_type PT_GNU_STACK ps

if_first : (b : Bool) (p : SegmentHeader) (found : Option SegmentHeader) → b ≡ true → (if b then Some p else found) ≡ Some p
if_first b p found h = cond-true b (Some p) found h

stack_changed : (change : ℕ → ℕ) (ps : List SegmentHeader) → flags_of (stack_in (with_stack_changed change ps)) ≡ stack_flags_changed (Some change) (flags_of (stack_in ps))
unfolding flags_of stack_in with_stack_changed
stack_changed change [] = refl
stack_changed change (p ∷ ps) = by_test (p.p_type == PT_GNU_STACK)
    (λ holds.
    ap (λ (l : List SegmentHeader). flags_of (stack_in l)) (cond-true (p.p_type == PT_GNU_STACK) (record p { p_flags = change p.p_flags } ∷ ps) (p ∷ with_stack_changed change ps) holds)
    ∙ ap flags_of (if_first (p.p_type == PT_GNU_STACK) (record p { p_flags = change p.p_flags }) (stack_in ps) holds)
    ∙ sym (ap (λ o. stack_flags_changed (Some change) (flags_of o)) (if_first (p.p_type == PT_GNU_STACK) p (stack_in ps) holds)))
    (λ fails.
    ap (λ (l : List SegmentHeader). flags_of (stack_in l)) (cond-false (p.p_type == PT_GNU_STACK) (record p { p_flags = change p.p_flags } ∷ ps) (p ∷ with_stack_changed change ps) fails)
    ∙ ap flags_of (cond-false (p.p_type == PT_GNU_STACK) (Some p) (stack_in (with_stack_changed change ps)) fails)
    ∙ stack_changed change ps
    ∙ sym (ap (λ o. stack_flags_changed (Some change) (flags_of o)) (cond-false (p.p_type == PT_GNU_STACK) (Some p) (stack_in ps) fails)))

stack_aligned : (size : ℕ) (ps : List SegmentHeader) → flags_of (stack_in (map (with_align size) ps)) ≡ flags_of (stack_in ps)
unfolding flags_of stack_in
stack_aligned size [] = refl
stack_aligned size (p ∷ ps) = by_test (p.p_type == PT_GNU_STACK)
    (λ holds. ap flags_of (if_first (p.p_type == PT_GNU_STACK) (with_align size p) (stack_in (map (with_align size) ps)) holds) ∙ sym (ap flags_of (if_first (p.p_type == PT_GNU_STACK) p (stack_in ps) holds)))
    (λ fails. ap flags_of (cond-false (p.p_type == PT_GNU_STACK) (Some (with_align size p)) (stack_in (map (with_align size) ps)) fails) ∙ stack_aligned size ps ∙ sym (ap flags_of (cond-false (p.p_type == PT_GNU_STACK) (Some p) (stack_in ps) fails)))

-- the stack's program header isn't spare
stack_left : (leave : Bool) (image : Image) → stack_in (segments_with_leave leave image) ≡ stack_in image.segments
unfolding stack_in
stack_left true image = others_found (spare_facts image) (λ p. p.p_type == PT_GNU_STACK) (λ p is. ap (λ (n : ℕ). n == PT_GNU_STACK) is)
stack_left false image = refl

stack_shown : (edit : Edit) (image : Image) → flags_of (stack_in (edited_segments edit image)) ≡ stack_flags_changed (stack_change edit) (flags_of (stack_in image.segments))
stack_shown ClearExecStack image = stack_changed _ image.segments
stack_shown SetExecStack image = stack_changed _ image.segments
stack_shown (SetPageSize size) image = stack_aligned size image.segments
stack_shown AllowDynamicMove image = ap flags_of (stack_left image.changed image)
stack_shown _ image = refl

-- ## The tables that the list names

module _ (image : Image) where
  symbols_by : List NamedSymbol → Option (List Entry) → Option (List NamedSymbol)
  symbols_by ys es = es >>= (λ entries. shown_if (lists_tag DT_SYMTAB entries) (map (seen_symbol (lists_tag DT_VERSYM entries)) ys))

  definitions_by : Option (List Entry) → Option (List VersionDefinition)
  definitions_by es = es >>= (λ entries. shown_if (lists_tag DT_VERDEF entries && lists_tag DT_VERDEFNUM entries) image.definitions)

  needs_by : List VersionNeeds → Option (List Entry) → Option (List VersionNeeds)
  needs_by ns es = es >>= (λ entries. shown_if (lists_tag DT_VERNEED entries && lists_tag DT_VERNEEDNUM entries) ns)

  module _ (machine : ℕ) (edit : Edit) where
    named : (tag : ℕ) → IsUntouched tag → (es : List Entry) → lists_tag tag (edited_entries machine edit es) ≡ lists_tag tag es
    named tag is es = tags_kept tag is machine edit es

    symbols_edited : (es : Option (List Entry)) → symbols_by (edited_symbols edit image.dynamic_symbols) (option_map (edited_entries machine edit) es) ≡ option_map (edited_symbols edit) (symbols_by image.dynamic_symbols es)
    unfolding symbols_by
    symbols_edited None = refl
    symbols_edited (Some es) =
        ap (λ b. shown_if b (map (seen_symbol (lists_tag DT_VERSYM (edited_entries machine edit es))) (edited_symbols edit image.dynamic_symbols))) (named DT_SYMTAB symtab_untouched es)
        ∙ ap (λ b. shown_if (lists_tag DT_SYMTAB es) (map (seen_symbol b) (edited_symbols edit image.dynamic_symbols))) (named DT_VERSYM versym_untouched es)
        ∙ ap (shown_if (lists_tag DT_SYMTAB es)) (seen_edited edit (lists_tag DT_VERSYM es) image.dynamic_symbols)
        ∙ edited_if (lists_tag DT_SYMTAB es) (map (seen_symbol (lists_tag DT_VERSYM es)) image.dynamic_symbols)
      where
        edited_if : (b : Bool) (ys : List NamedSymbol) → shown_if b (edited_symbols edit ys) ≡ option_map (edited_symbols edit) (shown_if b ys)
        edited_if true ys = refl
        edited_if false ys = refl

    definitions_same : (es : Option (List Entry)) → definitions_by (option_map (edited_entries machine edit) es) ≡ definitions_by es
    unfolding definitions_by
    definitions_same None = refl
    definitions_same (Some es) =
        ap (λ b. shown_if (b && lists_tag DT_VERDEFNUM (edited_entries machine edit es)) image.definitions) (named DT_VERDEF verdef_untouched es)
        ∙ ap (λ b. shown_if (lists_tag DT_VERDEF es && b) image.definitions) (named DT_VERDEFNUM verdefnum_untouched es)

    needs_shown : (es : Option (List Entry)) → needs_by (edited_needs edit image.needs) (option_map (edited_entries machine edit) es) ≡ option_map (edited_needs edit) (needs_by image.needs es)
    unfolding needs_by
    needs_shown None = refl
    needs_shown (Some es) =
        ap (λ b. shown_if (b && lists_tag DT_VERNEEDNUM (edited_entries machine edit es)) (edited_needs edit image.needs)) (named DT_VERNEED verneed_untouched es)
        ∙ ap (λ b. shown_if (lists_tag DT_VERNEED es && b) (edited_needs edit image.needs)) (named DT_VERNEEDNUM verneednum_untouched es)
        ∙ edited_if (lists_tag DT_VERNEED es && lists_tag DT_VERNEEDNUM es) image.needs
      where
        edited_if : (b : Bool) (ns : List VersionNeeds) → shown_if b (edited_needs edit ns) ≡ option_map (edited_needs edit) (shown_if b ns)
        edited_if true ns = refl
        edited_if false ns = refl

edited_shows : (edit : Edit) (old : Image) → shown (edited_image edit old) ≡ edited_view old.header.e_machine edit (shown old)
unfolding edited_image flags_of stack_in symbols_by definitions_by needs_by
edited_shows edit old =
    let machine = old.header.e_machine in
    ap (λ (o : Option ℕ). record (shown (edited_image edit old)) { stack_flags = o }) (stack_shown edit old)
    ∙ ap (λ (o : Option (List NamedSymbol)). record (shown (edited_image edit old)) { stack_flags = stack_flags_changed (stack_change edit) (shown old).stack_flags; symbols = o }) (symbols_edited old machine edit old.entries)
    ∙ ap (λ (o : Option (List VersionDefinition)). record (shown (edited_image edit old)) { stack_flags = stack_flags_changed (stack_change edit) (shown old).stack_flags; symbols = option_map (edited_symbols edit) (shown old).symbols; definitions = o }) (definitions_same old machine edit old.entries)
    ∙ ap (λ (o : Option (List VersionNeeds)). record (shown (edited_image edit old)) { stack_flags = stack_flags_changed (stack_change edit) (shown old).stack_flags; symbols = option_map (edited_symbols edit) (shown old).symbols; definitions = (shown old).definitions; needs = o }) (needs_shown old machine edit old.entries)

-- ## One step

-- the first cause, and what the step answers
by_cause : Option Cause → Edit → Image → Result Image Cause
by_cause o edit image = elim o [ None ↦ Ok (edited_image edit image) | Some reason ↦ Err reason ]

ok_of : (o : Option Cause) (edit : Edit) (old new : Image) → by_cause o edit old ≡ Ok new → (o ≡ None) × (new ≡ edited_image edit old)
unfolding by_cause
ok_of None edit old new h = (refl, cc)
ok_of (Some reason) edit old new h = absurd (cc)

err_of : (o : Option Cause) (edit : Edit) (old : Image) (reason : Cause) → by_cause o edit old ≡ Err reason → o ≡ Some reason
unfolding by_cause
err_of None edit old reason h = absurd (cc)
err_of (Some other) edit old reason h = cc

-- what an accepted step means
pub accepted_step : (edit : Edit) (old new : Image) → step edit old ≡ Ok new → (cause edit old ≡ None) × (new ≡ edited_image edit old)
unfolding step by_cause
accepted_step edit old new h = ok_of (cause edit old) edit old new h

pub step_of : (edit : Edit) (old : Image) → cause edit old ≡ None → step edit old ≡ Ok (edited_image edit old)
unfolding step by_cause
step_of edit old h = ap (λ o. by_cause o edit old) h

kept_rest : (edit : Edit) (old : Image) → KeepsTheRest old (edited_image edit old)
unfolding edited_image
kept_rest edit old = record { source = refl; form = refl; header = refl; sections = refl; symbols = refl; definitions = refl; section_numbers = refl; symbol_numbers = refl; dynamic_symbol_numbers = refl }

symbols_made : (edit : Edit) (old : Image) → (edited_image edit old).dynamic_symbols ≡ edited_symbols edit old.dynamic_symbols
unfolding edited_image
symbols_made edit old = refl

needs_made : (edit : Edit) (old : Image) → (edited_image edit old).needs ≡ edited_needs edit old.needs
unfolding edited_image
needs_made edit old = refl

leave_made : (edit : Edit) (old : Image) → (edited_image edit old).moves_dynamic ≡ edited_leave edit old.changed old.moves_dynamic
unfolding edited_image
leave_made edit old = refl

marked : (edit : Edit) (old : Image) → (edited_image edit old).changed ≡ (old.changed || touches edit old)
unfolding edited_image
marked edit old = refl

pub edits_show : EditsShow
unfolding step by_cause
edits_show = record {
  shows = λ edit old new h. ap shown ((accepted_step edit old new h).1) ∙ edited_shows edit old;
  symbols = λ edit old new h. ap (λ (i : Image). i.dynamic_symbols) ((accepted_step edit old new h).1) ∙ symbols_made edit old;
  needs = λ edit old new h. ap (λ (i : Image). i.needs) ((accepted_step edit old new h).1) ∙ needs_made edit old;
  leave = λ edit old new h. ap (λ (i : Image). i.moves_dynamic) ((accepted_step edit old new h).1) ∙ leave_made edit old;
  marks = λ edit old new h. ap (λ (i : Image). i.changed) ((accepted_step edit old new h).1) ∙ marked edit old;
  keeps = λ edit old new h. subst (λ (i : Image). KeepsTheRest old i) (sym ((accepted_step edit old new h).1)) (kept_rest edit old);
  accepted = λ edit old new h. (accepted_step edit old new h).0;
  refused = λ edit old reason h. err_of (cause edit old) edit old reason h;
}
