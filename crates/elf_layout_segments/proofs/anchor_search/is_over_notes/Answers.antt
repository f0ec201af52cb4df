use Rattle.std.proofs.Common.{◌≡◌, [], ◌∷◌, ◌&&◌, true, false, ap, sym, ◌∙◌}
use Rattle.elf_format.specs.Options.{is_one_of}
use Rattle.elf_format.specs.declared.constants.TheConstants.{PT_GNU_PROPERTY, PT_NOTE}
use Rattle.elf_format.specs.declared.range.Range.{Range}
use Rattle.elf_layout_segments.specs.FileRanges.{is_over_counts}
use Rattle.elf_layout_segments.specs.AnchorSearch.{are_notes_in, is_over_notes_at}
use Rattle.elf_layout_segments.proofs.NoteLaws.{over-counts}
use Rattle.elf_layout_segments.proofs.anchor_search.is_over_notes.Goals as goal

pub returns-then-is_for_notes : goal.returns-then-is_for_notes
unfolding is_over_notes_at
returns-then-is_for_notes c = λ looked are.
    let kind : is_one_of (PT_NOTE ∷ PT_GNU_PROPERTY ∷ []) c.args.p.p_type ≡ true = sym c.is_for_notes.ensures ∙ c.if-is_for_notes.true in
    c.is_over_notes.ensures
    ∙ ap (λ (part : Range). is_over_counts c.args.lists.now.read part) c.file_part.ensures
    ∙ over-counts c.args.p c.requires looked.read c.args.lists.now.read are.read
    ∙ sym (ap (λ b. b && are_notes_in c.args.p looked.read) kind)

pub returns-else-is_for_notes : goal.returns-else-is_for_notes
unfolding is_over_notes_at
returns-else-is_for_notes c = λ looked are.
    let kind : is_one_of (PT_NOTE ∷ PT_GNU_PROPERTY ∷ []) c.args.p.p_type ≡ false = sym c.is_for_notes.ensures ∙ c.if-is_for_notes.false in
    c.is_for_notes.ensures ∙ kind
    ∙ sym (ap (λ b. b && are_notes_in c.args.p looked.read) kind)
