-- What is pushed is the first program header for the stack, and stands last.
use Rattle.std.proofs.Common.{◌≡◌, ◌∙◌, ◌++◌, ◌∷◌, [], ◌-◌, ℕ, List, Some, true, ap, arith, inl, length, length-append, map, option_map}
use Rattle.std.specs.Prelude.{position}
use Rattle.std.proofs.lemmas.List.{length-map}
use Rattle.std.proofs.lemmas.Option.{same_Some}
use Rattle.elf_format.specs.declared.constants.TheConstants.{PT_GNU_STACK}
use Rattle.elf_format.specs.declared.records.SegmentHeader.{SegmentHeader}
use Rattle.elf_format.specs.Image.{Image}
use Rattle.elf_image.specs.File.{segment_of_type}
use Rattle.elf_image.specs.ImageModel.{segment_model}
use Rattle.elf_image_headers.specs.Segments.{added_stack, with_stack_flags}
use Rattle.elf_image_headers.proofs.ForCallers.EditSteps.{flags_pushed, is_stack, pushed_found, pushed_place}
use Rattle.elf_image.proofs.builder.Builder.add_stack.Goals as goal

pub stack_flags_at-requires : goal.stack_flags_at-requires
stack_flags_at-requires c =
    let pushed = c.in_ok-push_stack.ensures in
    let long : length (map segment_model c.self.inside.segments.items) ≡ length (c.args.self.now.segments ++ added_stack 7 ∷ []) = ap (λ (i : Image). length i.segments) (c.self.view_is ∙ pushed) in
    let last : length c.args.self.now.segments ≡ c.len-at.result - 1 =
    omega (arith, c.len-at.ensures, c.self.inside.segments.ok.0, length-map c.self.inside.segments.items segment_model, long, length-append c.args.self.now.segments (added_stack 7 ∷ [])) in
    ap (λ (i : Image). position is_stack i.segments) pushed ∙ pushed_place 7 c.args.self.now.segments c.requires ∙ ap Some last

pub returns : goal.returns
returns c =
    let pushed = c.in_ok-push_stack.ensures in
    let written = λ (w : ℕ). ap (λ (i : Image). record i { changed = true; segments = with_stack_flags w i.segments }) pushed
    ∙ ap (λ (ps : List SegmentHeader). record c.args.self.now { changed = true; segments = ps }) (flags_pushed 7 w c.args.self.now.segments c.requires) in (
      λ i. inl (c.stack_flags_at.result.ghost_name, λ w. (written w) i),
      record {
        lends = tt;
        value = same_Some c.stack_flags_at.result.now 7 (c.stack_flags_at.ensures.value
            ∙ ap (λ (i : Image). option_map (λ (p : SegmentHeader). p.p_flags) (segment_of_type PT_GNU_STACK i.segments)) pushed
            ∙ ap (option_map (λ (p : SegmentHeader). p.p_flags)) (pushed_found 7 c.args.self.now.segments c.requires));
      },
    )
