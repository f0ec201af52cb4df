-- The first segment of that type in the list of all.
use Rattle.std.proofs.Common.{◌≡◌, Bool, List, [], ◌∷◌, true, false, refl, ap, ◌∙◌, map, eqb, Option, Some, None, option_map, rules}
use Rattle.std.specs.Prelude.{if◌then◌else◌}
use borrow.Author.Tests.{tests}
use denote.Ref.{Bor}
use Rattle.std.specs.List.{find}
use Rattle.std.proofs.lemmas.Iterator.{YieldsList-from_slice}
use Rattle.std.proofs.lemmas.Iterator.Search.{find_from_yields_List}
use Rattle.elf_format.specs.declared.constants.TheConstants.{PT_GNU_STACK}
use Rattle.elf_format.specs.declared.records.SegmentHeader.{SegmentHeader}
use Rattle.elf_image.specs.declared.segment.Segment.{Segment}
use Rattle.elf_image.specs.File.{segment_of_type}
use Rattle.elf_image.specs.ImageModel.{segment_model}
use Rattle.elf_apply.proofs.ext.BuilderBuilderExt.gnu_stack.Goals as goal

is_stack : Segment → Bool
is_stack p = eqb p.numbers.p_type PT_GNU_STACK

kept : Option (Bor Segment) → Option SegmentHeader
kept o = option_map (λ p. segment_model p.now) o

kept-now : (o : Option (Bor Segment)) → kept o ≡ option_map segment_model (option_map (λ (p : Bor Segment). p.now) o)
unfolding kept
kept-now None = refl
kept-now (Some p) = refl

-- the first of some segments and of those behind it
first_kept : (b : Bool) (p : Segment) (found : Option Segment) → option_map segment_model (if b then Some p else found) ≡ (if b then Some (segment_model p) else option_map segment_model found)
first_kept true p found = refl
first_kept false p found = refl

found-kept : (ps : List Segment) → option_map segment_model (find is_stack ps) ≡ segment_of_type PT_GNU_STACK (map segment_model ps)
unfolding is_stack
found-kept [] = refl
found-kept (p ∷ ps) = first_kept (is_stack p) p (find is_stack ps) ∙ ap (λ o. if is_stack p then Some (segment_model p) else o) (found-kept ps)

pub returns : goal.returns
unfolding is_stack kept
returns c =
    let found : option_map (λ (p : Bor Segment). p.now) c.find.result ≡ find is_stack c.segments.result.now = find_from_yields_List is_stack _ _ c.find.result c.find.ensures.ran (YieldsList-from_slice c.segments.result.now c.iter.ensures.rest) (λ x b q k. search (rules, tests)) in
    kept-now c.find.result ∙ ap (option_map segment_model) found ∙ found-kept c.segments.result.now ∙ ap (segment_of_type PT_GNU_STACK) c.segments.ensures
