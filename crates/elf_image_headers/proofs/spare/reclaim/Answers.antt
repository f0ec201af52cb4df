use Rattle.std.proofs.Common.{ap, sym, ◌∙◌, map, rules}
use Rattle.std.specs.Prelude.{not}
use borrow.Author.Tests.{tests}
use Rattle.std.proofs.lemmas.Fn.{filter_same}
use Rattle.elf_image_headers.specs.declared.segment.Segment.{Segment}
use Rattle.elf_image_headers.specs.PartModels.{segment_model}
use Rattle.elf_image_headers.specs.SpareFrom.{is_spare_from, left}
use Rattle.elf_image_headers.proofs.SpareSteps.{map_filtered}
use Rattle.elf_image_headers.proofs.spare.reclaim.Goals as goal

pub returns : goal.returns
returns c =
    ap (map segment_model) (filter_same _ (λ (p : Segment). not (is_spare_from c.in-Some.from (segment_model p))) _ (λ x b f h. (search (rules, tests), search (rules, tests))) _ _ c.retain.ensures.filtered)
    ∙ map_filtered segment_model (λ p. not (is_spare_from c.in-Some.from p)) c.args.segments.now.items
    ∙ ap (λ o. left o (map segment_model c.args.segments.now.items)) (sym c.in-Some.is)
