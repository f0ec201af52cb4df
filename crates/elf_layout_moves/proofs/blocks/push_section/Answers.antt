use Rattle.std.proofs.Common.{◌≡◌, ◌<◌, ◌+◌, ◌++◌, ◌∙◌, ℕ, List, Option, Some, ap, sym, refl, length, get_or, map, arith}
use Rattle.std.specs.Prelude.{slice_get}
use Rattle.std.proofs.lemmas.List.{length-map}
use Rattle.elf_format.specs.Image.{ImageSection}
use Rattle.elf_image.specs.ImageModel.{section_model}
use Rattle.elf_image.specs.declared.section.Section.{Section}
use Rattle.elf_layout_plan.specs.Blocks.{Block}
use Rattle.elf_image.specs.Kept.{interpreter_number}
use Rattle.elf_layout_plan.specs.Memory.{Resized}
use Rattle.elf_layout_moves.specs.ImageBlocks.{made_block, section_blocks_from}
use Rattle.elf_layout_moves.proofs.ImageSteps.{block_next, block_passed, pushed, seen_section}
use Rattle.elf_layout_moves.proofs.blocks.push_section.Goals as goal

seen : (r : Resized) (xs : List Section) (k : ℕ) (x : Section) → map section_model xs ≡ r.image.sections → k < length r.image.sections
    → x ≡ get_or xs k x → slice_get r.image.sections k ≡ Some (section_model x)
seen r xs k x are within is = seen_section r.image xs xs k x are are (omega (arith, within, length-map xs section_model, ap length are)) is

pub returns-in_ok-push : goal.returns-in_ok-push
returns-in_ok-push c =
    let r : Resized = c.args.r.now in
    let k : ℕ = c.args.position in
    let are = c.sections.ensures ∙ ap (λ (q : Resized). q.image.sections) c.r.view_is in
    let s : ImageSection = section_model c.index-sections-position.result in
    let at = seen r _ k c.index-sections-position.result are c.requires.within c.index-sections-position.is in
    let block = c.block_at.ensures s at ∙ ap (λ (n : Option ℕ). made_block r n c.args.strings k s) c.requires.interpreter
    ∙ ap (λ (n : Option ℕ). made_block r (interpreter_number r.read) n k s) c.requires.strings in
    let next = block_next r c.requires.numbered c.requires.sized k s c.requires.within at (sym c.is_in_memory.ensures ∙ c.if-is_in_memory.true) in
    pushed _ c.args.made.now.items (section_blocks_from r k) (section_blocks_from r (k + 1)) _ c.block_at.result _ block c.in_ok-push.ensures.items next refl

pub returns-else-is_in_memory : goal.returns-else-is_in_memory
returns-else-is_in_memory c =
    let r : Resized = c.args.r.now in
    let k : ℕ = c.args.position in
    let are = c.sections.ensures ∙ ap (λ (q : Resized). q.image.sections) c.r.view_is in
    let s : ImageSection = section_model c.index-sections-position.result in
    let at = seen r _ k c.index-sections-position.result are c.requires.within c.index-sections-position.is in
    let passed = block_passed r c.requires.numbered c.requires.sized k s c.requires.within at (sym c.is_in_memory.ensures ∙ c.if-is_in_memory.false) in
    ap (λ (l : List Block). c.args.made.now.items ++ l) (sym passed)
