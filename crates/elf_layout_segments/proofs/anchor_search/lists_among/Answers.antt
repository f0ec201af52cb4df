use Rattle.std.proofs.Common.{◌≡◌, ℕ, List, Option, true, false, subst, ap, ◌∙◌}
use Rattle.elf_format.specs.declared.constants.TheConstants.{SHT_DYNAMIC}
use Rattle.elf_image.specs.Kept.{interpreter_number}
use Rattle.elf_layout_plan.specs.Memory.{Resized}
use Rattle.elf_layout_segments.specs.declared.sections.SectionAt.{SectionAt}
use Rattle.elf_layout_segments.specs.declared.sections.Wanted.TheVariants.{OfType}
use Rattle.elf_layout_segments.specs.FileRanges.{AreFileRanges}
use Rattle.elf_layout_segments.specs.Keys.{AreKeys}
use Rattle.elf_layout_segments.specs.AnchorSearch.{interpreter_at}
use Rattle.elf_layout_segments.specs.Sections.{first_wanted, indexed_sections}
use Rattle.elf_layout_segments.proofs.SectionSteps.{sections_rise}
use Rattle.elf_layout_segments.proofs.anchor_search.lists_among.Goals as goal

pub returns : goal.returns
returns c =
    let kept : List SectionAt = indexed_sections c.args.r.now.image in
    let seen : c.args.kept.now ≡ kept = c.requires in
    record {
      rise = sections_rise c.args.r.now.image;
      dynamic = c.first-dynamic.ensures ∙ ap (λ (xs : List SectionAt). first_wanted (OfType SHT_DYNAMIC) xs) seen;
      interpreter =
          c.find_interpreter-interpreter.ensures
          ∙ ap (λ (xs : List SectionAt). interpreter_at c.interpreter_number-number.result xs) seen
          ∙ ap (λ (n : Option ℕ). interpreter_at n kept) (c.interpreter_number-number.ensures ∙ ap (λ (y : Resized). interpreter_number y.read) c.r.view_is);
      loaded = subst (λ (xs : List SectionAt). AreKeys true xs c.in_ok-loaded.loaded.items) seen c.in_ok-loaded.ensures;
      all = subst (λ (xs : List SectionAt). AreKeys false xs c.in_ok-all.all.items) seen c.in_ok-all.ensures;
      read = subst (λ (xs : List SectionAt). AreFileRanges xs c.in_ok-read.read) (ap (λ (y : Resized). indexed_sections y.read) c.r.view_is) c.in_ok-read.ensures;
      moves_dynamic = c.may_dynamic_move-moves_dynamic.ensures ∙ ap (λ (y : Resized). y.image.moves_dynamic) c.r.view_is;
    }
