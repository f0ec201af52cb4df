-- The marks of one symbol more.
use Rattle.std.proofs.Common.{◌≡◌, Bool, true, false, take, refl, sym, ap, ◌∙◌}
use Rattle.std.specs.Prelude.{◌==◌, ◌||◌, if◌then◌else◌}
use Rattle.elf_format.specs.Options.{is_some_and}
use Rattle.elf_tables.specs.ImageModel.{symbol_model}
use Rattle.elf_tables.specs.Loan.{symbols_now}
use Rattle.elf_layout_plan.specs.Needs.{is_version_used}
use Rattle.elf_layout_plan.proofs.SymbolSteps.{used_next}
use Rattle.elf_layout_plan.specs.Staying.{mark_of}
use Rattle.elf_layout_plan.proofs.marks.mark_versions.Goals as goal

-- a mark that is given once more
given : (before now m x : Bool) → (if now then m else (if before then m else x)) ≡ (if (before || now) then m else x)
given true true m x = refl
given true false m x = refl
given false true m x = refl
given false false m x = refl

pub loop-i-preserved : goal.loop-i-preserved
loop-i-preserved c index =
    let before : Bool = is_version_used (take c.loop-i.i (symbols_now c.args.symbols)) index in
    let now : Bool = is_some_and (λ v. v.index == index) c.get.result.version in
    let mark : Bool = c.args.mark in
    c.mark_version.ensures index
    ∙ ap (λ (b : Bool). if now then mark else b) (c.loop-i.invariant index)
    ∙ given before now mark (mark_of c.args.marks.now index)
    ∙ ap (λ (b : Bool). if b then mark else mark_of c.args.marks.now index) (sym (used_next (symbols_now c.args.symbols) c.loop-i.i (symbol_model c.get.result) index c.get.ensures))
