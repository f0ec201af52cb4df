use Rattle.std.proofs.Common.{◌∙◌, ℕ, Option, None, sym, ap}
use Rattle.elf_layout_plan.specs.Standing.{stands_at}
use Rattle.elf_layout.specs.declared.sized.SectionNumbers.{SectionNumbers}
use Rattle.elf_layout.specs.declared.slots.At.{At}
use Rattle.elf_layout.specs.Unloaded.{place_by}
use Rattle.elf_layout.proofs.places.place_section.Goals as goal

pub returns-in-Some-default-2-clause-place : goal.returns-in-Some-default-2-clause-place
returns-in-Some-default-2-clause-place c = λ s is.
    c.stand.ensures s is ∙ ap (λ (o : Option At). place_by c.args.end s o c.args.unloaded) (sym c.in-Some-default.is-0)

pub returns-in-None-Some-clause-place : goal.returns-in-None-Some-clause-place
returns-in-None-Some-clause-place c = λ s is.
    c.stand-in-None-Some.ensures s is ∙ ap (λ (x : SectionNumbers). stands_at s c.in-None-Some.offset x.sh_addr) is
    ∙ ap (λ (o : Option ℕ). place_by c.args.end s None o) (sym c.in-None-Some.is-1)
    ∙ ap (λ (o : Option At). place_by c.args.end s o c.args.unloaded) (sym c.in-None-Some.is-0)

pub returns-in-None-None-clause-place : goal.returns-in-None-None-clause-place
returns-in-None-None-clause-place c = λ s is.
    c.stand-in-None-None.ensures s is ∙ ap (λ (x : SectionNumbers). stands_at s c.staying_offset-offset.result x.sh_addr) is
    ∙ ap (λ (n : ℕ). stands_at s n s.kept.section.sh_addr) (c.staying_offset-offset.ensures s is)
    ∙ ap (λ (o : Option ℕ). place_by c.args.end s None o) (sym c.in-None-None.is-1)
    ∙ ap (λ (o : Option At). place_by c.args.end s o c.args.unloaded) (sym c.in-None-None.is-0)
