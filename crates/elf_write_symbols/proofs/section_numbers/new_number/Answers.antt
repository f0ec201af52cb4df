-- Where the table has 0 none is there, or it is the first.
use Rattle.std.proofs.Common.{◌≡◌, ℕ, List, ap, sym, ◌∙◌, arith}
use Rattle.std.specs.Prelude.{slice_index}
use Rattle.std.proofs.lemmas.Bool.{ne_eqb}
use Rattle.elf_format.specs.Image.{Image}
use Rattle.elf_write_symbols.specs.NewSections.{new_section}
use Rattle.elf_write_symbols.proofs.ReadyFacts.{facts}
use Rattle.elf_write_symbols.proofs.SectionFacts.{number_moves, number_stays, told_at}
use Rattle.elf_write_symbols.proofs.section_numbers.new_number.Goals as goal

pub returns-in-0 : goal.returns-in-0
returns-in-0 c =
    let read : Image = c.args.read.now in
    let image : Image = c.args.image.now in
    let n : ℕ = c.args.number in
    let f = facts read image c.requires.ready in
    let told : new_section image n ≡ c.number_at.result =
    sym (told_at read image f n) ∙ ap (λ (l : List ℕ). slice_index l n) (sym c.requires.sections.numbers) ∙ sym c.number_at.ensures in
    number_stays read image f n (told ∙ c.in-0.is)

pub returns-in_default : goal.returns-in_default
returns-in_default c =
    let read : Image = c.args.read.now in
    let image : Image = c.args.image.now in
    let n : ℕ = c.args.number in
    let f = facts read image c.requires.ready in
    let told : new_section image n ≡ c.number_at.result =
    sym (told_at read image f n) ∙ ap (λ (l : List ℕ). slice_index l n) (sym c.requires.sections.numbers) ∙ sym c.number_at.ensures in
    c.from.ensures ∙ sym told ∙ number_moves read image f n (ne_eqb (new_section image n) 0 (λ (e : new_section image n ≡ 0). omega (arith, told, e)))
