-- One section after another.
use Rattle.std.proofs.Common.{◌≡◌, ◌<◌, ℕ, List, Bool, Some, ap, length, sym, ◌∙◌, arith, map}
use Rattle.std.proofs.lemmas.List.{length-map}
use Rattle.std.specs.Prelude.{◌&&◌, ◌==◌, not}
use Rattle.std.specs.HashSet.{keys}
use Rattle.std.specs.List.{slice_get, zip}
use Rattle.elf_edits.specs.Changes.{has_name}
use Rattle.elf_format.specs.Image.{Image, ImageSection}
use Rattle.elf_image.specs.ImageModel.{section_model}
use Rattle.elf_image.proofs.ForCallers.KeptSections.{as_many}
use Rattle.elf_edits.proofs.ForCallers.{keeps_all, keeps_none, keeps_one}
use Rattle.elf_symbol_edits.specs.Named.{numbers_passing, section_name}
use Rattle.elf_symbol_edits.proofs.NumberSteps.{index_there, model_there, zip_short, zip_there}
use Rattle.elf_symbol_edits.proofs.names.sections_in.Goals as goal
use Rattle.elf_symbol_edits.proofs.names.sections_in.Goals.{then-is_named+in_ok-push, else-is_named}

pub loop-i-preserved : goal.loop-i-preserved
loop-i-preserved c =
    let image : Image = c.args.image.now in
    let ns : List ℕ = image.section_numbers in
    let ss : List ImageSection = image.sections in
    let i : ℕ = c.loop-i.i in
    let number : ℕ = c.read_section-number.result in
    let s : ImageSection = section_model c.index-sections-i.result in
    let test : ImageSection → Bool = λ t. has_name (keys c.args.names.now) (section_name t) in
    let at : slice_get ss i ≡ Some s = model_there section_model c.sections-sections.result.now ss i c.index-sections-i.result c.sections-sections.ensures (omega (arith, c.loop-i-test.true)) c.index-sections-i.is in
    let long : length (map section_model c.sections-sections.result.now) ≡ length ss = ap (λ (l : List ImageSection). length l) c.sections-sections.ensures in
    let less : i < length ns = omega (arith, as_many image c.source-source.ensures.edited, long, length-map c.sections-sections.result.now section_model, c.loop-i-test.true) in
    let there : slice_get (zip ns ss) i ≡ Some (number, s) = zip_there ns ss i number s (index_there ns i number less c.read_section-number.ensures) at in
    let is : c.is_named.result ≡ (not (number == 0) && test s) =
    c.is_named.ensures ∙ ap (λ (n : List ℕ). not (number == 0) && has_name (keys c.args.names.now) n) (c.as_slice.ensures ∙ ap (λ x. section_name (section_model x)) (sym c.index-sections-i.is)) in
    elim c.if-is_named.branch [
      | then-is_named+in_ok-push w ↦
          keeps_one (λ x. x.0) (λ x. not (x.0 == 0) && test x.1) c.loop-i.made.items c.if-is_named.made.items (numbers_passing test ns ss)
          (zip ns ss) i (number, s) c.is_named.result there is w.if-is_named.true (ap (λ v. v.items) w.made-is ∙ w.in_ok-push.ensures.items) c.loop-i.invariant
      | else-is_named w ↦
          keeps_none (λ x. x.0) (λ x. not (x.0 == 0) && test x.1) c.loop-i.made.items c.if-is_named.made.items (numbers_passing test ns ss)
          (zip ns ss) i (number, s) c.is_named.result there is w.if-is_named.false (ap (λ v. v.items) w.made-is) c.loop-i.invariant
    ]

pub returns : goal.returns
returns c =
    let image : Image = c.args.image.now in
    let ns : List ℕ = image.section_numbers in
    let ss : List ImageSection = image.sections in
    let test : ImageSection → Bool = λ t. has_name (keys c.args.names.now) (section_name t) in
    let long : length (map section_model c.sections-sections.result.now) ≡ length ss = ap (λ (l : List ImageSection). length l) c.sections-sections.ensures in
    keeps_all (λ x. x.0) (λ x. not (x.0 == 0) && test x.1) c.loop-i.made.items (numbers_passing test ns ss)
    (zip ns ss) c.loop-i.i (omega (arith, zip_short ns ss, long, length-map c.sections-sections.result.now section_model, c.loop-i-test.false)) c.loop-i.invariant
