-- The set has the names.
use Rattle.std.proofs.Common.{◌∙◌, Bool}
use Rattle.std.specs.HashSet.{keys}
use Rattle.std.proofs.lemmas.Result.{IfOk-weaker}
use Rattle.elf_edits.specs.Changes.{has_name}
use Rattle.elf_edits.specs.TextModel.{texts_model}
use Rattle.elf_edits.specs.Texts.{is_among}
use Rattle.elf_format.specs.Image.{ImageSection}
use Rattle.elf_symbol_edits.specs.Named.{section_name}
use Rattle.elf_symbol_edits.proofs.NumberSteps.{passing_same}
use Rattle.elf_symbol_edits.proofs.names.sections_with.Goals as goal

pub returns : goal.returns
returns c =
    let held : ImageSection → Bool = λ s. has_name (keys c.in_ok-set.set) (section_name s) in
    let meant : ImageSection → Bool = λ s. is_among (texts_model c.args.names.now) (section_name s) in
    IfOk-weaker c.sections_in.result _ _ (λ made is. is ∙ passing_same held meant (λ s. c.in_ok-set.ensures (section_name s)) c.args.image.now.section_numbers c.args.image.now.sections) c.sections_in.ensures
