-- What is counted is what is written.
use Rattle.std.proofs.Common.{List, length, map, ap, ◌∙◌}
use Rattle.elf_format.specs.Image.{Image}
use Rattle.elf_format.specs.Versions.{VersionNeeds}
use Rattle.elf_image.specs.ImageModel.{needs_model}
use Rattle.elf_layout_plan.specs.Staying.{unmarked_needs}
use Rattle.elf_write_spec.specs.Headers.{behind_locals as behind_all}
use Rattle.elf_write_contents.specs.declared.headers.Known.{Known}
use Rattle.elf_write_contents.proofs.HeadersMade.{known_of}
use Rattle.elf_write_contents.proofs.headers.known_of.Goals as goal

pub returns : goal.returns
returns c =
    let image : Image = c.args.image.now in
    let count = λ (needs : List VersionNeeds). length (unmarked_needs c.args.staying.now.marks needs) in
    let known : Known = record {
      symbols = c.behind_locals.result;
      dynamic_symbols = c.behind_dynamic_locals.result;
      needs = c.count_needs.result;
      headers = c.in-Ok.headers;
    } in
    known_of c.args.read.now image c.args.staying.now known c.requires.ready c.requires.staying
    (c.behind_locals.ensures ∙ ap behind_all c.symbols.ensures.symbols) c.behind_dynamic_locals.ensures
    (c.count_needs.ensures ∙ ap count (ap (map needs_model) c.deref.ensures.value ∙ c.versions.ensures.needs))
    c.in-Ok.ensures
