-- What is known are the names in entries and in records.
use Rattle.std.proofs.Common.{◌≡◌, ◌∙◌, ◌++◌, ap, filter, map, List, Bor}
use Rattle.std.proofs.lemmas.Result.{IfOk-weaker}
use Rattle.elf_edits.specs.Edit.{Edit}
use Rattle.elf_edits.specs.EditModel.{edit_model}
use Rattle.elf_image.specs.ImageModel.{needs_model}
use Rattle.elf_format.specs.Versions.{VersionNeeds}
use Rattle.elf_notes.specs.Notes.{Name, is_unmatched, libraries_asked, recorded_of}
use Rattle.elf_notes.proofs.findings.unmatched_libraries_in.Goals as goal

pub returns : goal.returns
returns c =
    let named : List (Bor Name) → List Name = map (λ n. n.now) in
    let edits : List Edit = map edit_model c.args.edits.now in
    let put : List Name = named c.args.put.now in
    let needs_are : map needs_model c.deref.result.now ≡ c.args.image.now.needs = ap (map needs_model) c.deref.ensures.value ∙ c.versions.ensures.needs in
    let recorded : named c.deref-2.result.now ≡ recorded_of c.args.image.now = ap named c.deref-2.ensures.value ∙ c.in_ok-recorded.ensures ∙ ap (λ (l : List VersionNeeds). map (λ n. n.file) l) needs_are in
    let asked : named c.deref-3.result.now ≡ libraries_asked edits = ap named c.deref-3.ensures.value ∙ c.in_ok-of_libraries.ensures in
    let known : named c.deref-4.result.now ≡ named c.args.needed.now ++ recorded_of c.args.image.now = ap named c.deref-4.ensures.value ∙ c.in_ok-known.ensures ∙ ap (λ l. named c.args.needed.now ++ l) recorded in
    IfOk-weaker c.unmatched_of.result _ _ (λ names is.
    is ∙ ap (λ l. filter (is_unmatched l put) (named c.deref-3.result.now)) known ∙ ap (filter (is_unmatched (named c.args.needed.now ++ recorded_of c.args.image.now) put)) asked) c.unmatched_of.ensures
