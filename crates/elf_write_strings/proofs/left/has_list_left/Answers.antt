-- Where no list was read, no text is left only where none is there.
use Rattle.std.proofs.Common.{◌≡◌, ℕ, List, [], length, map, ap, sym, subst, ◌∙◌, Option}
use Rattle.std.specs.Prelude.{◌==◌}
use Rattle.std.proofs.lemmas.List.{length-map}
use Rattle.elf_format.specs.Answers.{borrowed}
use Rattle.elf_format.specs.Dynamic.{Entry}
use Rattle.elf_format.specs.Image.{Image}
use Rattle.elf_format.specs.Options.{list_at}
use Rattle.elf_layout_plan.specs.Needs.{written_entries}
use Rattle.elf_layout_plan.specs.Texts.{is_subsequence, texts_of_entries}
use Rattle.elf_write_strings.proofs.MadeStrings.{none_left}
use Rattle.elf_write_strings.proofs.left.has_list_left.Goals as goal

pub returns : goal.returns
returns c =
    let read : Image = c.args.read.now in
    let image : Image = c.args.image.now in
    let ts : List (List ℕ) = map borrowed c.in_ok-texts.texts.items in
    let long : length ts ≡ length c.in_ok-texts.texts.items = length-map c.in_ok-texts.texts.items borrowed in
    let written : ts ≡ list_at texts_of_entries (written_entries read image) =
    subst (λ (r : Image). ts ≡ list_at texts_of_entries (written_entries r image)) (sym c.requires.at_read) c.in_ok-texts.ensures in
    c.is_empty.ensures ∙ ap (λ (n : ℕ). n == 0) (c.in_ok-texts.texts.ok.0 ∙ sym long) ∙ none_left ts
    ∙ ap (λ (l : List (List ℕ)). is_subsequence l []) written
    ∙ ap (λ (o : Option (List Entry)). is_subsequence (list_at texts_of_entries (written_entries read image)) (list_at texts_of_entries o)) c.in-None.ensures
