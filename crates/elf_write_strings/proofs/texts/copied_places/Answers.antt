-- The places among the entries that were read, of which there are none without a list.
use Rattle.std.proofs.Common.{◌≡◌, ◌<◌, ℕ, List, length, map, ap, sym, subst, ◌∙◌, Option, Some, [], get_or, arith}
use Rattle.std.specs.Prelude.{IfOk, unwrap_or}
use Rattle.std.specs.List.{slice_get}
use Rattle.std.proofs.lemmas.List.{length-map}
use Rattle.patch_bytes.specs.Memory.{◌>>=◌}
use Rattle.elf_format.specs.Answers.{borrowed}
use Rattle.elf_format.specs.declared.records.EntryNumbers.{EntryNumbers}
use Rattle.elf_format.specs.Dynamic.{Entry}
use Rattle.elf_format.specs.Image.{Image, ImageSection}
use Rattle.elf_format.specs.Options.{list_at}
use Rattle.elf_image.specs.ImageModel.{entry_model, section_model}
use Rattle.elf_write_strings.specs.PlacedTexts.{content_at, numbers_in, places_among}
use Rattle.elf_write_strings.proofs.TextsPlaced.{content_of, ended}
use Rattle.elf_write_strings.proofs.texts.copied_places.Goals as goal

pub returns-in_default : goal.returns-in_default
returns-in_default c =
    let ts : List (List ℕ) = map borrowed c.args.texts.now in
    let xs : List EntryNumbers = numbers_in c.args.read.now (content_at c.args.image.now c.args.list) in
    c.new.ensures.items ∙ sym (ended ts xs) ∙ ap (λ (o : Option (List Entry)). places_among ts (list_at (λ es. es) o) xs) c.in_default.ensures

pub returns : goal.returns
returns c =
    let ts : List (List ℕ) = map borrowed c.args.texts.now in
    let long : length (map section_model c.sections.result.now) ≡ length c.sections.result.now = length-map c.sections.result.now section_model in
    let same : length (map section_model c.sections.result.now) ≡ length c.args.image.now.sections = ap length c.sections.ensures in
    let within : c.args.list < length c.sections.result.now = omega (arith, long, same) in
    let read : Image = c.args.read.now in
    let content : content_at c.args.image.now c.args.list ≡ (get_or c.sections.result.now c.args.list c.index-sections-list.result).content.now =
    ap (λ (ss : List ImageSection). unwrap_or (slice_get ss c.args.list >>= λ s. Some s.content) []) (sym c.sections.ensures)
    ∙ content_of c.sections.result.now c.args.list c.index-sections-list.result within in
    let numbers : c.as_slice.result.now ≡ numbers_in read (content_at c.args.image.now c.args.list) =
    c.as_slice.ensures.value ∙ c.in_ok-numbers.ensures ∙ ap (numbers_in read) (sym content) in
    subst (λ (l : List ℕ). IfOk c.places_among.result (λ places. places.items ≡ l))
    (ap (λ (xs : List EntryNumbers). places_among ts (map entry_model c.in-Some.entries.now) xs) numbers
    ∙ ap (λ (o : Option (List Entry)). places_among ts (list_at (λ es. es) o) (numbers_in read (content_at c.args.image.now c.args.list))) c.in-Some.ensures)
    c.places_among.ensures
