-- The table is told anew, and holds the texts, or it is copied, with their places.
use Rattle.std.proofs.Common.{◌≡◌, ◌<◌, List, ℕ, length, map, sym, ap, subst, Some, None, arith}
use Rattle.std.specs.Prelude.{IfOk}
use Rattle.std.proofs.lemmas.List.{length-map}
use Rattle.elf_format.specs.Answers.{borrowed}
use Rattle.elf_format.specs.Options.{list_at}
use Rattle.elf_image.specs.ImageModel.{section_model}
use Rattle.elf_write_strings.specs.PlacedTexts.{TextsStand, content_at, link_at, numbers_in, places_among}
use Rattle.elf_write_strings.specs.WrittenStrings.{made_of, strings_at}
use Rattle.elf_write_strings.proofs.TextsPlaced.{if_copied, link_lent, list_within, made_holds}
use Rattle.elf_write_strings.proofs.VersionsShown.{strings_made}
use Rattle.elf_write_strings.proofs.Results.{if_ok}
use Rattle.elf_write_strings.proofs.texts.text_places.Goals as goal

within : (a b c d : ℕ) → a < b → c ≡ b → d ≡ c → a < d
within a b c d less same long = omega (arith, less, same, long)

pub bounds-sections-list : goal.bounds-sections-list
bounds-sections-list c =
    within c.args.list (length c.args.image.now.sections) (length (map section_model c.sections.result.now)) (length c.sections.result.now)
    (list_within c.args.read.now c.args.image.now c.requires.ready c.args.list c.requires.list) (ap length c.sections.ensures)
    (sym (length-map c.sections.result.now section_model))

pub made_places-requires : goal.made_places-requires
made_places-requires c =
    let same = link_lent c.args.image.now c.args.list c.sections.result.now c.index-sections-list.result c.sections.ensures
    (within c.args.list (length c.args.image.now.sections) (length (map section_model c.sections.result.now)) (length c.sections.result.now)
    (list_within c.args.read.now c.args.image.now c.requires.ready c.args.list c.requires.list) (ap length c.sections.ensures)
    (sym (length-map c.sections.result.now section_model))) in
    made_holds c.args.read.now c.args.image.now c.requires.ready c.args.list c.requires.list c.args.made.now c.in-Some.made.now
    (subst (λ (n : ℕ). made_of c.args.made.now n ≡ Some c.in-Some.made.now) same c.in-Some.ensures.some)
    c.requires.strings c.args.texts.now c.requires.texts

pub returns-in-Some : goal.returns-in-Some
returns-in-Some c =
    let same = link_lent c.args.image.now c.args.list c.sections.result.now c.index-sections-list.result c.sections.ensures
    (within c.args.list (length c.args.image.now.sections) (length (map section_model c.sections.result.now)) (length c.sections.result.now)
    (list_within c.args.read.now c.args.image.now c.requires.ready c.args.list c.requires.list) (ap length c.sections.ensures)
    (sym (length-map c.sections.result.now section_model))) in
    subst (λ (xs : List ℕ). IfOk c.made_places.result (λ places. TextsStand xs (map borrowed c.args.texts.now) places.items))
    (strings_made c.args.image.now c.args.made.now (link_at c.args.image.now c.args.list) c.in-Some.made.now
    (subst (λ (n : ℕ). made_of c.args.made.now n ≡ Some c.in-Some.made.now) same c.in-Some.ensures.some)) c.made_places.ensures

pub returns-in-None : goal.returns-in-None
returns-in-None c =
    let same = link_lent c.args.image.now c.args.list c.sections.result.now c.index-sections-list.result c.sections.ensures
    (within c.args.list (length c.args.image.now.sections) (length (map section_model c.sections.result.now)) (length c.sections.result.now)
    (list_within c.args.read.now c.args.image.now c.requires.ready c.args.list c.requires.list) (ap length c.sections.ensures)
    (sym (length-map c.sections.result.now section_model))) in
    let ts : List (List ℕ) = map borrowed c.args.texts.now in
    let found : List ℕ = places_among ts (list_at (λ es. es) c.args.read.now.entries) (numbers_in c.args.read.now (content_at c.args.image.now c.args.list)) in
    let strings : List ℕ = strings_at c.args.image.now c.args.made.now (link_at c.args.image.now c.args.list) in
    if_ok c.copied_places.result (λ places. places.items ≡ found) (λ places. TextsStand strings ts places.items)
    (λ places own. subst (λ (ps : List ℕ). TextsStand strings ts ps) (sym own)
    (if_copied c.args.read.now c.args.image.now c.requires.ready c.args.list c.requires.list c.args.made.now
    (subst (λ (n : ℕ). made_of c.args.made.now n ≡ None) same c.in-None.ensures.none)
    c.requires.strings ts c.requires.texts)) c.copied_places.ensures
