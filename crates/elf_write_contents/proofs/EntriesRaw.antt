-- The numbers of the entries of the dynamic list.
use Rattle.std.proofs.Common.{◌≡◌, ℕ, ◌+◌, List, [], ◌∷◌, refl, sym, ap, ◌∙◌, subst, Option, Some, None, arith}
use Rattle.std.specs.Prelude.{unwrap_or}
use Rattle.std.specs.Option.{option_map}
use Rattle.std.proofs.lemmas.Option.{none-some, same_Some}
use Rattle.patch_bytes.specs.Memory.{◌>>=◌}
use Rattle.elf_format.specs.declared.constants.TheConstants.{SHT_DYNAMIC}
use Rattle.elf_format.specs.declared.records.EntryNumbers.{EntryNumbers}
use Rattle.elf_format.specs.Dynamic.{Auto, Entry, Integer, Text}
use Rattle.elf_format.specs.Image.{Image, ImageSection}
use Rattle.elf_format.specs.Options.{list_at}
use Rattle.elf_image.specs.Edited.{IsEdited}
use Rattle.elf_image.specs.Lookups.{type_position}
use Rattle.elf_image.specs.Kept.{KeptSection, image_at_read, link_of_type}
use Rattle.elf_layout_plan.specs.Staying.{Staying, staying_entries}
use Rattle.elf_layout_plan.specs.WrittenNeeds.{AreWritten}
use Rattle.elf_layout_plan.specs.Memory.{Resized}
use Rattle.elf_layout_plan.specs.Needs.{written_entries}
use Rattle.elf_layout_plan.specs.Plan.{Plan, resized}
use Rattle.elf_layout_plan.specs.Texts.{texts_of_entries}
use Rattle.elf_write_spec.specs.Contents.{AreEntriesOf, table_value}
use Rattle.elf_write_spec.specs.Final.{final}
use Rattle.elf_write_symbol_tables.specs.Made.{Made}
use Rattle.elf_write_contents.specs.EntrySteps.{numbers_with}
use Rattle.elf_write_symbol_tables.specs.PlacedTexts.{TextsStand, link_at}
use Rattle.elf_write_symbol_tables.specs.WrittenStrings.{strings_at}
use Rattle.elf_write_spec.specs.Ready.{IsEditedReady}
use Rattle.elf_write_contents.specs.Inner.{AreRaw}
use Rattle.elf_write_symbol_tables.proofs.ForCallers.LinksAt.{Link, NoLink}
use Rattle.elf_write_symbol_tables.proofs.ForCallers.LinksAt as links
use Rattle.elf_write_spec.proofs.ForCallers.WholeEdits.{entries_written}

-- one entry for each, where each text stands at its place
pub are_entries : (r : Resized) (plan : Plan) (strings : List ℕ) (es : List Entry) (places : List ℕ)
    → TextsStand strings (texts_of_entries es) places
    → AreEntriesOf r plan strings es (numbers_with (λ tag. table_value r plan tag) places es)
are_entries r plan strings [] places stand = tt
are_entries r plan strings (Auto tag ∷ es) places stand = (record { tag = refl; value = refl }, are_entries r plan strings es places stand)
are_entries r plan strings (Integer tag number ∷ es) places stand =
    (record { tag = refl; value = refl }, are_entries r plan strings es places stand)
are_entries r plan strings (Text tag text ∷ es) [] stand = absurd stand
are_entries r plan strings (Text tag text ∷ es) (p ∷ ps) stand =
    (record { tag = refl; value = stand.0 }, are_entries r plan strings es ps stand.1)

-- without a dynamic section there are none
pub none_raw : (image : Image) (plan : Plan) (made : List Made) → IsEdited image → type_position image SHT_DYNAMIC ≡ None
    → (raw : List EntryNumbers) → raw ≡ [] → AreRaw (resized image) plan made raw
none_raw image plan made is nowhere raw none = record {
  no_list = λ _. none;
  listed = λ s there. elim (links.link_at image SHT_DYNAMIC is) [
    | NoLink _ not ↦ absurd (none-some s (sym not ∙ there))
    | Link j k position _ _ ↦ absurd (none-some (0 + j) (sym nowhere ∙ position))
  ];
}

-- the table to which the dynamic section at a position links
linked_now : (image : Image) → IsEdited image → (list : ℕ) → type_position image SHT_DYNAMIC ≡ Some list
    → link_of_type SHT_DYNAMIC image ≡ Some (link_at image list)
linked_now image is list at = elim (links.link_at image SHT_DYNAMIC is) [
  | NoLink none _ ↦ absurd (none-some list (sym none ∙ at))
  | Link i k there k_at found ↦
      let own : i ≡ list = omega (arith, same_Some (0 + i) list (sym there ∙ at)) in
      ap (λ (o : Option KeptSection). o >>= λ s. Some s.section.sh_link) found
      ∙ ap (λ (o : Option ImageSection). Some (unwrap_or (o >>= λ s. Some s.sh_link) 0)) (sym k_at)
      ∙ ap (λ (n : ℕ). Some (link_at image n)) own
]

-- the entries of an image with a dynamic section
pub are_raw : (read image : Image) (plan : Plan) (made : List Made) → IsEditedReady read image → (list : ℕ)
    → type_position image SHT_DYNAMIC ≡ Some list → (raw : List EntryNumbers)
    → AreEntriesOf (resized image) plan (strings_at image made (link_at image list)) (list_at (λ es. es) (written_entries read image)) raw
    → AreRaw (resized image) plan made raw
are_raw read image plan made is list at raw are =
    let linked : link_of_type SHT_DYNAMIC image ≡ Some (link_at image list) = linked_now image is.edited list at in
    let entries : (final (image_at_read image) image).entries ≡ written_entries read image =
    ap (λ (r : Image). (final r image).entries) (sym is.at_read) ∙ entries_written read image in
    record {
      no_list = λ not. absurd (none-some (link_at image list)
          (sym (ap (λ (o : Option KeptSection). o >>= λ s. Some s.section.sh_link) not) ∙ linked));
      listed = λ s there.
          let own : s.section.sh_link ≡ link_at image list = same_Some s.section.sh_link (link_at image list)
          (sym (ap (λ (o : Option KeptSection). o >>= λ k. Some k.section.sh_link) there) ∙ linked) in
          subst (λ (o : Option (List Entry)). AreEntriesOf (resized image) plan (strings_at image made s.section.sh_link) (list_at (λ es. es) o) raw)
          (sym entries)
          (subst (λ (n : ℕ). AreEntriesOf (resized image) plan (strings_at image made n) (list_at (λ es. es) (written_entries read image)) raw)
          (sym own) are);
    }

-- the entries that were made by the places of their texts
pub made_raw : (read image : Image) (plan : Plan) (made : List Made) (s : Staying) → IsEditedReady read image → AreWritten read image s
    → (list : ℕ) → type_position image SHT_DYNAMIC ≡ Some list → (es : List Entry) → Some es ≡ image.entries
    → (texts : List (List ℕ)) (places : List ℕ) → texts ≡ list_at texts_of_entries (written_entries read image)
    → TextsStand (strings_at image made (link_at image list)) texts places → (raw : List EntryNumbers)
    → raw ≡ numbers_with (λ tag. table_value (resized image) plan tag) places (staying_entries s.are_gone es)
    → AreRaw (resized image) plan made raw
made_raw read image plan made s is stays list at es there texts places own stand raw raw_is =
    let strings : List ℕ = strings_at image made (link_at image list) in
    let left : List Entry = staying_entries s.are_gone es in
    let written : Some left ≡ written_entries read image = ap (option_map (staying_entries s.are_gone)) there ∙ stays.entries in
    let texts_left : texts ≡ texts_of_entries left = own ∙ ap (list_at texts_of_entries) (sym written) in
    are_raw read image plan made is list at raw
    (subst (λ (o : Option (List Entry)). AreEntriesOf (resized image) plan strings (list_at (λ es. es) o) raw) written
    (subst (λ (xs : List EntryNumbers). AreEntriesOf (resized image) plan strings left xs) (sym raw_is)
    (are_entries (resized image) plan strings left places (subst (λ (ts : List (List ℕ)). TextsStand strings ts places) texts_left stand))))

-- an image with a dynamic section and no list has none
pub none_listed : (read image : Image) (plan : Plan) (made : List Made) (s : Staying) → IsEditedReady read image → AreWritten read image s
    → (list : ℕ) → type_position image SHT_DYNAMIC ≡ Some list → None ≡ image.entries → (raw : List EntryNumbers) → raw ≡ []
    → AreRaw (resized image) plan made raw
none_listed read image plan made s is stays list at none raw raw_none =
    let strings : List ℕ = strings_at image made (link_at image list) in
    let written : None ≡ written_entries read image = ap (option_map (staying_entries s.are_gone)) none ∙ stays.entries in
    are_raw read image plan made is list at raw
    (subst (λ (o : Option (List Entry)). AreEntriesOf (resized image) plan strings (list_at (λ es. es) o) raw) written
    (subst (λ (xs : List EntryNumbers). AreEntriesOf (resized image) plan strings [] xs) (sym raw_none) tt))
