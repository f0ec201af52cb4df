-- The last name is put, and those that are left.
use Rattle.std.proofs.Common.{◌≡◌, ◌+◌, ℕ, List, Option, ap, length, sym, subst, ◌∙◌, ◌++◌, ◌∷◌, [], arith, map}
use Rattle.std.proofs.lemmas.List.{map-append}
use Rattle.patch_bytes.specs.ByteString.{StringValue}
use Rattle.elf_image.specs.ImageModel.{text_model}
use Rattle.std.specs.Prelude.{IfSome}
use Rattle.elf_image_symbols.specs.EditedList.{IsName}
use Rattle.elf_symbol_edits.specs.Steps.{AreNames, with_section_names}
use Rattle.elf_symbol_edits.proofs.RenameSteps.{All-pushed, as_many, name_put, one_less, place_left}
use Rattle.elf_symbol_edits.proofs.sections.put_names.Goals as goal

pub loop-name-preserved : goal.loop-name-preserved
loop-name-preserved c =
    let left : List (Option StringValue) = c.pop.new.self.items in
    let name : Option StringValue = c.in-Some.name in
    let was : c.loop-name.names.items ≡ left ++ name ∷ [] = c.in-Some.ensures.items in
    let texts : map text_model c.loop-name.names.items ≡ map text_model left ++ text_model name ∷ [] = ap (map text_model) was ∙ map-append text_model left (name ∷ []) in
    let index : c.len.result ≡ length left = omega arith in
    let place : c.len.result + 1 ≡ length (map text_model left) + 1 = place_left left c.len.result index in
    let counted : length c.loop-name.names.items ≡ length left + 1 = one_less c.loop-name.names.items left name was in
    record {
      same = name_put (map text_model left) (text_model name) (c.len.result + 1) c.loop-name.image c.put_name.new.image place c.put_name.ensures
          ∙ ap (λ (l : List (Option (List ℕ))). with_section_names l c.loop-name.image) (sym texts)
          ∙ c.loop-name.invariant.same;
      few = omega (arith, as_many (c.len.result + 1) (text_model name) c.loop-name.image c.put_name.new.image c.put_name.ensures, c.loop-name.invariant.few, counted);
      whole = (All-pushed (λ n. IfSome n IsName) (map text_model left) (text_model name) (subst AreNames texts c.loop-name.invariant.whole)).0;
    }
