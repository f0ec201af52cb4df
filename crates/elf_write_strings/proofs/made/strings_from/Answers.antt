-- A table that was made anew for the number of the dynamic strings.
use Rattle.std.proofs.Common.{◌≡◌, ◌++◌, ◌∷◌, ℕ, List, [], false, sym, ap, subst, refl, ◌∙◌, Option, Some, None, inl}
use Rattle.std.specs.Prelude.{IfSome}
use Rattle.std.proofs.lemmas.Option.{same_Some}
use Rattle.elf_format.specs.Image.{Image}
use Rattle.elf_image.specs.Kept.{dynamic_strings_number}
use Rattle.elf_layout_sizes.specs.MadeTables.{IsMade, IsMadeOfDynamic}
use Rattle.elf_tables.specs.Strings.{Strings}
use Rattle.elf_write_strings.specs.declared.made.Made.{Made}
use Rattle.elf_write_strings.specs.MadeSteps.{AreTold}
use Rattle.elf_write_strings.specs.WrittenStrings.{made_of}
use Rattle.elf_write_strings.proofs.MadeStrings.{anew_told, not_none, one_table}
use Rattle.elf_write_strings.proofs.made.strings_from.Goals as goal

pub add_names-requires-clause-told : goal.add_names-requires-clause-told
add_names-requires-clause-told c =
    let read : Image = c.args.read.now in
    let image : Image = c.args.image.now in
    let m : Made = record { number = c.in-Some-strings_number.number; table = c.in-Some.table; is_copied = false } in
    let items : c.push.new.self.items ≡ m ∷ [] = c.in_ok-push.ensures.items ∙ ap (λ (l : List Made). l ++ m ∷ []) c.new-made.ensures.items in
    let linked : dynamic_strings_number image ≡ Some m.number = sym c.strings_number.ensures ∙ c.in-Some-strings_number.is in
    let of : IsMadeOfDynamic read image m.table = subst (λ (o : Option Strings). IfSome o (IsMadeOfDynamic read image)) c.in-Some.is c.requires.strings in
    let made : IsMade read image m.number m.table =
    subst (λ (n : ℕ). IsMade read image n m.table) (same_Some of.number m.number (sym of.linked ∙ linked)) of.made in
    subst (AreTold read image) (sym items) (one_table read image m (anew_told read image m refl (inl linked) made))

pub add_names-requires-clause-dynamic : goal.add_names-requires-clause-dynamic
add_names-requires-clause-dynamic c number at none =
    let read : Image = c.args.read.now in
    let image : Image = c.args.image.now in
    let m : Made = record { number = c.in-Some-strings_number.number; table = c.in-Some.table; is_copied = false } in
    let items : c.push.new.self.items ≡ [] ++ m ∷ [] = c.in_ok-push.ensures.items ∙ ap (λ (l : List Made). l ++ m ∷ []) c.new-made.ensures.items in
    let linked : dynamic_strings_number image ≡ Some m.number = sym c.strings_number.ensures ∙ c.in-Some-strings_number.is in
    absurd (not_none read image [] m number (same_Some m.number number (sym linked ∙ at))
    (subst (λ (l : List Made). made_of l number ≡ None) items none))
