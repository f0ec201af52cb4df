-- The names are those that were read, and stand in that table now as at read.
use Rattle.std.proofs.Common.{◌≡◌, ℕ, Bool, true, false, Option, refl, sym, ap, subst, ◌∙◌}
use Rattle.std.specs.Prelude.{◌==◌, IsTrue, not}
use mathlib.Core.Bool.{beq}
use Rattle.elf_format.specs.declared.constants.TheConstants.{SHT_DYNSYM}
use Rattle.elf_format.specs.Image.{Image}
use Rattle.elf_format.specs.Options.{is_some_and}
use Rattle.elf_layout_sizes.specs.Inner.{Edit, is_linked}
use Rattle.elf_layout_sizes.specs.OtherTexts.{HasDynamicNamesOf}
use Rattle.elf_layout_sizes.proofs.OtherSteps.{dynamic_names}
use Rattle.elf_layout_sizes.proofs.users.Users.keeps_dynamic_names.Goals as goal

not_back : (b : Bool) → IsTrue (not b) → b ≡ false
not_back true kept = sym kept
not_back false kept = refl

also : (b : Bool) → not (beq true b) ≡ false → b ≡ true
also true same = refl
also false same = sym same

pub returns-else-not-is_linked : goal.returns-else-not-is_linked
returns-else-not-is_linked c kept =
    let linked : Option ℕ → Bool = λ o. is_some_and (λ n. n == c.args.number) o in
    let read : Image = c.self.inside.read.now in
    let image : Image = c.self.inside.image.now in
    let now : is_linked image SHT_DYNSYM c.args.number ≡ true =
    ap linked (sym c.self.invariant.links.dynamic_symbols) ∙ sym c.is_numbered-is_linked.ensures ∙ c.if-not-is_linked.false in
    let same : c.read_users.inside.image.now ≡ read =
    ap (λ (e : Edit). e.image) (c.read_users.view_is ∙ c.requires) ∙ ap (λ (e : Edit). e.read) (sym c.self.view_is) in
    let before : is_linked read SHT_DYNSYM c.args.number ≡ true =
    ap (λ (m : Image). is_linked m SHT_DYNSYM c.args.number) (sym same)
    ∙ ap linked (sym c.read_users.invariant.links.dynamic_symbols)
    ∙ sym c.is_numbered.ensures
    ∙ also c.is_numbered.result (subst (λ (b : Bool). not (beq b c.is_numbered.result) ≡ false) c.if-not-is_linked.false c.if-is_linked-is_numbered.false) in
    subst (λ (e : Edit). HasDynamicNamesOf e.read e.image c.args.number) c.self.view_is
    (dynamic_names read image c.args.number now before (sym c.self.invariant.names ∙ not_back c.self.inside.are_names_changed kept))
