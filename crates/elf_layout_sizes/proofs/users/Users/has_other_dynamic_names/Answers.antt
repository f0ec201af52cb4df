-- As many symbols are in the table as at read, and not all names are those that were read.
use Rattle.std.proofs.Common.{◌≡◌, ℕ, Bool, true, Option, sym, ap, subst, ◌∙◌}
use Rattle.std.specs.Prelude.{◌==◌, length}
use Rattle.std.proofs.lemmas.Bool.{eqb-true}
use Rattle.elf_format.specs.declared.constants.TheConstants.{SHT_DYNSYM}
use Rattle.elf_format.specs.Image.{Image}
use Rattle.elf_format.specs.Options.{is_some_and}
use Rattle.elf_layout_sizes.specs.Inner.{Edit, is_linked}
use Rattle.elf_layout_sizes.specs.OtherTexts.{HasOtherDynamicNames}
use Rattle.elf_layout_sizes.proofs.OtherSteps.{other_names}
use Rattle.elf_layout_sizes.proofs.users.Users.has_other_dynamic_names.Goals as goal

pub returns-then-self : goal.returns-then-self
returns-then-self c as_many =
    let linked : Option ℕ → Bool = λ o. is_some_and (λ n. n == c.args.number) o in
    let read : Image = c.self.inside.read.now in
    let image : Image = c.self.inside.image.now in
    let now : is_linked image SHT_DYNSYM c.args.number ≡ true =
    ap linked (sym c.self.invariant.links.dynamic_symbols) ∙ sym c.is_numbered.ensures ∙ c.if-not-is_numbered.false in
    let same : c.read_users.inside.image.now ≡ read =
    ap (λ (e : Edit). e.image) (c.read_users.view_is ∙ c.requires) ∙ ap (λ (e : Edit). e.read) (sym c.self.view_is) in
    let before : is_linked read SHT_DYNSYM c.args.number ≡ true =
    ap (λ (m : Image). is_linked m SHT_DYNSYM c.args.number) (sym same)
    ∙ ap linked (sym c.read_users.invariant.links.dynamic_symbols)
    ∙ sym c.is_numbered-2.ensures ∙ c.if-not-is_numbered-2.false in
    let long : length image.dynamic_symbols ≡ length read.dynamic_symbols =
    ap length (sym c.dynamic_symbols.ensures.symbols) ∙ sym c.len.ensures ∙ eqb-true c.len.result c.len-then-self.result as_many
    ∙ c.len-then-self.ensures ∙ ap length c.dynamic_symbols-then-self.ensures.symbols in
    subst (λ (e : Edit). HasOtherDynamicNames e.read e.image c.args.number) c.self.view_is
    (other_names read image c.args.number now before (sym c.self.invariant.names ∙ c.if-self.true) long)
