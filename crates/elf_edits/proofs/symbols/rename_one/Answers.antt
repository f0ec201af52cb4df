-- The name is compared with that of the symbol.
use Rattle.std.proofs.Common.{◌∙◌, List, ap, subst, sym, ℕ}
use Rattle.patch_bytes.specs.ByteString.{StringValue}
use Rattle.elf_image_symbols.specs.EditedList.{IsName}
use Rattle.elf_image_symbols.specs.Loan.{symbols_now}
use Rattle.elf_edits.proofs.SymbolSteps.{no_one_renamed, the_one_renamed}
use Rattle.elf_edits.proofs.symbols.rename_one.Goals as goal

pub rename-requires-clause-nul : goal.rename-requires-clause-nul
rename-requires-clause-nul c =
    subst (λ (n : List ℕ). IsName n) (sym (ap (λ (x : StringValue). x.bytes) c.owned.ensures ∙ c.in_ok-name.ensures.items)) c.requires.name

pub returns-then-not-is_named : goal.returns-then-not-is_named
returns-then-not-is_named c =
    no_one_renamed c.args.old.now c.args.new.now c.args.edited.now (symbols_now c.lend.result) c.args.i c.is_named.result c.lend.ensures.symbols c.is_named.ensures
    c.if-not-is_named.true

pub returns : goal.returns
returns c =
    the_one_renamed c.args.old.now c.args.new.now c.args.edited.now c.rename.new.self (symbols_now c.lend.result) c.args.i c.is_named.result c.owned.result.bytes c.lend.ensures.symbols c.is_named.ensures
    c.if-not-is_named.false (ap (λ (x : StringValue). x.bytes) c.owned.ensures ∙ c.in_ok-name.ensures.items) c.rename.ensures
