-- The map is asked for the symbol's name.
use Rattle.std.proofs.Common.{◌∙◌, List, ap, subst, sym, ℕ}
use Rattle.patch_bytes.specs.ByteString.{StringValue}
use Rattle.elf_image_symbols.specs.EditedList.{IsName}
use Rattle.elf_image_symbols.specs.Loan.{symbols_now}
use Rattle.elf_edits.proofs.SymbolSteps.{named_there, none_renamed, one_renamed}
use Rattle.elf_edits.proofs.symbols.rename.Goals as goal

pub rename-requires-clause-nul : goal.rename-requires-clause-nul
rename-requires-clause-nul c =
    let entries = c.args.names.now.entries in
    let name : List ℕ = c.name.result.now in
    subst (λ (n : List ℕ). IsName n) (sym (ap (λ (x : StringValue). x.bytes) c.owned.ensures ∙ c.in_ok-name-in-Some.ensures.items))
    (c.requires.names name c.in-Some.name.now.now (named_there entries name c.in-Some.name.now c.in-Some.ensures.value))

pub returns-in-None : goal.returns-in-None
returns-in-None c =
    none_renamed c.args.names.now.entries c.name.result.now c.args.edited.now (symbols_now c.lend.result) c.args.i c.lend.ensures.symbols c.name.ensures c.in-None.ensures.value

pub returns-in_ok-name-in-Some : goal.returns-in_ok-name-in-Some
returns-in_ok-name-in-Some c =
    one_renamed c.args.names.now.entries c.name.result.now c.args.edited.now c.rename.new.self (symbols_now c.lend.result) c.args.i c.in-Some.name.now c.owned.result.bytes c.lend.ensures.symbols c.name.ensures c.in-Some.ensures.value
    (ap (λ (x : StringValue). x.bytes) c.owned.ensures ∙ c.in_ok-name-in-Some.ensures.items) c.rename.ensures
