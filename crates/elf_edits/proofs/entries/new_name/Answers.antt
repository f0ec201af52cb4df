-- The map is asked for the name.
use Rattle.std.proofs.Common.{◌∙◌, Bor, List, ap, sym, ℕ}
use Rattle.std.specs.Map.{lookup}
use Rattle.std.specs.Str.{bytes_eq}
use Rattle.std.proofs.lemmas.Result.{IfOk-weaker}
use Rattle.patch_bytes.specs.ByteString.{StringValue}
use Rattle.elf_edits.proofs.LookupSteps.{name_changes, name_stays}
use Rattle.elf_edits.proofs.entries.new_name.Goals as goal

pub returns-in-None : goal.returns-in-None
returns-in-None c =
    let name = c.args.name.now.bytes in
    let e = c.in-None.ensures.value ∙ ap (λ text. lookup (λ (k : Bor (List ℕ)). bytes_eq text k.now) c.args.names.now.entries) c.as_slice.ensures in
    IfOk-weaker c.try_clone.result _ _ (λ made h. ap (λ (x : StringValue). x.bytes) h ∙ sym (name_stays c.args.names.now.entries name e)) c.try_clone.ensures

pub returns-in_ok-from_slice-in-Some : goal.returns-in_ok-from_slice-in-Some
returns-in_ok-from_slice-in-Some c =
    let name = c.args.name.now.bytes in
    let e = c.in-Some.ensures.value ∙ ap (λ text. lookup (λ (k : Bor (List ℕ)). bytes_eq text k.now) c.args.names.now.entries) c.as_slice.ensures in
    ap (λ (x : StringValue). x.bytes) c.owned.ensures ∙ c.in_ok-from_slice-in-Some.ensures.items ∙ sym (name_changes c.args.names.now.entries name c.in-Some.other.now e)
