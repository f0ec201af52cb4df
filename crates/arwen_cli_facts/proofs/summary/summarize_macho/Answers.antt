-- The facts of the container are those of the bytes that it was read from.
use Rattle.std.proofs.Common.{◌≡◌, ℕ, List, sym, ◌∙◌, subst, ap, arith}
use Rattle.patch_bytes.specs.Bytes.{AreBytes}
use Rattle.arwen_macho.specs.Container.{first_container}
use Rattle.arwen_cli_facts.specs.FileFacts.{AreMachoFacts, FileFacts, container_facts, summary_model}
use Rattle.arwen_cli_facts.proofs.SliceLaws.{facts_at_read}
use Rattle.arwen_cli_facts.proofs.summary.summarize_macho.Goals as goal

pub returns : goal.returns
returns c =
    let bytes : List ℕ = c.args.bytes.now in
    let are : AreBytes bytes = record { each = λ i. omega (arith, c.type_inv.bytes i) } in
    let Facts : FileFacts → Type 0 = AreMachoFacts bytes in
    let told : summary_model c.in_ok-summary_of_read.field-0 ≡ container_facts c.in_ok-file.file = c.in_ok-summary_of_read.ensures in
    let file : c.in_ok-file.file ≡ first_container bytes = c.in_ok-file.ensures.1 in
    subst Facts (sym (told ∙ ap container_facts file)) (facts_at_read bytes are c.in_ok-file.ensures.0)
