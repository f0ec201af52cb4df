use Rattle.arwen_cli_facts.specs.SignatureFacts.{contents_model}
use Rattle.arwen_cli_facts.proofs.SignatureLaws.{facts_of_held}
use Rattle.arwen_cli_facts.proofs.signature.summary_of.Goals as goal

pub returns-in_ok-contents-in-Some : goal.returns-in_ok-contents-in-Some
returns-in_ok-contents-in-Some c =
    facts_of_held c.args.bytes.now c.args.signature.now c.in-Some.signature (contents_model c.in_ok-contents-in-Some.contents) c.in-Some.is c.requires c.in_ok-contents-in-Some.ensures
