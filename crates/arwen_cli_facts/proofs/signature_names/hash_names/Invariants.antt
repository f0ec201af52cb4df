use Rattle.std.proofs.Common.{◌≡◌, map, string_bytes, take}
use Rattle.arwen_cli_facts.specs.SignatureNames.{hash_name}
use Rattle.arwen_cli_facts.proofs.signature_names.hash_names.Given as goal

-- the names so far
abbrev pub invariant-loop-hash : goal.invariant-loop-hash
invariant-loop-hash l = map string_bytes l.names.items ≡ map hash_name (take l.hash-index l.hashes)
