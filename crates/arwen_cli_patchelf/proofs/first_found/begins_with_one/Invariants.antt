use Rattle.std.proofs.Common.{◌≡◌, drop, map, nat_eq, string_bytes}
use Rattle.std.specs.List.{list_any, starts_with}
use Rattle.arwen_cli_patchelf.proofs.first_found.begins_with_one.Given as goal

-- none so far does
abbrev pub invariant-loop-prefix : goal.invariant-loop-prefix
invariant-loop-prefix l = list_any (λ p. starts_with nat_eq l.directory p) (map string_bytes l.prefixes) ≡ list_any (λ p. starts_with nat_eq l.directory p) (map string_bytes (drop l.prefix-index l.prefixes))
