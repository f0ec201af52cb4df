use Rattle.std.proofs.Common.{◌≡◌, map, take, string_bytes}
use Rattle.arwen_cli_patchelf.proofs.in_memory.texts_copied.Given as goal

-- the texts so far
abbrev pub invariant-loop-text : goal.invariant-loop-text
invariant-loop-text l = map string_bytes l.copies.items ≡ map string_bytes (take l.text-index l.texts)
