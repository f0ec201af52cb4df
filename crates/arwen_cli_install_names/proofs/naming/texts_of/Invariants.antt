use Rattle.std.proofs.Common.{◌≡◌, map, string_bytes, take}
use Rattle.std.specs.Str.Lossy.{utf8_lossy}
use Rattle.arwen_cli_install_names.proofs.naming.texts_of.Given as goal

-- the texts so far
abbrev pub invariant-loop-bytes : goal.invariant-loop-bytes
invariant-loop-bytes l = map string_bytes l.texts.items ≡ map utf8_lossy (map (λ bytes. bytes.now) (take l.bytes-index l.list))
