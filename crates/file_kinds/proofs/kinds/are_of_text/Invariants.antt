use Rattle.std.proofs.Common.{◌≡◌, drop}
use Rattle.std.specs.List.{list_all}
use Rattle.file_kinds.specs.Kinds.{is_text_byte}
use Rattle.file_kinds.proofs.kinds.are_of_text.Given as goal

-- the bytes so far are a text's
abbrev pub invariant-loop-byte : goal.invariant-loop-byte
invariant-loop-byte l = list_all is_text_byte (drop l.byte-index l.bytes) ≡ list_all is_text_byte l.bytes
