-- The text at the front of bytes.
use Rattle.std.specs.Prelude.{ℕ, List, length, unwrap_or}
use Rattle.elf_format.specs.Memory.{memory_of, text_at}

-- the bytes up to the first NUL, or all of them where there is none
unfoldable pub front_text : List ℕ → List ℕ
front_text bytes = unwrap_or (text_at (length bytes) (memory_of bytes) 0) bytes
