-- A text with the number of its end.
use Rattle.std.specs.Prelude.{◌≡◌}
use Rattle.elf_tables.specs.declared.keyed.Keyed.TheInside.{Inside}
use Rattle.patch_bytes.specs.Bytes.{AreBytes}
use Rattle.elf_tables.specs.EndKeys.{end_key}
use Rattle.elf_tables.specs.StringSteps.{Numbered}

-- the text, and how many were added before it
abbrev pub numbered_model : Inside → Numbered
numbered_model k = record { text = k.text.now; nth = k.nth }

-- the number is that of the text's end, and the text is bytes
pub record IsKeyed (k : Inside) : Type 0 where
  pub key : k.key ≡ end_key k.text.now
  pub bytes : AreBytes k.text.now
