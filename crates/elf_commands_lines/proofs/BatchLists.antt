-- The edits of a list that a batch takes.
use Rattle.std.proofs.Common.{◌≡◌, ◌++◌, ◌∷◌, [], List, ap, refl}
use Rattle.elf_commands_lines.specs.Groups.{GroupEdit, plain, plain_of, symbols}

-- the edits for a batch of a list and one edit more
pub plain_of_more : (edits : List GroupEdit) (edit : GroupEdit) → plain_of (edits ++ edit ∷ []) ≡ plain_of edits ++ plain_of (edit ∷ [])
plain_of_more [] edit = refl
plain_of_more (plain one ∷ edits) edit = ap (λ l. one ∷ l) (plain_of_more edits edit)
plain_of_more (symbols one ∷ edits) edit = plain_of_more edits edit
