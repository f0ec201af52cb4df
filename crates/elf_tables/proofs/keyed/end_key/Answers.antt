-- The last 8 bytes read at once.
use Rattle.std.proofs.Common.{◌≡◌, ◌≤◌, ◌-◌, ℕ, List, length, drop, take, ap, ◌∙◌, arith}
use Rattle.std.proofs.lemmas.List.{length-drop, take_all}
use Rattle.byteorder.specs.Endian.{little_number}
use Rattle.elf_tables.proofs.EndKeyLaws.{end_key-read}
use Rattle.elf_tables.proofs.keyed.end_key.Goals as goal

pub returns : goal.returns
returns c =
    let text : List ℕ = c.args.text.now in
    let long : 8 ≤ length text = omega arith in
    let end : List ℕ = drop (length text - 8) text in
    let whole : take (length text - (length text - 8)) end ≡ end = take_all (length text - (length text - 8)) end (omega (arith, length-drop {A = ℕ})) in
    c.read_u64.ensures ∙ ap (little_number 8) whole ∙ end_key-read text long
