-- Commands that stand end to end are an area that no check refuses, and are cut where they were joined.
use Rattle.std.proofs.Common.{◌≡◌, ◌≤◌, ℕ, ◌+◌, Bool, true, false, ◌||◌, ◌&&◌, ltb, List, [], ◌∷◌, ◌++◌, length, take, drop, Option, Some, None, All, IsTrue, if◌then◌else◌, refl, ◌∙◌, arith}
use Rattle.std.proofs.lemmas.Bool.{le-ltb, or_from}
use Rattle.std.proofs.lemmas.List.{drop_at, length-append, take_at}
use Rattle.std.proofs.lemmas.List.Elements.{All-head, All-tail}
use Rattle.std.specs.List.{concat}
use Rattle.patch_bytes.specs.declared.number.ByteOrder2.{ByteOrder2}
use Rattle.patch_bytes.proofs.NumberLaws.{number_at-append_left}
use Rattle.macho_image.specs.declared.format.MachFault.{MachFault}
use Rattle.macho_image.specs.declared.format.MachFault.TheVariants.{BadCommandSize, BadNameOffset}
use Rattle.macho_image.specs.Checks.{area_fault, command_fault, fields_fault}
use Rattle.macho_image.specs.Command.{IsCommand, cmd_of, cmdsize_of, is_text_kind, least_size, text_offset}
use Rattle.macho_image.specs.Commands.{cut_commands}

-- a check that passes, before checks that pass
pub passes_check : (test : Bool) (fault : MachFault) (next : Option MachFault) → test ≡ false → next ≡ None → (if test then Some fault else next) ≡ None
passes_check true fault next t e = cc
passes_check false fault next t e = e

-- a text of a kind that holds one begins in the command
text_passes : (kind : Bool) (n offset : ℕ) → (IsTrue kind → offset ≤ n) → (kind && ltb n offset) ≡ false
text_passes true n offset h = le-ltb n offset (h refl)
text_passes false n offset h = refl

-- no check of a command fails
fields_fault-none : (order : ByteOrder2) (c : List ℕ) → IsCommand order c → fields_fault order c ≡ None
unfolding fields_fault
fields_fault-none order c is =
    passes_check (ltb (length c) (least_size order c)) BadCommandSize (if is_text_kind (cmd_of order c) && ltb (length c) (text_offset order c) then Some BadNameOffset else None)
    (le-ltb (length c) (least_size order c) is.has_fixed_part)
    (passes_check (is_text_kind (cmd_of order c) && ltb (length c) (text_offset order c)) BadNameOffset None
    (text_passes (is_text_kind (cmd_of order c)) (length c) (text_offset order c) is.has_text) refl)

-- a command at the head of bytes says its size there
pub cmdsize_of-append : (order : ByteOrder2) (c rest : List ℕ) → IsCommand order c → cmdsize_of order (c ++ rest) ≡ length c
cmdsize_of-append order c rest is = number_at-append_left order 4 4 c rest is.header ∙ is.says_size

-- a command at the head of bytes passes its checks there
pub command_fault-none : (order : ByteOrder2) (c rest : List ℕ) → IsCommand order c → command_fault order (c ++ rest) ≡ None
unfolding command_fault
command_fault-none order c rest is =
    let size : cmdsize_of order (c ++ rest) ≡ length c = cmdsize_of-append order c rest is in
    let long : length (c ++ rest) ≡ length c + length rest = length-append c rest in
    let own : take (length c) (c ++ rest) ≡ c = take_at c rest (length c) refl in
    let head : 8 ≤ length c = is.header in
    let fields : fields_fault order (take (cmdsize_of order (c ++ rest)) (c ++ rest)) ≡ None = rw (size, own) (fields_fault-none order c is) in
    passes_check (ltb (length (c ++ rest)) 8) BadCommandSize _
    (le-ltb (length (c ++ rest)) 8 (omega arith))
    (passes_check (ltb (cmdsize_of order (c ++ rest)) 8 || ltb (length (c ++ rest)) (cmdsize_of order (c ++ rest))) BadCommandSize _
    (or_from (ltb (cmdsize_of order (c ++ rest)) 8) (ltb (length (c ++ rest)) (cmdsize_of order (c ++ rest)))
    (le-ltb (cmdsize_of order (c ++ rest)) 8 (omega arith))
    (le-ltb (length (c ++ rest)) (cmdsize_of order (c ++ rest)) (omega arith))) fields)

-- commands end to end are an area that no check refuses
pub area_fault-concat : (order : ByteOrder2) (cs : List (List ℕ)) → All (IsCommand order) cs → area_fault order (length cs) (concat cs) ≡ None
area_fault-concat order [] all = refl
area_fault-concat order (c ∷ cs) all =
    let is : IsCommand order c = All-head (IsCommand order) c cs all in
    let size : cmdsize_of order (c ++ concat cs) ≡ length c = cmdsize_of-append order c (concat cs) is in
    let passes : command_fault order (c ++ concat cs) ≡ None = command_fault-none order c (concat cs) is in
    let left : drop (length c) (c ++ concat cs) ≡ concat cs = drop_at c (concat cs) (length c) refl in
    rw (passes, size, left) (area_fault-concat order cs (All-tail (IsCommand order) c cs all))

-- commands end to end are cut where they were joined
pub cut-concat : (order : ByteOrder2) (cs : List (List ℕ)) → All (IsCommand order) cs → cut_commands order (length cs) (concat cs) ≡ cs
cut-concat order [] all = refl
cut-concat order (c ∷ cs) all =
    let is : IsCommand order c = All-head (IsCommand order) c cs all in
    let size : cmdsize_of order (c ++ concat cs) ≡ length c = cmdsize_of-append order c (concat cs) is in
    let own : take (length c) (c ++ concat cs) ≡ c = take_at c (concat cs) (length c) refl in
    let left : drop (length c) (c ++ concat cs) ≡ concat cs = drop_at c (concat cs) (length c) refl in
    let rest : cut_commands order (length cs) (concat cs) ≡ cs = cut-concat order cs (All-tail (IsCommand order) c cs all) in
    rw (size, own, left, rest) refl
