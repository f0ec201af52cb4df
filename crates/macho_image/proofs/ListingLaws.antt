-- One step of the loop over an area's commands: what was made and what is left still give all.
use Rattle.std.proofs.Common.{◌≡◌, ℕ, suc, ◌+◌, ◌-◌, ◌<◌, List, [], ◌∷◌, ◌++◌, length, take, drop, Option, Some, None, sym, ap, ◌∙◌, append_assoc, arith}
use Rattle.std.specs.List.{flat_map}
use Rattle.std.proofs.lemmas.List.{length-drop, length-take-le, take_rest}
use Rattle.patch_bytes.specs.declared.number.ByteOrder2.{ByteOrder2}
use Rattle.macho_image.specs.declared.command.CommandVariant.{CommandVariant}
use Rattle.macho_image.specs.declared.command.LoadCommand.{LoadCommand}
use Rattle.macho_image.specs.declared.format.MachFault.{MachFault}
use Rattle.macho_image.specs.Checks.{area_fault, command_fault, first_there}
use Rattle.macho_image.specs.Command.{cmdsize_of, contents_of, variant_of}
use Rattle.macho_image.specs.Commands.{cut_commands, least, located_commands}
use Rattle.macho_image.proofs.CommandLaws.{command_passes}
use Rattle.macho_image.proofs.ContentLaws.{least-append}

-- a command that fails is the first one that fails
pub fails_first : (order : ByteOrder2) (count i : ℕ) (rest : List ℕ) (all : Option MachFault) (fault : MachFault) → i < count → area_fault order (count - i) rest ≡ all → command_fault order rest ≡ Some fault → all ≡ Some fault
fails_first order count i rest all fault within before fails =
    let left : count - i ≡ suc (count - (i + 1)) = omega arith in
    let later = area_fault order (count - (i + 1)) (drop (cmdsize_of order rest) rest) in
    let step = rw left at before in
    sym step ∙ ap (λ o. first_there o later) fails

-- the command that was read has the size that it says, and what is left lies behind it
pub length_command : (order : ByteOrder2) (rest command : List ℕ) → command_fault order rest ≡ None → command ≡ take (cmdsize_of order rest) rest → length command ≡ cmdsize_of order rest
length_command order rest command pass is = ap length is ∙ length-take-le (cmdsize_of order rest) rest (command_passes order rest pass).1

pub rest_behind : (order : ByteOrder2) (rest command : List ℕ) → command_fault order rest ≡ None → command ≡ take (cmdsize_of order rest) rest → take (length rest - length command) (drop (length command) rest) ≡ drop (cmdsize_of order rest) rest
rest_behind order rest command pass is = take_rest rest (length command) ∙ ap (λ k. drop k rest) (length_command order rest command pass is)

pub place_more : (order : ByteOrder2) (offset end : ℕ) (rest command : List ℕ) → command_fault order rest ≡ None → command ≡ take (cmdsize_of order rest) rest → offset + length rest ≡ end → offset + length command + length (take (length rest - length command) (drop (length command) rest)) ≡ end
place_more order offset end rest command pass is before =
    let size = length_command order rest command pass is in
    let room = (command_passes order rest pass).1 in
    rw (take_rest rest (length command), length-drop) (omega arith)

pub checked_more : (order : ByteOrder2) (count i : ℕ) (rest command : List ℕ) (all : Option MachFault) → i < count → command_fault order rest ≡ None → command ≡ take (cmdsize_of order rest) rest → area_fault order (count - i) rest ≡ all → area_fault order (count - (i + 1)) (take (length rest - length command) (drop (length command) rest)) ≡ all
checked_more order count i rest command all within pass is before =
    let left : count - i ≡ suc (count - (i + 1)) = omega arith in
    let later = area_fault order (count - (i + 1)) (drop (cmdsize_of order rest) rest) in
    let step = rw left at before in
    ap (area_fault order (count - (i + 1))) (rest_behind order rest command pass is) ∙ sym (ap (λ o. first_there o later) pass) ∙ step

-- the commands that are left, with the next of them apart
cut_more : (order : ByteOrder2) (count i : ℕ) (rest command : List ℕ) → i < count → command_fault order rest ≡ None → command ≡ take (cmdsize_of order rest) rest → cut_commands order (count - i) rest ≡ command ∷ cut_commands order (count - (i + 1)) (take (length rest - length command) (drop (length command) rest))
cut_more order count i rest command within pass is =
    let left : count - i ≡ suc (count - (i + 1)) = omega arith in
    rw left (ap (λ c. c ∷ cut_commands order (count - (i + 1)) (drop (cmdsize_of order rest) rest)) (sym is) ∙ ap (λ r. command ∷ cut_commands order (count - (i + 1)) r) (sym (rest_behind order rest command pass is)))

pub listed_more : (order : ByteOrder2) (count i offset : ℕ) (rest command : List ℕ) (variant : CommandVariant) (made next all : List LoadCommand) → i < count → command_fault order rest ≡ None → command ≡ take (cmdsize_of order rest) rest → variant ≡ variant_of order command → next ≡ made ++ record { offset = offset; command = variant } ∷ [] → made ++ located_commands order offset (cut_commands order (count - i) rest) ≡ all → next ++ located_commands order (offset + length command) (cut_commands order (count - (i + 1)) (take (length rest - length command) (drop (length command) rest))) ≡ all
listed_more order count i offset rest command variant made next all within pass is kind push before =
    let behind = located_commands order (offset + length command) (cut_commands order (count - (i + 1)) (take (length rest - length command) (drop (length command) rest))) in
    let step = ap (λ cs. made ++ located_commands order offset cs) (sym (cut_more order count i rest command within pass is)) in
    let same = ap (λ v. made ++ record { offset = offset; command = v } ∷ behind) kind in
    ap (λ xs. xs ++ behind) push ∙ append_assoc made _ behind ∙ same ∙ step ∙ before

pub lowered_more : (order : ByteOrder2) (count i : ℕ) (rest command : List ℕ) (found next all : ℕ) → i < count → command_fault order rest ≡ None → command ≡ take (cmdsize_of order rest) rest → next ≡ least found (contents_of order command) → least found (flat_map (contents_of order) (cut_commands order (count - i) rest)) ≡ all → least next (flat_map (contents_of order) (cut_commands order (count - (i + 1)) (take (length rest - length command) (drop (length command) rest)))) ≡ all
lowered_more order count i rest command found next all within pass is lower before =
    let behind = flat_map (contents_of order) (cut_commands order (count - (i + 1)) (take (length rest - length command) (drop (length command) rest))) in
    let step = ap (λ cs. least found (flat_map (contents_of order) cs)) (sym (cut_more order count i rest command within pass is)) in
    ap (λ n. least n behind) lower ∙ sym (least-append found (contents_of order command) behind) ∙ step ∙ before
