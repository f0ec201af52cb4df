-- An area without a fault, cut into its commands.
use Rattle.std.proofs.Common.{◌≡◌, ℕ, zero, suc, ◌+◌, ◌<◌, ◌≤◌, List, [], ◌∷◌, ◌++◌, length, take, drop, get_or, All, Option, Some, None, refl, sym, ap, ◌∙◌, arith}
use Rattle.std.specs.List.{concat}
use Rattle.std.proofs.lemmas.List.{drop-drop, drop_at, length-append, take-append-drop, take_at}
use Rattle.std.proofs.lemmas.List.Elements.{All-cons, All-nil}
use Rattle.patch_bytes.specs.declared.number.ByteOrder2.{ByteOrder2}
use Rattle.macho_image.specs.declared.command.LoadCommand.{LoadCommand}
use Rattle.macho_image.specs.declared.format.MachFault.{MachFault}
use Rattle.macho_image.specs.Checks.{area_fault, command_fault, first_there}
use Rattle.macho_image.specs.Command.{IsCommand, cmdsize_of, variant_of}
use Rattle.macho_image.specs.Commands.{cut_commands, located_commands}
use Rattle.macho_image.proofs.CommandLaws.{is_command}

-- two checks that are passed
pub both_pass : (first next : Option MachFault) → first_there first next ≡ None → (first ≡ None) × (next ≡ None)
both_pass (Some fault) next pass = cc
both_pass None next pass = (refl, pass)

-- as many commands are cut as were asked for
pub length-cut : (order : ByteOrder2) (n : ℕ) (area : List ℕ) → length (cut_commands order n area) ≡ n
length-cut order zero area = refl
length-cut order (suc n) area = ap suc (length-cut order n (drop (cmdsize_of order area) area))

-- the commands that are cut fill the area
pub concat-cut : (order : ByteOrder2) (n : ℕ) (area : List ℕ) → area_fault order n area ≡ None → concat (cut_commands order n area) ≡ area
concat-cut order zero [] pass = refl
concat-cut order zero (b ∷ rest) pass = cc
concat-cut order (suc n) area pass =
    let k = cmdsize_of order area in
    let later = both_pass (command_fault order area) (area_fault order n (drop k area)) pass in
    ap (λ xs. take k area ++ xs) (concat-cut order n (drop k area) later.1) ∙ take-append-drop k area

-- each part that is cut is a command
pub cut_are_commands : (order : ByteOrder2) (n : ℕ) (area : List ℕ) → area_fault order n area ≡ None → All (IsCommand order) (cut_commands order n area)
cut_are_commands order zero area pass = All-nil (IsCommand order)
cut_are_commands order (suc n) area pass =
    let k = cmdsize_of order area in
    let later = both_pass (command_fault order area) (area_fault order n (drop k area)) pass in
    All-cons (IsCommand order) (take k area) (cut_commands order n (drop k area)) (is_command order area later.0) (cut_are_commands order n (drop k area) later.1)

-- a piece stands behind the pieces before it
pub piece_end : (cs : List (List ℕ)) (i : ℕ) → i < length cs → length (concat (take i cs)) + length (get_or cs i []) ≤ length (concat cs)
piece_end [] i within = absurd (omega arith)
piece_end (c ∷ cs) zero within = omega (arith, length-append c (concat cs))
piece_end (c ∷ cs) (suc i) within =
    let before : i < length cs = omega arith in
    let later = piece_end cs i before in
    omega (arith, length-append c (concat cs), length-append c (concat (take i cs)), later)

pub piece_is : (cs : List (List ℕ)) (i : ℕ) → i < length cs → take (length (get_or cs i [])) (drop (length (concat (take i cs))) (concat cs)) ≡ get_or cs i []
piece_is [] i within = absurd (omega arith)
piece_is (c ∷ cs) zero within = take_at c (concat cs) (length c) refl
piece_is (c ∷ cs) (suc i) within =
    let before : i < length cs = omega arith in
    let later = piece_is cs i before in
    let n = length (concat (take i cs)) in
    let moved : drop (length (c ++ concat (take i cs))) (c ++ concat cs) ≡ drop n (concat cs) =
    ap (λ k. drop k (c ++ concat cs)) (length-append c (concat (take i cs))) ∙ sym (drop-drop n (length c) (c ++ concat cs)) ∙ ap (drop n) (drop_at c (concat cs) (length c) refl) in
    rw moved later

-- the commands with their fields
pub length-located : (order : ByteOrder2) (at : ℕ) (cs : List (List ℕ)) → length (located_commands order at cs) ≡ length cs
length-located order at [] = refl
length-located order at (c ∷ cs) = ap suc (length-located order (at + length c) cs)

pub get_or-located : (order : ByteOrder2) (at : ℕ) (cs : List (List ℕ)) (i : ℕ) (d : LoadCommand) → i < length cs → get_or (located_commands order at cs) i d ≡ record { offset = at + length (concat (take i cs)); command = variant_of order (get_or cs i []) }
get_or-located order at [] i d within = absurd (omega arith)
get_or-located order at (c ∷ cs) zero d within = let e : at + 0 ≡ at = omega arith in rw e refl
get_or-located order at (c ∷ cs) (suc i) d within =
    let before : i < length cs = omega arith in
    let e : at + length c + length (concat (take i cs)) ≡ at + length (c ++ concat (take i cs)) = omega (arith, length-append c (concat (take i cs))) in
    get_or-located order (at + length c) cs i d before ∙ ap (λ n. record { offset = n; command = variant_of order (get_or cs i []) }) e
