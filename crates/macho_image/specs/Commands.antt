-- The load commands of a file, as a list of byte strings, and what they show together.
use Rattle.std.specs.Prelude.{ℕ, ◌+◌, ◌==◌, ◌≡◌, ◌≤◌, ◌<◌, ◌⊎◌, zero, suc, min, All, List, [], ◌∷◌, length, slice_index, take, drop, map, filter, Option, Some, None}
use Rattle.std.specs.List.{flat_map}
use Rattle.macho_image.specs.declared.format.Ctx.{Ctx}
use Rattle.patch_bytes.specs.declared.number.ByteOrder2.{ByteOrder2}
use Rattle.macho_image.specs.declared.command.LoadCommand.{LoadCommand}
use Rattle.macho_image.specs.declared.command.TheConstants.{LC_ID_DYLIB, LC_RPATH}
use Rattle.macho_image.specs.Command.{cmd_of, cmdsize_of, contents_of, is_load_kind, text_of, variant_of}
use Rattle.macho_image.specs.Form.{area_of, ctx_of, header_size, ncmds_of}

-- the first n commands of an area, each as long as it says itself
abbrev pub cut_commands : ByteOrder2 → ℕ → List ℕ → List (List ℕ)
cut_commands order zero area = []
cut_commands order (suc n) area = take (cmdsize_of order area) area ∷ cut_commands order n (drop (cmdsize_of order area) area)

-- the commands that a file of this form says that it has
abbrev pub listed_commands : Ctx → List ℕ → List (List ℕ)
listed_commands ctx bytes = cut_commands ctx.le (ncmds_of ctx bytes) (area_of ctx bytes)

-- the load commands of a file: ncmds of them, from the header's end on
unfoldable pub commands_of : List ℕ → List (List ℕ)
commands_of bytes = listed_commands (ctx_of bytes) bytes

-- the commands with their fields, the first of them at this offset
abbrev pub located_commands : ByteOrder2 → ℕ → List (List ℕ) → List LoadCommand
located_commands order at [] = []
located_commands order at (c ∷ cs) = record { offset = at; command = variant_of order c } ∷ located_commands order (at + length c) cs

-- the load commands of a file with their fields
unfoldable pub load_commands_of : List ℕ → List LoadCommand
load_commands_of bytes = located_commands (ctx_of bytes).le (header_size (ctx_of bytes).container) (commands_of bytes)

-- the rpath commands, those that load a library, and those that hold the library's own name
abbrev pub rpath_commands : ByteOrder2 → List (List ℕ) → List (List ℕ)
rpath_commands order cs = filter (λ c. cmd_of order c == LC_RPATH) cs

abbrev pub load_dylib_commands : ByteOrder2 → List (List ℕ) → List (List ℕ)
load_dylib_commands order cs = filter (λ c. is_load_kind (cmd_of order c)) cs

abbrev pub id_commands : ByteOrder2 → List (List ℕ) → List (List ℕ)
id_commands order cs = filter (λ c. cmd_of order c == LC_ID_DYLIB) cs

-- the first of a list
abbrev pub first_of : {X : Type 0} → List X → Option X
first_of [] = None
first_of (x ∷ xs) = Some x

-- the run paths, the libraries that are loaded, and the library's own name, as a file's commands
-- give them in their order
unfoldable pub rpaths_of : List ℕ → List (List ℕ)
rpaths_of bytes = map (text_of (ctx_of bytes).le) (rpath_commands (ctx_of bytes).le (commands_of bytes))

unfoldable pub libs_of : List ℕ → List (List ℕ)
libs_of bytes = map (text_of (ctx_of bytes).le) (load_dylib_commands (ctx_of bytes).le (commands_of bytes))

unfoldable pub id_of : List ℕ → Option (List ℕ)
id_of bytes = first_of (map (text_of (ctx_of bytes).le) (id_commands (ctx_of bytes).le (commands_of bytes)))

-- the least of a number and those of a list
abbrev pub least : ℕ → List ℕ → ℕ
least n [] = n
least n (x ∷ xs) = least (min n x) xs

-- the least of a bound and of all offsets of content that commands name
abbrev pub least_content : ByteOrder2 → ℕ → List (List ℕ) → ℕ
least_content order bound commands = least bound (flat_map (contents_of order) commands)

-- where content begins at the earliest: the least of the length and of all offsets of content that
-- the commands name
unfoldable pub first_content_of : List ℕ → ℕ
first_content_of bytes = least_content (ctx_of bytes).le (length bytes) (commands_of bytes)

-- all offsets of content that a file's commands name
abbrev pub named_contents : List ℕ → List ℕ
named_contents bytes = flat_map (contents_of (ctx_of bytes).le) (commands_of bytes)

-- a number that stands in a list
pub record IsOneOf (n : ℕ) (xs : List ℕ) : Type 0 where
  pub index : ℕ
  pub within : index < length xs
  pub is : slice_index xs index ≡ n

-- the least of a number and those of a list: at most each of them, and one of them
pub record IsLeastOf (n bound : ℕ) (xs : List ℕ) : Type 0 where
  pub most : n ≤ bound
  pub each : All (λ x. n ≤ x) xs
  pub one : (n ≡ bound) ⊎ IsOneOf n xs
