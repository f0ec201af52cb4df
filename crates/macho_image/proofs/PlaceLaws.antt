-- Where the load commands of an accepted file stand in its bytes.
use Rattle.std.proofs.Common.{◌≡◌, ℕ, ◌+◌, ◌-◌, ◌<◌, ◌≤◌, ◌==◌, ◌||◌, if◌then◌else◌, Bool, true, false, cond, List, [], length, take, drop, get_or, None, refl, sym, ap, ◌∙◌, subst, arith}
use Rattle.std.specs.List.{concat}
use Rattle.std.proofs.lemmas.List.{drop-drop, drop-take, length-drop, length-take-le, take-take}
use Rattle.std.proofs.lemmas.List.Elements.{All-get_or}
use Rattle.patch_bytes.specs.declared.number.ByteOrder2.{ByteOrder2}
use Rattle.macho_image.specs.declared.command.CommandVariant.{CommandVariant}
use Rattle.macho_image.specs.declared.command.CommandVariant.TheVariants.{Rpath, LoadDylib, LoadUpwardDylib, ReexportDylib, LoadWeakDylib, LazyLoadDylib, IdDylib, Segment, Symtab, Other}
use Rattle.macho_image.specs.declared.command.TheConstants.{LC_SEGMENT, LC_SYMTAB, LC_LOAD_DYLIB, LC_ID_DYLIB, LC_SEGMENT_64, LC_LAZY_LOAD_DYLIB, LC_LOAD_WEAK_DYLIB, LC_RPATH, LC_REEXPORT_DYLIB, LC_LOAD_UPWARD_DYLIB}
use Rattle.macho_image.specs.declared.command.LoadCommand.{LoadCommand}
use Rattle.macho_image.specs.Checks.{file_fault}
use Rattle.macho_image.specs.Command.{IsCommand, cmd_of, cmdsize_of, command_header_of, dylib_of, rpath_of, variant_of, variant_size}
use Rattle.macho_image.specs.Commands.{commands_of, load_commands_of}
use Rattle.macho_image.specs.Form.{area_of, ctx_of, header_size, ncmds_of, sizeofcmds_of}
use Rattle.macho_image.proofs.CutLaws.{concat-cut, cut_are_commands, get_or-located, length-located, piece_end, piece_is}
use Rattle.macho_image.proofs.FormLaws.{file_passes, form_passes}

-- a part of the first m bytes
part_of_front : (m k n : ℕ) (bytes : List ℕ) → k + n ≤ m → take n (drop k (take m bytes)) ≡ take n (drop k bytes)
part_of_front m k n bytes inside =
    let e : k + (m - k) ≡ m = omega arith in
    let P : ℕ → Type 0 = λ j. take n (drop k (take j bytes)) ≡ take n (drop k bytes) in
    subst P e (ap (take n) (drop-take k (m - k) bytes) ∙ take-take n (m - k) (drop k bytes) (omega arith))

-- the commands of an accepted file end to end are the area that its header tells
pub concat-commands_of : (bytes : List ℕ) → file_fault bytes ≡ None → concat (commands_of bytes) ≡ area_of (ctx_of bytes) bytes
unfolding commands_of
concat-commands_of bytes pass =
    let checked = form_passes (ctx_of bytes) bytes (file_passes bytes pass).2 in
    concat-cut (ctx_of bytes).le (ncmds_of (ctx_of bytes) bytes) (area_of (ctx_of bytes) bytes) checked.2

pub length-load_commands_of : (bytes : List ℕ) → length (load_commands_of bytes) ≡ length (commands_of bytes)
unfolding load_commands_of
length-load_commands_of bytes = length-located (ctx_of bytes).le (header_size (ctx_of bytes).container) (commands_of bytes)

pub command_is : (bytes : List ℕ) (i : ℕ) → file_fault bytes ≡ None → i < length (commands_of bytes) → IsCommand (ctx_of bytes).le (get_or (commands_of bytes) i [])
unfolding commands_of
command_is bytes i pass within =
    let order = (ctx_of bytes).le in
    let checked = form_passes (ctx_of bytes) bytes (file_passes bytes pass).2 in
    let each = cut_are_commands order (ncmds_of (ctx_of bytes) bytes) (area_of (ctx_of bytes) bytes) checked.2 in
    All-get_or (IsCommand order) (commands_of bytes) i [] within each

length-area_of : (bytes : List ℕ) → file_fault bytes ≡ None → length (area_of (ctx_of bytes) bytes) ≡ sizeofcmds_of (ctx_of bytes) bytes
length-area_of bytes pass =
    let ctx = ctx_of bytes in
    let checked = form_passes ctx bytes (file_passes bytes pass).2 in
    length-take-le (sizeofcmds_of ctx bytes) (drop (header_size ctx.container) bytes) (omega (arith, length-drop (header_size ctx.container) bytes, checked.1))

-- where the command at an index begins
pub command_start : List ℕ → ℕ → ℕ
command_start bytes i = header_size (ctx_of bytes).container + length (concat (take i (commands_of bytes)))

pub command_inside : (bytes : List ℕ) (i : ℕ) → file_fault bytes ≡ None → i < length (commands_of bytes) → command_start bytes i + length (get_or (commands_of bytes) i []) ≤ length bytes
unfolding command_start
command_inside bytes i pass within =
    let end = piece_end (commands_of bytes) i within in
    let all = ap length (concat-commands_of bytes pass) ∙ length-area_of bytes pass in
    let checked = form_passes (ctx_of bytes) bytes (file_passes bytes pass).2 in
    omega (arith, checked.1)

pub command_stands : (bytes : List ℕ) (i : ℕ) → file_fault bytes ≡ None → i < length (commands_of bytes) → take (length (get_or (commands_of bytes) i [])) (drop (command_start bytes i) bytes) ≡ get_or (commands_of bytes) i []
unfolding command_start
command_stands bytes i pass within =
    let ctx = ctx_of bytes in
    let cs = commands_of bytes in
    let n = length (get_or cs i []) in
    let k = length (concat (take i cs)) in
    let behind = drop (header_size ctx.container) bytes in
    let end = piece_end cs i within in
    let all = ap length (concat-commands_of bytes pass) ∙ length-area_of bytes pass in
    let inside : k + n ≤ sizeofcmds_of ctx bytes = omega arith in
    ap (take n) (sym (drop-drop k (header_size ctx.container) bytes))
    ∙ sym (part_of_front (sizeofcmds_of ctx bytes) k n behind inside)
    ∙ ap (λ xs. take n (drop k xs)) (sym (concat-commands_of bytes pass))
    ∙ piece_is cs i within

pub get_or-load_commands_of : (bytes : List ℕ) (i : ℕ) (d : LoadCommand) → i < length (commands_of bytes) → get_or (load_commands_of bytes) i d ≡ record { offset = command_start bytes i; command = variant_of (ctx_of bytes).le (get_or (commands_of bytes) i []) }
unfolding load_commands_of command_start
get_or-load_commands_of bytes i d within = get_or-located (ctx_of bytes).le (header_size (ctx_of bytes).container) (commands_of bytes) i d within

either : (size : ℕ) (b : Bool) (x y : CommandVariant) → variant_size x ≡ size → variant_size y ≡ size → variant_size (cond b x y) ≡ size
either size true x y first second = first
either size false x y first second = second

-- a variant holds the size that the command says
pub variant_size-variant_of : (order : ByteOrder2) (c : List ℕ) → variant_size (variant_of order c) ≡ cmdsize_of order c
unfolding variant_of
variant_size-variant_of order c =
    let cmd = cmd_of order c in
    let size = cmdsize_of order c in
    let header = command_header_of order c in
    let dylib = dylib_of order c in
    let symtab = if cmd == LC_SYMTAB then Symtab header else Other header in
    let segment = if cmd == LC_SEGMENT || cmd == LC_SEGMENT_64 then Segment header else symtab in
    let id = if cmd == LC_ID_DYLIB then IdDylib dylib else segment in
    let lazy = if cmd == LC_LAZY_LOAD_DYLIB then LazyLoadDylib dylib else id in
    let weak = if cmd == LC_LOAD_WEAK_DYLIB then LoadWeakDylib dylib else lazy in
    let reexport = if cmd == LC_REEXPORT_DYLIB then ReexportDylib dylib else weak in
    let upward = if cmd == LC_LOAD_UPWARD_DYLIB then LoadUpwardDylib dylib else reexport in
    let load = if cmd == LC_LOAD_DYLIB then LoadDylib dylib else upward in
    either size (cmd == LC_RPATH) (Rpath (rpath_of order c)) load refl
    (either size (cmd == LC_LOAD_DYLIB) (LoadDylib dylib) upward refl
    (either size (cmd == LC_LOAD_UPWARD_DYLIB) (LoadUpwardDylib dylib) reexport refl
    (either size (cmd == LC_REEXPORT_DYLIB) (ReexportDylib dylib) weak refl
    (either size (cmd == LC_LOAD_WEAK_DYLIB) (LoadWeakDylib dylib) lazy refl
    (either size (cmd == LC_LAZY_LOAD_DYLIB) (LazyLoadDylib dylib) id refl
    (either size (cmd == LC_ID_DYLIB) (IdDylib dylib) segment refl
    (either size (cmd == LC_SEGMENT || cmd == LC_SEGMENT_64) (Segment header) symtab refl
    (either size (cmd == LC_SYMTAB) (Symtab header) (Other header) refl refl))))))))

-- the command at an index stands at this offset with this size
pub record StandsAt (bytes : List ℕ) (i offset size : ℕ) : Type 0 where
  pub inside : offset + size ≤ length bytes
  pub stands : take size (drop offset bytes) ≡ get_or (commands_of bytes) i []

-- the command whose fields were kept stands at its offset with its size
pub found_stands : (bytes : List ℕ) (items : List LoadCommand) (i : ℕ) (found : LoadCommand) (size : ℕ) → file_fault bytes ≡ None → items ≡ load_commands_of bytes → i < length (commands_of bytes) → found ≡ get_or items i found → size ≡ variant_size found.command → StandsAt bytes i found.offset size
found_stands bytes items i found size pass kept within read sized =
    let order = (ctx_of bytes).le in
    let c = get_or (commands_of bytes) i [] in
    let is : found ≡ record { offset = command_start bytes i; command = variant_of order c } = read ∙ ap (λ xs. get_or xs i found) kept ∙ get_or-load_commands_of bytes i found within in
    let at : found.offset ≡ command_start bytes i = ap (λ f. f.offset) is in
    let long : size ≡ length c = sized ∙ ap (λ f. variant_size f.command) is ∙ variant_size-variant_of order c ∙ (command_is bytes i pass within).says_size in
    let inside = command_inside bytes i pass within in
    record {
      inside = omega arith;
      stands = ap (λ n. take n (drop found.offset bytes)) long ∙ ap (λ k. take (length c) (drop k bytes)) at ∙ command_stands bytes i pass within;
    }
