-- Built commands and small files under edits, byte by byte.
use Rattle.std.specs.Prelude.{ℕ, ◌≡◌, ◌+◌, List, [], ◌∷◌, ◌++◌, length, replicate, codes, None, Result, Ok, Err, IsOkAnd}
use Rattle.std.specs.Result.{result_unwrap_or}
use Rattle.patch_bytes.specs.declared.number.ByteOrder2.TheVariants.{Little, Big}
use Rattle.patch_bytes.specs.declared.number.Wide.TheVariants.{W32, W64}
use Rattle.macho_image.specs.declared.command.DylibCommand.{DylibCommand}
use Rattle.macho_image.specs.declared.command.TheConstants.{LC_ID_DYLIB, LC_LOAD_DYLIB, LC_LOAD_WEAK_DYLIB}
use Rattle.macho_image.specs.declared.format.Ctx.{Ctx}
use Rattle.macho_image.specs.Checks.{file_fault}
use Rattle.macho_image.specs.Commands.{first_content_of, rpaths_of}
use Rattle.macho_image.specs.Form.{ctx_of, form}
use Rattle.macho_edits.specs.declared.batch.MachoBatchError.{MachoBatchError}
use Rattle.macho_edits.specs.declared.error.MachoError.TheVariants.{NoRoom}
use Rattle.macho_edits.specs.Built.{built_dylib, built_rpath, dylib_built, rpath_built}
use Rattle.macho_edits.specs.Call.{Call, Cause}
use Rattle.macho_edits.specs.Call.Call.{add_rpath, change_install_id, change_install_name, change_rpath, remove_rpath}
use Rattle.macho_edits.specs.Call.Cause.{name_missing, no_room, nul_inside, rpath_missing}
use Rattle.arwen_macho.specs.Container.{AnswersAll, container_bytes, first_container, left_by_all}
use Rattle.macho_edits.specs.Edited.{edited_list}
use Rattle.macho_edits.specs.State.{State, first_state, laid_bytes, step}

-- the four forms of a header
abbrev pub narrow_little : Ctx
narrow_little = form W32 Little

abbrev pub narrow_big : Ctx
narrow_big = form W32 Big

abbrev pub wide_little : Ctx
wide_little = form W64 Little

abbrev pub wide_big : Ctx
wide_big = form W64 Big

-- `/usr/local/lib`, and short names
abbrev pub LOCAL : List ℕ
LOCAL = codes "/usr/local/lib"

abbrev pub PATH_A : List ℕ
PATH_A = codes "/a"

abbrev pub PATH_B : List ℕ
PATH_B = codes "/b"

abbrev pub ABSENT : List ℕ
ABSENT = codes "/zz"

abbrev pub NAME : List ℕ
NAME = codes "libx.dylib"

-- a text with a NUL at place 1
abbrev pub BROKEN : List ℕ
BROKEN = 0x61 ∷ 0 ∷ 0x62 ∷ []

-- so many bytes of one value
abbrev pub zeros : ℕ → List ℕ
zeros n = replicate n 0

-- the rpath command of `/usr/local/lib` in each form
abbrev pub LOCAL_WIDE_LITTLE : List ℕ
LOCAL_WIDE_LITTLE = (0x1c ∷ 0 ∷ 0 ∷ 0x80 ∷ 0x20 ∷ 0 ∷ 0 ∷ 0 ∷ 0x0c ∷ 0 ∷ 0 ∷ 0 ∷ []) ++ LOCAL ++ zeros 6

abbrev pub LOCAL_WIDE_BIG : List ℕ
LOCAL_WIDE_BIG = (0x80 ∷ 0 ∷ 0 ∷ 0x1c ∷ 0 ∷ 0 ∷ 0 ∷ 0x20 ∷ 0 ∷ 0 ∷ 0 ∷ 0x0c ∷ []) ++ LOCAL ++ zeros 6

abbrev pub LOCAL_NARROW_LITTLE : List ℕ
LOCAL_NARROW_LITTLE = (0x1c ∷ 0 ∷ 0 ∷ 0x80 ∷ 0x1c ∷ 0 ∷ 0 ∷ 0 ∷ 0x0c ∷ 0 ∷ 0 ∷ 0 ∷ []) ++ LOCAL ++ zeros 2

abbrev pub LOCAL_NARROW_BIG : List ℕ
LOCAL_NARROW_BIG = (0x80 ∷ 0 ∷ 0 ∷ 0x1c ∷ 0 ∷ 0 ∷ 0 ∷ 0x1c ∷ 0 ∷ 0 ∷ 0 ∷ 0x0c ∷ []) ++ LOCAL ++ zeros 2

-- the rpath command of `/a`, and that of the empty text
abbrev pub A_WIDE_LITTLE : List ℕ
A_WIDE_LITTLE = (0x1c ∷ 0 ∷ 0 ∷ 0x80 ∷ 0x10 ∷ 0 ∷ 0 ∷ 0 ∷ 0x0c ∷ 0 ∷ 0 ∷ 0 ∷ []) ++ PATH_A ++ zeros 2

abbrev pub EMPTY_LITTLE : List ℕ
EMPTY_LITTLE = (0x1c ∷ 0 ∷ 0 ∷ 0x80 ∷ 0x10 ∷ 0 ∷ 0 ∷ 0 ∷ 0x0c ∷ 0 ∷ 0 ∷ 0 ∷ []) ++ zeros 4

-- a library with these numbers
abbrev pub LIBRARY : DylibCommand
LIBRARY = record { cmd = LC_LOAD_DYLIB; cmdsize = 0; dylib = record { name = 0; timestamp = 2; current_version = 0x00010203; compatibility_version = 0x00010000 } }

-- LIBRARY loaded weakly, and as the library's own name
abbrev pub WEAK : DylibCommand
WEAK = record LIBRARY { cmd = LC_LOAD_WEAK_DYLIB }

abbrev pub OWN : DylibCommand
OWN = record LIBRARY { cmd = LC_ID_DYLIB }

-- the library's command in two forms
abbrev pub NAME_WIDE_LITTLE : List ℕ
NAME_WIDE_LITTLE =
    (0x0c ∷ 0 ∷ 0 ∷ 0 ∷ 0x28 ∷ 0 ∷ 0 ∷ 0 ∷ 0x18 ∷ 0 ∷ 0 ∷ 0 ∷ 2 ∷ 0 ∷ 0 ∷ 0 ∷ 3 ∷ 2 ∷ 1 ∷ 0 ∷ 0 ∷ 0 ∷ 1 ∷ 0 ∷ []) ++ NAME ++ zeros 6

abbrev pub NAME_NARROW_BIG : List ℕ
NAME_NARROW_BIG =
    (0 ∷ 0 ∷ 0 ∷ 0x0c ∷ 0 ∷ 0 ∷ 0 ∷ 0x24 ∷ 0 ∷ 0 ∷ 0 ∷ 0x18 ∷ 0 ∷ 0 ∷ 0 ∷ 2 ∷ 0 ∷ 1 ∷ 2 ∷ 3 ∷ 0 ∷ 1 ∷ 0 ∷ 0 ∷ []) ++ NAME ++ zeros 2

-- built commands
abbrev pub BuildsWideLittle : Type 0
BuildsWideLittle = (rpath_built wide_little LOCAL ≡ Ok LOCAL_WIDE_LITTLE) × (length LOCAL_WIDE_LITTLE ≡ 32)

abbrev pub BuildsWideBig : Type 0
BuildsWideBig = (rpath_built wide_big LOCAL ≡ Ok LOCAL_WIDE_BIG) × (length LOCAL_WIDE_BIG ≡ 32)

abbrev pub BuildsNarrowLittle : Type 0
BuildsNarrowLittle = (rpath_built narrow_little LOCAL ≡ Ok LOCAL_NARROW_LITTLE) × (length LOCAL_NARROW_LITTLE ≡ 28)

abbrev pub BuildsNarrowBig : Type 0
BuildsNarrowBig = (rpath_built narrow_big LOCAL ≡ Ok LOCAL_NARROW_BIG) × (length LOCAL_NARROW_BIG ≡ 28)

abbrev pub BuildsEmpty : Type 0
BuildsEmpty = (rpath_built wide_little [] ≡ Ok EMPTY_LITTLE) × (length EMPTY_LITTLE ≡ 16)

abbrev pub BuildsEmptyNarrow : Type 0
BuildsEmptyNarrow = rpath_built narrow_little [] ≡ Ok EMPTY_LITTLE

-- a text of four bytes needs four more for its NUL
abbrev pub BuildsFour : Type 0
BuildsFour =
    rpath_built narrow_little (codes "/abc") ≡ Ok ((0x1c ∷ 0 ∷ 0 ∷ 0x80 ∷ 0x14 ∷ 0 ∷ 0 ∷ 0 ∷ 0x0c ∷ 0 ∷ 0 ∷ 0 ∷ []) ++ codes "/abc" ++ zeros 4)

abbrev pub BuildsName : Type 0
BuildsName = (dylib_built wide_little NAME LIBRARY ≡ Ok NAME_WIDE_LITTLE) × (length NAME_WIDE_LITTLE ≡ 40)

abbrev pub BuildsNameNarrow : Type 0
BuildsNameNarrow = (dylib_built narrow_big NAME LIBRARY ≡ Ok NAME_NARROW_BIG) × (length NAME_NARROW_BIG ≡ 36)

-- a file with no load commands and these bytes behind the header, of 64 bits, little
abbrev pub empty_file : List ℕ → List ℕ
empty_file rest = (0xcf ∷ 0xfa ∷ 0xed ∷ 0xfe ∷ zeros 28) ++ rest

-- a file of 64 bits, little, with these bytes as the header's two counts, and these behind the header
abbrev pub file_with : List ℕ → List ℕ → List ℕ
file_with counts rest = (0xcf ∷ 0xfa ∷ 0xed ∷ 0xfe ∷ zeros 12) ++ counts ++ zeros 8 ++ rest

-- a file that is accepted, of this form
abbrev pub IsAccepted : Ctx → List ℕ → Type 0
IsAccepted ctx bytes = (file_fault bytes ≡ None) × (ctx_of bytes ≡ ctx)

abbrev pub AcceptsWideLittle : Type 0
AcceptsWideLittle = IsAccepted wide_little (empty_file (zeros 32))

-- the state after a batch, or as it was where that is refused
abbrev pub after_batch : List Call → State → State
after_batch calls s = result_unwrap_or (step calls s) s

-- the file that is read, and what one addition makes of it
abbrev pub READ : State
READ = first_state (empty_file (zeros 32))

abbrev pub ADDED : State
ADDED = after_batch (add_rpath LOCAL ∷ []) READ

-- where the step is accepted, these are the bytes
abbrev pub StepsTo : List Call → State → List ℕ → Type 0
StepsTo calls s bytes = IsOkAnd (step calls s) (λ next. laid_bytes next ≡ bytes)

-- where the step is refused, why
abbrev pub StepRefused : List Call → State → ℕ → Cause → Type 0
StepRefused calls s index cause = step calls s ≡ Err (record { index = index; cause = cause })

abbrev pub AddsFirst : Type 0
AddsFirst = StepsTo (add_rpath LOCAL ∷ []) READ (file_with (1 ∷ 0 ∷ 0 ∷ 0 ∷ 0x20 ∷ 0 ∷ 0 ∷ 0 ∷ []) LOCAL_WIDE_LITTLE)

-- what the bytes after the step show to whoever reads them
abbrev pub ShowsFirst : Type 0
ShowsFirst = IsAccepted wide_little (laid_bytes ADDED) × (rpaths_of (laid_bytes ADDED) ≡ LOCAL ∷ [])

abbrev pub AddsNoSecond : Type 0
AddsNoSecond = StepRefused (add_rpath LOCAL ∷ []) ADDED 1 (no_room 96 64)

-- an accepted batch, and one that is refused for want of room behind so many edits
abbrev pub ACCEPTED : Result (Unit {0}) MachoBatchError
ACCEPTED = Ok tt

abbrev pub refused_for_room : ℕ → ℕ → ℕ → Result (Unit {0}) MachoBatchError
refused_for_room index needed available = Err (record { index = index; fault = NoRoom needed available })

-- batch after batch on a file: they are answered so, and leave these bytes
abbrev pub BatchesLeave : List ℕ → List (List Call) → List (Result (Unit {0}) MachoBatchError) → List ℕ → Type 0
BatchesLeave old batches answers bytes =
    AnswersAll batches answers (first_container old)
    × (container_bytes (left_by_all batches answers (first_container old)) ≡ bytes)

-- a refused batch leaves the file as it was
abbrev pub KeepsRefused : Type 0
KeepsRefused =
    BatchesLeave (empty_file (zeros 32)) ((add_rpath LOCAL ∷ []) ∷ (add_rpath LOCAL ∷ []) ∷ []) (ACCEPTED ∷ refused_for_room 1 96 64 ∷ [])
    (file_with (1 ∷ 0 ∷ 0 ∷ 0 ∷ 0x20 ∷ 0 ∷ 0 ∷ 0 ∷ []) LOCAL_WIDE_LITTLE)

-- a batch whose first edit alone has no room
abbrev pub AddsThenRemoves : Type 0
AddsThenRemoves = StepsTo (add_rpath PATH_A ∷ remove_rpath LOCAL ∷ []) ADDED (file_with (1 ∷ 0 ∷ 0 ∷ 0 ∷ 0x10 ∷ 0 ∷ 0 ∷ 0 ∷ []) (A_WIDE_LITTLE ++ zeros 16))

abbrev pub AddsNoThird : Type 0
AddsNoThird = StepRefused (add_rpath PATH_A ∷ []) ADDED 1 (no_room 80 64)

-- a pad that isn't zero
abbrev pub FULL : State
FULL = first_state (empty_file (replicate 32 0xaa))

abbrev pub KeepsPad : Type 0
KeepsPad = StepsTo (add_rpath PATH_A ∷ remove_rpath PATH_A ∷ []) FULL (empty_file (replicate 32 0xaa))

abbrev pub ClearsPad : Type 0
ClearsPad =
    BatchesLeave (empty_file (replicate 32 0xaa)) ((add_rpath PATH_A ∷ []) ∷ (remove_rpath PATH_A ∷ []) ∷ []) (ACCEPTED ∷ ACCEPTED ∷ [])
    (empty_file (zeros 16 ++ replicate 16 0xaa))

-- the number of the refused edit
abbrev pub RefusesSecond : Type 0
RefusesSecond = StepRefused (add_rpath PATH_A ∷ remove_rpath ABSENT ∷ []) READ 1 (rpath_missing ABSENT)

-- what is read of such a file in the other three forms: 64 bits, big, and 32 bits, little and big
abbrev pub READ_WIDE_BIG : State
READ_WIDE_BIG = first_state ((0xfe ∷ 0xed ∷ 0xfa ∷ 0xcf ∷ zeros 28) ++ zeros 32)

abbrev pub AcceptsWideBig : Type 0
AcceptsWideBig = IsAccepted wide_big READ_WIDE_BIG.old

abbrev pub AddsWideBig : Type 0
AddsWideBig = StepsTo (add_rpath LOCAL ∷ []) READ_WIDE_BIG ((0xfe ∷ 0xed ∷ 0xfa ∷ 0xcf ∷ zeros 12) ++ (0 ∷ 0 ∷ 0 ∷ 1 ∷ 0 ∷ 0 ∷ 0 ∷ 0x20 ∷ zeros 8) ++ LOCAL_WIDE_BIG)

abbrev pub AddsNoSecondWideBig : Type 0
AddsNoSecondWideBig = StepRefused (add_rpath LOCAL ∷ []) (after_batch (add_rpath LOCAL ∷ []) READ_WIDE_BIG) 1 (no_room 96 64)

abbrev pub READ_NARROW_LITTLE : State
READ_NARROW_LITTLE = first_state ((0xce ∷ 0xfa ∷ 0xed ∷ 0xfe ∷ zeros 24) ++ zeros 28)

abbrev pub AcceptsNarrowLittle : Type 0
AcceptsNarrowLittle = IsAccepted narrow_little READ_NARROW_LITTLE.old

abbrev pub AddsNarrowLittle : Type 0
AddsNarrowLittle = StepsTo (add_rpath LOCAL ∷ []) READ_NARROW_LITTLE ((0xce ∷ 0xfa ∷ 0xed ∷ 0xfe ∷ zeros 12) ++ (1 ∷ 0 ∷ 0 ∷ 0 ∷ 0x1c ∷ 0 ∷ 0 ∷ 0 ∷ zeros 4) ++ LOCAL_NARROW_LITTLE)

abbrev pub AddsNoSecondNarrowLittle : Type 0
AddsNoSecondNarrowLittle = StepRefused (add_rpath LOCAL ∷ []) (after_batch (add_rpath LOCAL ∷ []) READ_NARROW_LITTLE) 1 (no_room 84 56)

abbrev pub READ_NARROW_BIG : State
READ_NARROW_BIG = first_state ((0xfe ∷ 0xed ∷ 0xfa ∷ 0xce ∷ zeros 24) ++ zeros 28)

abbrev pub AcceptsNarrowBig : Type 0
AcceptsNarrowBig = IsAccepted narrow_big READ_NARROW_BIG.old

abbrev pub AddsNarrowBig : Type 0
AddsNarrowBig = StepsTo (add_rpath LOCAL ∷ []) READ_NARROW_BIG ((0xfe ∷ 0xed ∷ 0xfa ∷ 0xce ∷ zeros 12) ++ (0 ∷ 0 ∷ 0 ∷ 1 ∷ 0 ∷ 0 ∷ 0 ∷ 0x1c ∷ zeros 4) ++ LOCAL_NARROW_BIG)

abbrev pub AddsNoSecondNarrowBig : Type 0
AddsNoSecondNarrowBig = StepRefused (add_rpath LOCAL ∷ []) (after_batch (add_rpath LOCAL ∷ []) READ_NARROW_BIG) 1 (no_room 84 56)

-- the name is looked for before the new text is
abbrev pub RefusesNul : Type 0
RefusesNul = StepRefused (change_rpath LOCAL BROKEN ∷ []) ADDED 0 (nul_inside 1)

abbrev pub RefusesMissing : Type 0
RefusesMissing = StepRefused (change_rpath ABSENT PATH_A ∷ []) ADDED 0 (rpath_missing ABSENT)

abbrev pub RefusesMissingFirst : Type 0
RefusesMissingFirst = StepRefused (change_rpath ABSENT BROKEN ∷ []) ADDED 0 (rpath_missing ABSENT)

-- what is added stands behind the commands that are there
abbrev pub AddsBehind : Type 0
AddsBehind = edited_list wide_little (add_rpath PATH_A) (built_rpath wide_little PATH_B ∷ []) ≡ Ok (built_rpath wide_little PATH_B ∷ built_rpath wide_little PATH_A ∷ [])

-- the first of two equal ones is meant
abbrev pub TWICE_A : List (List ℕ)
TWICE_A = built_rpath wide_little PATH_A ∷ built_rpath wide_little PATH_B ∷ built_rpath wide_little PATH_A ∷ []

abbrev pub RemovesFirst : Type 0
RemovesFirst = edited_list wide_little (remove_rpath PATH_A) TWICE_A ≡ Ok (built_rpath wide_little PATH_B ∷ built_rpath wide_little PATH_A ∷ [])

abbrev pub ChangesFirst : Type 0
ChangesFirst = edited_list wide_little (change_rpath PATH_A LOCAL) TWICE_A ≡ Ok (built_rpath wide_little LOCAL ∷ built_rpath wide_little PATH_B ∷ built_rpath wide_little PATH_A ∷ [])

-- the library's own name is none of those that are loaded
abbrev pub OWN_NAME : List (List ℕ)
OWN_NAME = built_dylib wide_little NAME OWN ∷ []

abbrev pub RefusesOwnName : Type 0
RefusesOwnName = edited_list wide_little (change_install_name NAME PATH_A) OWN_NAME ≡ Err (name_missing NAME)

abbrev pub ChangesOwnName : Type 0
ChangesOwnName = edited_list wide_little (change_install_id PATH_A) OWN_NAME ≡ Ok (built_dylib wide_little PATH_A OWN ∷ [])

-- texts are compared whole, and byte by byte: a beginning is another text, and so is what a byte that is
-- no character is shown as
abbrev pub RefusesBeginning : Type 0
RefusesBeginning = edited_list wide_little (remove_rpath PATH_A) (built_rpath wide_little (codes "/ab") ∷ []) ≡ Err (rpath_missing PATH_A)

abbrev pub RefusesLonger : Type 0
RefusesLonger = edited_list wide_little (remove_rpath (codes "/ab")) (built_rpath wide_little PATH_A ∷ []) ≡ Err (rpath_missing (codes "/ab"))

abbrev pub RefusesShownAs : Type 0
RefusesShownAs =
    edited_list wide_little (remove_rpath (0xef ∷ 0xbf ∷ 0xbd ∷ [])) (built_rpath wide_little (0xff ∷ []) ∷ []) ≡ Err (rpath_missing (0xef ∷ 0xbf ∷ 0xbd ∷ []))

-- a library that is loaded twice, in two ways, and one with two names of its own
abbrev pub ChangesFirstLibrary : Type 0
ChangesFirstLibrary =
    edited_list wide_big (change_install_name NAME PATH_A) (built_dylib wide_big NAME OWN ∷ built_dylib wide_big NAME WEAK ∷ built_dylib wide_big NAME LIBRARY ∷ [])
    ≡ Ok (built_dylib wide_big NAME OWN ∷ built_dylib wide_big PATH_A WEAK ∷ built_dylib wide_big NAME LIBRARY ∷ [])

abbrev pub ChangesFirstId : Type 0
ChangesFirstId =
    edited_list narrow_little (change_install_id PATH_A) (built_dylib narrow_little NAME LIBRARY ∷ built_dylib narrow_little NAME OWN ∷ built_dylib narrow_little PATH_B OWN ∷ [])
    ≡ Ok (built_dylib narrow_little NAME LIBRARY ∷ built_dylib narrow_little PATH_A OWN ∷ built_dylib narrow_little PATH_B OWN ∷ [])

-- a file of 80 bytes with one command, of 24: a symbol table, of one symbol, at this offset
abbrev pub file_with_symbols : ℕ → State
file_with_symbols offset =
    first_state ((0xcf ∷ 0xfa ∷ 0xed ∷ 0xfe ∷ zeros 12) ++ (1 ∷ 0 ∷ 0 ∷ 0 ∷ 0x18 ∷ 0 ∷ 0 ∷ 0 ∷ zeros 8) ++ (2 ∷ 0 ∷ 0 ∷ 0 ∷ 0x18 ∷ 0 ∷ 0 ∷ 0 ∷ offset ∷ 0 ∷ 0 ∷ 0 ∷ 1 ∷ 0 ∷ 0 ∷ 0 ∷ zeros 8) ++ zeros 24)

abbrev pub AcceptsSymbols : Type 0
AcceptsSymbols = IsAccepted wide_little (file_with_symbols 72).old × (first_content_of (file_with_symbols 72).old ≡ 72)

-- commands may end where content begins, and no further; where content begins among them, where they end
abbrev pub AddsUpToContent : Type 0
AddsUpToContent = IsOkAnd (step (add_rpath PATH_A ∷ []) (file_with_symbols 72)) (λ next. next.high ≡ 72)

abbrev pub AddsNoFurther : Type 0
AddsNoFurther = StepRefused (add_rpath PATH_A ∷ []) (file_with_symbols 71) 1 (no_room 72 71)

abbrev pub AddsNothingAmongCommands : Type 0
AddsNothingAmongCommands = StepRefused (add_rpath PATH_A ∷ []) (file_with_symbols 40) 1 (no_room 72 56)

abbrev pub KeepsAmongCommands : Type 0
KeepsAmongCommands = StepsTo (add_rpath PATH_A ∷ remove_rpath PATH_A ∷ []) (file_with_symbols 40) (file_with_symbols 40).old

-- a fat file with two slices behind its table of 48 bytes, one behind the other
abbrev pub fat_file : List ℕ → List ℕ → List ℕ
fat_file first second =
    (0xca ∷ 0xfe ∷ 0xba ∷ 0xbe ∷ 0 ∷ 0 ∷ 0 ∷ 2 ∷ [])
    ++ (zeros 11 ++ 48 ∷ 0 ∷ 0 ∷ 0 ∷ length first ∷ zeros 4)
    ++ (zeros 11 ++ (48 + length first) ∷ 0 ∷ 0 ∷ 0 ∷ length second ∷ zeros 4)
    ++ first ++ second

-- a file of 32 bits, big, without load commands, and with so many zeros behind its header
abbrev pub narrow_file : ℕ → List ℕ
narrow_file n = (0xfe ∷ 0xed ∷ 0xfa ∷ 0xce ∷ zeros 24) ++ zeros n

-- an rpath is added in both slices; then the first one has no room for another, and both stay
abbrev pub AddsInBoth : Type 0
AddsInBoth =
    BatchesLeave (fat_file (empty_file (zeros 32)) (narrow_file 36)) ((add_rpath LOCAL ∷ []) ∷ (add_rpath LOCAL ∷ []) ∷ []) (ACCEPTED ∷ refused_for_room 1 96 64 ∷ [])
    (fat_file (file_with (1 ∷ 0 ∷ 0 ∷ 0 ∷ 0x20 ∷ 0 ∷ 0 ∷ 0 ∷ []) LOCAL_WIDE_LITTLE) ((0xfe ∷ 0xed ∷ 0xfa ∷ 0xce ∷ zeros 12) ++ (0 ∷ 0 ∷ 0 ∷ 1 ∷ 0 ∷ 0 ∷ 0 ∷ 0x1c ∷ zeros 4) ++ LOCAL_NARROW_BIG ++ zeros 8))

-- where the second slice has no room, the first one stays too
abbrev pub AddsInNone : Type 0
AddsInNone =
    BatchesLeave (fat_file (empty_file (zeros 32)) (narrow_file 0)) ((add_rpath PATH_A ∷ []) ∷ []) (refused_for_room 1 44 28 ∷ [])
    (fat_file (empty_file (zeros 32)) (narrow_file 0))

-- an rpath that is added in both slices and removed in the next batch leaves the file as it was
abbrev pub GivesBackInBoth : Type 0
GivesBackInBoth =
    BatchesLeave (fat_file (empty_file (zeros 32)) (narrow_file 36)) ((add_rpath LOCAL ∷ []) ∷ (remove_rpath LOCAL ∷ []) ∷ []) (ACCEPTED ∷ ACCEPTED ∷ [])
    (fat_file (empty_file (zeros 32)) (narrow_file 36))
