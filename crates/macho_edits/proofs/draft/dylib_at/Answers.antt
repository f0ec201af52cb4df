use Rattle.std.proofs.Common.{◌≡◌, ◌<◌, ℕ, List, [], get_or, length, ap, sym, ◌∙◌, arith}
use Rattle.std.proofs.lemmas.List.{get_or-map, length-map}
use Rattle.patch_bytes.specs.ByteString.{StringValue, bytes_of_each}
use Rattle.macho_image.specs.Command.{dylib_of}
use Rattle.macho_edits.proofs.draft.dylib_at.Goals as goal

-- the bytes of the string at a place
read_at : (strings : List StringValue) (i : ℕ) (s : StringValue) (bytes : List ℕ) → i < length (bytes_of_each strings) → s ≡ get_or strings i s → bytes ≡ s.bytes → bytes ≡ get_or (bytes_of_each strings) i []
read_at strings i s bytes within is read =
    let shown : StringValue → List ℕ = λ x. x.bytes in
    let here : i < length strings = omega (arith, length-map strings shown) in
    read ∙ ap shown is ∙ sym (get_or-map shown strings i s [] here)

pub bounds-commands-place : goal.bounds-commands-place
bounds-commands-place c = omega (arith, length-map c.args.commands.now (λ (x : StringValue). x.bytes))

pub dylib_of-requires : goal.dylib_of-requires
dylib_of-requires c =
    let here : c.as_slice.result.now ≡ get_or (bytes_of_each c.args.commands.now) c.args.place [] = read_at c.args.commands.now c.args.place c.index-commands-place.result c.as_slice.result.now c.requires.inside c.index-commands-place.is c.as_slice.ensures in
    rw here c.requires.fixed

pub returns : goal.returns
returns c =
    let here : c.as_slice.result.now ≡ get_or (bytes_of_each c.args.commands.now) c.args.place [] = read_at c.args.commands.now c.args.place c.index-commands-place.result c.as_slice.result.now c.requires.inside c.index-commands-place.is c.as_slice.ensures in
    c.dylib_of.ensures ∙ ap (dylib_of c.args.order) here
