use Rattle.std.proofs.Common.{◌≡◌, ◌∙◌, ◌<◌, List, ℕ, length, get_or, ap, arith, sym}
use Rattle.std.proofs.lemmas.List.{get_or-map, length-map}
use Rattle.patch_bytes.specs.ByteString.{StringValue, bytes_of_each}
use Rattle.macho_signing.proofs.place.kept_commands.Goals as goal

pub number32-requires : goal.number32-requires
number32-requires c =
    let strings : List StringValue = c.args.commands.now in
    let i : ℕ = c.loop-string.string-index in
    let here : StringValue = c.string-item.result in
    let inside : i < length strings = c.loop-string-test.true in
    let count : length (bytes_of_each strings) ≡ length strings = length-map strings (λ (s : StringValue). s.bytes) in
    let is = c.requires i here.bytes (omega (arith, count, inside)) in
    let same : get_or (bytes_of_each strings) i here.bytes ≡ here.bytes = get_or-map (λ (s : StringValue). s.bytes) strings i here here.bytes inside ∙ ap (λ (s : StringValue). s.bytes) (sym c.string-item.is) in
    let long = ap length (same ∙ sym c.as_slice-command.ensures) in
    omega (arith, is.header, long)
