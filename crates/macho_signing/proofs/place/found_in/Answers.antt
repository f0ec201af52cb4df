use Rattle.std.proofs.Common.{◌≡◌, ◌∙◌, List, ℕ, map, Ok, ap, refl, sym, subst}
use Rattle.std.specs.List.{All}
use Rattle.patch_bytes.specs.ByteString.{bytes_of_each}
use Rattle.macho_image.specs.Command.{IsCommand}
use Rattle.macho_image.specs.Commands.{commands_of}
use Rattle.macho_image.specs.declared.format.Ctx.{Ctx}
use Rattle.macho_image.proofs.ForCallers.{found}
use Rattle.macho_signing.specs.Place.{signature_commands}
use Rattle.macho_signing.proofs.PlaceSteps.{end_is, place_is}
use Rattle.macho_signing.proofs.place.found_in.Goals as goal

pub kept_commands-requires : goal.kept_commands-requires
kept_commands-requires c =
    let bytes : List ℕ = c.args.macho.now.bytes in
    let same : bytes_of_each c.deref.result.now ≡ commands_of bytes = ap bytes_of_each c.deref.ensures.value ∙ c.in_ok-commands.ensures in
    let P : List (List ℕ) → Type 0 = λ l. All (IsCommand c.ctx-ctx.result.le) l in
    let Q : Ctx → Type 0 = λ x. All (IsCommand x.le) (commands_of bytes) in
    subst P (sym same) (subst Q (sym c.ctx-ctx.ensures.form) (found bytes c.requires).each)

pub returns : goal.returns
returns c =
    let bytes : List ℕ = c.args.macho.now.bytes in
    let same : bytes_of_each c.deref.result.now ≡ commands_of bytes = ap bytes_of_each c.deref.ensures.value ∙ c.in_ok-commands.ensures in
    let kept = ap (map (λ c. c.now)) c.deref-2.ensures.value ∙ c.in_ok-kept.ensures ∙ ap (signature_commands c.ctx-ctx.result.le) same in (
      place_is bytes c.ctx-ctx.result _ (Ok c.in_ok-place.place) c.in_ok-place.place c.ctx-ctx.ensures.form kept c.in_ok-place.ensures refl,
      end_is bytes c.ctx-ctx.result c.header_size.result c.header.result.now c.ctx-ctx.ensures.form c.header_size.ensures c.header.ensures,
    )
