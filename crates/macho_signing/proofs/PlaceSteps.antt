-- What is found of a signature in a parsed file.
use Rattle.std.proofs.Common.{◌≡◌, ◌∙◌, ◌+◌, ℕ, List, Option, Result, Ok, ap, sym, subst}
use Rattle.macho_image.specs.Commands.{commands_of}
use Rattle.macho_image.specs.Form.{commands_end, ctx_of, header_of, header_size}
use Rattle.macho_image.specs.declared.format.Ctx.{Ctx}
use Rattle.macho_image.specs.declared.format.Header.{Header}
use Rattle.macho_signing.specs.declared.fault.SigningFault.{SigningFault}
use Rattle.macho_signing.specs.declared.place.Place.{Place}
use Rattle.macho_signing.specs.Place.{place_in, signature_commands, signature_place}

pub place_is : (bytes : List ℕ) (ctx : Ctx) (kept : List (List ℕ)) (told : Result (Option Place) SigningFault) (place : Option Place) → ctx ≡ ctx_of bytes → kept ≡ signature_commands ctx.le (commands_of bytes) → told ≡ place_in ctx.le kept → told ≡ Ok place → signature_place bytes ≡ Ok place
unfolding signature_place
place_is bytes ctx kept told place form are tells is =
    let P : Ctx → Type 0 = λ x. place_in x.le (signature_commands x.le (commands_of bytes)) ≡ Ok place in
    subst P form (ap (place_in ctx.le) (sym are) ∙ sym tells ∙ is)

pub end_is : (bytes : List ℕ) (ctx : Ctx) (size : ℕ) (header : Header) → ctx ≡ ctx_of bytes → size ≡ header_size ctx.container → header ≡ header_of (ctx_of bytes) bytes → size + header.sizeofcmds ≡ commands_end (ctx_of bytes) bytes
unfolding header_of
end_is bytes ctx size header form is fields =
    ap (λ (k : ℕ). k + header.sizeofcmds) (is ∙ ap (λ (x : Ctx). header_size x.container) form)
    ∙ ap (λ (h : Header). header_size (ctx_of bytes).container + h.sizeofcmds) fields
