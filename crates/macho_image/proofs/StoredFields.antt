-- The fields of a parsed file after a prepared area was stored.
use Rattle.std.proofs.Common.{◌≡◌, ◌≤◌, ◌<◌, ◌^◌, ℕ, ◌+◌, ◌-◌, min, List, [], ◌∷◌, length, Option, Some, None, refl, sym, ap, ◌∙◌, arith}
use Rattle.std.specs.List.{flat_map}
use Rattle.std.specs.Option.{option_map, option_or, is_some}
use Rattle.std.specs.declared.alloc.Global.{Global}
use Rattle.std.specs.declared.vec.Vec.{Vec}
use Rattle.patch_bytes.specs.ByteString.{bytes_model}
use Rattle.macho_image.specs.Stored.{Fits, IsStored}
use Rattle.macho_image.specs.declared.format.Ctx.{Ctx}
use Rattle.macho_image.specs.declared.image.MachO.TheInside.{Inside}
use Rattle.macho_image.specs.declared.image.store.Prepared.TheInside.{Inside as PreparedInside}
use Rattle.macho_image.specs.Checks.{area_fault}
use Rattle.macho_image.specs.Command.{contents_of}
use Rattle.macho_image.specs.Commands.{cut_commands, least, located_commands}
use Rattle.macho_image.specs.Form.{ctx_of, header_of, header_size}
use Rattle.macho_image.specs.Image.{with_area}
use Rattle.macho_image.specs.Parsed.{IsParsed, image_of}
use Rattle.macho_image.specs.Prepared.{copy_for}
use Rattle.macho_image.specs.Ready.{IsReady}
use Rattle.macho_image.proofs.FormLaws.{file_passes}
use Rattle.macho_image.proofs.StoreLaws.{ctx_of-with_area, file_fault-with_area, first_content_of-with_area, header_of-with_area, load_commands_of-with_area}

-- the copy that was prepared or the one that was there holds the file's bytes
pub items-copy : (source : List ℕ) (edited copy : Option (Vec ℕ Global)) (bytes : Vec ℕ Global) → option_map (λ (v : Vec ℕ Global). v.items) copy ≡ copy_for (record { bytes = bytes_model source edited; is_edited = is_some edited }) → option_or copy edited ≡ Some bytes → bytes.items ≡ bytes_model source edited
items-copy source None None bytes same taken = cc
items-copy source (Some old) None bytes same taken = cc
items-copy source None (Some copy) bytes same taken = cc
items-copy source (Some old) (Some copy) bytes same taken = cc

-- a bound on where the least begins
pub least-min : (n m : ℕ) (xs : List ℕ) → least (min n m) xs ≡ min n (least m xs)
least-min n m [] = refl
least-min n m (x ∷ xs) =
    let regroup : min (min n m) x ≡ min n (min m x) = omega arith in
    rw regroup (least-min n (min m x) xs)

-- what it takes that the fields are those of the stored file
pub record StoresFields (old new : Inside) (made : PreparedInside) (high : ℕ) : Type 0 where
  pub form : made.ctx ≡ ctx_of (image_of old).bytes
  pub room : header_size made.ctx.container + length made.area.items ≤ high
  pub inside : high ≤ length (image_of old).bytes
  pub bytes : (image_of new).bytes ≡ with_area made.ctx (image_of old).bytes made.count made.area.items high
  pub same_form : new.ctx ≡ old.ctx
  pub fields : new.header ≡ record old.header { ncmds = made.count; sizeofcmds = length made.area.items }
  pub commands : new.commands ≡ made.commands
  pub first : new.first_content ≡ min (length (image_of old).bytes) made.first_content

pub IsParsed-stored : (old new : Inside) (made : PreparedInside) (high : ℕ) → IsParsed old → IsReady made → StoresFields old new made high → IsParsed new
IsParsed-stored old new made high parsed ready stores =
    let bytes : List ℕ = (image_of old).bytes in
    let area : List ℕ = made.area.items in
    let ctx : Ctx = ctx_of bytes in
    let short : length bytes < 2 ^ 32 = (file_passes bytes parsed.accepted).0 in
    let form : made.ctx ≡ ctx = stores.form in
    let kept : old.ctx ≡ ctx = parsed.form in
    let room : header_size ctx.container + length area ≤ high = rw form at stores.room in
    let inside : high ≤ length bytes = stores.inside in
    let accepted : area_fault ctx.le made.count area ≡ None = rw form at ready.accepted in
    let is : IsStored bytes made.count area high = record { accepted = parsed.accepted; commands = accepted; counted = ready.counted; room = room; inside = inside } in
    let fit : Fits ctx bytes area high = record { room = room; inside = inside } in
    let laid : (image_of new).bytes ≡ with_area ctx bytes made.count area high = rw form at stores.bytes in
    let same : ctx_of (with_area ctx bytes made.count area high) ≡ ctx = ctx_of-with_area ctx bytes made.count area high fit in
    let fields : header_of ctx (with_area ctx bytes made.count area high) ≡ record (header_of ctx bytes) { ncmds = made.count; sizeofcmds = length area } = header_of-with_area ctx bytes made.count area high fit ready.counted (omega arith) in
    let listed : made.commands.items ≡ located_commands ctx.le (header_size ctx.container) (cut_commands ctx.le made.count area) = rw form at ready.commands in
    let contents : List ℕ = flat_map (contents_of ctx.le) (cut_commands ctx.le made.count area) in
    let found : made.first_content ≡ least (2 ^ 64 - 1) contents = rw form at ready.first in
    let limit : min (length bytes) (2 ^ 64 - 1) ≡ length bytes = omega arith in
    let read : old.header ≡ header_of ctx bytes = parsed.fields ∙ ap (λ (x : Ctx). header_of x bytes) kept in
    let where_found : least (min (length bytes) (2 ^ 64 - 1)) contents ≡ min (length bytes) (least (2 ^ 64 - 1) contents) = least-min (length bytes) (2 ^ 64 - 1) contents in
    record {
      accepted = rw laid (file_fault-with_area bytes made.count area high is);
      form = rw (laid, same) (stores.same_form ∙ kept);
      fields = rw (stores.fields, read, laid, stores.same_form, kept) (sym fields);
      commands = rw (stores.commands, laid) (listed ∙ sym (load_commands_of-with_area bytes made.count area high is));
      first = rw (stores.first, found, laid, ← where_found, limit) (sym (first_content_of-with_area bytes made.count area high is));
    }
