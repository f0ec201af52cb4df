-- What a file that is created for an image has got, and why it hasn't got all.
use Rattle.std.specs.Prelude.{ℕ, List, Option, Some, None}
use Rattle.std.specs.Io.KnownBytes.{Appends}
use Rattle.std.specs.declared.io.Error.{Error}
use Rattle.elf_image.specs.Image.{Image}
use Rattle.elf_write.specs.Counted.{Stops, sink_failures, sink_inner}
use Rattle.elf_write.specs.declared.counted.Sink.{Sink}
use Rattle.elf_apply.specs.declared.error.ElfError.{ElfError}
use Rattle.elf_apply.specs.declared.error.ElfError.TheVariants.{Io}
use Rattle.arwen_elf_writer.specs.declared.new_file.NotWritten.{NotWritten}
use Rattle.arwen_elf_writer.specs.Written.{IsImageWritten, IsNoImage}

-- ## Bytes

-- a file that was created, of which `is_new` says what was known then, has got just these bytes
pub record HoldsBytes (is_new : Option (List ℕ) → Type 0) (bytes : List ℕ) (known : Option (List ℕ)) : Type 0 where
  pub start : Option (List ℕ)
  pub is_start : is_new start
  pub appended : Appends start known bytes

-- a file that was created has got the first of these bytes, but not all, and then a write failed; so many writes failed
pub record HoldsFront (is_new : Option (List ℕ) → Type 0) (bytes : List ℕ) (known : Option (List ℕ)) (failed : ℕ) : Type 0 where
  pub start : Option (List ℕ)
  pub is_start : is_new start
  pub stops : Stops bytes start known 0 failed

-- why a writer hasn't got all bytes: a write failed
abbrev pub StopsIn : {W : Type 0} → (W → Option (List ℕ)) → List ℕ → Option (List ℕ) → ElfError → Option (Sink W) → Type 0
StopsIn contents bytes known (Io fault) (Some file) = Stops bytes known (contents (sink_inner file)) 0 (sink_failures file)
StopsIn contents bytes known other file = ⊥

-- why a new file hasn't got all bytes: none was created, for this error; or a write to it failed
abbrev pub IsCutOff : {W : Type 0} → (Option (List ℕ) → Type 0) → (W → Option (List ℕ)) → (Error → Type 0) → List ℕ → ElfError → Option (Sink W) → Type 0
IsCutOff is_new contents may_fail bytes (Io fault) None = may_fail fault
IsCutOff is_new contents may_fail bytes (Io fault) (Some file) = HoldsFront is_new bytes (contents (sink_inner file)) (sink_failures file)
IsCutOff is_new contents may_fail bytes other file = ⊥

-- ## Images

-- a file that was created has got the bytes of an image
pub record HoldsImage (is_new : Option (List ℕ) → Type 0) (image : Image) (known : Option (List ℕ)) : Type 0 where
  pub bytes : List ℕ
  pub are_written : IsImageWritten image bytes
  pub held : HoldsBytes is_new bytes known

-- a file that was created has got the first bytes of an image, and then a write failed
pub record HoldsImageFront (is_new : Option (List ℕ) → Type 0) (image : Image) (known : Option (List ℕ)) (failed : ℕ) : Type 0 where
  pub bytes : List ℕ
  pub are_written : IsImageWritten image bytes
  pub held : HoldsFront is_new bytes known failed

-- why a new file hasn't got the bytes of an image: none was created, since it has none or for this error of creating; or
-- a write to it failed
abbrev pub IsLacking : {W : Type 0} → (Option (List ℕ) → Type 0) → (W → Option (List ℕ)) → (Error → Type 0) → Image → ElfError → Option (Sink W) → Type 0
IsLacking is_new contents may_fail image (Io fault) None = may_fail fault
IsLacking is_new contents may_fail image (Io fault) (Some file) = HoldsImageFront is_new image (contents (sink_inner file)) (sink_failures file)
IsLacking is_new contents may_fail image other None = IsNoImage image other
IsLacking is_new contents may_fail image other (Some file) = ⊥

-- an answer tells why a new file hasn't got the bytes of an image
abbrev pub IsNotStored : {W : Type 0} → (Option (List ℕ) → Type 0) → (W → Option (List ℕ)) → (Error → Type 0) → Image → NotWritten W → Type 0
IsNotStored is_new contents may_fail image refused = IsLacking is_new contents may_fail image refused.error refused.file
