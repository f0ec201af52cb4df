-- The bytes that an image is written to, and why there are none.
use Rattle.std.specs.Prelude.{ℕ, ◌≡◌, ◌⊎◌, List, [], length, Option, Result, IfErr, IfOk, IsOkAnd, OnOk, true, false}
use Rattle.std.specs.declared.alloc.Global.{Global}
use Rattle.std.specs.declared.vec.Vec.{Vec}
use Rattle.std.specs.Io.KnownBytes.{Appends}
use Rattle.byte_store.specs.declared.composed.Difference.{Difference}
use Rattle.byte_store.specs.Composed.{IsDifference, made_of}
use Rattle.elf_format.specs.declared.fault.ElfFault.TheVariants.{NumberTooLarge}
use Rattle.elf_image.specs.Image.{Image}
use Rattle.elf_layout_plan.specs.declared.fault.LayoutFault.{LayoutFault}
use Rattle.elf_layout_plan.specs.declared.fault.LayoutFault.TheVariants as layout
use Rattle.elf_layout_plan.specs.Plan.{IsOverlapping, IsPlan, Plan, resized}
use Rattle.elf_layout.specs.Refused.{IsNoLayout}
use Rattle.elf_write.specs.Output.{AreHeadersApart}
use Rattle.elf_write.specs.WrittenFile.{IsWrittenOf}
use Rattle.elf_write.specs.Counted.{Stops}
use Rattle.elf_write.specs.Numbers.{do_numbers_fit}
use Rattle.elf_apply.specs.declared.error.ElfError.{ElfError}
use Rattle.elf_apply.specs.declared.error.ElfError.TheVariants.{Io, Memory, Modify, Write}
use Rattle.elf_apply.specs.declared.error.ModifyCause.TheVariants.{Overlap}

-- The bytes of an image: those that were read where nothing was edited.
pub record IsImageWritten (image : Image) (bytes : List ℕ) : Type 0 where
  pub unchanged : image.changed ≡ false → bytes ≡ image.source
  pub edited : image.changed ≡ true → IsWrittenOf image bytes

-- nothing differs from these bytes
pub record IsNoDifference (bytes : List ℕ) (d : Difference) : Type 0 where
  pub no_growth : d.growth.items ≡ []
  pub no_pieces : d.pieces.items ≡ []
  pub as_long : d.new_length ≡ length bytes

-- two blocks of memory overlap that can't move, or the file header and the program header table share some of the file
abbrev pub IsOverlap : Image → Type 0
IsOverlap image = IsOverlapping (resized image) ⊎ ((plan : Plan) × IsPlan (resized image) plan × (AreHeadersApart image plan → ⊥))

-- a number of the layout or of what is written is past its field
abbrev pub IsPastField : Image → Type 0
IsPastField image = IsNoLayout image layout.NumberTooLarge ⊎ ((plan : Plan) × IsPlan (resized image) plan × (do_numbers_fit image plan ≡ false))

-- why an edited image has no bytes
abbrev pub IsNoEdit : Image → LayoutFault → Type 0
IsNoEdit image layout.Overlap = IsOverlap image
IsNoEdit image layout.NumberTooLarge = IsPastField image
IsNoEdit image layout.Memory = Unit {0}

-- how that is told
abbrev pub IsTold : LayoutFault → ElfError → Type 0
IsTold layout.Overlap e = e ≡ Modify Overlap
IsTold layout.NumberTooLarge e = e ≡ Write NumberTooLarge
IsTold layout.Memory e = e ≡ Memory

-- an image has no bytes: it was edited, and one of these is why
abbrev pub IsNoImage : Image → ElfError → Type 0
IsNoImage image (Modify Overlap) = (image.changed ≡ true) × IsOverlap image
IsNoImage image (Write NumberTooLarge) = (image.changed ≡ true) × IsPastField image
IsNoImage image Memory = Unit {0}
IsNoImage image other = ⊥

-- ## Writers

-- a writer got the bytes of an image
pub record GetsImage (image : Image) (old new : Option (List ℕ)) : Type 0 where
  pub bytes : List ℕ
  pub are_written : IsImageWritten image bytes
  pub appended : Appends old new bytes

-- the first bytes of an image were got, and then a write failed
pub record StopsAmong (image : Image) (old new : Option (List ℕ)) (failed_old failed_new : ℕ) : Type 0 where
  pub bytes : List ℕ
  pub are_written : IsImageWritten image bytes
  pub stops : Stops bytes old new failed_old failed_new

-- an image isn't written whole: a write failed; or there are no bytes of it, and the writer got nothing
abbrev pub IsNotWritten : {W : Type 0} → (W → Option (List ℕ)) → (W → ℕ) → Image → W → W → ElfError → Type 0
IsNotWritten contents failed image old new (Io fault) = StopsAmong image (contents old) (contents new) (failed old) (failed new)
IsNotWritten contents failed image old new other = (new ≡ old) × IsNoImage image other

-- a write failed
abbrev pub IsIo : ElfError → Type 0
IsIo (Io fault) = Unit {0}
IsIo other = ⊥

-- an image isn't written to a file
abbrev pub MayNotWrite : Image → ElfError → Type 0
MayNotWrite image (Io fault) = Unit {0}
MayNotWrite image other = IsNoImage image other

-- ## Answers

-- what is answered where the bytes of an image are asked for: they, or why there are none
pub record AnswersBytes (image : Image) (answer : Result (Vec ℕ Global) ElfError) : Type 0 where
  pub bytes : IfOk answer (λ bytes. IsImageWritten image bytes.items)
  pub fault : IfErr answer (IsNoImage image)

-- what is answered where that of the bytes is asked for that differs from those that were read: it, and nothing where nothing was edited
pub record AnswersPieces (image : Image) (answer : Result Difference ElfError) : Type 0 where
  pub makeable : IfOk answer (λ d. IsDifference image.source d)
  pub bytes : IfOk answer (λ d. IsImageWritten image (made_of image.source d))
  pub fault : IfErr answer (IsNoImage image)
  pub unchanged : image.changed ≡ false → IsOkAnd answer (IsNoDifference image.source)

-- what is answered where an image is written, and what the writer gets; the bytes that were read are written unless a write fails
pub record AnswersWrite {W : Type 0} (contents : W → Option (List ℕ)) (failed : W → ℕ) (image : Image) (old new : W) (answer : Result (Unit {0}) ElfError) : Type 0 where
  pub ok : OnOk answer (GetsImage image (contents old) (contents new))
  pub err : IfErr answer (IsNotWritten contents failed image old new)
  pub unchanged : image.changed ≡ false → IfErr answer IsIo
