-- A run over a store, of whose file the fronts and the signatures were read, and slots are made anew.
use Rattle.std.proofs.Common.{◌≡◌, ◌≤◌, ◌<◌, ◌^◌, ◌+◌, ◌∙◌, ◌⊎◌, ℕ, inl, inr, Bool, List, [], ◌∷◌, ◌++◌, length, map, Option, Some, refl, sym, ap, subst, arith}
use Rattle.std.specs.List.{All, flat_map}
use Rattle.std.proofs.lemmas.List.{take_all}
use Rattle.std.proofs.lemmas.List.Elements.{All-append, All-cons, All-head, All-nil, All-tail}
use Rattle.std.specs.declared.io.Error.{Error}
use Rattle.byte_store.proofs.LaidLaws.{length-laid}
use Rattle.byte_store.specs.Fault.{BecomesLaid}
use Rattle.byte_store.specs.Known.{Becomes, HasLength, Stays}
use Rattle.byte_store.specs.Laid.{LiesIn, Patch, laid}
use Rattle.byte_store.specs.Shown.{shifted}
use Rattle.command_words.specs.Rows.{Text}
use Rattle.command_words.specs.declared.noting.Notes.{Notes}
use Rattle.command_words.specs.declared.noting.Notes.TheVariants.{LeftOut, Wanted}
use Rattle.macho_image.specs.Fat.{table_end}
use Rattle.macho_image.specs.declared.fat.FatArch.{FatArch}
use Rattle.macho_signatures.specs.Renewed.{SlotLies}
use Rattle.macho_signatures.specs.declared.renewal.Slot.{Slot}
use Rattle.macho_commands_stores.proofs.SliceLaws.{rising_within}
use Rattle.macho_commands_stores.specs.Loading.{IsFrontOf}
use Rattle.macho_commands_stores.specs.Renewing.{AreAsLong, IsLow, IsSignedFront, SignedFront, SignsFronts, slot_patch, slots_of}
use Rattle.macho_commands_stores.specs.Slices.{AreFrontsOf, AreFrontsRead, AreRising, whole_arch}
use Rattle.macho_commands_stores.specs.declared.slices.SliceFront.{SliceFront}
use Rattle.macho_commands_stores.specs.declared.slices.SliceFronts.{SliceFronts}
use Rattle.macho_commands.specs.Engine.{Asked, MayFail, Outcome, Tells, asked, outcome_of, signs_of}
use Rattle.macho_commands.specs.Meaning.{MachoMeaning, file_of}
use Rattle.macho_commands.specs.Notes.{TellsBy, TellsLeft, TellsWantedAt, left_line}
use Rattle.macho_commands.specs.Sliced.{EditedSlice, IsLoadedFront, IsMade, MakesEdited, MakesFronts, RefusesFronts, edited_bytes, slice_patches}
use Rattle.macho_commands.specs.Stores.{FailsPatch, Patched, Torn}
use Rattle.macho_commands.specs.declared.error.MachoCommandError.{MachoCommandError}
use Rattle.macho_commands.specs.declared.signing.Signing.{Signing}
use Rattle.macho_commands.specs.declared.signing.Signs.{Signs}
use Rattle.macho_commands.specs.declared.signing.Signs.TheVariants.{Nothing, Touched}
use Rattle.macho_commands.proofs.LoadedLaws.{front_outcome, tells_with_rest}
use Rattle.macho_commands.proofs.RenewedLaws.{RenewsFile, SignsEdits, fat_signs, front_in, new_in, renews, signed_front_in, thin_signs}
use Rattle.macho_commands.proofs.SigningLaws.{tells_signed}
use Rattle.macho_commands.proofs.SlicedLaws.{AreSliceFronts, sliced_makes, sliced_tells}
use Rattle.macho_commands.proofs.SlicedRuns.{inside_all, loaded_all, slices_of as fronts_are_of}
use Rattle.macho_commands.proofs.StoreLaws.{may_fail, refused_by}

-- ---- what was read, of either shape

record Read (known : Option (List ℕ)) (read : SliceFronts) : Type 0 where
  archs : List FatArch
  start : ℕ
  short : read.length < 2 ^ 32
  rising : AreRising start read.length archs
  fronts : AreFrontsOf known archs read.fronts.items
  long : HasLength known read.length

was_read : (known : Option (List ℕ)) (read : SliceFronts) → AreFrontsRead known read → Read known read
was_read known read (inl is) = record {
  archs = is.archs;
  start = table_end (length is.archs);
  short = is.short;
  rising = is.rising;
  fronts = is.fronts;
  long = λ file knows. (is.has file knows).1;
}
was_read known read (inr is) = record {
  archs = whole_arch read.length ∷ [];
  start = 0;
  short = is.short;
  rising = (omega arith, is.some, omega arith);
  fronts = is.fronts;
  long = is.long;
}

abbrev HasRoom : ℕ → SliceFront → Type 0
HasRoom size front = front.offset + front.size ≤ size

rooms : (known : Option (List ℕ)) (start size : ℕ) (archs : List FatArch) (fronts : List SliceFront) → AreRising start size archs → AreFrontsOf known archs fronts → All (HasRoom size) fronts
rooms known start size [] [] rising are = All-nil (HasRoom size)
rooms known start size [] (front ∷ fronts) rising are = absurd are
rooms known start size (arch ∷ archs) [] rising are = absurd are
rooms known start size (arch ∷ archs) (front ∷ fronts) rising are =
    let end : ℕ = arch.offset + arch.size in
    let within : end ≤ size = rising_within end size archs rising.2 in
    All-cons (HasRoom size) front fronts (omega (arith, within, are.0.offset, are.0.size)) (rooms known end size archs fronts rising.2 are.1)

pub read_loaded : (known : Option (List ℕ)) (read : SliceFronts) → AreFrontsRead known read → All IsLoadedFront read.fronts.items
read_loaded known read is =
    let r = was_read known read is in
    loaded_all known r.start read.length r.archs read.fronts.items r.short r.rising r.fronts

pub read_low : (known : Option (List ℕ)) (read : SliceFronts) → AreFrontsRead known read → All IsLow read.fronts.items
read_low known read is =
    let r = was_read known read is in
    let room = rooms known r.start read.length r.archs read.fronts.items r.rising r.fronts in
    λ k d here. let h = room k d here in omega (arith, h, r.short)

slice_fronts : (known : Option (List ℕ)) (read : SliceFronts) (file : List ℕ) (r : Read known read) → known ≡ Some file → AreSliceFronts file r.archs read.fronts.items
slice_fronts known read file r knows = fronts_are_of known file r.start read.length r.archs read.fronts.items knows (r.long file knows) r.short r.rising r.fronts

-- edited fronts are as long
long_all : (a : Asked) (all : List EditedSlice) → All (IsMade a) all → map (λ (l : List ℕ). length l) (map edited_bytes all) ≡ map (λ (f : SliceFront). length f.bytes.items) (map front_in all)
long_all a [] made = refl
long_all a (e ∷ all) made =
    let here : length (edited_bytes e) ≡ length e.front.bytes.items = length-laid e.here e.front.bytes.items (All-head (IsMade a) e all made).inside in
    ap (λ (n : ℕ). n ∷ map (λ (l : List ℕ). length l) (map edited_bytes all)) here
    ∙ ap (λ (l : List ℕ). length e.front.bytes.items ∷ l) (long_all a all (All-tail (IsMade a) e all made))

pub edited_long : (a : Asked) (fronts : List SliceFront) (news : List (List ℕ)) (patches : List Patch) → MakesEdited a fronts news patches → AreAsLong fronts news
edited_long a fronts news patches makes =
    ap (map (λ (l : List ℕ). length l)) (sym makes.news_are) ∙ long_all a makes.all makes.each ∙ ap (map (λ (f : SliceFront). length f.bytes.items)) makes.fronts_are

-- ---- where patches lie

makes_all : (a : Asked) (all : List EditedSlice) → All (IsMade a) all → MakesFronts a (map front_in all) (flat_map slice_patches all)
makes_all a [] made = refl
makes_all a (e ∷ all) made =
    (e.here, flat_map slice_patches all, refl, All-head (IsMade a) e all made, makes_all a all (All-tail (IsMade a) e all made))

makes_fronts : (a : Asked) (fronts : List SliceFront) (news : List (List ℕ)) (patches : List Patch) → MakesEdited a fronts news patches → MakesFronts a fronts patches
makes_fronts a fronts news patches makes =
    let F : List SliceFront → Type 0 = λ l. MakesFronts a l patches in
    let P : List Patch → Type 0 = MakesFronts a (map front_in makes.all) in
    subst F makes.fronts_are (subst P (sym makes.patches_are) (makes_all a makes.all makes.each))

slots_in_file : (at n size : ℕ) (slots : List Slot) → at + n ≤ size → All (SlotLies n) slots → All (LiesIn size) (map (shifted at) (map slot_patch slots))
slots_in_file at n size [] room lie = All-nil (LiesIn size)
slots_in_file at n size (slot ∷ slots) room lie =
    let here = All-head (SlotLies n) slot slots lie in
    All-cons (LiesIn size) (shifted at (slot_patch slot)) (map (shifted at) (map slot_patch slots)) (omega (arith, here, room)) (slots_in_file at n size slots room (All-tail (SlotLies n) slot slots lie))

signs_in_file : (known : Option (List ℕ)) (size : ℕ) (all : List SignedFront) → All (IsSignedFront known) all → All (HasRoom size) (map signed_front_in all) → All (LiesIn size) (flat_map slots_of all)
signs_in_file known size [] signed room = All-nil (LiesIn size)
signs_in_file known size (s ∷ all) signed room =
    let here = All-head (HasRoom size) s.front (map signed_front_in all) room in
    All-append (LiesIn size) (slots_of s) (flat_map slots_of all) (slots_in_file s.front.offset s.front.size size s.made.slots.items here (All-head (IsSignedFront known) s all signed).lie)
    (signs_in_file known size all (All-tail (IsSignedFront known) s all signed) (All-tail (HasRoom size) s.front (map signed_front_in all) room))

pub renewed_inside : (a : Asked) (known : Option (List ℕ)) (read : SliceFronts) (news : List (List ℕ)) (patches slots : List Patch) (left : Bool) → AreFrontsRead known read → MakesEdited a read.fronts.items news patches → SignsFronts known read.fronts.items news slots left → All (LiesIn read.length) (patches ++ slots)
renewed_inside a known read news patches slots left is makes signs =
    let r = was_read known read is in
    let Room : List SliceFront → Type 0 = All (HasRoom read.length) in
    let Slots : List Patch → Type 0 = All (LiesIn read.length) in
    All-append (LiesIn read.length) patches slots
    (inside_all a known r.start read.length r.archs read.fronts.items patches r.rising r.fronts (makes_fronts a read.fronts.items news patches makes))
    (subst Slots (sym signs.patches_are)
    (signs_in_file known read.length signs.all signs.each (subst Room (sym signs.fronts_are) (rooms known r.start read.length r.archs read.fronts.items r.rising r.fronts))))

-- ---- the file

signs_edits : (a : Asked) (known : Option (List ℕ)) (read : SliceFronts) (news : List (List ℕ)) (patches : List Patch) (file : List ℕ) (all : List SignedFront) → AreFrontsRead known read → MakesEdited a read.fronts.items news patches → map signed_front_in all ≡ read.fronts.items → map new_in all ≡ news → All (IsSignedFront known) all → known ≡ Some file → (archs : List FatArch) × SignsEdits a file patches archs all
unfolding was_read
signs_edits a known read news patches file all (inl is) makes fronts_are news_are signed knows =
    let r = was_read known read (inl is) in
    let has = is.has file knows in
    let start : ℕ = table_end (length is.archs) in
    let fronts = slice_fronts known read file r knows in
    let Rising : ℕ → Type 0 = λ n. AreRising start n is.archs in
    let rising = subst Rising (sym has.1) is.rising in
    let Fronts : List SliceFront → Type 0 = AreSliceFronts file is.archs in
    let made = sliced_makes a file start is.archs read.fronts.items patches is.some has.0 rising fronts (makes_fronts a read.fronts.items news patches makes) in
    (is.archs, fat_signs a known file start is.archs patches makes.all all knows has.0 rising (subst Fronts (sym makes.fronts_are) fronts) makes.each makes.patches_are (makes.fronts_are ∙ sym fronts_are) (makes.news_are ∙ sym news_are) signed made.0 made.1)
signs_edits a known read news patches file all (inr is) makes fronts_are news_are signed knows =
    let r = was_read known read (inr is) in
    let n : ℕ = read.length in
    let Fronts : List SliceFront → Type 0 = AreSliceFronts file (whole_arch n ∷ []) in
    let Patches : List Patch → Type 0 = λ l. SignsEdits a file l (whole_arch n ∷ []) all in (
      whole_arch n ∷ [],
      subst Patches (sym makes.patches_are)
          (thin_signs a known file n makes.all all knows (is.long file knows) is.short (subst Fronts (sym makes.fronts_are) (slice_fronts known read file r knows)) makes.each (makes.fronts_are ∙ sym fronts_are) (makes.news_are ∙ sym news_are) signed),
    )

renews_file : (choice : Signing) (meaning : MachoMeaning) (known : Option (List ℕ)) (read : SliceFronts) (news : List (List ℕ)) (patches slots : List Patch) (left : Bool) (file : List ℕ) → signs_of choice meaning ≡ Touched → AreFrontsRead known read → MakesEdited (asked meaning) read.fronts.items news patches → SignsFronts known read.fronts.items news slots left → known ≡ Some file → RenewsFile choice meaning file (patches ++ slots) left
renews_file choice meaning known read news patches slots left file touched is makes signs knows =
    let by = signs_edits (asked meaning) known read news patches file signs.all is makes signs.fronts_are signs.news_are signs.each knows in
    renews choice meaning file patches slots by.0 signs.all left touched by.1 signs.patches_are signs.left_is

-- ---- the run

-- what was made of fronts that are lent
pub record Makes (choice : Signing) (meaning : MachoMeaning) (known : Option (List ℕ)) (read : SliceFronts) (patches : List Patch) (left : Bool) : Type 0 where
  pub touched : signs_of choice meaning ≡ Touched
  pub read_is : AreFrontsRead known read
  pub news : List (List ℕ)
  pub edits : List Patch
  pub slots : List Patch
  pub makes : MakesEdited (asked meaning) read.fronts.items news edits
  pub signs : SignsFronts known read.fronts.items news slots left
  pub all : patches ≡ edits ++ slots

made_of : (choice : Signing) (meaning : MachoMeaning) (known : Option (List ℕ)) (read : SliceFronts) (patches : List Patch) (left : Bool) (file : List ℕ) → Makes choice meaning known read patches left → known ≡ Some file → RenewsFile choice meaning file patches left
made_of choice meaning known read patches left file m knows =
    let P : List Patch → Type 0 = λ l. RenewsFile choice meaning file l left in
    subst P (sym m.all) (renews_file choice meaning known read m.news m.edits m.slots left file m.touched m.read_is m.makes m.signs knows)

pub makes_inside : (choice : Signing) (meaning : MachoMeaning) (known : Option (List ℕ)) (read : SliceFronts) (patches : List Patch) (left : Bool) → Makes choice meaning known read patches left → All (LiesIn read.length) patches
makes_inside choice meaning known read patches left m =
    let P : List Patch → Type 0 = All (LiesIn read.length) in
    subst P (sym m.all) (renewed_inside (asked meaning) known read m.news m.edits m.slots left m.read_is m.makes m.signs)

pub patched_renewed : (choice : Signing) (meaning : MachoMeaning) (old mid new : Option (List ℕ)) (read : SliceFronts) (patches : List Patch) (left : Bool) → Makes choice meaning old read patches left → Stays old mid → Becomes (laid patches) mid new → Patched choice meaning old new
patched_renewed choice meaning old mid new read patches left m kept becomes file knows =
    let all = made_of choice meaning old read patches left file m knows in
    (laid patches file, all.is, becomes file (kept ∙ knows), all.shows)

pub torn_renewed : (choice : Signing) (meaning : MachoMeaning) (old mid new : Option (List ℕ)) (read : SliceFronts) (patches : List Patch) (left : Bool) → Makes choice meaning old read patches left → Stays old mid → Stays mid new ⊎ BecomesLaid patches mid new → Stays old new ⊎ Torn choice meaning old new
torn_renewed choice meaning old mid new read patches left m kept (inl stays) = inl (stays ∙ kept)
torn_renewed choice meaning old mid new read patches left m kept (inr laid_first) = inr (λ file knows.
    let all = made_of choice meaning old read patches left file m knows in
    record {
      patches = patches;
      makes = all.is;
      edited = all.edited;
      is_edited = all.made;
      stand = all.stand;
      count = laid_first.0;
      first = laid_first.1 file (kept ∙ knows);
    })

pub told_renewed : (n : Notes) (choice : Signing) (meaning : MachoMeaning) (old : Option (List ℕ)) (read : SliceFronts) (patches : List Patch) (left : Bool) (path told : Text) → Makes choice meaning old read patches left → path ≡ file_of meaning → TellsLeft Touched n left path told → TellsWantedAt choice meaning n old told
told_renewed LeftOut choice meaning old read patches left path told m same tells = tells
told_renewed Wanted choice meaning old read patches left path told m same tells = λ file knows.
    let all = made_of choice meaning old read patches left file m knows in
    let By : Signs → Type 0 = λ s. TellsBy s Wanted (asked meaning) (file_of meaning) file told in
    subst By (sym m.touched)
    (all.edited, all.made, tells ∙ ap (λ (b : Bool). left_line Touched b path) all.left_is ∙ ap (left_line Touched _) same)

-- ---- a refusal

pub may_refuse_renewed : (choice : Signing) (meaning : MachoMeaning) (fronts : List SliceFront) (e : MachoCommandError) → RefusesFronts (asked meaning) fronts e → MayFail meaning e
may_refuse_renewed choice meaning fronts e refuses =
    let front : List ℕ = refuses.front.bytes.items in
    may_fail choice meaning front e (tells_signed (signs_of choice meaning) (asked meaning) front e refuses.tells)

thin_tells : (a : Asked) (file : List ℕ) (n : ℕ) (fronts before behind : List SliceFront) (front : SliceFront) (e : MachoCommandError) → length file ≡ n → n < 2 ^ 32 → AreSliceFronts file (whole_arch n ∷ []) fronts → fronts ≡ before ++ front ∷ behind → Tells (outcome_of a front.bytes.items) e → Tells (outcome_of a file) e
thin_tells a file n fronts before behind front e long short are is tells =
    let P : List SliceFront → Type 0 = AreSliceFronts file (whole_arch n ∷ []) in
    by_front before (subst P is are)
  where
    by_front : (b : List SliceFront) → AreSliceFronts file (whole_arch n ∷ []) (b ++ front ∷ behind) → Tells (outcome_of a file) e
    by_front (x ∷ []) zip = absurd zip.1
    by_front (x ∷ y ∷ b) zip = absurd zip.1
    by_front [] zip =
        let whole = take_all n file (omega (arith, long)) in
        let of : IsFrontOf front.bytes.items file = record { rest = zip.0.is.rest; joined = zip.0.is.joined ∙ whole; thin = zip.0.is.thin; short = omega (arith, long, short) } in
        let Tell : Outcome → Type 0 = λ o. Tells o e in
        subst Tell (sym (front_outcome Nothing a front.bytes.items file of refl)) (tells_with_rest zip.0.is.rest (outcome_of a front.bytes.items) e tells)

file_tells : (a : Asked) (known : Option (List ℕ)) (read : SliceFronts) (file : List ℕ) (e : MachoCommandError) → AreFrontsRead known read → RefusesFronts a read.fronts.items e → known ≡ Some file → Tells (outcome_of a file) e
unfolding was_read
file_tells a known read file e (inl is) refuses knows =
    sliced_tells a file is.archs read.fronts.items e (is.has file knows).0 (slice_fronts known read file (was_read known read (inl is)) knows) refuses
file_tells a known read file e (inr is) refuses knows =
    thin_tells a file read.length read.fronts.items refuses.before refuses.behind refuses.front e (is.long file knows) is.short (slice_fronts known read file (was_read known read (inr is)) knows) refuses.are refuses.tells

pub refused_renewed : (ended : Error → Type 0) (choice : Signing) (meaning : MachoMeaning) (old : Option (List ℕ)) (read : SliceFronts) (e : MachoCommandError) → AreFrontsRead old read → RefusesFronts (asked meaning) read.fronts.items e → FailsPatch ended choice meaning old old e
refused_renewed ended choice meaning old read e is refuses =
    refused_by ended choice meaning old old (outcome_of (asked meaning) refuses.front.bytes.items) e refl refuses.tells (λ file knows.
    tells_signed (signs_of choice meaning) (asked meaning) file e (file_tells (asked meaning) old read file e is refuses knows))
