-- Edits of a fat file by the fronts of its slices, in the order in which they are made.
use Rattle.std.proofs.Common.{◌≡◌, ◌≢◌, ◌≤◌, ◌<◌, ◌^◌, ◌+◌, ◌∙◌, ◌⊎◌, ◌||◌, ℕ, inl, inr, Bool, true, false, List, [], ◌∷◌, ◌++◌, length, take, drop, map, get_or, append_assoc, Option, Some, refl, sym, ap, subst, arith}
use Rattle.std.specs.List.{All, list_any}
use Rattle.std.proofs.lemmas.List.{append-nil, drop_more, flat_map_more, length-drop, length-take-le, map-append, take-append-drop, take-append-le, take-take, take_all, take_more}
use Rattle.std.proofs.lemmas.List.Elements.{All-append, All-cons, All-head, All-nil, All-tail}
use Rattle.std.proofs.lemmas.List.Folds.{list_any-append}
use Rattle.arwen_macho.specs.Fronts.{fronts_on}
use Rattle.arwen_macho.specs.declared.front.Front.{Front}
use Rattle.byte_store.specs.Laid.{LiesIn, Patch, laid, patches_of}
use Rattle.byte_store.specs.Shown.{shifted}
use Rattle.byte_store.specs.Composed.{Stands, owned_patches}
use Rattle.byte_store.specs.declared.composed.OwnedPiece.{OwnedPiece}
use Rattle.byte_store.specs.declared.pieces.Piece.{Piece}
use Rattle.command_words.specs.Rows.{Text}
use Rattle.command_words.specs.declared.noting.Notes.{Notes}
use Rattle.command_words.specs.declared.noting.Notes.TheVariants.{LeftOut, Wanted}
use Rattle.std.specs.declared.io.Error.{Error}
use Rattle.byte_store.proofs.CauseLaws.{ended_later}
use Rattle.byte_store.specs.Fault.{BecomesLaid}
use Rattle.byte_store.specs.Known.{Becomes, Stays}
use Rattle.byte_store.specs.declared.reading.ReadError.TheVariants as read
use Rattle.macho_commands.specs.Engine.{Asked, IsSignedOutcome, MayFail, Outcome, ShowsBy, ShowsEdited, Tells, WritesEdits, asked, outcome, outcome_by, outcome_of, signs_of}
use Rattle.macho_commands.specs.Failures.{HasCause, WritesEnd}
use Rattle.macho_commands.specs.Meaning.{MachoMeaning, file_of}
use Rattle.macho_commands.specs.Stores.{FailsPatch, IsPartOf, Patched, Torn}
use Rattle.macho_commands.specs.declared.signing.Signing.{Signing}
use Rattle.macho_commands.specs.declared.signing.Signs.{Signs}
use Rattle.macho_commands.specs.declared.signing.Signs.TheVariants.{Nothing, Touched, Whole}
use Rattle.macho_commands.specs.Engine.Outcome.{bytes as new_bytes}
use Rattle.macho_commands.specs.Notes.{TellsBy, TellsWanted, TellsWantedAt, note_line}
use Rattle.macho_commands.specs.Sliced.{AddsFront, EditedSlice, IsLoadedFront, IsMade, MakesEdited, MakesFronts, RefusesFronts, TellsFronts, edited_bytes, is_signed_front, slice_patches}
use Rattle.macho_commands.specs.declared.error.MachoCommandError.{MachoCommandError}
use Rattle.macho_commands.specs.declared.error.MachoCommandError.TheVariants.{Edits, Io, Macho, MachoBatch, Memory, Signing as signing, Unfit}
use Rattle.macho_commands_stores.specs.Loading.{IsThinFront}
use Rattle.macho_commands_stores.specs.Pieces.{ArePartsOf}
use Rattle.macho_commands_stores.specs.Slices.{AreFrontsOf, AreRising, AreSlicesRead}
use Rattle.macho_commands_stores.specs.declared.slices.SliceFront.{SliceFront}
use Rattle.macho_commands_stores.specs.declared.slices.SliceFronts.{SliceFronts}
use Rattle.macho_commands_stores.proofs.SliceLaws.{later, rising_within}
use Rattle.macho_image.proofs.ForCallers.{found}
use Rattle.macho_image.specs.Fat.{slice_of, table_end}
use Rattle.macho_image.specs.declared.fat.FatArch.{FatArch}
use Rattle.macho_commands.proofs.SlicedLaws.{AreSliceFronts, sliced_found, sliced_makes, sliced_signed, sliced_tells}
use Rattle.macho_commands.proofs.StoreLaws.{may_fail, refused_by}

-- ---- one front more

-- the changes of a front lie in 4 GiB
pub low_changes : (front : List ℕ) (patches : List Patch) → IsThinFront front → All (LiesIn (length front)) patches → All (LiesIn (2 ^ 32)) patches
low_changes front patches is inside = λ i d below.
    let lies = inside i d below in
    let short : length front < 2 ^ 32 = (found front is.accepted).short in
    omega (arith, lies, short)

pub adds_front : (a : Asked) (front : SliceFront) (edited : List ℕ) (fronts : List Front) (pieces : List Piece) (old new : List Patch) → WritesEdits a front.bytes.items fronts → ArePartsOf front.bytes.items (fronts_on fronts front.bytes.items) pieces → new ≡ old ++ map (shifted front.offset) (patches_of pieces) → edited ≡ fronts_on fronts front.bytes.items → AddsFront a front edited old new
adds_front a front edited fronts pieces old new writes are push made =
    let Shown : List ℕ → Type 0 = ShowsEdited a front.bytes.items in
    let Stood : List ℕ → Type 0 = λ l. All (Stands l) (patches_of pieces) in (
      patches_of pieces,
      push,
      record {
        inside = are.inside;
        stand = subst Stood (sym are.same) are.stand;
        is = writes.is ∙ ap (λ (l : List ℕ). new_bytes l) (sym are.same);
        shows = subst Shown (sym are.same) writes.shows;
      },
      made ∙ sym are.same,
    )

makes_push : (a : Asked) (fronts : List SliceFront) (front : SliceFront) (edited : List ℕ) (old new : List Patch) → MakesFronts a fronts old → AddsFront a front edited old new → MakesFronts a (fronts ++ front ∷ []) new
makes_push a [] front edited old new makes adds =
    (adds.0, [], adds.1 ∙ ap (λ (l : List Patch). l ++ map (shifted front.offset) adds.0) makes ∙ sym (append-nil (map (shifted front.offset) adds.0)), adds.2, refl)
makes_push a (f ∷ fronts) front edited old new makes adds =
    let added : List Patch = map (shifted front.offset) adds.0 in (
      makes.0,
      makes.1 ++ added,
      adds.1 ∙ ap (λ (l : List Patch). l ++ added) makes.2 ∙ append_assoc (map (shifted f.offset) makes.0) makes.1 added,
      makes.3,
      makes_push a fronts front edited makes.1 (makes.1 ++ added) makes.4 (adds.0, refl, adds.2, adds.3),
    )

next_take : (fronts : List SliceFront) (i : ℕ) (front : SliceFront) → i < length fronts → front ≡ get_or fronts i front → take (i + 1) fronts ≡ take i fronts ++ front ∷ []
next_take fronts i front inside is = take_more fronts i front inside ∙ ap (λ (f : SliceFront). take i fronts ++ f ∷ []) (sym is)

pub makes_more : (a : Asked) (fronts : List SliceFront) (i : ℕ) (front : SliceFront) (edited : List ℕ) (old new : List Patch) → i < length fronts → front ≡ get_or fronts i front → MakesFronts a (take i fronts) old → AddsFront a front edited old new → MakesFronts a (take (i + 1) fronts) new
makes_more a fronts i front edited old new inside is makes adds =
    let P : List SliceFront → Type 0 = λ l. MakesFronts a l new in
    subst P (sym (next_take fronts i front inside is)) (makes_push a (take i fronts) front edited old new makes adds)

-- the new bytes of a front more are what it becomes

pub edited_more : (a : Asked) (fronts : List SliceFront) (i : ℕ) (front : SliceFront) (edited : List ℕ) (news nexts : List (List ℕ)) (old new : List Patch) → i < length fronts → front ≡ get_or fronts i front → MakesEdited a (take i fronts) news old → AddsFront a front edited old new → nexts ≡ news ++ edited ∷ [] → MakesEdited a (take (i + 1) fronts) nexts new
edited_more a fronts i front edited news nexts old new inside is makes adds push =
    let slice : EditedSlice = record { front = front; here = adds.0 } in
    let front_in : EditedSlice → SliceFront = λ e. e.front in
    record {
      all = makes.all ++ slice ∷ [];
      fronts_are =
          map-append front_in makes.all (slice ∷ [])
          ∙ ap (λ (l : List SliceFront). l ++ front ∷ []) makes.fronts_are
          ∙ sym (next_take fronts i front inside is);
      news_are =
          map-append edited_bytes makes.all (slice ∷ [])
          ∙ ap (λ (l : List (List ℕ)). l ++ edited_bytes slice ∷ []) makes.news_are
          ∙ ap (λ (l : List ℕ). news ++ l ∷ []) (sym adds.3)
          ∙ sym push;
      patches_are =
          adds.1
          ∙ ap (λ (l : List Patch). l ++ slice_patches slice) makes.patches_are
          ∙ flat_map_more slice_patches [] makes.all slice;
      each = All-append (IsMade a) makes.all (slice ∷ []) makes.each (All-cons (IsMade a) slice [] adds.2 (All-nil (IsMade a)));
    }

-- a slice that was written through is its Vec
pub written_back : (n : ℕ) (new items : List ℕ) → n ≤ length new → length new ≤ n → take n (new ++ drop (length new) items) ≡ new
written_back n new items few many = take-append-le n new (drop (length new) items) few ∙ take_all n new many

pub refuses_at : (a : Asked) (fronts : List SliceFront) (i : ℕ) (front : SliceFront) (patches : List Patch) (e : MachoCommandError) → i < length fronts → front ≡ get_or fronts i front → MakesFronts a (take i fronts) patches → Tells (outcome_of a front.bytes.items) e → RefusesFronts a fronts e
refuses_at a fronts i front patches e inside is makes tells = record {
  before = take i fronts;
  front = front;
  behind = drop (i + 1) fronts;
  patches = patches;
  are = sym (take-append-drop i fronts) ∙ ap (λ (l : List SliceFront). take i fronts ++ l) (drop_more fronts i front inside ∙ ap (λ (f : SliceFront). f ∷ drop (i + 1) fronts) (sym is));
  makes = makes;
  tells = tells;
}

-- the line of a front more
told_by : (b s : Bool) (path text told result : Text) → text ≡ note_line b path → told ≡ note_line s path → (text ≡ [] → result ≡ told) → (text ≢ [] → result ≡ text) → result ≡ note_line (b || (s || false)) path
told_by true s path text told result is tells none some = some (λ e. let no : note_line true path ≡ [] = sym is ∙ e in absurd (cc)) ∙ is
told_by false true path text told result is tells none some = none is ∙ tells
told_by false false path text told result is tells none some = none is ∙ tells

pub told_more : (n : Notes) (path : Text) (fronts : List SliceFront) (i : ℕ) (front : SliceFront) (text told result : Text) → i < length fronts → front ≡ get_or fronts i front → TellsFronts n path (take i fronts) text → TellsWanted n path front.bytes.items told → (text ≡ [] → result ≡ told) → (text ≢ [] → result ≡ text) → TellsFronts n path (take (i + 1) fronts) result
told_more Wanted path fronts i front text told result inside is tells here none some =
    let one : list_any is_signed_front (take (i + 1) fronts) ≡ (list_any is_signed_front (take i fronts) || (is_signed_front front || false)) =
    ap (list_any is_signed_front) (next_take fronts i front inside is) ∙ list_any-append is_signed_front (take i fronts) (front ∷ []) in
    told_by (list_any is_signed_front (take i fronts)) (is_signed_front front) path text told result tells here.1 none some
    ∙ ap (λ (b : Bool). note_line b path) (sym one)
told_more LeftOut path fronts i front text told result inside is tells here none some = none tells ∙ here

-- ---- fronts that were read

pub loaded_all : (known : Option (List ℕ)) (start size : ℕ) (archs : List FatArch) (fronts : List SliceFront) → size < 2 ^ 32 → AreRising start size archs → AreFrontsOf known archs fronts → All IsLoadedFront fronts
loaded_all known start size [] [] short rising are = All-nil IsLoadedFront
loaded_all known start size [] (front ∷ fronts) short rising are = absurd are
loaded_all known start size (arch ∷ archs) [] short rising are = absurd are
loaded_all known start size (arch ∷ archs) (front ∷ fronts) short rising are =
    let end : ℕ = arch.offset + arch.size in
    let within : end ≤ size = rising_within end size archs rising.2 in
    let at : front.offset ≡ arch.offset = are.0.offset in
    All-cons IsLoadedFront front fronts (record { low = omega arith; thin = are.0.thin }) (loaded_all known end size archs fronts short rising.2 are.1)

lies_in : (at size : ℕ) (front : List ℕ) (patches : List Patch) → at + length front ≤ size → All (LiesIn (length front)) patches → All (LiesIn size) (map (shifted at) patches)
lies_in at size front [] room inside = All-nil (LiesIn size)
lies_in at size front (patch ∷ patches) room inside =
    let lies = All-head (LiesIn (length front)) patch patches inside in
    All-cons (LiesIn size) (shifted at patch) (map (shifted at) patches) (omega (arith, lies, room)) (lies_in at size front patches room (All-tail (LiesIn (length front)) patch patches inside))

pub inside_all : (a : Asked) (known : Option (List ℕ)) (start size : ℕ) (archs : List FatArch) (fronts : List SliceFront) (patches : List Patch) → AreRising start size archs → AreFrontsOf known archs fronts → MakesFronts a fronts patches → All (LiesIn size) patches
inside_all a known start size [] [] patches rising are makes =
    let P : List Patch → Type 0 = All (LiesIn size) in
    subst P (sym makes) (All-nil (LiesIn size))
inside_all a known start size [] (front ∷ fronts) patches rising are makes = absurd are
inside_all a known start size (arch ∷ archs) [] patches rising are makes = absurd are
inside_all a known start size (arch ∷ archs) (front ∷ fronts) patches rising are makes =
    let end : ℕ = arch.offset + arch.size in
    let within : end ≤ size = rising_within end size archs rising.2 in
    let at : front.offset ≡ arch.offset = are.0.offset in
    let fits : length front.bytes.items ≤ arch.size = are.0.within in
    let here = lies_in front.offset size front.bytes.items makes.0 (omega arith) makes.3.inside in
    let P : List Patch → Type 0 = All (LiesIn size) in
    subst P (sym makes.2) (All-append (LiesIn size) (map (shifted front.offset) makes.0) makes.1 here (inside_all a known end size archs fronts makes.1 rising.2 are.1 makes.4))

pub slices_of : (known : Option (List ℕ)) (file : List ℕ) (start size : ℕ) (archs : List FatArch) (fronts : List SliceFront) → known ≡ Some file → length file ≡ size → size < 2 ^ 32 → AreRising start size archs → AreFrontsOf known archs fronts → AreSliceFronts file archs fronts
slices_of known file start size [] [] is long short rising are = tt
slices_of known file start size [] (front ∷ fronts) is long short rising are = absurd are
slices_of known file start size (arch ∷ archs) [] is long short rising are = absurd are
slices_of known file start size (arch ∷ archs) (front ∷ fronts) is long short rising are =
    let end : ℕ = arch.offset + arch.size in
    let within : end ≤ size = rising_within end size archs rising.2 in
    let slice : List ℕ = slice_of file arch in
    let front' : List ℕ = front.bytes.items in
    let n : ℕ = length front' in
    let fits : n ≤ arch.size = are.0.within in
    let many : length slice ≡ arch.size = length-take-le arch.size (drop arch.offset file) (omega (arith, length-drop arch.offset file)) in
    let same : front' ≡ take n slice = are.0.read file is ∙ sym (take-take n arch.size (drop arch.offset file) fits) in (
      record {
        offset = are.0.offset;
        size = are.0.size;
        is = record { rest = drop n slice; joined = ap (λ (l : List ℕ). l ++ drop n slice) same ∙ take-append-drop n slice; thin = are.0.thin; short = omega (arith, many) };
        long = many;
      },
      slices_of known file end size archs fronts is long short rising.2 are.1,
    )

-- ---- a run over a store

outcome_plain : (signs : Signs) (a : Asked) (file : List ℕ) → signs ≡ Nothing → outcome_by signs a file ≡ outcome_of a file
outcome_plain Nothing a file leaves = refl
outcome_plain Touched a file leaves = absurd (cc)
outcome_plain Whole a file leaves = absurd (cc)

shows_plain : (signs : Signs) (a : Asked) (file new : List ℕ) → signs ≡ Nothing → ShowsEdited a file new → ShowsBy signs a file new
shows_plain Nothing a file new leaves shows = shows
shows_plain Touched a file new leaves shows = absurd (cc)
shows_plain Whole a file new leaves shows = absurd (cc)

told_plain : (signs : Signs) (n : Notes) (a : Asked) (path : Text) (file : List ℕ) (told : Text) → signs ≡ Nothing → TellsWanted n path file told → TellsBy signs n a path file told
told_plain Nothing n a path file told leaves tells = tells
told_plain Touched n a path file told leaves tells = absurd (cc)
told_plain Whole n a path file told leaves tells = absurd (cc)

-- the slices of a file that were read
read_slices : (known : Option (List ℕ)) (read : SliceFronts) (file : List ℕ) (is : AreSlicesRead known read) → known ≡ Some file → AreSliceFronts file is.archs read.fronts.items
read_slices known read file is knows = slices_of known file (table_end (length is.archs)) read.length is.archs read.fronts.items knows (is.has file knows).1 is.short is.rising is.fronts

record MakesFile (choice : Signing) (meaning : MachoMeaning) (patches : List Patch) (file : List ℕ) : Type 0 where
  is : outcome choice meaning file ≡ new_bytes (laid patches file)
  shows : IsSignedOutcome choice meaning file (laid patches file)
  alone : outcome_of (asked meaning) file ≡ new_bytes (laid patches file)
  stand : All (Stands (laid patches file)) patches

makes_file : (choice : Signing) (meaning : MachoMeaning) (known : Option (List ℕ)) (read : SliceFronts) (patches : List Patch) (file : List ℕ) → signs_of choice meaning ≡ Nothing → AreSlicesRead known read → MakesFronts (asked meaning) read.fronts.items patches → known ≡ Some file → MakesFile choice meaning patches file
makes_file choice meaning known read patches file leaves is makes knows =
    let start : ℕ = table_end (length is.archs) in
    let has = is.has file knows in
    let Rising : ℕ → Type 0 = λ n. AreRising start n is.archs in
    let all = sliced_makes (asked meaning) file start is.archs read.fronts.items patches is.some has.0 (subst Rising (sym has.1) is.rising) (read_slices known read file is knows) makes in
    record {
      is = outcome_plain (signs_of choice meaning) (asked meaning) file leaves ∙ all.0;
      shows = shows_plain (signs_of choice meaning) (asked meaning) file (laid patches file) leaves all.1;
      alone = all.0;
      stand = all.2;
    }

pub patched_slices : (choice : Signing) (meaning : MachoMeaning) (old new : Option (List ℕ)) (read : SliceFronts) (patches : List Patch) → signs_of choice meaning ≡ Nothing → AreSlicesRead old read → MakesFronts (asked meaning) read.fronts.items patches → Becomes (laid patches) old new → Patched choice meaning old new
patched_slices choice meaning old new read patches leaves is makes becomes file knows =
    let all = makes_file choice meaning old read patches file leaves is makes knows in
    (laid patches file, all.is, becomes file knows, all.shows)

pub parts_of_edited : (edited made : List ℕ) (patches : List Patch) → All (Stands edited) patches → All (IsPartOf edited made) patches
parts_of_edited edited made patches stand = λ i d below. inl (stand i d below)

pub torn_slices : (choice : Signing) (meaning : MachoMeaning) (old new : Option (List ℕ)) (read : SliceFronts) (patches : List Patch) → signs_of choice meaning ≡ Nothing → AreSlicesRead old read → MakesFronts (asked meaning) read.fronts.items patches → Stays old new ⊎ BecomesLaid patches old new → Stays old new ⊎ Torn choice meaning old new
torn_slices choice meaning old new read patches leaves is makes (inl stays) = inl stays
torn_slices choice meaning old new read patches leaves is makes (inr laid_first) = inr (λ file knows.
    let all = makes_file choice meaning old read patches file leaves is makes knows in
    record {
      patches = patches;
      makes = all.is;
      edited = laid patches file;
      is_edited = all.alone;
      stand = parts_of_edited (laid patches file) (laid patches file) patches all.stand;
      count = laid_first.0;
      first = laid_first.1 file knows;
    })

pub refused_slices : (ended : Error → Type 0) (choice : Signing) (meaning : MachoMeaning) (old : Option (List ℕ)) (read : SliceFronts) (e : MachoCommandError) → signs_of choice meaning ≡ Nothing → AreSlicesRead old read → RefusesFronts (asked meaning) read.fronts.items e → FailsPatch ended choice meaning old old e
refused_slices ended choice meaning old read e leaves is refuses =
    let P : Outcome → Type 0 = λ o. Tells o e in
    refused_by ended choice meaning old old (outcome_of (asked meaning) refuses.front.bytes.items) e refl refuses.tells (λ file knows.
    subst P (sym (outcome_plain (signs_of choice meaning) (asked meaning) file leaves))
    (sliced_tells (asked meaning) file is.archs read.fronts.items e (is.has file knows).0 (read_slices old read file is knows) refuses))

pub may_refuse : (choice : Signing) (meaning : MachoMeaning) (fronts : List SliceFront) (e : MachoCommandError) → signs_of choice meaning ≡ Nothing → RefusesFronts (asked meaning) fronts e → MayFail meaning e
may_refuse choice meaning fronts e leaves refuses =
    let P : Outcome → Type 0 = λ o. Tells o e in
    let front : List ℕ = refuses.front.bytes.items in
    may_fail choice meaning front e (subst P (sym (outcome_plain (signs_of choice meaning) (asked meaning) front leaves)) refuses.tells)

pub told_slices : (n : Notes) (choice : Signing) (meaning : MachoMeaning) (known : Option (List ℕ)) (read : SliceFronts) (told : Text) → signs_of choice meaning ≡ Nothing → AreSlicesRead known read → TellsFronts n (file_of meaning) read.fronts.items told → TellsWantedAt choice meaning n known told
told_slices LeftOut choice meaning known read told leaves is tells = tells
told_slices Wanted choice meaning known read told leaves is tells = λ file knows.
    let has = (is.has file knows).0 in
    let slices = read_slices known read file is knows in
    told_plain (signs_of choice meaning) Wanted (asked meaning) (file_of meaning) file told leaves
    (sliced_found file is.archs read.fronts.items has slices, tells ∙ ap (λ (b : Bool). note_line b (file_of meaning)) (sym (sliced_signed file is.archs read.fronts.items has slices)))

-- ---- after the slices were looked for

pub caused_later : (reads writes : Error → Type 0) (none : Type 0) (old mid : Option (List ℕ)) (e : MachoCommandError) (a b c : ℕ) → mid ≡ old → a ≤ b → HasCause reads writes none mid b c e → HasCause reads writes none old a c e
caused_later reads writes none old mid (Io e) a b c same grows (inl is) = inl (later reads old mid (read.Io e) a b c same grows is)
caused_later reads writes none old mid (Io e) a b c same grows (inr is) = inr (ended_later writes none e a b c grows is)
caused_later reads writes none old mid Memory a b c same grows is = tt
caused_later reads writes none old mid (Macho e) a b c same grows is = tt
caused_later reads writes none old mid (MachoBatch e) a b c same grows is = tt
caused_later reads writes none old mid (Edits e) a b c same grows is = tt
caused_later reads writes none old mid (signing e) a b c same grows is = tt
caused_later reads writes none old mid Unfit a b c same grows is = tt

-- counts may begin before a call that left the bytes
fails_later : (writes : Error → Type 0) (none : Type 0) (choice : Signing) (meaning : MachoMeaning) (old new : Option (List ℕ)) (e : MachoCommandError) (a b c : ℕ) → a ≤ b → FailsPatch (WritesEnd writes none b c) choice meaning old new e → FailsPatch (WritesEnd writes none a c) choice meaning old new e
fails_later writes none choice meaning old new (Io e) a b c grows (inl kept) = inl kept
fails_later writes none choice meaning old new (Io e) a b c grows (inr (ended, torn)) = inr (ended_later writes none e a b c grows ended, torn)
fails_later writes none choice meaning old new Memory a b c grows fails = fails
fails_later writes none choice meaning old new (Macho e) a b c grows fails = fails
fails_later writes none choice meaning old new (MachoBatch e) a b c grows fails = fails
fails_later writes none choice meaning old new (Edits e) a b c grows fails = fails
fails_later writes none choice meaning old new (signing e) a b c grows fails = fails
fails_later writes none choice meaning old new Unfit a b c grows fails = fails

pub left_later : (writes : Error → Type 0) (none : Type 0) (choice : Signing) (meaning : MachoMeaning) (old mid new : Option (List ℕ)) (e : MachoCommandError) (a b c : ℕ) → mid ≡ old → a ≤ b → FailsPatch (WritesEnd writes none b c) choice meaning mid new e → FailsPatch (WritesEnd writes none a c) choice meaning old new e
left_later writes none choice meaning old mid new e a b c same grows fails =
    let P : Option (List ℕ) → Type 0 = λ known. FailsPatch (WritesEnd writes none b c) choice meaning known new e in
    fails_later writes none choice meaning old new e a b c grows (subst P same fails)

-- what was made of lent fronts, by pieces that are lent
pub makes_lent : (a : Asked) (lent fronts : List SliceFront) (owned back : List OwnedPiece) (pieces now : List Piece) → lent ≡ fronts → now ≡ pieces → patches_of pieces ≡ owned_patches back → back ≡ owned → MakesFronts a lent (owned_patches owned) → MakesFronts a fronts (patches_of now)
makes_lent a lent fronts owned back pieces now same shown of is makes =
    let Fronts : List SliceFront → Type 0 = λ l. MakesFronts a l (owned_patches owned) in
    let Patches : List Patch → Type 0 = MakesFronts a fronts in
    subst Patches (sym (ap patches_of shown ∙ of ∙ ap owned_patches is)) (subst Fronts same makes)
