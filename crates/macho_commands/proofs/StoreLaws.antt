-- Of a file that is too long its first bytes tell as much as the whole.
use Rattle.std.proofs.Common.{◌≡◌, ◌≤◌, ◌-◌, ◌^◌, ◌⊎◌, inl, inr, if◌then◌else◌, ℕ, Bool, true, false, List, [], ◌∷◌, ◌++◌, length, take, drop, Option, Some, Ok, Err, refl, sym, ap, ◌∙◌, subst, arith}
use Rattle.std.specs.declared.io.Error.{Error}
use Rattle.byte_store.proofs.CauseLaws.{ended_later}
use Rattle.byte_store.proofs.LaidLaws.{length-laid}
use Rattle.byte_store.specs.Causes.{EndsBy}
use Rattle.byte_store.specs.declared.pieces.Piece.{Piece}
use Rattle.byte_store.specs.Composed.{Stands}
use Rattle.byte_store.specs.Fault.{BecomesLaid}
use Rattle.byte_store.specs.Known.{Becomes, Stays}
use Rattle.byte_store.specs.Laid.{LiesIn, Patch, laid, patches_of}
use Rattle.command_words.specs.Rows.{Text}
use Rattle.command_words.specs.declared.noting.Notes.{Notes}
use Rattle.arwen_macho.specs.declared.front.Front.{Front}
use Rattle.arwen_macho.specs.Fronts.{fronts_on}
use Rattle.macho_commands.specs.Failures.{WritesEnd}
use Rattle.macho_commands.specs.Stores.{FailsPatch, IsPartOf, Patched, Torn}
use Rattle.macho_commands_stores.specs.Loading.{IsFirstOf, IsFrontRead, IsLoaded}
use Rattle.macho_commands_stores.specs.Pieces.{ArePartsOf, ArePiecesOf}
use Rattle.macho_commands_stores.specs.declared.loading.Loaded.{Loaded}
use Rattle.macho_commands.specs.declared.signing.Signing.{Signing}
use Rattle.macho_commands.specs.declared.signing.Signs.{Signs}
use Rattle.macho_commands.specs.declared.signing.Signs.TheVariants.{Nothing, Touched, Whole}
use Rattle.macho_signatures.specs.Renewed.{laid as slots_on}
use Rattle.macho_signatures.specs.declared.renewal.Slot.{Slot}
use Rattle.macho_signing.specs.Thin.{Pages, all, since}
use Rattle.macho_commands.specs.Loading.{with_rest}
use Rattle.macho_commands.specs.Meaning.{MachoMeaning, file_of}
use Rattle.macho_commands.specs.Notes.{TellsBy, TellsCommand}
use Rattle.macho_commands.proofs.LoadedLaws.{front_outcome, front_shows, front_told, laid-append, stand_longer, tells_with_rest}
use Rattle.macho_commands.specs.declared.error.MachoCommandError.{MachoCommandError}
use Rattle.macho_commands.specs.declared.error.MachoCommandError.TheVariants.{Edits, Io, Macho, MachoBatch, Memory, Signing as signing, Unfit}
use Rattle.std.specs.List.{All}
use Rattle.std.specs.Prelude.{IsTrue}
use Rattle.std.proofs.lemmas.Bool.{cases_lt, cond-true, lt-ltb}
use Rattle.std.proofs.lemmas.List.{length-take-le, take-append-le, take_all}
use Rattle.macho_image.specs.Checks.{file_fault}
use Rattle.macho_image.specs.Fat.{table_fault}
use Rattle.macho_image.specs.declared.format.MachFault.TheVariants.{TooLong}
use Rattle.arwen_macho.specs.Found.{begins_fat, container_found, fat_found, found_fault}
use Rattle.arwen_macho.specs.Found.Found.{fault}
use Rattle.macho_commands.specs.Engine.{Asked, IsSignedOutcome, MayFail, Outcome, ShowsBy, Tells, Writes, asked, edited_file, outcome, outcome_by, outcome_of, sign_on, signs_of}
use Rattle.macho_commands.specs.Engine.Asked.{one, several}
use Rattle.macho_commands.specs.Engine.Outcome.{bytes, no_edits, no_file, not_signed, refused, refused_batch}

long_table : (file : List ℕ) → 2 ^ 32 ≤ length file → table_fault file ≡ Some TooLong
unfolding table_fault
long_table file long = cond-true _ _ _ (lt-ltb (2 ^ 32 - 1) (length file) (omega arith))

long_thin : (file : List ℕ) → 2 ^ 32 ≤ length file → file_fault file ≡ Some TooLong
unfolding file_fault
long_thin file long = cond-true _ _ _ (lt-ltb (2 ^ 32 - 1) (length file) (omega arith))

long_fat : (file : List ℕ) → 2 ^ 32 ≤ length file → fat_found file ≡ Some (fault TooLong)
unfolding fat_found
long_fat file long = rw (long_table file long) refl

-- a file of 4 GiB and more is found to be too long, whatever it holds
pub found_long : (file : List ℕ) → 2 ^ 32 ≤ length file → container_found file ≡ Some (fault TooLong)
unfolding container_found
found_long file long = either_way (begins_fat file)
  where
    either_way : (fat : Bool) → (if fat then fat_found file else found_fault (file_fault file)) ≡ Some (fault TooLong)
    either_way true = long_fat file long
    either_way false = ap found_fault (long_thin file long)

-- the first 4 GiB of a file that is too long have the same outcome
long_outcome : (a : Asked) (first file : List ℕ) → container_found first ≡ Some (fault TooLong) → container_found file ≡ Some (fault TooLong) → outcome_of a first ≡ outcome_of a file
long_outcome (one call) first file one_long all_long = rw (one_long, all_long) refl
long_outcome (several (Ok calls)) first file one_long all_long = rw (one_long, all_long) refl
long_outcome (several (Err wrong)) first file one_long all_long = refl

pub first_outcome : (a : Asked) (file : List ℕ) → outcome_of a (take (2 ^ 32) file) ≡ outcome_of a file
first_outcome a file = elim (cases_lt (length file) (2 ^ 32)) [
  | inl short ↦ ap (outcome_of a) (take_all (2 ^ 32) file (omega arith))
  | inr long ↦
      let first : length (take (2 ^ 32) file) ≡ 2 ^ 32 = length-take-le (2 ^ 32) file long in
      long_outcome a (take (2 ^ 32) file) file (found_long (take (2 ^ 32) file) (omega arith)) (found_long file long)
]

-- a file that is too long gets no new bytes
long_makes_none : (a : Asked) (file new : List ℕ) → container_found file ≡ Some (fault TooLong) → outcome_of a file ≡ bytes new → ⊥
long_makes_none (one call) file new long makes =
    let e : no_file (fault TooLong) ≡ bytes new = ap (edited_file refused (call ∷ []) file) (sym long) ∙ makes in cc
long_makes_none (several (Ok calls)) file new long makes =
    let e : no_file (fault TooLong) ≡ bytes new = ap (edited_file refused_batch calls file) (sym long) ∙ makes in cc
long_makes_none (several (Err wrong)) file new long makes = cc

-- where the first 4 GiB of a file get new bytes, they are all of it
pub whole_of_first : (a : Asked) (file new : List ℕ) → outcome_of a (take (2 ^ 32) file) ≡ bytes new → take (2 ^ 32) file ≡ file
whole_of_first a file new makes = elim (cases_lt (length file) (2 ^ 32)) [
  | inl short ↦ take_all (2 ^ 32) file (omega arith)
  | inr long ↦
      let first : length (take (2 ^ 32) file) ≡ 2 ^ 32 = length-take-le (2 ^ 32) file long in
      absurd (long_makes_none a (take (2 ^ 32) file) new (found_long (take (2 ^ 32) file) (omega arith)) makes)
]

-- ---- signed outcomes of a file that is too long, and of its first 4 GiB

-- signing leaves the outcome of a file that is too long
sign_long : (pages : Pages) (a : Asked) (file : List ℕ) → container_found file ≡ Some (fault TooLong) → sign_on pages (outcome_of a file) ≡ outcome_of a file
sign_long pages (one call) file long = rw long refl
sign_long pages (several (Ok calls)) file long = rw long refl
sign_long pages (several (Err wrong)) file long = refl

long_first : (file : List ℕ) → 2 ^ 32 ≤ length file → container_found (take (2 ^ 32) file) ≡ Some (fault TooLong)
long_first file long =
    let first : length (take (2 ^ 32) file) ≡ 2 ^ 32 = length-take-le (2 ^ 32) file long in
    found_long (take (2 ^ 32) file) (omega (arith, first))

first_signed : (pages rest : Pages) (a : Asked) (file : List ℕ) → 2 ^ 32 ≤ length file → sign_on pages (outcome_of a (take (2 ^ 32) file)) ≡ sign_on rest (outcome_of a file)
first_signed pages rest a file long =
    sign_long pages a (take (2 ^ 32) file) (long_first file long) ∙ first_outcome a file ∙ sym (sign_long rest a file (found_long file long))

pub first_outcome_by : (signs : Signs) (a : Asked) (file : List ℕ) → outcome_by signs a (take (2 ^ 32) file) ≡ outcome_by signs a file
first_outcome_by Nothing a file = first_outcome a file
first_outcome_by Touched a file = elim (cases_lt (length file) (2 ^ 32)) [
  | inl short ↦ ap (outcome_by Touched a) (take_all (2 ^ 32) file (omega (arith, short)))
  | inr long ↦ first_signed (since (take (2 ^ 32) file)) (since file) a file long
]
first_outcome_by Whole a file = first_signed_all a file
  where
    first_signed_all : (a' : Asked) (file' : List ℕ) → sign_on all (outcome_of a' (take (2 ^ 32) file')) ≡ sign_on all (outcome_of a' file')
    first_signed_all a' file' = ap (sign_on all) (first_outcome a' file')

long_signs_none : (pages : Pages) (a : Asked) (file new : List ℕ) → container_found file ≡ Some (fault TooLong) → sign_on pages (outcome_of a file) ≡ bytes new → ⊥
long_signs_none pages a file new long makes = long_makes_none a file new long (sym (sign_long pages a file long) ∙ makes)

whole_of_first_by : (signs : Signs) (a : Asked) (file new : List ℕ) → outcome_by signs a (take (2 ^ 32) file) ≡ bytes new → take (2 ^ 32) file ≡ file
whole_of_first_by Nothing a file new makes = whole_of_first a file new makes
whole_of_first_by Touched a file new makes = elim (cases_lt (length file) (2 ^ 32)) [
  | inl short ↦ take_all (2 ^ 32) file (omega (arith, short))
  | inr long ↦ absurd (long_signs_none (since (take (2 ^ 32) file)) a (take (2 ^ 32) file) new (long_first file long) makes)
]
whole_of_first_by Whole a file new makes = elim (cases_lt (length file) (2 ^ 32)) [
  | inl short ↦ take_all (2 ^ 32) file (omega (arith, short))
  | inr long ↦ absurd (long_signs_none all a (take (2 ^ 32) file) new (long_first file long) makes)
]

-- ---- a run over a store, of which the first 4 GiB were read, or a front where no slot is made anew

abbrev Reads : Signs → Loaded → List ℕ → Type 0
Reads signs loaded file = IsFirstOf loaded file ⊎ ((signs ≡ Nothing) × IsFrontRead loaded file)

-- what was read of a file whose bytes are known
pub record ReadsStore (signs : Signs) (old : Option (List ℕ)) (loaded : Loaded) : Type 0 where
  pub enough : Bool
  pub leaves : IsTrue enough → signs ≡ Nothing
  pub is : IsLoaded enough old loaded

reads_file : (signs : Signs) (old : Option (List ℕ)) (loaded : Loaded) (file : List ℕ) → ReadsStore signs old loaded → old ≡ Some file → Reads signs loaded file
reads_file signs old loaded file reads known = elim (reads.is file known) [
  | inl first ↦ inl first
  | inr front ↦ inr (reads.leaves front.0, front.1)
]

-- where new bytes are made of what was read, that was all of the file
whole_read : (signs : Signs) (a : Asked) (loaded : Loaded) (file new : List ℕ) → IsFirstOf loaded file → outcome_by signs a loaded.bytes.items ≡ bytes new → loaded.bytes.items ≡ file
whole_read signs a loaded file new first makes =
    first.first ∙ whole_of_first_by signs a file new (ap (outcome_by signs a) (sym first.first) ∙ makes)

-- what a file becomes by patches of what was read
pub record MakesOf (signs : Signs) (a : Asked) (loaded : Loaded) (patches : List Patch) (file : List ℕ) : Type 0 where
  pub is : outcome_by signs a file ≡ bytes (laid patches file)
  pub shows : ShowsBy signs a file (laid patches file)
  pub stand : All (Stands (laid patches file)) patches
  pub long : length file ≡ loaded.length

makes_of : (signs : Signs) (a : Asked) (loaded : Loaded) (patches : List Patch) (file : List ℕ) → Reads signs loaded file → All (LiesIn (length loaded.bytes.items)) patches → outcome_by signs a loaded.bytes.items ≡ bytes (laid patches loaded.bytes.items) → ShowsBy signs a loaded.bytes.items (laid patches loaded.bytes.items) → All (Stands (laid patches loaded.bytes.items)) patches → MakesOf signs a loaded patches file
makes_of signs a loaded patches file (inl first) inside makes shows stand =
    let Shown : List ℕ → Type 0 = λ l. ShowsBy signs a l (laid patches l) in
    let Stood : List ℕ → Type 0 = λ l. All (Stands (laid patches l)) patches in
    let whole : loaded.bytes.items ≡ file = whole_read signs a loaded file (laid patches loaded.bytes.items) first makes in
    record {
      is = ap (outcome_by signs a) (sym whole) ∙ makes ∙ ap (λ (l : List ℕ). bytes (laid patches l)) whole;
      shows = subst Shown whole shows;
      stand = subst Stood whole stand;
      long = ap length (sym whole) ∙ sym first.long;
    }
makes_of signs a loaded patches file (inr (leaves, read)) inside makes shows stand =
    let front : List ℕ = loaded.bytes.items in
    let rest : List ℕ = read.front.rest in
    let over : laid patches front ++ rest ≡ laid patches file = sym (laid-append patches front rest inside) ∙ ap (laid patches) read.front.joined in
    let Shown : List ℕ → Type 0 = ShowsBy signs a file in
    let Stood : List ℕ → Type 0 = λ l. All (Stands l) patches in
    record {
      is = front_outcome signs a front file read.front leaves ∙ ap (with_rest rest) makes ∙ ap (λ (l : List ℕ). bytes l) over;
      shows = subst Shown over (front_shows signs a front file (laid patches front) read.front leaves shows);
      stand = subst Stood over (stand_longer patches front rest inside stand);
      long = sym read.long;
    }

-- what a file becomes by what a command writes
pub makes_store : (choice : Signing) (meaning : MachoMeaning) (old : Option (List ℕ)) (loaded : Loaded) (fronts : List Front) (slots : List Slot) (pieces : List Piece) (file : List ℕ) → ReadsStore (signs_of choice meaning) old loaded → old ≡ Some file → Writes choice meaning loaded.bytes.items fronts slots → ArePartsOf loaded.bytes.items (slots_on slots (fronts_on fronts loaded.bytes.items)) pieces → MakesOf (signs_of choice meaning) (asked meaning) loaded (patches_of pieces) file
makes_store choice meaning old loaded fronts slots pieces file reads known writes are =
    let Made : List ℕ → Type 0 = λ l. IsSignedOutcome choice meaning loaded.bytes.items l in
    let Stood : List ℕ → Type 0 = λ l. All (Stands l) (patches_of pieces) in
    makes_of (signs_of choice meaning) (asked meaning) loaded (patches_of pieces) file (reads_file (signs_of choice meaning) old loaded file reads known)
    are.inside (writes.is ∙ ap (λ (l : List ℕ). bytes l) (sym are.same)) (subst Made (sym are.same) writes.shows)
    (subst Stood (sym are.same) are.stand)

-- bytes that were written through
pub shown_back : (n : ℕ) (now new items made : List ℕ) → now ≡ take n (new ++ drop (length new) items) → n ≤ length new → length new ≤ n → new ≡ made → now ≡ made
shown_back n now new items made is few many same = is ∙ take-append-le n new (drop (length new) items) few ∙ take_all n new many ∙ same

-- pieces that were lent again with what stands in their places, in bytes that were written through
pub standing_inside : (given now : List ℕ) (fronts : List Front) (slots : List Slot) (changes lent : List Piece) → ArePiecesOf given (slots_on slots (fronts_on fronts given)) changes → now ≡ slots_on slots (fronts_on fronts given) → lent ≡ changes → All (LiesIn (length now)) (patches_of lent)
standing_inside given now fronts slots changes lent are made same =
    let long : length given ≡ length now = sym (ap length made ∙ ap length (sym are.same) ∙ length-laid (patches_of changes) given are.inside) in
    let Inside : ℕ → Type 0 = λ n. All (LiesIn n) (patches_of lent) in
    let Lent : List Piece → Type 0 = λ l. All (LiesIn (length given)) (patches_of l) in
    subst Inside long (subst Lent (sym same) are.inside)

pub standing_parts : (file given now : List ℕ) (fronts : List Front) (slots : List Slot) (changes lent standing back : List Piece) → given ≡ file → ArePiecesOf given (slots_on slots (fronts_on fronts given)) changes → now ≡ slots_on slots (fronts_on fronts given) → lent ≡ changes → ((f : List ℕ) → ArePiecesOf f now lent → ArePartsOf f now standing) → back ≡ standing → ArePartsOf file (slots_on slots (fronts_on fronts file)) back
standing_parts file given now fronts slots changes lent standing back was are made same lends shown =
    let To : List ℕ → Type 0 = λ l. ArePiecesOf given l changes in
    let Lent : List Piece → Type 0 = λ l. ArePiecesOf given now l in
    let Back : List Piece → Type 0 = λ l. ArePartsOf given now l in
    let Made : List ℕ → Type 0 = λ l. ArePartsOf given l back in
    let Of : List ℕ → Type 0 = λ l. ArePartsOf l (slots_on slots (fronts_on fronts l)) back in
    subst Of was (subst Made made (subst Back (sym shown) (lends given (subst Lent (sym same) (subst To (sym made) are)))))

tells_file : (signs : Signs) (a : Asked) (loaded : Loaded) (file : List ℕ) (e : MachoCommandError) → Reads signs loaded file → Tells (outcome_by signs a loaded.bytes.items) e → Tells (outcome_by signs a file) e
tells_file signs a loaded file e (inl first) tells =
    let P : Outcome → Type 0 = λ o. Tells o e in
    subst P (ap (outcome_by signs a) first.first ∙ first_outcome_by signs a file) tells
tells_file signs a loaded file e (inr (leaves, read)) tells =
    let P : Outcome → Type 0 = λ o. Tells o e in
    subst P (sym (front_outcome signs a loaded.bytes.items file read.front leaves)) (tells_with_rest read.front.rest (outcome_by signs a loaded.bytes.items) e tells)

tells_all : (choice : Signing) (meaning : MachoMeaning) (old : Option (List ℕ)) (loaded : Loaded) (e : MachoCommandError) → ReadsStore (signs_of choice meaning) old loaded → Tells (outcome choice meaning loaded.bytes.items) e → (file : List ℕ) → old ≡ Some file → Tells (outcome choice meaning file) e
tells_all choice meaning old loaded e reads tells file known =
    tells_file (signs_of choice meaning) (asked meaning) loaded file e (reads_file (signs_of choice meaning) old loaded file reads known) tells

-- an error that tells some outcome, and where the bytes are known theirs
pub refused_by : (ended : Error → Type 0) (choice : Signing) (meaning : MachoMeaning) (old mid : Option (List ℕ)) (o : Outcome) (e : MachoCommandError) → Stays old mid → Tells o e → ((file : List ℕ) → old ≡ Some file → Tells (outcome choice meaning file) e) → FailsPatch ended choice meaning old mid e
refused_by ended choice meaning old mid o (Io e) kept some tells = absurd some
refused_by ended choice meaning old mid o Memory kept some tells = (kept, tells)
refused_by ended choice meaning old mid o (Macho e) kept some tells = (kept, tells)
refused_by ended choice meaning old mid o (MachoBatch e) kept some tells = (kept, tells)
refused_by ended choice meaning old mid o (Edits e) kept some tells = (kept, tells)
refused_by ended choice meaning old mid o (signing e) kept some tells = (kept, tells)
refused_by ended choice meaning old mid o Unfit kept some tells = (kept, tells)

pub refused_store : (ended : Error → Type 0) (choice : Signing) (meaning : MachoMeaning) (old mid : Option (List ℕ)) (loaded : Loaded) (e : MachoCommandError) → ReadsStore (signs_of choice meaning) old loaded → Stays old mid → Tells (outcome choice meaning loaded.bytes.items) e → FailsPatch ended choice meaning old mid e
refused_store ended choice meaning old mid loaded e reads kept tells =
    refused_by ended choice meaning old mid (outcome choice meaning loaded.bytes.items) e kept tells (tells_all choice meaning old loaded e reads tells)

pub patched_store : (choice : Signing) (meaning : MachoMeaning) (old mid new : Option (List ℕ)) (loaded : Loaded) (fronts : List Front) (slots : List Slot) (pieces : List Piece) → ReadsStore (signs_of choice meaning) old loaded → Stays old mid → Writes choice meaning loaded.bytes.items fronts slots → ArePartsOf loaded.bytes.items (slots_on slots (fronts_on fronts loaded.bytes.items)) pieces → Becomes (laid (patches_of pieces)) mid new → Patched choice meaning old new
patched_store choice meaning old mid new loaded fronts slots pieces reads kept writes are becomes file known =
    let makes = makes_store choice meaning old loaded fronts slots pieces file reads known writes are in
    (laid (patches_of pieces) file, makes.is, becomes file (kept ∙ known), makes.shows)

-- where slots are made anew behind edits, the edits alone make something
alone_on : (pages : Pages) (o : Outcome) (new : List ℕ) → sign_on pages o ≡ bytes new → (edited : List ℕ) × (o ≡ bytes edited)
alone_on pages (bytes edited) new is = (edited, refl)
alone_on pages (no_edits wrong) new is = absurd (let no : no_edits wrong ≡ bytes new = is in cc)
alone_on pages (no_file found) new is = absurd (let no : no_file found ≡ bytes new = is in cc)
alone_on pages (refused refusal) new is = absurd (let no : refused refusal ≡ bytes new = is in cc)
alone_on pages (refused_batch refusal) new is = absurd (let no : refused_batch refusal ≡ bytes new = is in cc)
alone_on pages (not_signed why) new is = absurd (let no : not_signed why ≡ bytes new = is in cc)

edits_alone : (signs : Signs) (a : Asked) (file new : List ℕ) → outcome_by signs a file ≡ bytes new → (edited : List ℕ) × (outcome_of a file ≡ bytes edited)
edits_alone Nothing a file new is = (new, is)
edits_alone Touched a file new is = alone_on (since file) (outcome_of a file) new is
edits_alone Whole a file new is = alone_on all (outcome_of a file) new is

all_parts_of : (edited made : List ℕ) (patches : List Patch) → All (Stands made) patches → All (IsPartOf edited made) patches
all_parts_of edited made patches stand = λ i d below. inr (stand i d below)

pub torn_store : (choice : Signing) (meaning : MachoMeaning) (old mid new : Option (List ℕ)) (loaded : Loaded) (fronts : List Front) (slots : List Slot) (pieces : List Piece) → ReadsStore (signs_of choice meaning) old loaded → Stays old mid → Writes choice meaning loaded.bytes.items fronts slots → ArePartsOf loaded.bytes.items (slots_on slots (fronts_on fronts loaded.bytes.items)) pieces → Stays mid new ⊎ BecomesLaid (patches_of pieces) mid new → Stays old new ⊎ Torn choice meaning old new
torn_store choice meaning old mid new loaded fronts slots pieces reads kept writes are (inl stays) = inl (stays ∙ kept)
torn_store choice meaning old mid new loaded fronts slots pieces reads kept writes are (inr laid_first) = inr (λ file known.
    let makes = makes_store choice meaning old loaded fronts slots pieces file reads known writes are in
    let made : List ℕ = laid (patches_of pieces) file in
    let alone = edits_alone (signs_of choice meaning) (asked meaning) file made makes.is in
    record {
      patches = patches_of pieces;
      makes = makes.is;
      edited = alone.0;
      is_edited = alone.1;
      stand = all_parts_of alone.0 made (patches_of pieces) makes.stand;
      count = laid_first.0;
      first = laid_first.1 file (kept ∙ known);
    })

-- writes behind reads ended by an error, and left the bytes or tore them
pub torn_by : (writes : Error → Type 0) (none : Type 0) (choice : Signing) (meaning : MachoMeaning) (old new : Option (List ℕ)) (e : Error) (a b c : ℕ) → a ≤ b → EndsBy writes none e b c → Stays old new ⊎ Torn choice meaning old new → FailsPatch (WritesEnd writes none a c) choice meaning old new (Io e)
torn_by writes none choice meaning old new e a b c grows ends (inl kept) = inl kept
torn_by writes none choice meaning old new e a b c grows ends (inr torn) = inr (ended_later writes none e a b c grows ends, torn)

-- the line that is told of what was read is told of the file
told_file : (signs : Signs) (n : Notes) (a : Asked) (path : Text) (loaded : Loaded) (file new : List ℕ) (told : Text) → Reads signs loaded file → outcome_by signs a loaded.bytes.items ≡ bytes new → TellsBy signs n a path loaded.bytes.items told → TellsBy signs n a path file told
told_file signs n a path loaded file new told (inl first) makes tells =
    let P : List ℕ → Type 0 = λ l. TellsBy signs n a path l told in
    subst P (whole_read signs a loaded file new first makes) tells
told_file signs n a path loaded file new told (inr (leaves, read)) makes tells = front_told signs n a path loaded.bytes.items file told read.front leaves tells

pub told_all : (choice : Signing) (meaning : MachoMeaning) (n : Notes) (old : Option (List ℕ)) (loaded : Loaded) (fronts : List Front) (slots : List Slot) (told : Text) → ReadsStore (signs_of choice meaning) old loaded → Writes choice meaning loaded.bytes.items fronts slots → TellsCommand choice meaning n loaded.bytes.items told → (file : List ℕ) → old ≡ Some file → TellsCommand choice meaning n file told
told_all choice meaning n old loaded fronts slots told reads writes tells file known =
    told_file (signs_of choice meaning) n (asked meaning) (file_of meaning) loaded file (slots_on slots (fronts_on fronts loaded.bytes.items)) told
    (reads_file (signs_of choice meaning) old loaded file reads known) writes.is tells

-- an error that tells an outcome is one that the command may have
pub may_fail : (choice : Signing) (meaning : MachoMeaning) (file : List ℕ) (e : MachoCommandError) → Tells (outcome choice meaning file) e → MayFail meaning e
may_fail choice meaning file Memory tells = tt
may_fail choice meaning file (Io e) tells = absurd tells
may_fail choice meaning file (Macho e) tells = (choice, file, tells)
may_fail choice meaning file (MachoBatch e) tells = (choice, file, tells)
may_fail choice meaning file (Edits e) tells = (choice, file, tells)
may_fail choice meaning file (signing e) tells = inl (choice, file, tells)
may_fail choice meaning file Unfit tells = absurd tells
