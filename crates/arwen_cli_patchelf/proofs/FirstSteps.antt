-- Answers that are given one after another, each by those before it.
use Rattle.std.proofs.Common.{◌≡◌, ◌∙◌, ℕ, zero, suc, ◌+◌, ◌<◌, Bool, true, false, ◌&&◌, ◌||◌, cond, List, [], ◌∷◌, ◌++◌, length, take, get_or, map, refl, sym, ap, subst, Some, Bor}
use Rattle.std.specs.Prelude.{slice_get}
use Rattle.std.specs.Str.{bytes_eq}
use Rattle.std.proofs.lemmas.List.{map-append, take_more}
use Rattle.std.proofs.lemmas.List.Folds.{list_any-append}
use Rattle.std.proofs.lemmas.Option.{none-some, same_Some}
use Rattle.elf_edits.specs.Changes.{has_name}
use Rattle.elf_edits.specs.Edit.{Answer, ShrinkRpath}
use Rattle.elf_edits.proofs.ForCallers.{other_way}
use Rattle.elf_edits_shrink.specs.ShrinkModel.{answer_model, pair_lent}
use Rattle.elf_edits_shrink.specs.declared.probe.ProbeAnswer.{ProbeAnswer}
use Rattle.elf_commands.specs.ElfAsked.{one}
use Rattle.elf_commands.specs.Groups.{plain}
use Rattle.elf_commands.specs.ElfEngine.{LeavesElf, TellsEdit}
use Rattle.elf_commands.specs.Shrinking.{Answers, Finding, asked_of}
use Rattle.elf_commands.specs.ElfCommandError.{ElfCommandError}
use Rattle.elf_commands.specs.ElfCommandError.TheVariants.{Edits, Elf, ElfBatch, Io, Memory}
use Rattle.arwen_cli_options.specs.Options.{Text}
use Rattle.arwen_cli_patchelf.specs.FirstFound.{AreFirstFound, AreFirstFoundIn, IsFirstFound, TellsFirstShrunk, finds_unless, has_nothing_to_shrink, is_found_for, is_settled}
use Rattle.arwen_cli_patchelf.specs.Made.{IsShrunkTo, IsShrunkUnless}

-- ## One more of them

-- what holds of each element by those before it
behind_more : {A : Type 0} (P : List A → A → Type 0) (xs : List A) (y : A) → ((i : ℕ) (x : A) → slice_get xs i ≡ Some x → P (take i xs) x) → P xs y
    → (i : ℕ) (x : A) → slice_get (xs ++ y ∷ []) i ≡ Some x → P (take i (xs ++ y ∷ [])) x
behind_more P [] y each here zero x at = subst (P []) (same_Some y x at) here
behind_more P [] y each here (suc i) x at = absurd (none-some x at)
behind_more P (z ∷ zs) y each here zero x at = each zero x at
behind_more P (z ∷ zs) y each here (suc i) x at = behind_more (λ l. P (z ∷ l)) zs y (λ j w is. each (suc j) w is) here i x at

or_none : (b : Bool) → (b || false) ≡ b
or_none true = refl
or_none false = refl

pairs_more : (pairs : List (Bor Text × Bor Text)) (i : ℕ) (pair : Bor Text × Bor Text) → i < length pairs → pair ≡ get_or pairs i pair
    → map pair_lent (take (i + 1) pairs) ≡ map pair_lent (take i pairs) ++ pair_lent pair ∷ []
pairs_more pairs i pair here is =
    ap (map pair_lent) (take_more pairs i pair here ∙ ap (λ (p : Bor Text × Bor Text). take i pairs ++ p ∷ []) (sym is))
    ∙ map-append pair_lent (take i pairs) (pair ∷ [])

module _ (finds : Finding) (prefixes : List Text) (machine : ℕ) where
  more : (questions : List (Text × Text)) (answers : List Answer) (q : Text × Text) (a : Answer) → AreFirstFound finds prefixes machine questions answers → asked_of a ≡ q
      → IsFirstFound finds prefixes machine answers a → AreFirstFound finds prefixes machine (questions ++ q ∷ []) (answers ++ a ∷ [])
  more questions answers q a so_far asked found = record {
    asked =
        map-append asked_of answers (a ∷ [])
        ∙ ap (λ (l : List (Text × Text)). l ++ asked_of a ∷ []) so_far.asked
        ∙ ap (λ (p : Text × Text). questions ++ p ∷ []) asked;
    found = behind_more (IsFirstFound finds prefixes machine) answers a so_far.found found;
  }

  -- a library that is settled isn't looked for
  may_follow : (answers : List Answer) (a : Answer) (directory needed : Text) (s : Bool) → s ≡ is_settled prefixes machine answers needed
      → Answers (finds_unless s finds) directory needed a → IsFirstFound finds prefixes machine answers a
  may_follow answers a directory needed s known (asked, found) =
      subst (λ (b : Bool). finds_unless b finds a.directory a.needed a.machine) (known ∙ ap (is_settled prefixes machine answers) (sym (ap (λ (p : Text × Text). p.1) asked))) found

  -- an answer settles its library, where it was found
  settled_more : (answers : List Answer) (a : Answer) (name : Text) → is_settled prefixes machine (answers ++ a ∷ []) name
      ≡ (is_settled prefixes machine answers name || (is_found_for prefixes machine a && bytes_eq name a.needed))
  settled_more answers a name =
      let test : Answer → Bool = λ x. is_found_for prefixes machine x && bytes_eq name x.needed in
      list_any-append test answers (a ∷ []) ∙ ap (λ (b : Bool). is_settled prefixes machine answers name || b) (or_none (test a))

  module _ (pairs : List (Bor Text × Bor Text)) (i : ℕ) (pair : Bor Text × Bor Text) (given made : List ProbeAnswer) (answer : ProbeAnswer) (s : Bool) (pushed : made ≡ given ++ answer ∷ [])
      (old : List (Bor Text)) (so_far : (name : Text) → has_name old name ≡ is_settled prefixes machine (map answer_model given) name)
      (answers : Answers (finds_unless s finds) pair.0.now pair.1.now (answer_model answer)) where
    all_made : map answer_model made ≡ map answer_model given ++ answer_model answer ∷ []
    all_made = ap (λ (l : List ProbeAnswer). map answer_model l) pushed ∙ map-append answer_model given (answer ∷ [])

    pub answers_more : i < length pairs → pair ≡ get_or pairs i pair → s ≡ has_name old pair.1.now
        → AreFirstFound finds prefixes machine (map pair_lent (take i pairs)) (map answer_model given)
        → AreFirstFound finds prefixes machine (map pair_lent (take (i + 1) pairs)) (map answer_model made)
    answers_more here is known found =
        subst (λ (l : List (Text × Text)). AreFirstFound finds prefixes machine l (map answer_model made)) (sym (pairs_more pairs i pair here is))
        (subst (λ (l : List Answer). AreFirstFound finds prefixes machine (map pair_lent (take i pairs) ++ pair_lent pair ∷ []) l) (sym all_made)
        (more (map pair_lent (take i pairs)) (map answer_model given) (pair_lent pair) (answer_model answer) found answers.0
        (may_follow (map answer_model given) (answer_model answer) pair.0.now pair.1.now s (known ∙ so_far pair.1.now) answers)))

    -- the set of those that are settled
    pub set_more : (new : List (Bor Text)) (b : Bool) → b ≡ is_found_for prefixes machine (answer_model answer)
        → ((name : Text) → has_name new name ≡ (has_name old name || (b && bytes_eq name pair.1.now)))
        → (name : Text) → has_name new name ≡ is_settled prefixes machine (map answer_model made) name
    set_more new b is put name =
        put name
        ∙ ap (λ (c : Bool). c || (b && bytes_eq name pair.1.now)) (so_far name)
        ∙ ap (λ (c : Bool). is_settled prefixes machine (map answer_model given) name || (c && bytes_eq name pair.1.now)) is
        ∙ ap (λ (n : Text). is_settled prefixes machine (map answer_model given) name || (is_found_for prefixes machine (answer_model answer) && bytes_eq name n)) (sym (ap (λ (p : Text × Text). p.1) answers.0))
        ∙ sym (settled_more (map answer_model given) (answer_model answer) name)
        ∙ ap (λ (l : List Answer). is_settled prefixes machine l name) (sym all_made)

-- ## Names that are put into a set

put : (c d : Bool) → cond d true c ≡ (c || d)
put true true = refl
put true false = refl
put false true = refl
put false false = refl

pub is_put : (b : Bool) (old new : List (Bor Text)) (name other : Text) → b ≡ true → has_name new other ≡ cond (bytes_eq name other) true (has_name old other)
    → has_name new other ≡ (has_name old other || (b && bytes_eq other name))
is_put b old new name other is step =
    step
    ∙ put (has_name old other) (bytes_eq name other)
    ∙ ap (λ (d : Bool). has_name old other || d) (other_way name other)
    ∙ sym (ap (λ (e : Bool). has_name old other || (e && bytes_eq other name)) is)

-- ## Files without a run path

-- their bytes stay as they are
pub nothing_shrinks : (finds : Finding) (prefixes : List Text) (file : List ℕ) → has_nothing_to_shrink file ≡ true → IsShrunkTo finds (Some prefixes) file file
nothing_shrinks finds prefixes file nothing =
    let Of : Bool → Type 0 = λ b. IsShrunkUnless b finds prefixes file file in
    subst Of (sym nothing) refl

-- others shrink by answers
pub some_shrink : (finds : Finding) (prefixes : List Text) (file new : List ℕ) (answers : List Answer) → has_nothing_to_shrink file ≡ false → AreFirstFoundIn finds prefixes file answers
    → LeavesElf (one (plain (ShrinkRpath prefixes answers))) file new → IsShrunkTo finds (Some prefixes) file new
some_shrink finds prefixes file new answers some found leaves =
    let Of : Bool → Type 0 = λ b. IsShrunkUnless b finds prefixes file new in
    subst Of (sym some) (answers, found, leaves)

-- ## What errors tell

-- an error of the edit by such answers
pub first_tells : (finds : Finding) (prefixes : List Text) (file : List ℕ) (answers : List Answer) (e : ElfCommandError) → has_nothing_to_shrink file ≡ false → AreFirstFoundIn finds prefixes file answers
    → TellsEdit (one (plain (ShrinkRpath prefixes answers))) file e → TellsFirstShrunk finds prefixes file e
first_tells finds prefixes file answers Memory some found tells = tt
first_tells finds prefixes file answers (Io e) some found tells = (some, answers, found, tells)
first_tells finds prefixes file answers (Edits wrong) some found tells = (some, answers, found, tells)
first_tells finds prefixes file answers (Elf e) some found tells = (some, answers, found, tells)
first_tells finds prefixes file answers (ElfBatch e) some found tells = (some, answers, found, tells)
