-- Texts among which names of symbols stand that stay.
use Rattle.std.proofs.Common.{◌≡◌, ℕ, ◌+◌, ◌<◌, List, [], ◌∷◌, ◌++◌, append_assoc, Bool, true, false, length, refl, sym, ap, ◌∙◌, Option, Some, None, arith}
use Rattle.std.specs.Prelude.{◌&&◌, not, IfSome, if◌then◌else◌}
use Rattle.std.specs.Str.{bytes_eq}
use Rattle.std.proofs.lemmas.Bool.{both_ways}
use Rattle.std.proofs.lemmas.List.{length-append, length-map}
use Rattle.std.proofs.lemmas.Slice.Eq.{bytes_eq-Decides}
use Rattle.elf_format.specs.declared.constants.TheConstants.{SHT_DYNAMIC, SHT_DYNSYM, SHT_GNU_VERDEF, SHT_GNU_VERNEED, SHT_SYMTAB}
use Rattle.elf_format.specs.Image.{Image}
use Rattle.elf_format.specs.Options.{list_at}
use Rattle.elf_layout_plan.specs.Needs.{written_entries, written_needs}
use Rattle.elf_layout_plan.specs.Texts.{are_names_changed, are_same_texts, if_linked, if_names, is_subsequence, is_table_copied, texts_in_use, texts_of_definitions, texts_of_entries, texts_of_needs, texts_of_symbols}
use Rattle.elf_layout_plan.proofs.ForCallers.SameTexts.{names_kept, subsequence_of_itself}
use Rattle.elf_layout_sizes.specs.declared.other_texts.Others.{Others}
use Rattle.elf_layout_sizes.specs.Inner.{Edit, is_linked}
use Rattle.elf_layout_sizes.specs.OtherTexts.{HasDynamicNamesOf, HasNamesOf, HasOtherDynamicNames, HasStaticNamesOf, HaveSameCounts, count_of, others_in_use, with_names}
use Rattle.elf_layout_sizes.proofs.TextSteps.{text_found, text_passed, too_few}

-- there are more texts now, whatever names stand among them
pub copied_more : (now read : Others) (ys zs : List (List ℕ)) → count_of read < count_of now → false ≡ is_subsequence (with_names now ys zs) (with_names read ys zs)
copied_more now read ys zs more = sym (too_few (with_names now ys zs) (with_names read ys zs) (omega (arith, more, long now, long read)))
  where
    long : (o : Others) → length (with_names o ys zs) ≡ count_of o + length ys + length zs
    long o =
        omega (
          arith,
          length-append o.list (ys ++ (o.versions ++ (zs ++ o.sections))),
          length-append ys (o.versions ++ (zs ++ o.sections)),
          length-append o.versions (zs ++ o.sections),
          length-append zs o.sections,
        )

-- lists in two parts of the same lengths
joined : (ts us xs ys : List (List ℕ)) → length ts ≡ length us → length xs ≡ length ys
    → is_subsequence (ts ++ xs) (us ++ ys) ≡ (is_subsequence ts us && is_subsequence xs ys)
unfolding is_subsequence
joined [] [] xs ys long rest = refl
joined [] (u ∷ us) xs ys long rest = absurd (omega (arith, long))
joined (t ∷ ts) [] xs ys long rest = absurd (omega (arith, long))
joined (t ∷ ts) (u ∷ us) xs ys long rest = by_test (bytes_eq t u) refl (joined ts us xs ys (omega (arith, long)) rest)
  where
    by_test : (b : Bool) → bytes_eq t u ≡ b → is_subsequence (ts ++ xs) (us ++ ys) ≡ (is_subsequence ts us && is_subsequence xs ys)
        → is_subsequence (t ∷ ts ++ xs) (u ∷ us ++ ys) ≡ (is_subsequence (t ∷ ts) (u ∷ us) && is_subsequence xs ys)
    by_test true e both =
        text_found t (ts ++ xs) u (us ++ ys) e ∙ both ∙ ap (λ (b : Bool). b && is_subsequence xs ys) (sym (text_found t ts u us e))
    by_test false e both =
        text_passed t (ts ++ xs) u (us ++ ys) e
        ∙ too_few (t ∷ ts ++ xs) (us ++ ys) (omega (arith, long, rest, length-append ts xs, length-append us ys))
        ∙ ap (λ (b : Bool). b && is_subsequence xs ys) (sym (text_passed t ts u us e ∙ too_few (t ∷ ts) us (omega (arith, long))))

all_three : (a b c : Bool) → (a && b && c) ≡ (a && (b && c))
all_three true b c = refl
all_three false b c = refl

-- a table with as many texts of each kind, and the same names, is told copied by its other texts
pub copied_same : (now read : Others) (ys zs : List (List ℕ)) → HaveSameCounts now read
    → (is_subsequence now.list read.list && is_subsequence now.versions read.versions && is_subsequence now.sections read.sections)
    ≡ is_subsequence (with_names now ys zs) (with_names read ys zs)
copied_same now read ys zs same =
    all_three (is_subsequence now.list read.list) (is_subsequence now.versions read.versions) (is_subsequence now.sections read.sections)
    ∙ sym (joined now.list read.list (ys ++ (now.versions ++ (zs ++ now.sections))) (ys ++ (read.versions ++ (zs ++ read.sections))) same.list behind_list
    ∙ ap (λ (b : Bool). is_subsequence now.list read.list && b)
    (joined ys ys (now.versions ++ (zs ++ now.sections)) (read.versions ++ (zs ++ read.sections)) refl behind_names
    ∙ ap (λ (b : Bool). b && is_subsequence (now.versions ++ (zs ++ now.sections)) (read.versions ++ (zs ++ read.sections))) (subsequence_of_itself ys)
    ∙ joined now.versions read.versions (zs ++ now.sections) (zs ++ read.sections) same.versions behind_versions
    ∙ ap (λ (b : Bool). is_subsequence now.versions read.versions && b)
    (joined zs zs now.sections read.sections refl same.sections
    ∙ ap (λ (b : Bool). b && is_subsequence now.sections read.sections) (subsequence_of_itself zs))))
  where
    behind_versions : length (zs ++ now.sections) ≡ length (zs ++ read.sections)
    behind_versions = omega (arith, length-append zs now.sections, length-append zs read.sections, same.sections)

    behind_names : length (now.versions ++ (zs ++ now.sections)) ≡ length (read.versions ++ (zs ++ read.sections))
    behind_names =
        omega (arith, length-append now.versions (zs ++ now.sections), length-append read.versions (zs ++ read.sections), same.versions, behind_versions)

    behind_list : length (ys ++ (now.versions ++ (zs ++ now.sections))) ≡ length (ys ++ (read.versions ++ (zs ++ read.sections)))
    behind_list =
        omega (arith, length-append ys (now.versions ++ (zs ++ now.sections)), length-append ys (read.versions ++ (zs ++ read.sections)), behind_names)

-- ## Other names of dynamic symbols

by_test : {A : Type 0} (b : Bool) → (b ≡ true → A) → (b ≡ false → A) → A
by_test true then_so else_so = then_so refl
by_test false then_so else_so = else_so refl

other_way : (t u : List ℕ) → bytes_eq t u ≡ true → bytes_eq u t ≡ true
other_way t u holds = (bytes_eq-Decides u t).1 (sym ((bytes_eq-Decides t u).0 holds))

-- as many texts, which aren't the same one by one, are not the others with some left out
not_the_same : (ts us : List (List ℕ)) → length ts ≡ length us → are_same_texts us ts ≡ false → is_subsequence ts us ≡ false
not_the_same [] [] long other = absurd (both_ways true other refl)
not_the_same [] (u ∷ us) long other = absurd (omega (arith, long))
not_the_same (t ∷ ts) [] long other = absurd (omega (arith, long))
not_the_same (t ∷ ts) (u ∷ us) long other =
    by_test (bytes_eq t u)
    (λ same. text_found t ts u us same
    ∙ not_the_same ts us (omega (arith, long)) (sym (ap (λ (b : Bool). elim b as (λ _. Bool) [ true ↦ are_same_texts us ts | _ ↦ false ]) (other_way t u same)) ∙ other))
    (λ differ. text_passed t ts u us differ ∙ too_few (t ∷ ts) us (omega (arith, long)))

both_fail : (a b c : Bool) → b ≡ false → false ≡ (a && (b && c))
both_fail true b c none = sym (ap (λ (d : Bool). d && c) none)
both_fail false b c none = refl

-- as many texts of each kind, and other names among them
copied_with_other_names : (now read : Others) (ys xs zs : List (List ℕ)) → HaveSameCounts now read → length ys ≡ length xs → is_subsequence ys xs ≡ false
    → false ≡ is_subsequence (with_names now ys zs) (with_names read xs zs)
copied_with_other_names now read ys xs zs same long other =
    both_fail (is_subsequence now.list read.list) (is_subsequence ys xs) (is_subsequence behind_now behind_read) other
    ∙ ap (λ (b : Bool). is_subsequence now.list read.list && b) (sym (joined ys xs behind_now behind_read long behind))
    ∙ sym (joined now.list read.list (ys ++ behind_now) (xs ++ behind_read) same.list (omega (arith, length-append ys behind_now, length-append xs behind_read, long, behind)))
  where
    behind_now : List (List ℕ)
    behind_now = now.versions ++ (zs ++ now.sections)

    behind_read : List (List ℕ)
    behind_read = read.versions ++ (zs ++ read.sections)

    behind : length behind_now ≡ length behind_read
    behind =
        omega (
          arith,
          length-append now.versions (zs ++ now.sections),
          length-append read.versions (zs ++ read.sections),
          length-append zs now.sections,
          length-append zs read.sections,
          same.versions,
          same.sections,
        )

-- ## An image

regroup : (a b c d e f : List (List ℕ)) → a ++ b ++ c ++ d ++ e ++ f ≡ a ++ (b ++ ((c ++ d) ++ (e ++ f)))
regroup a b c d e f = simp append_assoc

-- the texts in use are the others, with the names of symbols among them
in_use : (e : Edit) (number : ℕ) → texts_in_use e.read e.image number ≡ with_names (others_in_use e number)
    (if_linked e.image SHT_DYNSYM number (texts_of_symbols e.image.dynamic_symbols)) (if_linked e.image SHT_SYMTAB number (texts_of_symbols e.image.symbols))
unfolding texts_in_use
in_use e number =
    regroup (if_linked e.image SHT_DYNAMIC number (list_at texts_of_entries (written_entries e.read e.image)))
    (if_linked e.image SHT_DYNSYM number (texts_of_symbols e.image.dynamic_symbols))
    (if_linked e.image SHT_GNU_VERDEF number (texts_of_definitions e.image.definitions))
    (if_linked e.image SHT_GNU_VERNEED number (texts_of_needs (written_needs e.read e.image)))
    (if_linked e.image SHT_SYMTAB number (texts_of_symbols e.image.symbols))
    (if_names e.image number)

-- what is told of the others is told of the table, where the names of symbols stay
pub copied_of_table : (e r : Edit) (number : ℕ) (told : Bool) → r ≡ record { read = e.read; image = e.read } → HasNamesOf e.read e.image number
    → ((ys zs : List (List ℕ)) → told ≡ is_subsequence (with_names (others_in_use e number) ys zs) (with_names (others_in_use r number) ys zs))
    → told ≡ is_table_copied e.read e.image number
copied_of_table e r number told is names says =
    let before : Edit = record { read = e.read; image = e.read } in
    let ys : List (List ℕ) = if_linked e.image SHT_DYNSYM number (texts_of_symbols e.image.dynamic_symbols) in
    let zs : List (List ℕ) = if_linked e.image SHT_SYMTAB number (texts_of_symbols e.image.symbols) in
    let then_in_use : texts_in_use e.read e.read number ≡ with_names (others_in_use before number) ys zs =
    in_use before number
    ∙ ap (λ (l : List (List ℕ)). with_names (others_in_use before number) l (if_linked e.read SHT_SYMTAB number (texts_of_symbols e.read.symbols))) (sym names.dynamic)
    ∙ ap (with_names (others_in_use before number) ys) (sym names.static) in
    says ys zs
    ∙ ap (λ (x : Edit). is_subsequence (with_names (others_in_use e number) ys zs) (with_names (others_in_use x number) ys zs)) is
    ∙ ap (is_subsequence (with_names (others_in_use e number) ys zs)) (sym then_in_use)
    ∙ ap (λ (l : List (List ℕ)). is_subsequence l (texts_in_use e.read e.read number)) (sym (in_use e number))

pub copied_if_known : (e r : Edit) (number : ℕ) (told : Option Bool) (now before : Others) → r ≡ record { read = e.read; image = e.read } → HasNamesOf e.read e.image number
    → now ≡ others_in_use e number → before ≡ others_in_use r number
    → ((ys zs : List (List ℕ)) → IfSome told (λ t. t ≡ is_subsequence (with_names now ys zs) (with_names before ys zs)))
    → IfSome told (λ t. t ≡ is_table_copied e.read e.image number)
copied_if_known e r number None now before is names own own_read says = tt
copied_if_known e r number (Some t) now before is names own own_read says =
    copied_of_table e r number t is names (λ ys zs. says ys zs
    ∙ ap (λ (o : Others). is_subsequence (with_names o ys zs) (with_names before ys zs)) own
    ∙ ap (λ (o : Others). is_subsequence (with_names (others_in_use e number) ys zs) (with_names o ys zs)) own_read)

-- names of dynamic symbols that are those that were read, in a table to which they link now as at read
pub dynamic_names : (read image : Image) (number : ℕ) → is_linked image SHT_DYNSYM number ≡ true → is_linked read SHT_DYNSYM number ≡ true
    → are_names_changed read image ≡ false → HasDynamicNamesOf read image number
dynamic_names read image number now before kept =
    ap (λ (b : Bool). if b then texts_of_symbols image.dynamic_symbols else []) now
    ∙ sym (names_kept read image kept)
    ∙ sym (ap (λ (b : Bool). if b then texts_of_symbols read.dynamic_symbols else []) before)

-- other names of as many dynamic symbols as were read, in a table to which they link now as at read
pub other_names : (read image : Image) (number : ℕ) → is_linked image SHT_DYNSYM number ≡ true → is_linked read SHT_DYNSYM number ≡ true
    → are_names_changed read image ≡ true → length image.dynamic_symbols ≡ length read.dynamic_symbols → HasOtherDynamicNames read image number
other_names read image number now before changed long =
    let names : Image → List (List ℕ) = λ m. texts_of_symbols m.dynamic_symbols in
    let now_is : if_linked image SHT_DYNSYM number (names image) ≡ names image = ap (λ (b : Bool). if b then names image else []) now in
    let before_is : if_linked read SHT_DYNSYM number (names read) ≡ names read = ap (λ (b : Bool). if b then names read else []) before in
    let as_many : length (names image) ≡ length (names read) =
    length-map image.dynamic_symbols (λ y. y.name) ∙ long ∙ sym (length-map read.dynamic_symbols (λ y. y.name)) in
    record {
      count = ap length now_is ∙ as_many ∙ sym (ap length before_is);
      other = ap (λ l. is_subsequence l (if_linked read SHT_DYNSYM number (names read))) now_is ∙ ap (is_subsequence (names image)) before_is
          ∙ not_the_same (names image) (names read) as_many (not_back (are_same_texts (names read) (names image)) changed);
    }
  where
    not_back : (b : Bool) → not b ≡ true → b ≡ false
    not_back true is = sym is
    not_back false is = refl

-- the table isn't copied then, where there are as many texts of each kind
pub copied_by_counts : (e r : Edit) (number : ℕ) (now before : Others) → r ≡ record { read = e.read; image = e.read }
    → HasStaticNamesOf e.read e.image number → HasOtherDynamicNames e.read e.image number
    → now ≡ others_in_use e number → before ≡ others_in_use r number → HaveSameCounts now before
    → false ≡ is_table_copied e.read e.image number
copied_by_counts e r number now before is static other own own_read same =
    let at_read : Edit = record { read = e.read; image = e.read } in
    let ys : List (List ℕ) = if_linked e.image SHT_DYNSYM number (texts_of_symbols e.image.dynamic_symbols) in
    let xs : List (List ℕ) = if_linked e.read SHT_DYNSYM number (texts_of_symbols e.read.dynamic_symbols) in
    let zs : List (List ℕ) = if_linked e.image SHT_SYMTAB number (texts_of_symbols e.image.symbols) in
    copied_with_other_names now before ys xs zs same other.count other.other
    ∙ ap (λ (o : Others). is_subsequence (with_names o ys zs) (with_names before xs zs)) own
    ∙ ap (λ (o : Others). is_subsequence (with_names (others_in_use e number) ys zs) (with_names o xs zs)) (own_read ∙ ap (λ x. others_in_use x number) is)
    ∙ ap (λ (l : List (List ℕ)). is_subsequence (with_names (others_in_use e number) ys zs) (with_names (others_in_use at_read number) xs l)) static
    ∙ ap (is_subsequence (with_names (others_in_use e number) ys zs)) (sym (in_use at_read number))
    ∙ ap (λ (l : List (List ℕ)). is_subsequence l (texts_in_use e.read e.read number)) (sym (in_use e number))
