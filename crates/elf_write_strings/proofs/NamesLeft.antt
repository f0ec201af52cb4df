-- Names that are those which were read at their numbers.
use Rattle.std.proofs.Common.{◌≡◌, ◌+◌, ◌<◌, ◌≤◌, ℕ, zero, suc, Bool, true, false, List, [], ◌∷◌, length, drop, map, get_or, refl, sym, ap, ◌∙◌, subst, Option, Some, None, arith}
use Rattle.std.specs.Prelude.{◌&&◌, ◌||◌, ◌↔◌, not, IsTrue, nat_lt, slice_index}
use Rattle.std.specs.List.{slice_get}
use Rattle.std.specs.Option.{option_map}
use Rattle.std.specs.Str.{bytes_eq}
use Rattle.std.specs.Cmp.Lexicographic.{bytes_decides}
use Rattle.std.proofs.lemmas.Bool.{false≢true, ltb-false, ltb-true}
use Rattle.std.proofs.lemmas.List.{drop_all, length-map}
use Rattle.std.proofs.lemmas.Option.{none-some, same_Some, slice_get-get_or, slice_get-map, slice_get_within}
use Rattle.elf_format.specs.declared.constants.TheConstants.{SHT_DYNAMIC}
use Rattle.elf_format.specs.Image.{Image, ImageSection, counted, image_of}
use Rattle.elf_format.specs.Options.{is_none_or, is_some_and}
use Rattle.elf_format.specs.Views.{NamedSymbol}
use Rattle.elf_format.proofs.ForCallers.Lengths.{slice_get-counted}
use Rattle.elf_image.specs.declared.section.Section.{Section}
use Rattle.elf_image.specs.ImageModel.{section_model}
use Rattle.elf_image.specs.Names.{texts_of_symbols}
use Rattle.elf_image.specs.SymbolsRead.{HasStaticSymbolsOf, OfRead}
use Rattle.elf_layout_plan.proofs.ForCallers.PlacedRead.{at_read}
use Rattle.elf_write_spec.specs.Ready.{IsEditedReady}
use Rattle.elf_write_spec.proofs.ForCallers.WholeEdits.{read_facts}
use Rattle.elf_write_strings.specs.LeftSteps.{is_text_left}
use Rattle.elf_write_strings.specs.PlacedTexts.{names_of_sections}
use Rattle.elf_write_strings.specs.WrittenStrings.{are_static_names_left, are_texts_left, do_names_move, do_texts_move, has_texts_in, is_list_left}
use Rattle.elf_write_strings.proofs.ReadTables.{ready_edit}
use Rattle.elf_write_strings.proofs.TellsPlaced.{got_model}

-- ## One by one

-- what is left of texts from a position on
left_from : List (List ℕ) → List ℕ → List (List ℕ) → ℕ → Bool
left_from read ns ts i = are_texts_left read (drop i ns) (drop i ts)

next_drop : {A : Type 0} (xs : List A) (x : A) (i : ℕ) → drop (suc i + 1) (x ∷ xs) ≡ drop (i + 1) xs
next_drop xs x i = let k : suc i + 1 ≡ suc (i + 1) = omega arith in ap (λ (n : ℕ). drop n (x ∷ xs)) k

drop_nothing : {A : Type 0} (i : ℕ) → drop {A = A} i [] ≡ []
drop_nothing zero = refl
drop_nothing (suc i) = refl

no_numbers : (read : List (List ℕ)) (i : ℕ) (ts : List (List ℕ)) → are_texts_left read (drop i []) ts ≡ true
no_numbers read i ts = ap (λ (l : List ℕ). are_texts_left read l ts) (drop_nothing i)

-- a text more
pub left_next : (read : List (List ℕ)) (ns : List ℕ) (ts : List (List ℕ)) (i : ℕ) → i < length ts
    → are_texts_left read (drop i ns) (drop i ts) ≡ (is_text_left read ns ts i && are_texts_left read (drop (i + 1) ns) (drop (i + 1) ts))
left_next read [] ts i within = no_numbers read i (drop i ts) ∙ sym (no_numbers read (i + 1) (drop (i + 1) ts))
left_next read (n ∷ ns) [] i within = absurd (omega (arith, within))
left_next read (n ∷ ns) (t ∷ ts) zero within = refl
left_next read (n ∷ ns) (t ∷ ts) (suc i) within =
    left_next read ns ts i (omega (arith, within))
    ∙ ap (λ (l : List ℕ). is_text_left read ns ts i && are_texts_left read l (drop (i + 1) ts)) (sym (next_drop ns n i))
    ∙ ap (λ (l : List (List ℕ)). is_text_left read ns ts i && are_texts_left read (drop (suc i + 1) (n ∷ ns)) l) (sym (next_drop ts t i))

-- no text more
pub left_end : (read : List (List ℕ)) (ns : List ℕ) (ts : List (List ℕ)) (i : ℕ) → length ts ≤ i
    → are_texts_left read (drop i ns) (drop i ts) ≡ true
left_end read ns ts i past =
    ap (are_texts_left read (drop i ns)) (drop_all i ts past) ∙ nothing (drop i ns)
  where
    nothing : (l : List ℕ) → are_texts_left read l [] ≡ true
    nothing [] = refl
    nothing (n ∷ l) = refl

by_left : (a b : Bool) → a ≡ true → (a && b) ≡ b
by_left true b is = refl
by_left false b is = absurd (false≢true is)

-- behind a text that is left, whether all are left stays as it is
pub left_on : (read : List (List ℕ)) (ns : List ℕ) (ts : List (List ℕ)) (i : ℕ) (is : Bool) → i < length ts → is_text_left read ns ts i ≡ true
    → are_texts_left read (drop i ns) (drop i ts) ≡ is → are_texts_left read (drop (i + 1) ns) (drop (i + 1) ts) ≡ is
left_on read ns ts i is within here so_far =
    sym (by_left (is_text_left read ns ts i) (are_texts_left read (drop (i + 1) ns) (drop (i + 1) ts)) here)
    ∙ sym (left_next read ns ts i within) ∙ so_far

-- where a text isn't left, not all are
pub left_out : (read : List (List ℕ)) (ns : List ℕ) (ts : List (List ℕ)) (i : ℕ) (is : Bool) → i < length ts → is_text_left read ns ts i ≡ false
    → are_texts_left read (drop i ns) (drop i ts) ≡ is → false ≡ is
left_out read ns ts i is within here so_far =
    sym (ap (λ (b : Bool). b && are_texts_left read (drop (i + 1) ns) (drop (i + 1) ts)) here)
    ∙ sym (left_next read ns ts i within) ∙ so_far

-- where all were looked at
pub left_all : (read : List (List ℕ)) (ns : List ℕ) (ts : List (List ℕ)) (i : ℕ) (is : Bool) → length ts ≤ i
    → are_texts_left read (drop i ns) (drop i ts) ≡ is → true ≡ is
left_all read ns ts i is past so_far = sym (left_end read ns ts i past) ∙ so_far

-- ## All of them

both_true : (a b : Bool) → a ≡ true → b ≡ true → (a && b) ≡ true
both_true true true p q = refl
both_true true false p q = q
both_true false b p q = p

each_left : (read : List (List ℕ)) (ns : List ℕ) (ts : List (List ℕ))
    → ((i n : ℕ) (t : List ℕ) → slice_get ns i ≡ Some n → slice_get ts i ≡ Some t → is_some_and (bytes_eq t) (slice_get read n) ≡ true)
    → are_texts_left read ns ts ≡ true
each_left read [] ts each = refl
each_left read (n ∷ ns) [] each = refl
each_left read (n ∷ ns) (t ∷ ts) each =
    both_true (is_some_and (bytes_eq t) (slice_get read n)) (are_texts_left read ns ts) (each zero n t refl refl)
    (each_left read ns ts (λ i m u. each (suc i) m u))

same_text : (o : Option (List ℕ)) (t : List ℕ) → o ≡ Some t → is_some_and (bytes_eq t) o ≡ true
same_text None t is = absurd (none-some t is)
same_text (Some u) t is = (bytes_decides t u).1 (sym (same_Some u t is))

-- texts that were read, each at its number
all_counted : (ts : List (List ℕ)) (k : ℕ) → k ≡ length ts → are_texts_left ts (counted k) ts ≡ true
all_counted ts k long = each_left ts (counted k) ts each
  where
    each : (i n : ℕ) (t : List ℕ) → slice_get (counted k) i ≡ Some n → slice_get ts i ≡ Some t → is_some_and (bytes_eq t) (slice_get ts n) ≡ true
    each i n t number at =
        let within : i < length ts = slice_get_within ts i t at in
        let same : i ≡ n = same_Some i n (sym (slice_get-counted k i (omega (arith, within, long))) ∙ number) in
        same_text (slice_get ts n) t (ap (slice_get ts) (sym same) ∙ at)

-- the symbols are those that were read
pub static_left : (read image : Image) → read.symbol_numbers ≡ counted (length read.symbols) → HasStaticSymbolsOf read image
    → are_static_names_left read image ≡ true
static_left read image counts has =
    ap (λ (ns : List ℕ). are_texts_left (texts_of_symbols read.symbols) ns (texts_of_symbols image.symbols)) (has.numbers ∙ counts)
    ∙ ap (λ (ys : List NamedSymbol). are_texts_left (texts_of_symbols read.symbols) (counted (length read.symbols)) (texts_of_symbols ys)) has.symbols
    ∙ all_counted (texts_of_symbols read.symbols) (length read.symbols) (sym (length-map read.symbols (λ (y : NamedSymbol). y.name)))

-- ## The name of a section

slice_get_past : (ts : List (List ℕ)) (k : ℕ) → length ts ≤ k → slice_get ts k ≡ None
slice_get_past [] k past = refl
slice_get_past (t ∷ ts) zero past = absurd (omega (arith, past))
slice_get_past (t ∷ ts) (suc k) past = slice_get_past ts k (omega (arith, past))

name_here : (ss : List Section) (n : ℕ) (s : Section) → n < length ss → s ≡ get_or ss n s
    → slice_get (names_of_sections (map section_model ss)) n ≡ Some (section_model s).name
name_here ss n s within is =
    slice_get-map (λ (x : ImageSection). x.name) (map section_model ss) n
    ∙ ap (option_map (λ (x : ImageSection). x.name)) (got_model ss n s within)
    ∙ ap (λ (x : Section). Some (section_model x).name) (sym is)

pub was_named : (ss : List Section) (n : ℕ) (s : Section) (name : List ℕ) → true ≡ nat_lt n (length ss) → s ≡ get_or ss n s
    → bytes_eq name (section_model s).name ≡ is_some_and (bytes_eq name) (slice_get (names_of_sections (map section_model ss)) n)
was_named ss n s name less is =
    sym (ap (is_some_and (bytes_eq name)) (name_here ss n s (ltb-true n (length ss) (sym less)) is))

pub was_nowhere : (ss : List Section) (n : ℕ) (name : List ℕ) → false ≡ nat_lt n (length ss)
    → false ≡ is_some_and (bytes_eq name) (slice_get (names_of_sections (map section_model ss)) n)
was_nowhere ss n name past =
    let many : length ss ≤ n = ltb-false n (length ss) (sym past) in
    sym (ap (is_some_and (bytes_eq name)) (slice_get_past (names_of_sections (map section_model ss)) n
    (omega (arith, many, length-map (map section_model ss) (λ (x : ImageSection). x.name), length-map ss section_model))))

-- ## By what calls tell

-- the text at a position, and its number
pub text_left : (read ts : List (List ℕ)) (ns : List ℕ) (i n : ℕ) (t : List ℕ) (b : Bool) → slice_get ns i ≡ Some n → slice_get ts i ≡ Some t
    → b ≡ is_some_and (bytes_eq t) (slice_get read n) → b ≡ is_text_left read ns ts i
text_left read ts ns i n t b ns_at ts_at told =
    told ∙ sym (ap (λ (o : Option ℕ). is_none_or (λ m. is_none_or (λ u. is_some_and (bytes_eq u) (slice_get read m)) (slice_get ts i)) o) ns_at
    ∙ ap (λ (o : Option (List ℕ)). is_none_or (λ u. is_some_and (bytes_eq u) (slice_get read n)) o) ts_at)

-- the symbols are those that were read, as the image tells
pub kept_left : (read image : Image) → IsEditedReady read image → (b : Bool) → OfRead image (λ r. IsTrue b ↔ HasStaticSymbolsOf r image)
    → b ≡ true → true ≡ are_static_names_left read image
kept_left read image is b told kept =
    let same : read ≡ is.edited.read = is.at_read ∙ at_read (image_of image.source) is.edited.read image is.edited.is_read in
    let has : HasStaticSymbolsOf is.edited.read image = (told is.edited.read is.edited.is_read).0 kept in
    sym (static_left read image (read_facts read image (ready_edit is)).holds.symbol_numbers
    (subst (λ (r : Image). HasStaticSymbolsOf r image) (sym same) has))

-- where a section's name is looked for
pub section_left : (read image : Image) → IsEditedReady read image → (ss : List Section) (i : ℕ) (s : Section) (n : ℕ) (b : Bool)
    → map section_model ss ≡ image.sections → i < length image.sections → s ≡ get_or ss i s → n ≡ slice_index image.section_numbers i
    → b ≡ is_some_and (bytes_eq (section_model s).name) (slice_get (names_of_sections read.sections) n)
    → b ≡ is_text_left (names_of_sections read.sections) image.section_numbers (names_of_sections image.sections) i
section_left read image is ss i s n b same within own number told =
    let long : length image.section_numbers ≡ length image.sections = is.edited.is_edit.sections.numbered in
    let many : length (map section_model ss) ≡ length ss = length-map ss section_model in
    let below : i < length ss = omega (arith, within, many, ap length same) in
    let ns_at : slice_get image.section_numbers i ≡ Some n =
    slice_get-get_or image.section_numbers i 0 (omega (arith, within, long)) ∙ ap (λ (m : ℕ). Some m) (sym number) in
    let ts_at : slice_get (names_of_sections image.sections) i ≡ Some (section_model s).name =
    ap (λ (l : List ImageSection). slice_get (names_of_sections l) i) (sym same) ∙ name_here ss i s below own in
    text_left (names_of_sections read.sections) (names_of_sections image.sections) image.section_numbers i n (section_model s).name b ns_at ts_at told

-- ## Whether texts move

module _ (read image : Image) (number : ℕ) where
  abbrev by_names : Bool → Bool → Bool
  by_names names list = names || (list && not (is_list_left read image))

  pub moves_by_names : do_names_move read image number ≡ true → true ≡ do_texts_move read image number
  unfolding do_texts_move
  moves_by_names move = sym (ap (λ (b : Bool). by_names b (has_texts_in image SHT_DYNAMIC number)) move)

  pub moves_not : do_names_move read image number ≡ false → has_texts_in image SHT_DYNAMIC number ≡ false → false ≡ do_texts_move read image number
  unfolding do_texts_move
  moves_not stay none =
      sym (ap (λ (b : Bool). by_names b (has_texts_in image SHT_DYNAMIC number)) stay ∙ ap (λ (b : Bool). by_names false b) none)

  pub moves_by_list : do_names_move read image number ≡ false → has_texts_in image SHT_DYNAMIC number ≡ true
      → not (is_list_left read image) ≡ do_texts_move read image number
  unfolding do_texts_move
  moves_by_list stay here =
      sym (ap (λ (b : Bool). by_names b (has_texts_in image SHT_DYNAMIC number)) stay ∙ ap (λ (b : Bool). by_names false b) here)
