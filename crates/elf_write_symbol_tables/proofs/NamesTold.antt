-- Where the names of symbols stand in a string table that is told anew.
use Rattle.std.proofs.Common.{◌≡◌, ◌<◌, ℕ, ◌+◌, Bool, true, false, List, [], ◌∷◌, ◌++◌, append_assoc, get_or, length, map, refl, sym, ap, ◌∙◌, subst, Option, Some, None, arith}
use Rattle.std.specs.Prelude.{◌&&◌, ◌==◌, IsSome, if◌then◌else◌, option_map, slice_index, unwrap_or}
use Rattle.std.specs.List.{Contains, slice_get}
use Rattle.std.proofs.lemmas.Bool.{eqb-true, false≢true, ne_eqb}
use Rattle.std.proofs.lemmas.List.{get_or-append-add, get_or-map, get_or_append_left, length-append, length-map}
use Rattle.std.proofs.lemmas.Option.{get_or_from_slice_get, same_Some, slice_get-get_or, slice_get-map, slice_get_within}
use Rattle.elf_format.specs.declared.constants.TheConstants.{SHT_DYNAMIC, SHT_DYNSYM, SHT_GNU_VERDEF, SHT_GNU_VERNEED, SHT_SYMTAB}
use Rattle.elf_format.specs.Image.{Image}
use Rattle.elf_format.specs.Options.{is_some_and, list_at}
use Rattle.elf_format.specs.Views.{NamedSymbol}
use Rattle.elf_format.proofs.ForCallers.ViewsAgree.{there_if}
use Rattle.elf_image.specs.Kept.{link_of_type}
use Rattle.elf_write_strings.specs.Needs.{written_entries, written_needs}
use Rattle.elf_write_strings.specs.Texts.{if_linked, if_names, texts_in_use, texts_of_definitions, texts_of_entries, texts_of_needs, texts_of_symbols}
use Rattle.elf_write_strings.specs.MadeTables.{IsMade}
use Rattle.elf_tables.specs.Strings.{StandsAt, Strings, place_of}
use Rattle.elf_tables.specs.StringSteps.{StandsWith}
use Rattle.elf_tables.proofs.ForCallers.StandingTexts.{stands-from}
use Rattle.elf_write_symbols.proofs.ForCallers.FinalEntries.{written_none}
use Rattle.elf_write_symbols.proofs.ForCallers.WholeEdits.{ReadFacts}
use Rattle.elf_write_strings.specs.declared.made.Made.{Made}
use Rattle.elf_write_strings.specs.WrittenStrings.{IsTold}
use Rattle.elf_write_strings.proofs.ForCallers.TextsShared.{no_entries_read, none_edited, shared_link, symbols_share}
use Rattle.elf_write_strings.proofs.ForCallers.TextsTold.{linked_if, told_statics, told_symbols}
use Rattle.elf_write_symbol_tables.specs.NamePlaces.{HasNames, TellsNames, begins_empty, place_in, place_of_name, place_of_named}

-- ## Where a name stands

-- the empty text stands at 0 of a table that begins with a NUL
first_stands : (bytes : List ℕ) → is_some_and (λ byte. byte == 0) (slice_get bytes 0) ≡ true → StandsAt bytes 0 []
unfolding StandsWith
first_stands [] none = absurd (false≢true none)
first_stands (x ∷ xs) first = stands-from (x ∷ xs) 0 [] refl (ap (λ (b : ℕ). b ∷ []) (eqb-true x 0 first))

module _ (read image : Image) (m : Made) (told : IsTold read image m) where
  -- each stands where the table tells, and the empty one at 0 where that begins with a NUL
  pub name_stands : (name : List ℕ) → IsSome (place_of m.table name) → StandsAt m.table.bytes (place_of_name m.table name) name
  name_stands [] there = by_first (begins_empty m.table) refl
    where
      by_first : (b : Bool) → begins_empty m.table ≡ b → StandsAt m.table.bytes (if b then 0 else unwrap_or (place_of m.table []) 0) []
      by_first true first = first_stands m.table.bytes first
      by_first false first =
          let (place, is_place) = there_if (place_of m.table []) there in
          subst (λ (n : ℕ). StandsAt m.table.bytes n []) (sym (ap (λ (o : Option ℕ). unwrap_or o 0) is_place)) (told.stand [] place is_place)
  name_stands (byte ∷ name) there =
      let (place, is_place) = there_if (place_of m.table (byte ∷ name)) there in
      let some : (length (byte ∷ name) == 0) ≡ false = ne_eqb (length (byte ∷ name)) 0 (λ none. absurd (omega (arith, none))) in
      subst (λ (b : Bool). StandsAt m.table.bytes (if b && begins_empty m.table then 0 else unwrap_or (place_of m.table (byte ∷ name)) 0) (byte ∷ name))
      (sym some)
      (subst (λ (n : ℕ). StandsAt m.table.bytes n (byte ∷ name)) (sym (ap (λ (o : Option ℕ). unwrap_or o 0) is_place))
      (told.stand (byte ∷ name) place is_place))

-- a symbol's place is that of its name
pub placed_in : (table : Strings) (begins : Bool) (y : NamedSymbol) (place : ℕ) → begins ≡ begins_empty table → place_of table y.name ≡ Some place
    → place_of_named begins y place ≡ place_in table y
placed_in table begins y place starts told =
    ap (λ (b : Bool). if length y.name == 0 && b then 0 else place) starts
    ∙ ap (λ (n : ℕ). if length y.name == 0 && begins_empty table then 0 else n) (sym (ap (λ o. unwrap_or o 0) told))

-- ## All names

-- an element of a list is in it
contains_at : {A : Type 0} (xs : List A) (i : ℕ) (x : A) → slice_get xs i ≡ Some x → Contains xs x
contains_at xs i x at =
    let within : i < length xs = slice_get_within xs i x at in
    (i, within, same_Some (get_or xs i x) x (sym (slice_get-get_or xs i x within) ∙ at))

name_in : (ys : List NamedSymbol) (j : ℕ) (y : NamedSymbol) → slice_get ys j ≡ Some y → Contains (texts_of_symbols ys) y.name
name_in ys j y at =
    contains_at (texts_of_symbols ys) j y.name
    (slice_get-map (λ (z : NamedSymbol). z.name) ys j ∙ ap (option_map (λ (z : NamedSymbol). z.name)) at)

pub dynamic_told : (read image : Image) (m : Made) → IsTold read image m → link_of_type SHT_DYNSYM image ≡ Some m.number
    → TellsNames m.table image.dynamic_symbols
dynamic_told read image m told link = record {
  each = λ j y at. told_symbols read image m told link y.name (name_in image.dynamic_symbols j y at);
}

pub statics_told : (read image : Image) (m : Made) → IsTold read image m → link_of_type SHT_SYMTAB image ≡ Some m.number
    → TellsNames m.table image.symbols
statics_told read image m told link = record {
  each = λ j y at. told_statics read image m told link y.name (name_in image.symbols j y at);
}

-- ## The order of names in a table that is made anew

-- the texts of a table at a position stand at the place that the table's order tells there
told_at : (table : Strings) (texts : List (List ℕ)) (j : ℕ) → map Some table.in_order ≡ map (place_of table) texts → j < length texts
    → place_of table (get_or texts j []) ≡ Some (slice_index table.in_order j)
told_at table texts j told within =
    let many : length table.in_order ≡ length texts =
    sym (length-map table.in_order Some) ∙ ap length told ∙ length-map texts (place_of table) in
    sym (get_or-map (place_of table) texts j [] (Some 0) within)
    ∙ ap (λ l. get_or l j (Some 0)) (sym told)
    ∙ get_or-map Some table.in_order j 0 (Some 0) (omega (arith, within, many))

names_behind : (table : Strings) (texts front rest : List (List ℕ)) (ys : List NamedSymbol) → map Some table.in_order ≡ map (place_of table) texts
    → texts ≡ front ++ (texts_of_symbols ys ++ rest) → HasNames table (length front) ys
names_behind table texts front rest ys told is =
    let names : List (List ℕ) = texts_of_symbols ys in
    let named : length names ≡ length ys = length-map ys (λ (y : NamedSymbol). y.name) in
    let long : length texts ≡ length front + (length ys + length rest) =
    omega (arith, ap length is, length-append front (names ++ rest), length-append names rest, named) in
    let many : length table.in_order ≡ length texts =
    sym (length-map table.in_order Some) ∙ ap length told ∙ length-map texts (place_of table) in
    record {
      many = omega (arith, many, long);
      each = λ i y at.
          let low : i < length ys = slice_get_within ys i y at in
          let here : get_or texts (length front + i) [] ≡ y.name =
          ap (λ l. get_or l (length front + i) []) is
          ∙ get_or-append-add front (names ++ rest) i []
          ∙ get_or_append_left names rest [] i (omega (arith, low, named))
          ∙ get_or-map (λ (z : NamedSymbol). z.name) ys i y [] low
          ∙ ap (λ (z : NamedSymbol). z.name) (get_or_from_slice_get ys i y y at) in
          ap (place_of table) (sym here) ∙ told_at table texts (length front + i) told (omega (arith, low, long));
    }

in_two : (a b c d e f : List (List ℕ)) → a ++ b ++ c ++ d ++ e ++ f ≡ a ++ (b ++ (c ++ d ++ e ++ f))
in_two a b c d e f = simp append_assoc

module _ (read image : Image) (f : ReadFacts read image) (m : Made) (told : IsTold read image m)
    (link : link_of_type SHT_DYNSYM image ≡ Some m.number) where
  abbrev front : List (List ℕ)
  front = list_at texts_of_entries (written_entries read image)

  -- the dynamic list has its texts before the names of symbols, where there is one
  front_linked : if_linked image SHT_DYNAMIC m.number front ≡ front
  front_linked = by_link (link_of_type SHT_DYNAMIC image) refl
    where
      by_link : (o : Option ℕ) → link_of_type SHT_DYNAMIC image ≡ o → if_linked image SHT_DYNAMIC m.number front ≡ front
      by_link (Some n) o_is =
          let same : m.number ≡ n = shared_link read image f n o_is SHT_DYNSYM refl (symbols_share read image f) m.number link in
          linked_if image SHT_DYNAMIC m.number front (o_is ∙ ap (λ (k : ℕ). Some k) (sym same))
      by_link None o_is =
          let none_read : read.entries ≡ None = no_entries_read read image f o_is in
          let none : written_entries read image ≡ None =
          written_none read image (none_edited read.entries image.entries f.edit.entries none_read) in
          let empty : front ≡ [] = ap (list_at texts_of_entries) none in
          ap (λ (o : Option ℕ). if is_some_and (λ link. link == m.number) o then front else []) o_is ∙ sym empty

  pub named_in_order : m.is_copied ≡ false → HasNames m.table (length front) image.dynamic_symbols
  unfolding texts_in_use
  named_in_order anew =
      let number : ℕ = m.number in
      let names : List (List ℕ) = texts_of_symbols image.dynamic_symbols in
      let defined : List (List ℕ) = if_linked image SHT_GNU_VERDEF number (texts_of_definitions image.definitions) in
      let needed : List (List ℕ) = if_linked image SHT_GNU_VERNEED number (texts_of_needs (written_needs read image)) in
      let statics : List (List ℕ) = if_linked image SHT_SYMTAB number (texts_of_symbols image.symbols) in
      let sections : List (List ℕ) = if_names image number in
      let made : IsMade read image number m.table = told.anew (sym told.which ∙ anew) in
      names_behind m.table (texts_in_use read image number) front (defined ++ needed ++ statics ++ sections) image.dynamic_symbols made.holds.in_order
      (ap (λ (l : List (List ℕ)). l ++ if_linked image SHT_DYNSYM number names ++ defined ++ needed ++ statics ++ sections) front_linked
      ∙ ap (λ (l : List (List ℕ)). front ++ l ++ defined ++ needed ++ statics ++ sections) (linked_if image SHT_DYNSYM number names link)
      ∙ in_two front names defined needed statics sections)
