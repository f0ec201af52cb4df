-- Records spelled end to end, one more at a time; once none is left, their bytes show all symbols.
use Rattle.std.proofs.Common.{◌≡◌, ◌≤◌, ◌<◌, ℕ, zero, suc, ◌+◌, ◌*◌, ◌/◌, true, List, [], ◌∷◌, ◌++◌, length, take, refl, sym, ap, ◌∙◌, subst, Some, arith}
use Rattle.std.specs.List.{flat_map, list_all, slice_get}
use Rattle.std.proofs.Math.Nat.{mul-div_left}
use Rattle.std.proofs.lemmas.Bool.{and_from}
use Rattle.std.proofs.lemmas.List.{append-nil, length-append, take_all}
use Rattle.std.proofs.lemmas.List.Concat.{flat_map-append}
use Rattle.std.proofs.lemmas.List.Folds.{list_all-append}
use Rattle.std.proofs.lemmas.Option.{none-some, same_Some}
use Rattle.patch_bytes.specs.declared.number.Wide.{Wide}
use Rattle.patch_bytes.specs.declared.number.Wide.TheVariants.{W32, W64}
use Rattle.elf_format.specs.declared.form.Form.{Form}
use Rattle.elf_format.specs.declared.records.SymbolNumbers.{SymbolNumbers}
use Rattle.elf_format.specs.Form.{by_class, records}
use Rattle.elf_format.specs.Records.{symbol_numbers, symbol_size, symbols_in}
use Rattle.elf_format.specs.Views.{NamedSymbol}
use Rattle.elf_tables.specs.Fields.{do_fields_fit}
use Rattle.elf_tables.specs.Spelled.{spelled_symbol, symbol_fields}
use Rattle.elf_tables.proofs.ForCallers.SymbolBack.{symbols_are_read_back}
use Rattle.elf_tables.proofs.ForCallers.TableBack.{tables_are_read_back}
use Rattle.elf_write_symbols.specs.Contents.{AreSymbolsOf, IsSymbolOf}
use Rattle.elf_write_symbol_tables.specs.SymbolSteps.{AreSpelled, IsRecordAt, ShowsSymbols}

pub symbol_size-positive : (form : Form) → 0 < symbol_size form
symbol_size-positive form = by_width form.wide
  where
    by_width : (w : Wide) → 0 < by_class w 16 24
    by_width W32 = omega arith
    by_width W64 = omega arith

-- ## Lists

take_next : {A : Type 0} (xs : List A) (i : ℕ) (x : A) → slice_get xs i ≡ Some x → take (i + 1) xs ≡ take i xs ++ x ∷ []
take_next [] i x at = absurd (none-some x at)
take_next {A} (y ∷ ys) zero x at = ap (λ (z : A). z ∷ []) (same_Some y x at)
take_next {A} (y ∷ ys) (suc i) x at =
    let k : suc i + 1 ≡ suc (i + 1) = omega arith in
    ap (λ (n : ℕ). take n (y ∷ ys)) k ∙ ap (λ (l : List A). y ∷ l) (take_next ys i x at)

-- a record for each symbol, one by one
pub each_symbol : (strings : List ℕ) (ys : List NamedSymbol) (ns : List SymbolNumbers) → length ys ≡ length ns
    → ((j : ℕ) (y : NamedSymbol) (n : SymbolNumbers) → slice_get ys j ≡ Some y → slice_get ns j ≡ Some n → IsSymbolOf strings y n)
    → AreSymbolsOf strings ys ns
each_symbol strings [] [] long each = tt
each_symbol strings [] (n ∷ ns) long each = absurd (omega (arith, long))
each_symbol strings (y ∷ ys) [] long each = absurd (omega (arith, long))
each_symbol strings (y ∷ ys) (n ∷ ns) long each =
    (each zero y n refl refl, each_symbol strings ys ns (omega (arith, long)) (λ j x m x_at m_at. each (suc j) x m x_at m_at))

-- as many records as symbols
count_shown : (strings : List ℕ) (ys : List NamedSymbol) (ns : List SymbolNumbers) → AreSymbolsOf strings ys ns → length ns ≡ length ys
count_shown strings [] [] are = refl
count_shown strings [] (n ∷ ns) are = absurd are
count_shown strings (y ∷ ys) [] are = absurd are
count_shown strings (y ∷ ys) (n ∷ ns) are = ap suc (count_shown strings ys ns are.1)

-- one record more behind the others
one_more : (strings : List ℕ) (ys : List NamedSymbol) (ns : List SymbolNumbers) (y : NamedSymbol) (n : SymbolNumbers) → AreSymbolsOf strings ys ns
    → IsSymbolOf strings y n → AreSymbolsOf strings (ys ++ y ∷ []) (ns ++ n ∷ [])
one_more strings [] [] y n are is = (is, tt)
one_more strings [] (m ∷ ns) y n are is = absurd are
one_more strings (x ∷ ys) [] y n are is = absurd are
one_more strings (x ∷ ys) (m ∷ ns) y n are is = (are.0, one_more strings ys ns y n are.1 is)

-- ## Records

length-spelled : (form : Form) (ns : List SymbolNumbers) → length (flat_map (spelled_symbol form) ns) ≡ length ns * symbol_size form
length-spelled form [] = omega arith
length-spelled form (n ∷ ns) =
    omega (
      arith,
      length-append (spelled_symbol form n) (flat_map (spelled_symbol form) ns),
      (symbols_are_read_back form).long n,
      length-spelled form ns,
    )

-- records whose numbers fit are read back
read_back : (form : Form) (ns : List SymbolNumbers) → list_all (λ n. do_fields_fit (symbol_fields form n)) ns ≡ true
    → symbols_in form (flat_map (spelled_symbol form) ns) ≡ ns
read_back form ns fit =
    let size : ℕ = symbol_size form in
    let bytes : List ℕ = flat_map (spelled_symbol form) ns in
    let many : length bytes / size ≡ length ns =
    ap (λ (k : ℕ). k / size) (length-spelled form ns) ∙ mul-div_left (length ns) (symbol_size-positive form) in
    ap (λ (k : ℕ). records (symbol_numbers form) size k bytes) many
    ∙ ap (records (symbol_numbers form) size (length ns)) (sym (append-nil bytes))
    ∙ (tables_are_read_back form).symbols ns [] fit

-- ## One after another

module _ (form : Form) (strings : List ℕ) (ys : List NamedSymbol) where
  pub none_spelled : (bytes : List ℕ) → bytes ≡ [] → AreSpelled form strings ys 0 bytes
  none_spelled bytes none = record { numbers = []; are = none; fit = refl; shown = tt }

  pub more_spelled : (i : ℕ) (old new : List ℕ) (n : SymbolNumbers) → AreSpelled form strings ys i old → IsRecordAt form strings ys i n
      → new ≡ old ++ spelled_symbol form n → AreSpelled form strings ys (i + 1) new
  more_spelled i old new n so_far next grown =
      let ns : List SymbolNumbers = so_far.numbers in
      let bytes_of : List SymbolNumbers → List ℕ = flat_map (spelled_symbol form) in
      let one : bytes_of (n ∷ []) ≡ spelled_symbol form n = append-nil (spelled_symbol form n) in
      record {
        numbers = ns ++ n ∷ [];
        are = grown ∙ ap (λ (l : List ℕ). l ++ spelled_symbol form n) so_far.are
            ∙ ap (λ (l : List ℕ). bytes_of ns ++ l) (sym one) ∙ sym (flat_map-append (spelled_symbol form) ns (n ∷ []));
        fit = list_all-append (λ m. do_fields_fit (symbol_fields form m)) ns (n ∷ [])
            ∙ and_from _ _ so_far.fit (and_from _ _ next.fits refl);
        shown = subst (λ (l : List NamedSymbol). AreSymbolsOf strings l (ns ++ n ∷ [])) (sym (take_next ys i next.symbol next.is_there))
            (one_more strings (take i ys) ns next.symbol n so_far.shown next.shown);
      }

  -- once none is left
  pub all_spelled : (i : ℕ) (bytes : List ℕ) → length ys ≤ i → AreSpelled form strings ys i bytes → ShowsSymbols form strings ys bytes
  all_spelled i bytes past so_far =
      let ns : List SymbolNumbers = so_far.numbers in
      let back : symbols_in form bytes ≡ ns = ap (symbols_in form) so_far.are ∙ read_back form ns so_far.fit in
      let all : AreSymbolsOf strings ys ns =
      subst (λ (l : List NamedSymbol). AreSymbolsOf strings l ns) (take_all i ys past) so_far.shown in
      record {
        symbols = subst (AreSymbolsOf strings ys) (sym back) all;
        sized = ap length so_far.are ∙ length-spelled form ns ∙ ap (λ (k : ℕ). k * symbol_size form) (count_shown strings ys ns all);
      }
