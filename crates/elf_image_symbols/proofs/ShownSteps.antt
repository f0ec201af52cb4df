-- The symbols of a table, one by one.
use Rattle.std.proofs.Common.{◌≡◌, ◌≤◌, ◌<◌, true, false, subst, ℕ, zero, suc, ◌+◌, ◌*◌, ◌/◌, List, ◌∷◌, length, take, drop, replicate, refl, sym, ap, ◌∙◌, Option, Some, None, arith, []}
use Rattle.std.specs.Prelude.{is_some, unwrap_or}
use Rattle.std.specs.List.{slice_get}
use Rattle.std.proofs.Math.Nat.{add_comm, suc-mul, zero-mul}
use Rattle.std.proofs.lemmas.List.{drop-drop}
use Rattle.std.proofs.lemmas.Bool.{true≢false}
use Rattle.std.proofs.lemmas.Option.{same_Some}
use Rattle.elf_format.specs.Memory.{◌>>=◌, Memory, memory_of, text_at}
use Rattle.elf_format.proofs.ForCallers.MemoryLaws.{bind_some}
use Rattle.elf_format.specs.declared.form.Form.{Form}
use Rattle.elf_format.specs.declared.records.SymbolNumbers.{SymbolNumbers}
use Rattle.elf_format.specs.declared.version_id.VersionId.{VersionId}
use Rattle.elf_format.specs.Form.{records}
use Rattle.elf_format.specs.Options.{each}
use Rattle.elf_format.specs.Records.{symbol_numbers, symbol_size, symbols_in}
use Rattle.elf_format.specs.Versions.{version_id}
use Rattle.elf_format.specs.Views.{NamedSymbol, named_symbols, names_of}
use Rattle.elf_image_symbols.specs.TableSymbols.{kept_as, named_symbol, symbols_from, table_symbols, version_at, versions_in}
use Rattle.elf_image_symbols.proofs.NameSteps.{same_names, some_made}
use Rattle.elf_format.proofs.ForCallers.Lengths.{length-records}

-- ## Versions of symbols

-- the versions of `count` symbols from a position on
unfoldable pub versions_from : Form → Option (List ℕ) → ℕ → ℕ → List (Option VersionId)
versions_from form versions zero i = []
versions_from form versions (suc count) i = version_at form versions i ∷ versions_from form versions count (i + 1)

without_versions : (form : Form) (count i : ℕ) → replicate count None ≡ versions_from form None count i
unfolding versions_from
without_versions form zero i = refl
without_versions form (suc count) i = ap (λ l. None ∷ l) (without_versions form count (i + 1))

with_versions : (form : Form) (bytes : List ℕ) (count i : ℕ) → records (λ b. Some (version_id form b)) 2 count (drop (i * 2) bytes) ≡ versions_from form (Some bytes) count i
unfolding versions_from records
with_versions form bytes zero i = refl
with_versions form bytes (suc count) i =
    let next : (i * 2) + 2 ≡ (i + 1) * 2 = omega arith in
    ap (λ l. version_at form (Some bytes) i ∷ records (λ b. Some (version_id form b)) 2 count l) (drop-drop 2 (i * 2) bytes ∙ ap (λ n. drop n bytes) next)
    ∙ ap (λ l. version_at form (Some bytes) i ∷ l) (with_versions form bytes count (i + 1))

versions_by_place : (form : Form) (versions : Option (List ℕ)) (count : ℕ) → versions_in form versions count ≡ versions_from form versions count 0
unfolding versions_in
versions_by_place form None count = without_versions form count 0
versions_by_place form (Some bytes) count = with_versions form bytes count 0

-- ## Symbols, one after another

join_one : (y : SymbolNumbers) (ys : List SymbolNumbers) (v : Option VersionId) (vs : List (Option VersionId)) (name : Option (List ℕ)) (names : Option (List (List ℕ))) (tail : Option (List NamedSymbol))
    → (names >>= (λ ns. Some (named_symbols ys ns vs))) ≡ tail
    → ((name >>= (λ n. names >>= (λ ns. Some (n ∷ ns)))) >>= (λ ns. Some (named_symbols (y ∷ ys) ns (v ∷ vs)))) ≡ ((name >>= (λ n. Some (kept_as y v n))) >>= (λ s. tail >>= (λ ss. Some (s ∷ ss))))
unfolding named_symbols
join_one y ys v vs None names tail e = refl
join_one y ys v vs (Some n) None tail e = ap (λ t. t >>= (λ ss. Some (kept_as y v n ∷ ss))) e
join_one y ys v vs (Some n) (Some ns) tail e = ap (λ t. t >>= (λ ss. Some (kept_as y v n ∷ ss))) e

module _ (form : Form) (room : ℕ) (texts : Memory) (versions : Option (List ℕ)) where
  join_all : (count i : ℕ) (bytes : List ℕ)
      → (names_of room texts (records (symbol_numbers form) (symbol_size form) count bytes) >>= (λ ns. Some (named_symbols (records (symbol_numbers form) (symbol_size form) count bytes) ns (versions_from form versions count i))))
      ≡ symbols_from form room texts versions count i bytes
  unfolding each records named_symbols named_symbol symbols_from versions_from
  join_all zero i bytes = refl
  join_all (suc count) i bytes =
      let y : SymbolNumbers = symbol_numbers form (take (symbol_size form) bytes) in
      let ys : List SymbolNumbers = records (symbol_numbers form) (symbol_size form) count (drop (symbol_size form) bytes) in
      join_one y ys (version_at form versions i) (versions_from form versions count (i + 1)) (text_at room texts y.st_name) (names_of room texts ys)
      (symbols_from form room texts versions count (i + 1) (drop (symbol_size form) bytes)) (join_all count (i + 1) (drop (symbol_size form) bytes))

  -- the symbols of a table are those from its start on
  pub table_symbols-from : (bytes : List ℕ) → table_symbols form room texts bytes versions ≡ symbols_from form room texts versions (length bytes / symbol_size form) 0 bytes
  unfolding table_symbols
  table_symbols-from bytes =
      let count : ℕ = length bytes / symbol_size form in
      let ys : List SymbolNumbers = symbols_in form bytes in
      ap (λ vs. names_of room texts ys >>= (λ ns. Some (named_symbols ys ns vs)))
      (ap (versions_in form versions) (length-records (symbol_numbers form) (symbol_size form) count bytes) ∙ versions_by_place form versions count)
      ∙ join_all count 0 bytes

  -- there are as many symbols as were asked for
  from_long : (count i : ℕ) (bytes : List ℕ) (ys : List NamedSymbol) → symbols_from form room texts versions count i bytes ≡ Some ys → length ys ≡ count
  unfolding symbols_from
  from_long zero i bytes ys is = ap length (sym (same_Some [] ys is))
  from_long (suc count) i bytes ys is =
      let first : Option NamedSymbol = named_symbol room texts (symbol_numbers form (take (symbol_size form) bytes)) (version_at form versions i) in
      let rest : Option (List NamedSymbol) = symbols_from form room texts versions count (i + 1) (drop (symbol_size form) bytes) in
      let (y, _, then) = bind_some first (λ z. rest >>= (λ zs. Some (z ∷ zs))) ys is in
      let (zs, rest_is, made) = bind_some rest (λ zs. Some (y ∷ zs)) ys then in
      ap length (sym (same_Some (y ∷ zs) ys made)) ∙ ap suc (from_long count (i + 1) (drop (symbol_size form) bytes) zs rest_is)

  -- the symbol at a position
  from_at : (count i k : ℕ) (bytes : List ℕ) (ys : List NamedSymbol) → symbols_from form room texts versions count i bytes ≡ Some ys → k < count
      → named_symbol room texts (symbol_numbers form (take (symbol_size form) (drop (k * symbol_size form) bytes))) (version_at form versions (i + k)) ≡ slice_get ys k
  unfolding symbols_from
  from_at zero i k bytes ys is less = absurd (omega (arith, less))
  from_at (suc count) i zero bytes ys is less =
      let first : Option NamedSymbol = named_symbol room texts (symbol_numbers form (take (symbol_size form) bytes)) (version_at form versions i) in
      let rest : Option (List NamedSymbol) = symbols_from form room texts versions count (i + 1) (drop (symbol_size form) bytes) in
      let (y, y_is, then) = bind_some first (λ z. rest >>= (λ zs. Some (z ∷ zs))) ys is in
      let (zs, _, made) = bind_some rest (λ zs. Some (y ∷ zs)) ys then in
      let here : i + 0 ≡ i = omega arith in
      let none : 0 * symbol_size form ≡ 0 = zero-mul (symbol_size form) in
      ap (λ n. named_symbol room texts (symbol_numbers form (take (symbol_size form) (drop n bytes))) (version_at form versions (i + 0))) none
      ∙ ap (λ n. named_symbol room texts (symbol_numbers form (take (symbol_size form) bytes)) (version_at form versions n)) here
      ∙ y_is ∙ ap (λ l. slice_get l 0) (same_Some (y ∷ zs) ys made)
  from_at (suc count) i (suc k) bytes ys is less =
      let size : ℕ = symbol_size form in
      let first : Option NamedSymbol = named_symbol room texts (symbol_numbers form (take size bytes)) (version_at form versions i) in
      let rest : Option (List NamedSymbol) = symbols_from form room texts versions count (i + 1) (drop size bytes) in
      let (y, _, then) = bind_some first (λ z. rest >>= (λ zs. Some (z ∷ zs))) ys is in
      let (zs, rest_is, made) = bind_some rest (λ zs. Some (y ∷ zs)) ys then in
      let here : i + suc k ≡ i + 1 + k = omega arith in
      let behind : drop (suc k * size) bytes ≡ drop (k * size) (drop size bytes) =
      ap (λ n. drop n bytes) (suc-mul k size ∙ add_comm (k * size) size) ∙ sym (drop-drop (k * size) size bytes) in
      ap (λ b. named_symbol room texts (symbol_numbers form (take size b)) (version_at form versions (i + suc k))) behind
      ∙ ap (λ n. named_symbol room texts (symbol_numbers form (take size (drop (k * size) (drop size bytes)))) (version_at form versions n)) here
      ∙ from_at count (i + 1) k (drop size bytes) zs rest_is (omega (arith, less))
      ∙ ap (λ l. slice_get l (suc k)) (same_Some (y ∷ zs) ys made)

module _ (form : Form) (room : ℕ) (texts : Memory) (bytes : List ℕ) (versions : Option (List ℕ)) (ys : List NamedSymbol) (shown : table_symbols form room texts bytes versions ≡ Some ys) where
  listed : symbols_from form room texts versions (length bytes / symbol_size form) 0 bytes ≡ Some ys
  listed = sym (table_symbols-from form room texts versions bytes) ∙ shown

  -- as many symbols as records
  pub shown_long : length ys ≡ length bytes / symbol_size form
  shown_long = from_long form room texts versions (length bytes / symbol_size form) 0 bytes ys listed

  -- each is shown by its record
  pub shown_at : (i : ℕ) → i < length ys
      → named_symbol room texts (symbol_numbers form (take (symbol_size form) (drop (i * symbol_size form) bytes))) (version_at form versions i) ≡ slice_get ys i
  shown_at i less =
      let here : 0 + i ≡ i = omega arith in
      ap (λ n. named_symbol room texts (symbol_numbers form (take (symbol_size form) (drop (i * symbol_size form) bytes))) (version_at form versions n)) (sym here)
      ∙ from_at form room texts versions (length bytes / symbol_size form) 0 i bytes ys listed (subst (λ n. i < n) shown_long less)

-- what a symbol with its name is made of
pub name_of : (room : ℕ) (texts : Memory) (n : SymbolNumbers) (v : Option VersionId) (y : NamedSymbol) → named_symbol room texts n v ≡ Some y
    → (text_at room texts n.st_name ≡ Some y.name) × (kept_as n v y.name ≡ y)
unfolding named_symbol
name_of room texts n v y is =
    let (name, there, made) = bind_some (text_at room texts n.st_name) (λ t. Some (kept_as n v t)) y is in
    let same : kept_as n v name ≡ y = same_Some (kept_as n v name) y made in
    let named : name ≡ y.name = ap (λ (z : NamedSymbol). z.name) same in
    (there ∙ ap Some named, sym (ap (kept_as n v) named) ∙ same)

-- ## Whether there are symbols

-- a table shows symbols where their names are there
pub shown_where_named : (form : Form) (room : ℕ) (texts : Memory) (bytes : List ℕ) (versions : Option (List ℕ))
    → is_some (table_symbols form room texts bytes versions) ≡ is_some (names_of room texts (symbols_in form bytes))
unfolding table_symbols
shown_where_named form room texts bytes versions =
    some_made (names_of room texts (symbols_in form bytes)) (λ names. named_symbols (symbols_in form bytes) names (versions_in form versions (length (symbols_in form bytes))))

-- the symbols that a table shows are the same, however far past the end of the bytes a text may be looked for
pub shown_same : (form : Form) (room : ℕ) (xs bytes : List ℕ) (versions : Option (List ℕ)) → length xs ≤ room
    → table_symbols form room (memory_of xs) bytes versions ≡ table_symbols form (length xs) (memory_of xs) bytes versions
unfolding table_symbols
shown_same form room xs bytes versions long =
    ap (λ o. o >>= (λ names. Some (named_symbols (symbols_in form bytes) names (versions_in form versions (length (symbols_in form bytes))))))
    (same_names room xs (symbols_in form bytes) long)

pub none_there : {A : Type 0} → (o : Option A) → is_some o ≡ false → o ≡ None
none_there None h = refl
none_there (Some x) h = absurd (true≢false h)

pub some_there : {A : Type 0} → (o : Option A) (d : A) → is_some o ≡ true → o ≡ Some (unwrap_or o d)
some_there None d h = absurd (true≢false (sym h))
some_there (Some x) d h = refl
