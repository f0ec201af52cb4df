-- What the reader of dynamic symbols answers, step by step.
use Rattle.std.proofs.Common.{◌≡◌, ℕ, zero, suc, ◌+◌, ◌*◌, Bool, true, false, List, [], ◌∷◌, length, replicate, refl, sym, ap, ◌∙◌, subst, Option, Some, None}
use Rattle.std.proofs.lemmas.Option.{same_Some}
use Rattle.patch_bytes.specs.Memory.{◌>>=◌, Memory, bytes_at}
use Rattle.patch_bytes.proofs.MemoryLaws.{bind_some, some_bind}
use Rattle.elf_format.specs.declared.view_fault.ViewFault.{ViewFault}
use Rattle.elf_format.specs.declared.version_id.VersionId.{VersionId}
use Rattle.elf_format.specs.declared.form.Form.{Form}
use Rattle.elf_format.specs.Form.{records}
use Rattle.elf_format.specs.Answers.{Fails}
use Rattle.elf_format.proofs.ReadingSteps.{bind_fails, bind_on}
use Rattle.elf_format.specs.declared.records.SymbolNumbers.{SymbolNumbers}
use Rattle.elf_format.specs.Records.{symbol_numbers, symbol_size}
use Rattle.elf_format.specs.Versions.{version_id}
use Rattle.elf_format.specs.Views.{NamedSymbol, dynamic_symbols, named_symbols, names_of, symbol_versions}

-- as many bytes are read as were asked for
pub bytes_at-length : (n : ℕ) (f : Memory) (a : ℕ) (bytes : List ℕ) → bytes_at n f a ≡ Some bytes → length bytes ≡ n
unfolding bytes_at
bytes_at-length zero f a bytes h = ap length (sym (same_Some [] bytes h))
bytes_at-length (suc n) f a bytes h =
    let (b, _, rest) = bind_some (f a) (λ c. bytes_at n f (a + 1) >>= (λ r. Some (c ∷ r))) bytes h in
    let (bs, bs_there, last) = bind_some (bytes_at n f (a + 1)) (λ r. Some (b ∷ r)) bytes rest in
    ap length (sym (same_Some (b ∷ bs) bytes last)) ∙ ap suc (bytes_at-length n f (a + 1) bs bs_there)

-- ## Versions

module _ (form : Form) (count : ℕ) (v : Memory) where
  pub versions_without : (b : Bool) → b ≡ false → symbol_versions form b count v ≡ Some (replicate count None)
  unfolding symbol_versions
  versions_without b e = ap (λ c. symbol_versions form c count v) e

  ids : List ℕ → Option (List (Option VersionId))
  ids bytes = Some (records (λ b. Some (version_id form b)) 2 count bytes)

  versions_with : (b : Bool) → b ≡ true → symbol_versions form b count v ≡ (bytes_at (count * 2) v 0 >>= ids)
  unfolding symbol_versions ids
  versions_with b e = ap (λ c. symbol_versions form c count v) e

  pub versions_fail : (fault : ViewFault) (b : Bool) → b ≡ true → Fails fault (bytes_at (count * 2) v 0) → Fails fault (symbol_versions form b count v)
  versions_fail fault b e h = subst (Fails fault) (sym (versions_with b e)) (bind_fails fault (bytes_at (count * 2) v 0) ids h)

  pub versions_shown : (b : Bool) (bytes : List ℕ) → b ≡ true → bytes_at (count * 2) v 0 ≡ Some bytes → symbol_versions form b count v ≡ Some (records (λ c. Some (version_id form c)) 2 count bytes)
  unfolding ids
  versions_shown b bytes e here = versions_with b e ∙ some_bind (bytes_at (count * 2) v 0) ids bytes here

-- ## Symbols

module _ (form : Form) (room : ℕ) (b : Bool) (f t v : Memory) (count size : ℕ) (is_size : size ≡ symbol_size form) where
  rows : List ℕ → List SymbolNumbers
  rows c = records (symbol_numbers form) (symbol_size form) count c

  last : List SymbolNumbers → List (List ℕ) → Option (List NamedSymbol)
  last ys ns = symbol_versions form b count v >>= (λ is. Some (named_symbols ys ns is))

  shown : Option (List NamedSymbol)
  shown = dynamic_symbols form room b (record { bytes = f; texts = t; count = count }) v

  after_bytes : List ℕ → Option (List NamedSymbol)
  unfolding rows last
  after_bytes c = names_of room t (rows c) >>= (last (rows c))

  by_bytes : shown ≡ (bytes_at (count * symbol_size form) f 0 >>= after_bytes)
  unfolding shown dynamic_symbols after_bytes rows last
  by_bytes = refl

  there_too : (all : List ℕ) → bytes_at (count * size) f 0 ≡ Some all → bytes_at (count * symbol_size form) f 0 ≡ Some all
  there_too all h = ap (λ n. bytes_at (count * n) f 0) (sym is_size) ∙ h

  rows_too : (all : List ℕ) (ys : List SymbolNumbers) → ys ≡ records (symbol_numbers form) size count all → ys ≡ rows all
  unfolding rows
  rows_too all ys h = h ∙ ap (λ n. records (symbol_numbers form) n count all) is_size

  pub symbols_fail_bytes : (fault : ViewFault) → Fails fault (bytes_at (count * size) f 0) → Fails fault (dynamic_symbols form room b (record { bytes = f; texts = t; count = count }) v)
  unfolding shown
  symbols_fail_bytes fault h =
      subst (Fails fault) (sym by_bytes) (bind_fails fault (bytes_at (count * symbol_size form) f 0) after_bytes (subst (λ n. Fails fault (bytes_at (count * n) f 0)) is_size h))

  pub symbols_fail_names : (fault : ViewFault) (all : List ℕ) (ys : List SymbolNumbers) → bytes_at (count * size) f 0 ≡ Some all → ys ≡ records (symbol_numbers form) size count all
      → Fails fault (names_of room t ys) → Fails fault (dynamic_symbols form room b (record { bytes = f; texts = t; count = count }) v)
  unfolding shown after_bytes
  symbols_fail_names fault all ys here is_ys h =
      subst (Fails fault) (sym by_bytes) (bind_on fault (bytes_at (count * symbol_size form) f 0) after_bytes all (there_too all here)
      (bind_fails fault (names_of room t (rows all)) (last (rows all)) (subst (λ l. Fails fault (names_of room t l)) (rows_too all ys is_ys) h)))

  pub symbols_fail_ids : (fault : ViewFault) (all : List ℕ) (ys : List SymbolNumbers) (ns : List (List ℕ)) → bytes_at (count * size) f 0 ≡ Some all → ys ≡ records (symbol_numbers form) size count all
      → names_of room t ys ≡ Some ns → Fails fault (symbol_versions form b count v) → Fails fault (dynamic_symbols form room b (record { bytes = f; texts = t; count = count }) v)
  unfolding shown after_bytes last
  symbols_fail_ids fault all ys ns here is_ys named h =
      subst (Fails fault) (sym by_bytes) (bind_on fault (bytes_at (count * symbol_size form) f 0) after_bytes all (there_too all here)
      (bind_on fault (names_of room t (rows all)) (last (rows all)) ns (ap (names_of room t) (sym (rows_too all ys is_ys)) ∙ named)
      (bind_fails fault (symbol_versions form b count v) (λ is. Some (named_symbols (rows all) ns is)) h)))

  pub symbols_shown : (all : List ℕ) (ys : List SymbolNumbers) (ns : List (List ℕ)) (is : List (Option VersionId)) → bytes_at (count * size) f 0 ≡ Some all → ys ≡ records (symbol_numbers form) size count all
      → names_of room t ys ≡ Some ns → symbol_versions form b count v ≡ Some is → dynamic_symbols form room b (record { bytes = f; texts = t; count = count }) v ≡ Some (named_symbols ys ns is)
  unfolding shown after_bytes last
  symbols_shown all ys ns is here is_ys named versioned =
      let same : ys ≡ rows all = rows_too all ys is_ys in
      by_bytes
      ∙ some_bind (bytes_at (count * symbol_size form) f 0) after_bytes all (there_too all here)
      ∙ some_bind (names_of room t (rows all)) (last (rows all)) ns (ap (names_of room t) (sym same) ∙ named)
      ∙ some_bind (symbol_versions form b count v) (λ ks. Some (named_symbols (rows all) ns ks)) is versioned
      ∙ ap (λ l. Some (named_symbols l ns is)) (sym same)
