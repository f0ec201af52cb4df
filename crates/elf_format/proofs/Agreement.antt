-- What is decoded from one memory is decoded from each that keeps its bytes.
use Rattle.std.proofs.Common.{◌≡◌, ◌≤◌, ℕ, zero, suc, ◌+◌, ◌*◌, Bool, true, false, cond, eqb, List, [], ◌∷◌, length, refl, ap, ◌∙◌, Option, Some, None, arith}
use Rattle.std.specs.Prelude.{◌&&◌, not}
use Rattle.std.specs.List.{list_all}
use Rattle.std.proofs.lemmas.Option.{cond_some, none-some, same_Some}
use Rattle.std.proofs.lemmas.Bool.{and_from, and_parts, eq-eqb, eqb-true}
use Rattle.patch_bytes.specs.Memory.{◌>>=◌, Agrees, Keeps, Memory, bytes_at, text_at}
use Rattle.patch_bytes.proofs.MemoryLaws.{Agrees-refl, bind_agrees, bind_some, bytes_at-keeps, some_bind, text_at-keeps}
use Rattle.elf_format.specs.declared.version_id.VersionId.{VersionId}
use Rattle.elf_format.specs.Dynamic.{Auto, Entry, Integer, Text, entries_at, shown_entry, table_tags, text_tags}
use Rattle.elf_format.specs.Form.{Form, fixed_field, records}
use Rattle.elf_format.specs.Options.{each, is_one_of}
use Rattle.elf_format.specs.Records.{EntryNumbers, SymbolNumbers, entry_numbers, entry_size, symbol_numbers, symbol_size}
use Rattle.elf_format.specs.Versions.{DefinitionNumbers, NeedNameNumbers, NeedNumbers, Step, VersionDefinition, VersionName, VersionNeeds, definition_at, definition_name_at, is_whole_walk, need_at, need_name_at, shown_definition, shown_need, shown_need_name, values_of, version_id, chain_steps}
use Rattle.elf_format.specs.Views.{defined_versions, dynamic_symbols, named_symbols, names_of, needed_versions, symbol_versions, whole_chain}

-- ## Steps and lists of steps

pub cond_agrees : {A : Type 0} → (b : Bool) (o p q r : Option A) → Agrees o q → Agrees p r → Agrees (cond b o p) (cond b q r)
cond_agrees true o p q r yes_case no_case = yes_case
cond_agrees false o p q r yes_case no_case = no_case

pub each-agrees : {A B : Type 0} → (f g : A → Option B) → ((x : A) → Agrees (f x) (g x)) → (xs : List A) → Agrees (each f xs) (each g xs)
unfolding each
each-agrees f g h [] = Agrees-refl (Some [])
each-agrees f g h (x ∷ xs) =
    bind_agrees (f x) (g x) (λ y. each f xs >>= (λ ys. Some (y ∷ ys))) (λ y. each g xs >>= (λ ys. Some (y ∷ ys))) (h x)
    (λ y. bind_agrees (each f xs) (each g xs) (λ ys. Some (y ∷ ys)) (λ ys. Some (y ∷ ys)) (each-agrees f g h xs) (λ ys. Agrees-refl (Some (y ∷ ys))))

-- ## Dynamic entries

-- what comes behind an entry whose tag is read
after_entry : ℕ → Form → Memory → ℕ → EntryNumbers → ℕ → Option (List EntryNumbers)
after_entry room form f a e tag = elim tag [ zero ↦ Some [] | suc _ ↦ entries_at room form f (a + entry_size form) >>= (λ rest. Some (e ∷ rest)) ]

after_entry-agrees : (form : Form) (r s : ℕ) (f g : Memory) (a : ℕ) → Agrees (entries_at r form f (a + entry_size form)) (entries_at s form g (a + entry_size form))
    → (e : EntryNumbers) (tag : ℕ) → Agrees (after_entry r form f a e tag) (after_entry s form g a e tag)
unfolding after_entry
after_entry-agrees form r s f g a more e zero = Agrees-refl (Some [])
after_entry-agrees form r s f g a more e (suc tag) =
    bind_agrees (entries_at r form f (a + entry_size form)) (entries_at s form g (a + entry_size form)) (λ t. Some (e ∷ t)) (λ t. Some (e ∷ t)) more (λ t. Agrees-refl (Some (e ∷ t)))

-- the dynamic list, also where more room is given
pub entries_at-keeps : (form : Form) (r s : ℕ) → r ≤ s → (f g : Memory) → Keeps f g → (a : ℕ) → Agrees (entries_at r form f a) (entries_at s form g a)
unfolding entries_at after_entry
entries_at-keeps form zero s le f g keeps a = λ x h. absurd (none-some x h)
entries_at-keeps form (suc r) zero le f g keeps a = absurd (omega arith)
entries_at-keeps form (suc r) (suc s) le f g keeps a =
    bind_agrees (bytes_at (entry_size form) f a) (bytes_at (entry_size form) g a)
    (λ b. after_entry r form f a (entry_numbers form b) (entry_numbers form b).d_tag)
    (λ b. after_entry s form g a (entry_numbers form b) (entry_numbers form b).d_tag)
    (bytes_at-keeps (entry_size form) f g keeps a)
    (λ b. after_entry-agrees form r s f g a (entries_at-keeps form r s (omega arith) f g keeps (a + entry_size form)) (entry_numbers form b) (entry_numbers form b).d_tag)

pub shown_entry-keeps : (r s : ℕ) → r ≤ s → (f g : Memory) → Keeps f g → (e : EntryNumbers) → Agrees (shown_entry r f e) (shown_entry s g e)
unfolding shown_entry
shown_entry-keeps r s le f g keeps e =
    let rest : Option Entry = cond (is_one_of table_tags e.d_tag) (Some (Auto e.d_tag)) (Some (Integer e.d_tag e.d_value)) in
    cond_agrees (is_one_of text_tags e.d_tag) (text_at r f e.d_value >>= (λ text. Some (Text e.d_tag text))) rest (text_at s g e.d_value >>= (λ text. Some (Text e.d_tag text))) rest
    (bind_agrees (text_at r f e.d_value) (text_at s g e.d_value) (λ text. Some (Text e.d_tag text)) (λ text. Some (Text e.d_tag text)) (text_at-keeps r s le f g keeps e.d_value) (λ text. Agrees-refl (Some (Text e.d_tag text))))
    (Agrees-refl rest)

-- ## Symbols

pub names_of-keeps : (r s : ℕ) → r ≤ s → (f g : Memory) → Keeps f g → (ys : List SymbolNumbers) → Agrees (names_of r f ys) (names_of s g ys)
names_of-keeps r s le f g keeps ys = each-agrees (λ y. text_at r f y.st_name) (λ y. text_at s g y.st_name) (λ y. text_at-keeps r s le f g keeps y.st_name) ys

pub symbol_versions-keeps : (form : Form) (b : Bool) (count : ℕ) (f g : Memory) → (b ≡ true → Keeps f g) → Agrees (symbol_versions form b count f) (symbol_versions form b count g)
unfolding symbol_versions
symbol_versions-keeps form false count f g keeps = λ x h. h
symbol_versions-keeps form true count f g keeps =
    let ids : List ℕ → Option (List (Option VersionId)) = λ b. Some (records (λ c. Some (version_id form c)) 2 count b) in
    bind_agrees (bytes_at (count * 2) f 0) (bytes_at (count * 2) g 0) ids ids (bytes_at-keeps (count * 2) f g (keeps refl) 0) (λ b. Agrees-refl (ids b))

pub dynamic_symbols-keeps : (form : Form) (r s : ℕ) → r ≤ s → (b : Bool) (count : ℕ) (f g t u v w : Memory) → Keeps f g → Keeps t u → (b ≡ true → Keeps v w)
    → Agrees (dynamic_symbols form r b (record { bytes = f; texts = t; count = count }) v) (dynamic_symbols form s b (record { bytes = g; texts = u; count = count }) w)
unfolding dynamic_symbols
dynamic_symbols-keeps form r s le b count f g t u v w fg tu vw =
    let rows : List ℕ → List SymbolNumbers = λ c. records (symbol_numbers form) (symbol_size form) count c in
    bind_agrees (bytes_at (count * symbol_size form) f 0) (bytes_at (count * symbol_size form) g 0)
    (λ c. names_of r t (rows c) >>= (λ ns. symbol_versions form b count v >>= (λ is. Some (named_symbols (rows c) ns is))))
    (λ c. names_of s u (rows c) >>= (λ ns. symbol_versions form b count w >>= (λ is. Some (named_symbols (rows c) ns is))))
    (bytes_at-keeps (count * symbol_size form) f g fg 0)
    (λ c. bind_agrees (names_of r t (rows c)) (names_of s u (rows c))
    (λ ns. symbol_versions form b count v >>= (λ is. Some (named_symbols (rows c) ns is)))
    (λ ns. symbol_versions form b count w >>= (λ is. Some (named_symbols (rows c) ns is)))
    (names_of-keeps r s le t u tu (rows c))
    (λ ns. bind_agrees (symbol_versions form b count v) (symbol_versions form b count w)
    (λ is. Some (named_symbols (rows c) ns is)) (λ is. Some (named_symbols (rows c) ns is))
    (symbol_versions-keeps form b count v w vw) (λ is. Agrees-refl (Some (named_symbols (rows c) ns is)))))

-- ## Chains of version records

-- a step that is there and whole in one memory is the same in the other
abbrev pub WholeAgrees : {A : Type 0} → (ℕ → Option (Step A)) → (ℕ → Option (Step A)) → Type 0
WholeAgrees {A} f g = (a : ℕ) (s : Step A) → f a ≡ Some s → s.is_whole ≡ true → g a ≡ Some s

-- what is walked behind a step, and from a step on
after_step : {A : Type 0} → (ℕ → Option (Step A)) → ℕ → ℕ → Step A → Bool → List (Step A)
after_step read n a step b = elim b [ true ↦ chain_steps read n (a + step.next) | _ ↦ [] ]

from_step : {A : Type 0} → (ℕ → Option (Step A)) → ℕ → ℕ → Option (Step A) → List (Step A)
unfolding after_step
from_step read n a o = elim o [ None ↦ [] | Some step ↦ step ∷ after_step read n a step (step.is_whole && not (eqb step.next 0)) ]

-- a whole walk of one step and more is a whole step and a whole walk of the rest
whole_parts : {A : Type 0} → (n : ℕ) (s : Step A) (rest : List (Step A)) → is_whole_walk (suc n) (s ∷ rest) ≡ true → (s.is_whole ≡ true) × (is_whole_walk n rest ≡ true)
whole_parts n s rest h =
    let both = and_parts (eqb (suc (length rest)) (suc n)) (s.is_whole && list_all (λ t. t.is_whole) rest) h in
    let each_whole = and_parts s.is_whole (list_all (λ t. t.is_whole) rest) both.1 in
    let counted : length rest ≡ n = omega (arith, eqb-true (suc (length rest)) (suc n) both.0) in
    (each_whole.0, and_from (eqb (length rest) n) (list_all (λ t. t.is_whole) rest) (eq-eqb (length rest) n counted) each_whole.1)

after_step-same : {A : Type 0} → (f g : ℕ → Option (Step A)) (n a : ℕ) (s : Step A)
    → (is_whole_walk n (chain_steps f n (a + s.next)) ≡ true → chain_steps g n (a + s.next) ≡ chain_steps f n (a + s.next))
    → (b : Bool) → is_whole_walk n (after_step f n a s b) ≡ true → after_step g n a s b ≡ after_step f n a s b
unfolding after_step
after_step-same f g n a s same true h = same h
after_step-same f g n a s same false h = refl

from_step-same : {A : Type 0} → (f g : ℕ → Option (Step A)) → WholeAgrees f g → (n a : ℕ)
    → ((c : ℕ) → is_whole_walk n (chain_steps f n c) ≡ true → chain_steps g n c ≡ chain_steps f n c)
    → (o : Option (Step A)) → f a ≡ o → is_whole_walk (suc n) (from_step f n a o) ≡ true → from_step g n a (g a) ≡ from_step f n a o
unfolding from_step
from_step-same f g agrees n a same None e h =
    absurd (omega (arith, eqb-true 0 (suc n) (and_parts (eqb 0 (suc n)) true h).0))
from_step-same f g agrees n a same (Some s) e h =
    let goes : Bool = s.is_whole && not (eqb s.next 0) in
    let (here, rest) = whole_parts n s (after_step f n a s goes) h in
    ap (from_step g n a) (agrees a s e here)
    ∙ ap (λ l. s ∷ l) (after_step-same f g n a s (same (a + s.next)) goes rest)

-- a whole walk is the same in the other memory
pub walked-same : {A : Type 0} → (f g : ℕ → Option (Step A)) → WholeAgrees f g → (n a : ℕ) → is_whole_walk n (chain_steps f n a) ≡ true → chain_steps g n a ≡ chain_steps f n a
unfolding chain_steps from_step after_step
walked-same f g agrees zero a h = refl
walked-same f g agrees (suc n) a h = from_step-same f g agrees n a (walked-same f g agrees n) (f a) refl h

pub whole_chain-agrees : {A : Type 0} → (f g : ℕ → Option (Step A)) → WholeAgrees f g → (n : ℕ) → Agrees (whole_chain f n) (whole_chain g n)
unfolding whole_chain
whole_chain-agrees f g agrees n x h =
    let whole = (cond_some (is_whole_walk n (chain_steps f n 0)) (values_of (chain_steps f n 0)) x h).0 in
    ap (λ w. cond (is_whole_walk n w) (Some (values_of w)) None) (walked-same f g agrees n 0 whole) ∙ h

-- steps that agree, agree where they are whole
whole_from_agrees : {A : Type 0} → (f g : ℕ → Option (Step A)) → ((a : ℕ) → Agrees (f a) (g a)) → WholeAgrees f g
whole_from_agrees f g h a s e whole = h a s e

-- ## Defined versions

definition_name-agrees : (form : Form) (f g : Memory) → Keeps f g → WholeAgrees (definition_name_at form f) (definition_name_at form g)
unfolding definition_name_at
definition_name-agrees form f g keeps =
    let step : List ℕ → Option (Step ℕ) = λ b. Some (record { value = fixed_field form (0, 4) b; is_whole = true; next = fixed_field form (4, 4) b }) in
    whole_from_agrees (definition_name_at form f) (definition_name_at form g)
    (λ a. bind_agrees (bytes_at 8 f a) (bytes_at 8 g a) step step (bytes_at-keeps 8 f g keeps a) (λ b. Agrees-refl (step b)))

-- a definition by its bytes and its names
definition_step : Form → List ℕ → List (Step ℕ) → Step DefinitionNumbers
definition_step form bytes names = record {
  value = record { index = fixed_field form (4, 2) bytes; flags = fixed_field form (2, 2) bytes; names = values_of names };
  is_whole = is_whole_walk (fixed_field form (6, 2) bytes) names;
  next = fixed_field form (16, 4) bytes;
}

names_by : Form → Memory → ℕ → List ℕ → List (Step ℕ)
names_by form f a bytes = chain_steps (definition_name_at form f) (fixed_field form (6, 2) bytes) (a + fixed_field form (12, 4) bytes)

definition-agrees : (form : Form) (f g : Memory) → Keeps f g → WholeAgrees (definition_at form f) (definition_at form g)
unfolding definition_at definition_step names_by
definition-agrees form f g keeps a s e whole =
    let (bytes, here, made) = bind_some (bytes_at 20 f a) (λ b. Some (definition_step form b (names_by form f a b))) s e in
    let is_s : definition_step form bytes (names_by form f a bytes) ≡ s = same_Some (definition_step form bytes (names_by form f a bytes)) s made in
    let walked_whole : (definition_step form bytes (names_by form f a bytes)).is_whole ≡ true = ap (λ t. t.is_whole) is_s ∙ whole in
    let same : names_by form g a bytes ≡ names_by form f a bytes = walked-same (definition_name_at form f) (definition_name_at form g) (definition_name-agrees form f g keeps) (fixed_field form (6, 2) bytes) (a + fixed_field form (12, 4) bytes) walked_whole in
    some_bind (bytes_at 20 g a) (λ b. Some (definition_step form b (names_by form g a b))) bytes (bytes_at-keeps 20 f g keeps a bytes here)
    ∙ ap (λ l. Some (definition_step form bytes l)) same ∙ made

pub shown_definition-keeps : (r s : ℕ) → r ≤ s → (f g : Memory) → Keeps f g → (d : DefinitionNumbers) → Agrees (shown_definition r f d) (shown_definition s g d)
unfolding shown_definition
shown_definition-keeps r s le f g keeps d =
    let shown : List (List ℕ) → Option VersionDefinition = λ names. Some (record { index = d.index; flags = d.flags; names = names }) in
    bind_agrees (each (text_at r f) d.names) (each (text_at s g) d.names) shown shown
    (each-agrees (text_at r f) (text_at s g) (λ n. text_at-keeps r s le f g keeps n) d.names) (λ names. Agrees-refl (shown names))

pub defined_versions-keeps : (form : Form) (r s : ℕ) → r ≤ s → (count : ℕ) (f g t u : Memory) → Keeps f g → Keeps t u
    → Agrees (defined_versions form r (record { bytes = f; texts = t; count = count })) (defined_versions form s (record { bytes = g; texts = u; count = count }))
unfolding defined_versions
defined_versions-keeps form r s le count f g t u fg tu =
    bind_agrees (whole_chain (definition_at form f) count) (whole_chain (definition_at form g) count) (each (shown_definition r t)) (each (shown_definition s u))
    (whole_chain-agrees (definition_at form f) (definition_at form g) (definition-agrees form f g fg) count)
    (λ ds. each-agrees (shown_definition r t) (shown_definition s u) (shown_definition-keeps r s le t u tu) ds)

-- ## Needed versions

need_name_step : Form → List ℕ → Step NeedNameNumbers
need_name_step form b = record {
  value = record { index = fixed_field form (6, 2) b; name = fixed_field form (8, 4) b; flags = fixed_field form (4, 2) b };
  is_whole = true;
  next = fixed_field form (12, 4) b;
}

need_name-agrees : (form : Form) (f g : Memory) → Keeps f g → WholeAgrees (need_name_at form f) (need_name_at form g)
unfolding need_name_at need_name_step
need_name-agrees form f g keeps =
    whole_from_agrees (need_name_at form f) (need_name_at form g)
    (λ a. bind_agrees (bytes_at 16 f a) (bytes_at 16 g a) (λ b. Some (need_name_step form b)) (λ b. Some (need_name_step form b)) (bytes_at-keeps 16 f g keeps a) (λ b. Agrees-refl (Some (need_name_step form b))))

need_step : Form → List ℕ → List (Step NeedNameNumbers) → Step NeedNumbers
need_step form bytes versions = record {
  value = record { file = fixed_field form (4, 4) bytes; versions = values_of versions };
  is_whole = is_whole_walk (fixed_field form (2, 2) bytes) versions;
  next = fixed_field form (12, 4) bytes;
}

versions_by : Form → Memory → ℕ → List ℕ → List (Step NeedNameNumbers)
versions_by form f a bytes = chain_steps (need_name_at form f) (fixed_field form (2, 2) bytes) (a + fixed_field form (8, 4) bytes)

need-agrees : (form : Form) (f g : Memory) → Keeps f g → WholeAgrees (need_at form f) (need_at form g)
unfolding need_at need_step versions_by
need-agrees form f g keeps a s e whole =
    let (bytes, here, made) = bind_some (bytes_at 16 f a) (λ b. Some (need_step form b (versions_by form f a b))) s e in
    let is_s : need_step form bytes (versions_by form f a bytes) ≡ s = same_Some (need_step form bytes (versions_by form f a bytes)) s made in
    let walked_whole : (need_step form bytes (versions_by form f a bytes)).is_whole ≡ true = ap (λ t. t.is_whole) is_s ∙ whole in
    let same : versions_by form g a bytes ≡ versions_by form f a bytes = walked-same (need_name_at form f) (need_name_at form g) (need_name-agrees form f g keeps) (fixed_field form (2, 2) bytes) (a + fixed_field form (8, 4) bytes) walked_whole in
    some_bind (bytes_at 16 g a) (λ b. Some (need_step form b (versions_by form g a b))) bytes (bytes_at-keeps 16 f g keeps a bytes here)
    ∙ ap (λ l. Some (need_step form bytes l)) same ∙ made

shown_need_name-keeps : (r s : ℕ) → r ≤ s → (f g : Memory) → Keeps f g → (v : NeedNameNumbers) → Agrees (shown_need_name r f v) (shown_need_name s g v)
unfolding shown_need_name
shown_need_name-keeps r s le f g keeps v =
    let shown : List ℕ → Option VersionName = λ name. Some (record { index = v.index; name = name; flags = v.flags }) in
    bind_agrees (text_at r f v.name) (text_at s g v.name) shown shown (text_at-keeps r s le f g keeps v.name) (λ name. Agrees-refl (shown name))

pub shown_need-keeps : (r s : ℕ) → r ≤ s → (f g : Memory) → Keeps f g → (n : NeedNumbers) → Agrees (shown_need r f n) (shown_need s g n)
unfolding shown_need
shown_need-keeps r s le f g keeps n =
    let shown : List ℕ → List VersionName → Option VersionNeeds = λ file versions. Some (record { file = file; versions = versions }) in
    bind_agrees (text_at r f n.file) (text_at s g n.file) (λ file. each (shown_need_name r f) n.versions >>= (shown file)) (λ file. each (shown_need_name s g) n.versions >>= (shown file))
    (text_at-keeps r s le f g keeps n.file)
    (λ file. bind_agrees (each (shown_need_name r f) n.versions) (each (shown_need_name s g) n.versions) (shown file) (shown file)
    (each-agrees (shown_need_name r f) (shown_need_name s g) (shown_need_name-keeps r s le f g keeps) n.versions) (λ versions. Agrees-refl (shown file versions)))

pub needed_versions-keeps : (form : Form) (r s : ℕ) → r ≤ s → (count : ℕ) (f g t u : Memory) → Keeps f g → Keeps t u
    → Agrees (needed_versions form r (record { bytes = f; texts = t; count = count })) (needed_versions form s (record { bytes = g; texts = u; count = count }))
unfolding needed_versions
needed_versions-keeps form r s le count f g t u fg tu =
    bind_agrees (whole_chain (need_at form f) count) (whole_chain (need_at form g) count) (each (shown_need r t)) (each (shown_need s u))
    (whole_chain-agrees (need_at form f) (need_at form g) (need-agrees form f g fg) count)
    (λ ns. each-agrees (shown_need r t) (shown_need s u) (shown_need-keeps r s le t u tu) ns)
