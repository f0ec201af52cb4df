-- Options that are put one behind another.
use Rattle.std.proofs.Common.{◌≡◌, ◌∙◌, ◌+◌, ◌<◌, ◌≤◌, [], ℕ, Bool, List, Option, Result, Ok, Err, IfErr, ap, drop, get_or, inl, inr, length, map, refl, subst, sym}
use Rattle.std.proofs.lemmas.List.{drop_all, drop_more}
use Rattle.arwen_cli_options.specs.Options.{Asked, Text, given_model}
use Rattle.arwen_cli_options.specs.declared.options.Given.{Given}
use Rattle.arwen_cli_patchelf_lines.specs.Values.{ArePut, AreResolvedFrom, IsMapText, IsPut, IsPutFrom, IsRefusedAmong, IsRefusedOf, IsUnreadFrom, TellsWrongMap, path_named, rename_asked}
use Rattle.std.specs.Str.{IsUtf8}
use Rattle.byte_store.specs.Known.{IsAll}
use Rattle.byte_store.specs.declared.reading.ReadError.{ReadError}
use Rattle.byte_store.specs.declared.reading.ReadError.TheVariants as read
use Rattle.arwen_cli_patchelf_lines.specs.Causes.{cause_of_read}
use Rattle.arwen_cli_patchelf_lines.specs.NameMaps.{pairs_of, spaced_all}
use Rattle.arwen_cli_patchelf_lines.specs.declared.values.Source.TheVariants.{File, NameMap}
use Rattle.arwen_cli_patchelf_lines.specs.declared.values.ValueCause.{ValueCause}
use Rattle.arwen_cli_patchelf_lines.specs.declared.values.ValueCause.TheVariants.{Io, Map, Memory, NotText}
use Rattle.arwen_cli_patchelf_lines.specs.declared.values.ValueRefused.{ValueRefused}

-- what the options that are left ask for behind those so far is what all ask for
abbrev pub Leads : (Text → Option (List ℕ)) → Bool → List Given → List Asked → List Given → Type 0
Leads known shrinks given so_far left =
    (all : List Asked) → AreResolvedFrom known shrinks so_far (map given_model left) all → AreResolvedFrom known shrinks [] (map given_model given) all

pub one_more : (known : Text → Option (List ℕ)) (shrinks : Bool) (given : List Given) (i : ℕ) (d : Given) (old new : List Asked) → i < length given
    → Leads known shrinks given old (drop i given) → IsPut known shrinks (given_model (get_or given i d)) old new
    → Leads known shrinks given new (drop (i + 1) given)
one_more known shrinks given i d old new inside before put = λ all more.
    before all (subst (λ (left : List Given). AreResolvedFrom known shrinks old (map given_model left) all) (sym (drop_more given i d inside)) (new, put, more))

pub all_put : (known : Text → Option (List ℕ)) (shrinks : Bool) (given : List Given) (i : ℕ) (new : List Asked) → length given ≤ i
    → Leads known shrinks given new (drop i given) → AreResolvedFrom known shrinks [] (map given_model given) new
all_put known shrinks given i new past before =
    before new (subst (λ (left : List Given). AreResolvedFrom known shrinks new (map given_model left) new) (sym (drop_all i given past)) refl)

-- a refusal of one of the options that are left is one of all
abbrev pub Stops : (Text → Option (List ℕ)) → (Text → ReadError → Type 0) → Bool → List Given → List Given → Type 0
Stops known fails shrinks given left =
    (refused : ValueRefused) → IsRefusedAmong known fails shrinks (map given_model left) refused → IsRefusedAmong known fails shrinks (map given_model given) refused

pub one_past : (known : Text → Option (List ℕ)) (fails : Text → ReadError → Type 0) (shrinks : Bool) (given : List Given) (i : ℕ) (d : Given) (old new : List Asked) → i < length given
    → Stops known fails shrinks given (drop i given) → IsPut known shrinks (given_model (get_or given i d)) old new
    → Stops known fails shrinks given (drop (i + 1) given)
one_past known fails shrinks given i d old new inside before put = λ refused more.
    before refused (subst (λ (left : List Given). IsRefusedAmong known fails shrinks (map given_model left) refused) (sym (drop_more given i d inside)) (inr (put.0, put.1, more)))

pub one_refused : (known : Text → Option (List ℕ)) (fails : Text → ReadError → Type 0) (shrinks : Bool) (given : List Given) (i : ℕ) (d : Given) (refused : ValueRefused) → i < length given
    → Stops known fails shrinks given (drop i given) → IsRefusedOf known fails shrinks (given_model (get_or given i d)) refused
    → IsRefusedAmong known fails shrinks (map given_model given) refused
one_refused known fails shrinks given i d refused inside before told =
    before refused (subst (λ (left : List Given). IsRefusedAmong known fails shrinks (map given_model left) refused) (sym (drop_more given i d inside)) (inl told))

-- ## Files that aren't read, or are no text

pub no_file : (known : Text → Option (List ℕ)) (fails : Text → ReadError → Type 0) (one : Asked) (e : ReadError) → fails (path_named one.first) e
    → IsUnreadFrom File known fails one (cause_of_read e)
no_file known fails one read.Memory failed = tt
no_file known fails one (read.Io e) failed = failed

pub no_map : (known : Text → Option (List ℕ)) (fails : Text → ReadError → Type 0) (one : Asked) (e : ReadError) → fails one.first e
    → IsUnreadFrom NameMap known fails one (cause_of_read e)
no_map known fails one read.Memory failed = tt
no_map known fails one (read.Io e) failed = failed

pub no_text : (known : Text → Option (List ℕ)) (fails : Text → ReadError → Type 0) (one : Asked) (bytes : List ℕ) (cause : ValueCause) → IsAll (known (path_named one.first)) bytes → cause ≡ NotText → (IsUtf8 bytes → ⊥)
    → IsUnreadFrom File known fails one cause
no_text known fails one bytes cause all is never =
    let P : ValueCause → Type 0 = λ told. IsUnreadFrom File known fails one told in
    subst P (sym is) (bytes, all, never)

no_map_text : (known : Text → Option (List ℕ)) (fails : Text → ReadError → Type 0) (one : Asked) (bytes text : List ℕ) (cause : ValueCause) → IsAll (known one.first) bytes → text ≡ spaced_all bytes → cause ≡ NotText → (IsUtf8 text → ⊥)
    → IsUnreadFrom NameMap known fails one cause
no_map_text known fails one bytes text cause all same is never =
    let P : ValueCause → Type 0 = λ told. IsUnreadFrom NameMap known fails one told in
    let Never : List ℕ → Type 0 = λ l. IsUtf8 l → ⊥ in
    subst P (sym is) (bytes, all, subst Never same never)

-- the text that the bytes of a map are, or that they are none
pub map_unread : {X : Type 0} (known : Text → Option (List ℕ)) (fails : Text → ReadError → Type 0) (one : Asked) (bytes text : List ℕ) (result : Result X ValueCause) → IsAll (known one.first) bytes → text ≡ spaced_all bytes
    → IfErr result (λ cause. cause ≡ NotText) → IfErr result (λ _. IsUtf8 text → ⊥) → IfErr result (IsUnreadFrom NameMap known fails one)
map_unread known fails one bytes text (Ok made) all same is never = tt
map_unread known fails one bytes text (Err cause) all same is never = no_map_text known fails one bytes text cause all same is never

-- ## Maps of names

pub map_put : (known : Text → Option (List ℕ)) (one : Asked) (text lent : Text) (old new : List Asked) → lent ≡ text → IsMapText (known one.first) text → ArePut one.name lent old new → IsPutFrom NameMap known one old new
map_put known one text lent old new same read put =
    (map (rename_asked one.name) put.0, (read.0, put.0, read.1, ap pairs_of (sym (same ∙ read.2)) ∙ put.1, refl), put.2)

pub map_wrong : (known : Text → Option (List ℕ)) (fails : Text → ReadError → Type 0) (one : Asked) (text lent : Text) (cause : ValueCause) → lent ≡ text → IsMapText (known one.first) text → TellsWrongMap lent cause → IsUnreadFrom NameMap known fails one cause
map_wrong known fails one text lent Memory same read told = tt
map_wrong known fails one text lent (Map wrong line) same read told = (read.0, read.1, ap pairs_of (sym (same ∙ read.2)) ∙ told)
map_wrong known fails one text lent (Io e) same read told = absurd told
map_wrong known fails one text lent NotText same read told = absurd told
