-- A table in which texts are placed, one after another.
use Rattle.std.proofs.Common.{◌≡◌, ℕ, ◌+◌, ◌<◌, List, length, get_or, inl, inr, sym, ap, ◌∙◌, subst, arith}
use Rattle.std.proofs.lemmas.Bool.{cases_lt}
use Rattle.std.proofs.lemmas.List.{get_or_default}
use Rattle.elf_tables.specs.Strings.{StandsAt, Strings}
use Rattle.elf_format.specs.declared.records.NeedNameNumbers.{NeedNameNumbers}
use Rattle.elf_format.specs.Versions.{DefinitionNumbers, NeedNumbers}
use Rattle.patch_bytes.specs.ByteString.{bytes_of_each}
use Rattle.elf_image_versions.specs.declared.version.VersionDef.{VersionDef}
use Rattle.elf_image_versions.specs.declared.version.VersionNeed.{VersionNeed}
use Rattle.elf_image_versions.specs.declared.version.VersionNeedName.{VersionNeedName}
use Rattle.elf_write_strings.specs.VersionPlaces.{AreAt, AreDefinitionsAt, AreNamesAt, AreNeedsAt, HasMore, IsNeedAt, TellsNeed}

pub more-trans : (a b c : Strings) → HasMore a b → HasMore b c → HasMore a c
more-trans a b c ab bc = record {
  bytes = bc.bytes ∙ ab.bytes;
  had = λ text h. bc.had text (ab.had text h);
  stand = λ h. bc.stand (ab.stand h);
}

-- what holds of all elements before a place, and of the one there, holds of all up to it
pub up_to : {A : Type 0} → (P Q : A → Type 0) (xs : List A) (i : ℕ) (x : A) → ((y : A) → P y → Q y)
    → ((k : ℕ) (d : A) → k < i → P (get_or xs k d)) → i < length xs → x ≡ get_or xs i x → Q x
    → (k : ℕ) (d : A) → k < i + 1 → Q (get_or xs k d)
up_to {A} P Q xs i x weaker before within here q k d below = elim (cases_lt k i) [
  | inl less ↦ weaker (get_or xs k d) (before k d less)
  | inr past ↦
      let same : i ≡ k = omega (arith, below, past) in
      let at : Q (get_or xs i d) = subst Q (here ∙ get_or_default xs i x d within) q in
      subst (λ (n : ℕ). Q (get_or xs n d)) same at
]

-- the text at a place of the list stands in the table as it is by now
pub text_at_place : (old now : Strings) (texts : List (List ℕ)) (places : List ℕ) (i d : ℕ) (text : List ℕ) → AreAt old.bytes texts places
    → HasMore old now → i < length texts → text ≡ get_or texts i text → StandsAt now.bytes (get_or places i d) text
text_at_place old now texts places i d text at more within here =
    subst (λ (t : List ℕ). StandsAt now.bytes (get_or places i d) t) (sym here)
    (subst (λ (bytes : List ℕ). StandsAt bytes (get_or places i d) (get_or texts i text)) (sym more.bytes) (at.each i d text within))

-- the names of a defined version stand in the table as it is by now where its record tells
pub definition_at_place : (old now : Strings) (definitions : List VersionDef) (records : List DefinitionNumbers) (i : ℕ) (d : VersionDef)
    (r : DefinitionNumbers) → AreDefinitionsAt old.bytes definitions records → HasMore old now → i < length definitions
    → d ≡ get_or definitions i d → r ≡ get_or records i r → AreAt now.bytes (bytes_of_each d.names.items) r.names
definition_at_place old now definitions records i d r at more within definition numbers =
    subst (λ (x : VersionDef). AreAt now.bytes (bytes_of_each x.names.items) r.names) (sym definition)
    (subst (λ (y : DefinitionNumbers). AreAt now.bytes (bytes_of_each (get_or definitions i d).names.items) y.names) (sym numbers)
    (subst (λ (bytes : List ℕ). AreAt bytes (bytes_of_each (get_or definitions i d).names.items) (get_or records i r).names) (sym more.bytes)
    (at.each i d r within)))

-- ## Needed versions

-- the name of a needed version stands at its place
pub name_at_place : (old now : Strings) (versions : List VersionNeedName) (records : List NeedNameNumbers) (i : ℕ) (r : NeedNameNumbers)
    (v : VersionNeedName) (text : List ℕ) → AreNamesAt old.bytes versions records
    → HasMore old now → i < length versions → v ≡ get_or versions i v → text ≡ v.name.bytes → StandsAt now.bytes (get_or records i r).name text
name_at_place old now versions records i r v text at more within here same =
    subst (λ (t : List ℕ). StandsAt now.bytes (get_or records i r).name t) (ap (λ (x : VersionNeedName). x.name.bytes) (sym here) ∙ sym same)
    (subst (λ (bytes : List ℕ). StandsAt bytes (get_or records i r).name (get_or versions i v).name.bytes) (sym more.bytes) (at.each i v r within))

-- the texts of the versions needed of a library stand at their places
pub need_at_place : (old now : Strings) (needs : List VersionNeed) (records : List NeedNumbers) (i : ℕ) (n : VersionNeed) (r : NeedNumbers)
    → AreNeedsAt old.bytes needs records → HasMore old now → i < length needs → n ≡ get_or needs i n → r ≡ get_or records i r
    → IsNeedAt now.bytes n r
need_at_place old now needs records i n r at more within need numbers =
    subst (λ (x : VersionNeed). IsNeedAt now.bytes x r) (sym need)
    (subst (λ (y : NeedNumbers). IsNeedAt now.bytes (get_or needs i n) y) (sym numbers)
    (subst (λ (bytes : List ℕ). IsNeedAt bytes (get_or needs i n) (get_or records i r)) (sym more.bytes) (at.each i n r within)))

pub need_more : (old now : Strings) → HasMore old now → (n : VersionNeed) → TellsNeed old n → TellsNeed now n
need_more old now more n told = record {
  file = more.had n.file.bytes told.file;
  versions = λ i v within. more.had _ (told.versions i v within);
}
