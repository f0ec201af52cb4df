-- Which kinds of sections show texts: of these each links to a string table.
use Rattle.std.proofs.Common.{◌≡◌, ℕ, Bool, true, false, [], ◌∷◌, refl, sym, ap, ◌∙◌, inl, inr}
use Rattle.std.specs.Prelude.{◌⊎◌, ◌==◌, if◌then◌else◌}
use Rattle.std.proofs.lemmas.Bool.{both_ways, eqb-true, false≢true}
use Rattle.elf_format.specs.declared.constants.TheConstants.{SHT_DYNAMIC, SHT_DYNSYM, SHT_GNU_HASH, SHT_GNU_VERDEF, SHT_GNU_VERNEED, SHT_GNU_VERSYM, SHT_HASH, SHT_NOBITS, SHT_NOTE, SHT_REL, SHT_RELA, SHT_STRTAB, SHT_SYMTAB}
use Rattle.elf_format.specs.declared.section_data.SectionData.{SectionData}
use Rattle.elf_format.specs.declared.section_data.SectionData.TheVariants as kinds
use Rattle.elf_format.specs.File.{Parts}
use Rattle.elf_format.specs.Image.{Image, ImageSection}
use Rattle.elf_format.specs.Options.{is_one_of}
use Rattle.elf_format.specs.Rules.{is_opaque_relocation, text_users}
use Rattle.elf_write_spec.proofs.ForCallers.SectionKinds.{kind_by}
use Rattle.elf_write_spec.proofs.ForCallers.WholeEdits.{SectionRead}

-- a kind of which the bytes show texts
unfoldable pub shows_texts : SectionData → Bool
shows_texts kinds.Dynamic = true
shows_texts kinds.Symbols = true
shows_texts kinds.DynamicSymbols = true
shows_texts kinds.GnuVerdef = true
shows_texts kinds.GnuVerneed = true
shows_texts kinds.Opaque = false
shows_texts kinds.Uninitialized = false
shows_texts kinds.Relocation = false
shows_texts kinds.Note = false
shows_texts kinds.Strings = false
shows_texts kinds.Hash = false
shows_texts kinds.GnuHash = false
shows_texts kinds.GnuVersym = false

-- one test of a chain of tests passes
or_later : (b : Bool) (k rest : SectionData) → shows_texts (if b then k else rest) ≡ true → (b ≡ true) ⊎ (shows_texts rest ≡ true)
or_later true k rest h = inl refl
or_later false k rest h = inr h

no_text : (b : Bool) (k rest : SectionData) → shows_texts k ≡ false → shows_texts (if b then k else rest) ≡ true → shows_texts rest ≡ true
unfolding shows_texts
no_text true k rest none h = absurd (both_ways (shows_texts k) none h)
no_text false k rest none h = h

user_of : (n type : ℕ) → is_one_of text_users type ≡ true → (n == type) ≡ true → is_one_of text_users n ≡ true
user_of n type user same = ap (is_one_of text_users) (eqb-true n type same) ∙ user

-- a section of such a kind links to its texts
text_kinds : (opaque : Bool) (n : ℕ) → shows_texts (kind_by n opaque) ≡ true → is_one_of text_users n ≡ true
unfolding shows_texts
text_kinds opaque n h =
    let a = no_text (n == SHT_NOBITS) kinds.Uninitialized _ refl h in
    elim (or_later (n == SHT_DYNAMIC) kinds.Dynamic _ a) [
      | inl same ↦ user_of n SHT_DYNAMIC refl same
      | inr b ↦
          let c = no_text (is_one_of (SHT_REL ∷ SHT_RELA ∷ []) n) (if opaque then kinds.Opaque else kinds.Relocation) _ (relocations opaque) b in
          let d = no_text (n == SHT_NOTE) kinds.Note _ refl c in
          let e = no_text (n == SHT_STRTAB) kinds.Strings _ refl d in
          elim (or_later (n == SHT_SYMTAB) kinds.Symbols _ e) [
            | inl same ↦ user_of n SHT_SYMTAB refl same
            | inr g ↦ elim (or_later (n == SHT_DYNSYM) kinds.DynamicSymbols _ g) [
              | inl same ↦ user_of n SHT_DYNSYM refl same
              | inr i ↦
                  let j = no_text (n == SHT_HASH) kinds.Hash _ refl i in
                  let k = no_text (n == SHT_GNU_HASH) kinds.GnuHash _ refl j in
                  let l = no_text (n == SHT_GNU_VERSYM) kinds.GnuVersym _ refl k in
                  elim (or_later (n == SHT_GNU_VERDEF) kinds.GnuVerdef _ l) [
                    | inl same ↦ user_of n SHT_GNU_VERDEF refl same
                    | inr m ↦ elim (or_later (n == SHT_GNU_VERNEED) kinds.GnuVerneed _ m) [
                      | inl same ↦ user_of n SHT_GNU_VERNEED refl same
                      | inr none ↦ absurd (false≢true none)
                    ]
                  ]
            ]
          ]
    ]
  where
    relocations : (b : Bool) → shows_texts (if b then kinds.Opaque else kinds.Relocation) ≡ false
    relocations true = refl
    relocations false = refl

-- a section that doesn't link to texts shows none
pub shows_none : (read image : Image) (p : Parts) (i : ℕ) (at : SectionRead read image p i) → is_one_of text_users at.section.sh_type ≡ false
    → shows_texts at.section.kind ≡ false
shows_none read image p i at none = by_test (shows_texts at.section.kind) refl
  where
    kind_is : at.section.kind ≡ kind_by at.old.sh_type (is_opaque_relocation p at.old)
    kind_is = ap (λ (x : ImageSection). x.kind) at.of_old.fields

    by_test : (b : Bool) → shows_texts at.section.kind ≡ b → shows_texts at.section.kind ≡ false
    by_test false h = h
    by_test true h =
        let user : is_one_of text_users at.old.sh_type ≡ true =
        text_kinds (is_opaque_relocation p at.old) at.old.sh_type (ap shows_texts (sym kind_is) ∙ h) in
        absurd (both_ways (is_one_of text_users at.section.sh_type) none
        (ap (λ (x : ImageSection). is_one_of text_users x.sh_type) at.of_old.fields ∙ user))
