-- The reader goes through the read rules in stages: which stage's fault is the answer.
use Rattle.std.proofs.Common.{◌≡◌, ℕ, List, [], ◌∷◌, Bool, true, false, Option, Some, None, Result, Ok, Err, refl, sym, ap, ◌∙◌, inl, inr}
use Rattle.std.specs.Prelude.{MatchResult, is_some}
use Rattle.elf_format.specs.declared.fault.ElfFault.{ElfFault}
use Rattle.elf_format.specs.declared.fault.ElfFault.TheVariants as faults
use Rattle.elf_format.specs.declared.fault.ElfFault.TheVariants.{BadText}
use Rattle.elf_format.specs.File.{Parts}
use Rattle.elf_format.specs.Image.{Image, image_in, image_of}
use Rattle.elf_format.specs.Stages.{last_rules, link_rules, parts_read}
use Rattle.elf_image_versions.specs.Read.{Refuses}
use Rattle.elf_format.specs.Rules.{◌>>=◌, accepted_parts, checked, do_texts_end, placement_rules, rule, there_or}
use Rattle.elf_image.specs.ImageSteps.{TextsRead, image_by_groups}
use Rattle.elf_image.proofs.ImageSteps.{image_in-groups}
use Rattle.elf_format.proofs.ForCallers.ImageShows.{accepted_by_parts, texts_there}

-- a refusal without want of memory is the answer
pub refused_is : {A : Type 0} → (e : ElfFault) (r : Result A ElfFault) → Refuses e r → (e ≡ faults.Memory → ⊥) → r ≡ Err e
refused_is faults.Memory r h other = absurd (other refl)
refused_is faults.BadMagic r h other = h
refused_is faults.Truncated r h other = h
refused_is faults.Unsupported r h other = h
refused_is (faults.Disagree n) r h other = h
refused_is faults.BadText r h other = h
refused_is faults.NumberTooLarge r h other = h

err_bind : {A B : Type 0} → (r : Result A ElfFault) (f : A → Result B ElfFault) (e : ElfFault) → r ≡ Err e → (r >>= f) ≡ Err e
err_bind r f e h = ap (λ s. s >>= f) h

ok_bind : {A B : Type 0} → (r : Result A ElfFault) (f : A → Result B ElfFault) (x : A) → r ≡ Ok x → (r >>= f) ≡ f x
ok_bind r f x h = ap (λ s. s >>= f) h

-- the stages, the last first
last : Parts → Result Parts ElfFault
last p = checked last_rules p

texts : Parts → Result Parts ElfFault
texts p = checked (rule do_texts_end BadText ∷ []) p >>= λ _. last p

links : Parts → Result Parts ElfFault
links p = checked link_rules p >>= λ _. texts p

placing : Parts → Result Parts ElfFault
placing p = checked placement_rules p >>= λ _. links p

answer : Result Parts ElfFault → Result Image ElfFault
answer r = elim r [ Ok p ↦ there_or BadText (image_in p) | Err fault ↦ Err fault ]

by_answer : (file : List ℕ) → image_of file ≡ answer (accepted_parts file)
unfolding image_of answer
by_answer file = refl

by_stages : (file : List ℕ) → accepted_parts file ≡ (parts_read file >>= placing)
unfolding placing links texts last
by_stages file = accepted_by_parts file

answers : (file : List ℕ) (r : Result Parts ElfFault) → accepted_parts file ≡ r → image_of file ≡ answer r
answers file r h = by_answer file ∙ ap answer h

pub open_refused : (file : List ℕ) (e : ElfFault) → parts_read file ≡ Err e → image_of file ≡ Err e
unfolding answer
open_refused file e h = answers file (Err e) (by_stages file ∙ err_bind (parts_read file) placing e h)

module _ (file : List ℕ) (p : Parts) (there : parts_read file ≡ Ok p) where
  from_parts : accepted_parts file ≡ placing p
  from_parts = by_stages file ∙ ok_bind (parts_read file) placing p there

  pub placement_refused : (e : ElfFault) → checked placement_rules p ≡ Err e → image_of file ≡ Err e
  unfolding answer placing
  placement_refused e h = answers file (Err e) (from_parts ∙ err_bind (checked placement_rules p) (λ _. links p) e h)

  module _ (placed : checked placement_rules p ≡ Ok p) where
    from_links : accepted_parts file ≡ links p
    unfolding placing
    from_links = from_parts ∙ ok_bind (checked placement_rules p) (λ _. links p) p placed

    pub links_refused : (e : ElfFault) → checked link_rules p ≡ Err e → image_of file ≡ Err e
    unfolding answer links
    links_refused e h = answers file (Err e) (from_links ∙ err_bind (checked link_rules p) (λ _. texts p) e h)

    module _ (linked : checked link_rules p ≡ Ok p) where
      from_texts : accepted_parts file ≡ texts p
      unfolding links
      from_texts = from_links ∙ ok_bind (checked link_rules p) (λ _. texts p) p linked

      texts_checked : (b : Bool) → do_texts_end p ≡ b → checked (rule do_texts_end BadText ∷ []) p ≡ (elim b [ true ↦ Ok p | _ ↦ Err BadText ])
      unfolding checked
      texts_checked b h = ap (λ c. elim c [ true ↦ Ok p | _ ↦ Err BadText ]) h

      no_texts : (o : Option Image) (e : ElfFault) → image_in p ≡ o → there_or BadText o ≡ Err e → image_of file ≡ Err e
      unfolding answer texts
      no_texts None e there_is h =
          let missing : do_texts_end p ≡ false = sym (texts_there p) ∙ ap is_some there_is in
          answers file (Err BadText) (from_texts ∙ err_bind (checked (rule do_texts_end BadText ∷ []) p) (λ _. last p) BadText (texts_checked false missing)) ∙ h
      no_texts (Some image) e there_is h = absurd (cc)

      pub texts_refused : (e : ElfFault) → there_or BadText (image_in p) ≡ Err e → image_of file ≡ Err e
      texts_refused e h = no_texts (image_in p) e refl h

      module _ (image : Image) (read : there_or BadText (image_in p) ≡ Ok image) where
        image_there : (o : Option Image) → image_in p ≡ o → there_or BadText o ≡ Ok image → do_texts_end p ≡ true
        image_there (Some i) there_is h = sym (texts_there p) ∙ ap is_some there_is
        image_there None there_is h = absurd (cc)

        from_last : accepted_parts file ≡ last p
        unfolding texts
        from_last = from_texts ∙ ok_bind (checked (rule do_texts_end BadText ∷ []) p) (λ _. last p) p (texts_checked true (image_there (image_in p) refl read))

        pub last_refused : (e : ElfFault) → checked last_rules p ≡ Err e → image_of file ≡ Err e
        unfolding answer last
        last_refused e h = answers file (Err e) (from_last ∙ h)

        pub all_read : checked last_rules p ≡ Ok p → image_of file ≡ Ok image
        unfolding answer last
        all_read h = answers file (Ok p) (from_last ∙ h) ∙ read

      groups : there_or BadText (image_in p) ≡ there_or BadText (image_by_groups p)
      groups = ap (there_or BadText) (image_in-groups p)

      pub texts_read : {X : Type 0} → (view : X → Image) (x : X) → TextsRead view p (Ok x) → image_of file ≡ Ok (view x)
      texts_read view x h = all_read (view x) (groups ∙ h.0) h.1

      pub no_image : {X : Type 0} → (view : X → Image) (e : ElfFault) → TextsRead view p (Err e) → (e ≡ faults.Memory → ⊥) → image_of file ≡ Err e
      no_image view e h = elim h [
        | inl refused ↦ λ other. texts_refused e (groups ∙ refused_is e (there_or BadText (image_by_groups p)) refused other)
        | inr late ↦ λ other. last_refused late.0 (groups ∙ late.1) e (refused_is e (checked last_rules p) late.2 other)
      ]

      -- the answer where the texts were looked for
      pub image_is_read : {X : Type 0} → (view : X → Image) (r : Result X ElfFault) → TextsRead view p r
          → MatchResult r (λ x. image_of file ≡ Ok (view x)) (λ e. (e ≡ faults.Memory → ⊥) → image_of file ≡ Err e)
      image_is_read view (Ok x) h = texts_read view x h
      image_is_read view (Err e) h = no_image view e h
