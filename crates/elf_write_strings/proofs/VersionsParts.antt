-- The header tables of a file that an image was read from.
use Rattle.std.proofs.Common.{◌≡◌, Bool, true, false, List, [], ◌∷◌, refl, sym, ap, ◌∙◌, Result, Ok, Err}
use Rattle.elf_format.specs.declared.fault.ElfFault.{ElfFault}
use Rattle.elf_format.specs.declared.fault.ElfFault.TheVariants.{BadText}
use Rattle.elf_format.specs.declared.fault.ElfFault.TheVariants as faults
use Rattle.elf_format.specs.File.{Parts}
use Rattle.elf_format.specs.Image.{Image}
use Rattle.elf_format.specs.Rules.{◌>>=◌, Rule, accepted_parts, checked, do_texts_end, placement_rules, rule}
use Rattle.elf_format.specs.Stages.{last_rules, link_rules, parts_read}
use Rattle.elf_format.proofs.ForCallers.ImageShows.{accepted_by_parts}
use Rattle.elf_image_rules.specs.Read.{Refuses}
use Rattle.elf_image.specs.Edited.{IsEdited}
use Rattle.elf_image.proofs.ForCallers.ReadImageLaws.{read_images_hold_parts}

same_by : (b : Bool) (r : Result Parts ElfFault) (fault : ElfFault) (p q : Parts) → (r ≡ Ok p → q ≡ p)
    → (elim b as (λ _. Result Parts ElfFault) [ true ↦ r | _ ↦ Err fault ]) ≡ Ok p → q ≡ p
same_by true r fault p q more h = more h
same_by false r fault p q more h = absurd (cc)

-- what passes rules is what was checked
same_checked : (rs : List (Rule Parts)) (p q : Parts) → checked rs q ≡ Ok p → q ≡ p
unfolding checked
same_checked [] p q h = cc
same_checked (r ∷ rs) p q h = same_by (r.holds q) (checked rs q) r.fault p q (same_checked rs p q) h

second : (r s : Result Parts ElfFault) (p : Parts) → (r >>= λ _. s) ≡ Ok p → s ≡ Ok p
second (Ok x) s p h = h
second (Err e) s p h = absurd (cc)

pub parts_accepted : (image : Image) → IsEdited image → (q : Parts) → parts_read image.source ≡ Ok q → accepted_parts image.source ≡ Ok q
parts_accepted image is q there =
    let (p, accepted, parts, meets, holds) = read_images_hold_parts image.source is.read is.is_read in
    let texts : Parts → Result Parts ElfFault = λ x. checked (rule do_texts_end BadText ∷ []) x in
    let last : Parts → Result Parts ElfFault = λ x. checked last_rules x in
    let placing : Parts → Result Parts ElfFault = λ x.
    checked placement_rules x >>= λ _. checked link_rules x >>= λ _. texts x >>= λ _. last x in
    let all : placing q ≡ Ok p = sym (ap (λ (r : Result Parts ElfFault). r >>= placing) there) ∙ sym (accepted_by_parts image.source) ∙ accepted in
    let linked : (checked link_rules q >>= λ _. texts q >>= λ _. last q) ≡ Ok p =
    second (checked placement_rules q) (checked link_rules q >>= λ _. texts q >>= λ _. last q) p all in
    let ended : (texts q >>= λ _. last q) ≡ Ok p = second (checked link_rules q) (texts q >>= λ _. last q) p linked in
    let same : q ≡ p = same_checked last_rules p q (second (texts q) (last q) p ended) in
    accepted ∙ ap (λ (x : Parts). Ok x) (sym same)

-- a file that was accepted is refused only where memory runs out
pub only_memory : (image : Image) → IsEdited image → (fault : ElfFault) → Refuses fault (parts_read image.source) → fault ≡ faults.Memory
only_memory image is fault refused =
    let (p, accepted, parts, meets, holds) = read_images_hold_parts image.source is.read is.is_read in
    let placing : Parts → Result Parts ElfFault = λ x.
    checked placement_rules x >>= λ _. checked link_rules x >>= λ _. checked (rule do_texts_end BadText ∷ []) x >>= λ _. checked last_rules x in
    let never : (e : ElfFault) → parts_read image.source ≡ Err e → ⊥ = λ e there.
    let both : Err e ≡ Ok p =
    sym (ap (λ (r : Result Parts ElfFault). r >>= placing) there) ∙ sym (accepted_by_parts image.source) ∙ accepted in
    cc in
    by_fault never fault refused
  where
    by_fault : ((e : ElfFault) → parts_read image.source ≡ Err e → ⊥) → (f : ElfFault) → Refuses f (parts_read image.source) → f ≡ faults.Memory
    by_fault never faults.Memory h = refl
    by_fault never faults.BadMagic h = absurd (never faults.BadMagic h)
    by_fault never faults.Truncated h = absurd (never faults.Truncated h)
    by_fault never faults.Unsupported h = absurd (never faults.Unsupported h)
    by_fault never (faults.Disagree rule) h = absurd (never (faults.Disagree rule) h)
    by_fault never faults.BadText h = absurd (never faults.BadText h)
    by_fault never faults.NumberTooLarge h = absurd (never faults.NumberTooLarge h)
