-- The parts of an image, read one by one, are those that are read in groups.
use Rattle.std.proofs.Common.{◌≡◌, refl, ◌∙◌, Option, Some, None}
use Rattle.patch_bytes.specs.Memory.{◌>>=◌}
use Rattle.elf_format.specs.declared.constants.TheConstants.{SHT_DYNAMIC, SHT_DYNSYM, SHT_GNU_VERDEF, SHT_GNU_VERNEED, SHT_SYMTAB}
use Rattle.elf_format.specs.File.{Parts, section_of_type}
use Rattle.elf_format.specs.Image.{definitions_read, dynamic_symbols_read, entries_read, image_in, needs_read, section_read, static_symbols}
use Rattle.elf_format.specs.Options.{each}
use Rattle.elf_image.specs.ImageSteps.{ListedParts, NamedParts, image_by_groups, image_with, listed_in, named_in}

-- three parts, and what is made of them
three : {A B C T U : Type 0} → (a : Option A) (b : Option B) (c : Option C) (make : A → B → C → T) (f : T → Option U)
    → (a >>= λ x. b >>= λ y. c >>= λ z. f (make x y z)) ≡ ((a >>= λ x. b >>= λ y. c >>= λ z. Some (make x y z)) >>= f)
three None b c make f = refl
three (Some x) None c make f = refl
three (Some x) (Some y) None make f = refl
three (Some x) (Some y) (Some z) make f = refl

bind_same : {A B : Type 0} → (o : Option A) (f g : A → Option B) → ((x : A) → f x ≡ g x) → (o >>= f) ≡ (o >>= g)
bind_same None f g h = refl
bind_same (Some x) f g h = h x

pub image_in-groups : (p : Parts) → image_in p ≡ image_by_groups p
unfolding image_in image_by_groups named_in listed_in
image_in-groups p =
    three (each (section_read p) p.sections) (static_symbols p (section_of_type SHT_SYMTAB p.sections)) (dynamic_symbols_read p (section_of_type SHT_DYNSYM p.sections))
    (λ x y z. record { sections = x; symbols = y; dynamic_symbols = z })
    (λ (n : NamedParts). entries_read p (section_of_type SHT_DYNAMIC p.sections) >>= λ e. definitions_read p (section_of_type SHT_GNU_VERDEF p.sections) >>= λ d. needs_read p (section_of_type SHT_GNU_VERNEED p.sections) >>= λ u. Some (image_with p n (record { entries = e; definitions = d; needs = u })))
    ∙ bind_same (named_in p)
    (λ (n : NamedParts). entries_read p (section_of_type SHT_DYNAMIC p.sections) >>= λ e. definitions_read p (section_of_type SHT_GNU_VERDEF p.sections) >>= λ d. needs_read p (section_of_type SHT_GNU_VERNEED p.sections) >>= λ u. Some (image_with p n (record { entries = e; definitions = d; needs = u })))
    (λ n. listed_in p >>= λ l. Some (image_with p n l))
    (λ n. three (entries_read p (section_of_type SHT_DYNAMIC p.sections)) (definitions_read p (section_of_type SHT_GNU_VERDEF p.sections)) (needs_read p (section_of_type SHT_GNU_VERNEED p.sections))
    (λ e d u. record { entries = e; definitions = d; needs = u }) (λ (l : ListedParts). Some (image_with p n l)))
