-- What is known of an image whose numbers are made: those of its symbols fit, and which part of it doesn't where some don't.
use Rattle.std.proofs.Common.{◌≡◌, ◌^◌, Bool, true, false, length, sym, ap, ◌∙◌, Option, Some, None}
use Rattle.std.specs.Prelude.{◌||◌, not, nat_lt}
use Rattle.std.specs.List.{list_all}
use Rattle.std.proofs.lemmas.Bool.{and_from, lt-ltb, or_right}
use Rattle.elf_format.specs.Image.{Image}
use Rattle.elf_image.specs.Kept.{kept_sections}
use Rattle.elf_image.specs.Names.{are_names_changed}
use Rattle.elf_layout_plan.specs.Plan.{Plan}
use Rattle.elf_write_symbol_tables.specs.WrittenStrings.{do_names_reach}
use Rattle.elf_write_symbol_tables.specs.NewNumbers.{NewNumbers}
use Rattle.elf_write_symbol_tables.specs.RenumberingRecord.{Renumbering}
use Rattle.elf_write_symbol_tables.specs.Reordering.{Reordering}
use Rattle.elf_write_symbol_tables.specs.Fits.{do_section_relocations_fit}
use Rattle.elf_write_symbol_tables.specs.Renumbering.{AreStaticNumbersFor, IsRenumbering, IsReorderingFor, are_static_numbers_new, do_symbols_fit}
use Rattle.elf_write_contents.specs.Numbers.{do_numbers_fit}
use Rattle.elf_write_contents.proofs.NumbersUnfit.{names_unfit, relocations_unfit, symbols_unfit}
use Rattle.elf_write_contents.specs.Inner.{IsPlanned}

-- the new numbers of dynamic symbols fit
order_fits : (read image : Image) (o : Option Reordering) → IsReorderingFor read image o
    → (not (are_names_changed read image) || nat_lt (length image.dynamic_symbols) (2 ^ 32)) ≡ true
order_fits read image None same = ap (λ (b : Bool). not b || nat_lt (length image.dynamic_symbols) (2 ^ 32)) same
order_fits read image (Some r) is =
    or_right (not (are_names_changed read image)) (nat_lt (length image.dynamic_symbols) (2 ^ 32))
    (lt-ltb (length image.dynamic_symbols) (2 ^ 32) is.few)

-- the new numbers of static symbols fit
static_fit : (read image : Image) (o : Option NewNumbers) → AreStaticNumbersFor read image o
    → (not (are_static_numbers_new read image) || nat_lt (length image.symbols) (2 ^ 32)) ≡ true
static_fit read image None same = ap (λ (b : Bool). not b || nat_lt (length image.symbols) (2 ^ 32)) same
static_fit read image (Some n) is =
    or_right (not (are_static_numbers_new read image)) (nat_lt (length image.symbols) (2 ^ 32))
    (lt-ltb (length image.symbols) (2 ^ 32) is.few)

pub symbols_fit : (read image : Image) (r : Renumbering) → IsRenumbering read image r → do_symbols_fit read image ≡ true
symbols_fit read image r is =
    and_from (not (are_names_changed read image) || nat_lt (length image.dynamic_symbols) (2 ^ 32))
    (not (are_static_numbers_new read image) || nat_lt (length image.symbols) (2 ^ 32))
    (order_fits read image r.dynamic is.dynamic) (static_fit read image r.static_numbers is.static_numbers)

module _ (read image : Image) (plan : Plan) (is : IsPlanned read image plan) where
  pub names_far : do_names_reach read image ≡ false → do_numbers_fit image plan ≡ false
  names_far far = names_unfit image plan (ap (λ (r : Image). do_names_reach r image) (sym is.ready.at_read) ∙ far)

  pub symbols_far : do_symbols_fit read image ≡ false → do_numbers_fit image plan ≡ false
  symbols_far far = symbols_unfit image plan (ap (λ (r : Image). do_symbols_fit r image) (sym is.ready.at_read) ∙ far)

  pub relocations_far : list_all (do_section_relocations_fit read image) (kept_sections image) ≡ false → do_numbers_fit image plan ≡ false
  relocations_far far =
      relocations_unfit image plan
      (ap (λ (r : Image). list_all (do_section_relocations_fit r image) (kept_sections image)) (sym is.ready.at_read) ∙ far)
