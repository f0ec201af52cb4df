-- A string table in which no text moves: each of its users has the texts that it had at read.
use Rattle.std.proofs.Common.{◌≡◌, ◌∙◌, ℕ, Bool, true, false, refl, sym, ap, Some}
use Rattle.std.specs.Prelude.{◌&&◌, ◌||◌, ◌==◌, not}
use Rattle.std.proofs.lemmas.Bool.{eq-eqb, false≢true}
use Rattle.elf_format.specs.declared.constants.TheConstants.{SHT_DYNAMIC, SHT_DYNSYM, SHT_GNU_VERNEED, SHT_SYMTAB}
use Rattle.elf_format.specs.Image.{Image}
use Rattle.elf_format.specs.Options.{is_some_and}
use Rattle.elf_image.specs.Kept.{link_of_type}
use Rattle.elf_image.specs.Names.{are_names_changed}
use Rattle.elf_write_strings.specs.WrittenStrings.{are_files_left, are_section_names_left, are_static_names_left, do_names_move, do_texts_move, has_names_in, has_texts_in, is_list_left}

neither : (a b : Bool) → (a || b) ≡ false → (a ≡ false) × (b ≡ false)
neither true b h = absurd (false≢true (sym h))
neither false b h = (refl, h)

not_here : (a b : Bool) → (a && b) ≡ false → a ≡ true → b ≡ false
not_here true b h there = h
not_here false b h there = absurd (false≢true there)

left_here : (a b : Bool) → (a && not b) ≡ false → a ≡ true → b ≡ true
left_here true true h there = refl
left_here true false h there = absurd (false≢true (sym h))
left_here false b h there = absurd (false≢true there)

-- a user of a type has its texts in the table that it links to
pub has_link : (image : Image) (type number : ℕ) → link_of_type type image ≡ Some number → has_texts_in image type number ≡ true
has_link image type number link = ap (is_some_and (λ n. n == number)) link ∙ eq-eqb number number refl

-- user by user
pub record DoUsersStay (read image : Image) (number : ℕ) : Type 0 where
  pub dynamic : has_texts_in image SHT_DYNSYM number ≡ true → are_names_changed read image ≡ false
  pub statics : has_texts_in image SHT_SYMTAB number ≡ true → are_static_names_left read image ≡ true
  pub files : has_texts_in image SHT_GNU_VERNEED number ≡ true → are_files_left read image ≡ true
  pub sections : has_names_in image number ≡ true → are_section_names_left read image ≡ true
  pub list : has_texts_in image SHT_DYNAMIC number ≡ true → is_list_left read image ≡ true

pub users_stay : (read image : Image) (number : ℕ) → do_texts_move read image number ≡ false → DoUsersStay read image number
unfolding do_texts_move
users_stay read image number stay =
    let dynamic : Bool = has_texts_in image SHT_DYNSYM number && are_names_changed read image in
    let statics : Bool = has_texts_in image SHT_SYMTAB number && not (are_static_names_left read image) in
    let files : Bool = has_texts_in image SHT_GNU_VERNEED number && not (are_files_left read image) in
    let sections : Bool = has_names_in image number && not (are_section_names_left read image) in
    let list : Bool = has_texts_in image SHT_DYNAMIC number && not (is_list_left read image) in
    let all = neither (do_names_move read image number) list stay in
    let names = neither (dynamic || statics || files) sections all.0 in
    let others = neither (dynamic || statics) files names.0 in
    let symbols = neither dynamic statics others.0 in
    record {
      dynamic = not_here (has_texts_in image SHT_DYNSYM number) (are_names_changed read image) symbols.0;
      statics = left_here (has_texts_in image SHT_SYMTAB number) (are_static_names_left read image) symbols.1;
      files = left_here (has_texts_in image SHT_GNU_VERNEED number) (are_files_left read image) others.1;
      sections = left_here (has_names_in image number) (are_section_names_left read image) names.1;
      list = left_here (has_texts_in image SHT_DYNAMIC number) (is_list_left read image) all.1;
    }
