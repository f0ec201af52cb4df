-- String tables, as they are copied, told anew or made anew.
use Rattle.std.proofs.Common.{◌≡◌, ◌≢◌, ◌+◌, ◌<◌, ◌≤◌, ◌^◌, ℕ, Bool, true, false, List, [], ◌∷◌, ◌++◌, length, drop, get_or, refl, sym, ap, ◌∙◌, subst, Option, Some, None, arith, inl, inr, cond}
use Rattle.std.specs.Prelude.{◌||◌, not, nat_le, ◌==◌}
use Rattle.std.specs.List.{list_all, slice_get}
use Rattle.std.specs.Option.{option_or, option_to_list}
use Rattle.std.proofs.lemmas.Bool.{eq-eqb, false≢true, leb-true, ne_eqb}
use Rattle.std.proofs.lemmas.List.{drop_all, drop_more}
use Rattle.std.proofs.lemmas.List.Folds.{find-append}
use Rattle.std.proofs.lemmas.Option.{none-some, same_Some}
use Rattle.elf_format.specs.Image.{Image}
use Rattle.elf_format.specs.declared.constants.TheConstants.{SHT_SYMTAB}
use Rattle.elf_image.specs.Kept.{dynamic_strings_number, link_of_type}
use Rattle.elf_layout_plan.specs.Texts.{is_subsequence, is_table_copied, texts_in_use}
use Rattle.elf_layout_sizes.specs.MadeTables.{IsMade}
use Rattle.elf_tables.specs.Strings.{PlacesStand}
use Rattle.elf_write_strings.specs.declared.made.Made.{Made}
use Rattle.elf_write_strings.specs.MadeSteps.{AreMore, AreTold}
use Rattle.elf_write_strings.specs.PlacedTexts.{TellsAll}
use Rattle.elf_write_strings.specs.WrittenStrings.{AreAsRead, AreStrings, IsEditedTable, IsTold, content_read, do_names_reach, do_offsets_reach, do_texts_move, edited_tables, made_of}
use Rattle.elf_write_strings.proofs.MadeShort.{all_at}

past : (n : ℕ) → 2 ^ 32 < n → n ≤ 2 ^ 32 → ⊥
past n more less = omega (arith, more, less)

-- ## Where a number is among those of the tables

at_dynamic : (o p : Option ℕ) (n m : ℕ) → o ≡ Some n → slice_get (option_to_list o ++ option_to_list p ++ m ∷ []) 0 ≡ Some n
at_dynamic None p n m is = absurd (none-some n is)
at_dynamic (Some k) None n m is = is
at_dynamic (Some k) (Some j) n m is = is

at_static : (o p : Option ℕ) (n m : ℕ) → p ≡ Some n → (i : ℕ) × (slice_get (option_to_list o ++ option_to_list p ++ m ∷ []) i ≡ Some n)
at_static o None n m is = absurd (none-some n is)
at_static None (Some k) n m is = (0, is)
at_static (Some j) (Some k) n m is = (1, is)

at_names : (o p : Option ℕ) (m : ℕ) → (i : ℕ) × (slice_get (option_to_list o ++ option_to_list p ++ m ∷ []) i ≡ Some m)
at_names None None m = (0, refl)
at_names None (Some k) m = (1, refl)
at_names (Some j) None m = (1, refl)
at_names (Some j) (Some k) m = (2, refl)

among : (image : Image) (number : ℕ) → IsEditedTable image number → (i : ℕ) × (slice_get (edited_tables image) i ≡ Some number)
among image number (inl is) =
    (0, at_dynamic (dynamic_strings_number image) (link_of_type SHT_SYMTAB image) number image.header.e_shstrndx is)
among image number (inr (inl is)) =
    at_static (dynamic_strings_number image) (link_of_type SHT_SYMTAB image) number image.header.e_shstrndx is
among image number (inr (inr is)) =
    subst (λ (n : ℕ). (i : ℕ) × (slice_get (edited_tables image) i ≡ Some n)) is
    (at_names (dynamic_strings_number image) (link_of_type SHT_SYMTAB image) image.header.e_shstrndx)

-- ## One table

module _ (read image : Image) where
  pub copied_told : (m : Made) → m.is_copied ≡ true → IsEditedTable image m.number
      → is_table_copied read image m.number ≡ true → m.table.bytes ≡ content_read image m.number
      → TellsAll m.table (texts_in_use read image m.number) → PlacesStand m.table → length m.table.bytes ≤ 2 ^ 32 → IsTold read image m
  copied_told m flag edited copied bytes told stand short = record {
    edited = edited;
    which = flag ∙ sym copied;
    copied = λ e. bytes;
    anew = λ e. absurd (false≢true (sym e ∙ copied));
    told = told;
    stand = stand;
    short = short;
  }

  pub anew_told : (m : Made) → m.is_copied ≡ false → IsEditedTable image m.number → IsMade read image m.number m.table
      → IsTold read image m
  anew_told m flag edited made = record {
    edited = edited;
    which = flag ∙ sym made.anew;
    copied = λ e. absurd (false≢true (sym made.anew ∙ e));
    anew = λ e. made;
    told = made.holds.added;
    stand = made.stand;
    short = omega (arith, made.holds.long, made.fits);
  }

  pub too_far : (number : ℕ) → do_texts_move read image number ≡ true
      → is_table_copied read image number ≡ true → 2 ^ 32 < length (content_read image number) → do_offsets_reach read image number ≡ false
  too_far number move copied long =
      ap (λ (b : Bool). not b || not (is_table_copied read image number) || nat_le (length (content_read image number)) (2 ^ 32)) move
      ∙ ap (λ (b : Bool). not b || nat_le (length (content_read image number)) (2 ^ 32)) copied
      ∙ by_size (nat_le (length (content_read image number)) (2 ^ 32)) refl
    where
      by_size : (b : Bool) → nat_le (length (content_read image number)) (2 ^ 32) ≡ b → b ≡ false
      by_size false is = refl
      by_size true is = absurd (past (length (content_read image number)) long (leb-true (length (content_read image number)) (2 ^ 32) is))

  -- where the offsets of one table don't reach, not all do
  pub unreached : (number : ℕ) → IsEditedTable image number → do_offsets_reach read image number ≡ false → do_names_reach read image ≡ false
  unfolding do_names_reach
  unreached number edited far = by_all (list_all (do_offsets_reach read image) (edited_tables image)) refl
    where
      by_all : (b : Bool) → list_all (do_offsets_reach read image) (edited_tables image) ≡ b → b ≡ false
      by_all false all = refl
      by_all true all =
          let (i, at) = among image number edited in
          absurd (false≢true (sym far ∙ all_at (do_offsets_reach read image) (edited_tables image) i number all at))

-- ## Several tables

abbrev is_number : ℕ → Made → Bool
is_number number m = m.number == number

looked : (made : List Made) (n i : ℕ) (m : Made) → i < length made → m ≡ get_or made i m
    → made_of (drop i made) n ≡ cond (m.number == n) (Some m) (made_of (drop (i + 1) made) n)
looked made n i m within is =
    ap (λ (l : List Made). made_of l n) (drop_more made i m within)
    ∙ ap (λ (x : Made). cond (x.number == n) (Some x) (made_of (drop (i + 1) made) n)) (sym is)

pub not_here : (made : List Made) (n i : ℕ) (m : Made) → i < length made → m ≡ get_or made i m → m.number ≢ n
    → made_of (drop i made) n ≡ made_of made n → made_of (drop (i + 1) made) n ≡ made_of made n
not_here made n i m within is apart so_far =
    sym (looked made n i m within is ∙ ap (λ (b : Bool). cond b (Some m) (made_of (drop (i + 1) made) n)) (ne_eqb m.number n apart)) ∙ so_far

pub found_here : (made : List Made) (n i : ℕ) (m : Made) → i < length made → m ≡ get_or made i m → m.number ≡ n
    → made_of (drop i made) n ≡ made_of made n → made_of made n ≡ Some m
found_here made n i m within is same so_far =
    sym so_far ∙ looked made n i m within is
    ∙ ap (λ (b : Bool). cond b (Some m) (made_of (drop (i + 1) made) n)) (eq-eqb m.number n same)

pub none_here : (made : List Made) (n i : ℕ) → length made ≤ i → made_of (drop i made) n ≡ made_of made n → made_of made n ≡ None
none_here made n i ended so_far = sym so_far ∙ ap (λ (l : List Made). made_of l n) (drop_all i made ended)

-- the table that had a number, once one more is told behind others
made_behind : (made : List Made) (m : Made) (n : ℕ) → made_of (made ++ m ∷ []) n ≡ option_or (made_of made n) (made_of (m ∷ []) n)
made_behind made m n = find-append (is_number n) made (m ∷ [])

pub own_told : (m : Made) → made_of (m ∷ []) m.number ≡ Some m
own_told m = ap (λ (b : Bool). cond b (Some m) None) (eq-eqb m.number m.number refl)

only_told : (m : Made) (n : ℕ) (x : Made) → made_of (m ∷ []) n ≡ Some x → x ≡ m
only_told m n x found = by_test (m.number == n) found
  where
    by_test : (b : Bool) → cond b (Some m) None ≡ Some x → x ≡ m
    by_test true is = sym (same_Some m x is)
    by_test false is = absurd (none-some x is)

module _ (read image : Image) (made : List Made) (m : Made) where
  pub told_more : AreTold read image made → IsTold read image m → AreTold read image (made ++ m ∷ [])
  told_more told here n x found = by_rest (made_of made n) refl (sym (made_behind made m n) ∙ found)
    where
      by_rest : (o : Option Made) → made_of made n ≡ o → option_or o (made_of (m ∷ []) n) ≡ Some x → IsTold read image x
      by_rest (Some y) o_is is = told n x (o_is ∙ is)
      by_rest None o_is is = subst (IsTold read image) (sym (only_told m n x is)) here

  pub more_told : AreMore made (made ++ m ∷ [])
  more_told n none = by_rest (made_of made n) refl (sym (made_behind made m n) ∙ none)
    where
      by_rest : (o : Option Made) → made_of made n ≡ o → option_or o (made_of (m ∷ []) n) ≡ None → o ≡ None
      by_rest None o_is is = refl
      by_rest (Some y) o_is is = absurd (none-some y (sym is))

  pub not_none : (n : ℕ) → m.number ≡ n → made_of (made ++ m ∷ []) n ≡ None → ⊥
  not_none n own none = by_rest (made_of made n) (sym (made_behind made m n) ∙ none)
    where
      by_rest : (o : Option Made) → option_or o (made_of (m ∷ []) n) ≡ None → ⊥
      by_rest (Some y) is = none-some y (sym is)
      by_rest None is = none-some m (sym (sym (subst (λ (k : ℕ). made_of (m ∷ []) k ≡ Some m) own (own_told m)) ∙ is))

pub one_table : (read image : Image) (m : Made) → IsTold read image m → AreTold read image (m ∷ [])
one_table read image m here n x found = subst (IsTold read image) (sym (only_told m n x found)) here

-- the tables that are told, where the others that may change are as they were read
pub are_strings : (read image : Image) (made : List Made) → AreTold read image made
    → ((n : ℕ) → dynamic_strings_number image ≡ Some n → made_of made n ≡ None → AreAsRead read image n)
    → ((n : ℕ) → link_of_type SHT_SYMTAB image ≡ Some n → made_of made n ≡ None → AreAsRead read image n)
    → (made_of made image.header.e_shstrndx ≡ None → AreAsRead read image image.header.e_shstrndx)
    → AreStrings read image made
are_strings read image made told dynamic static names = record { told = told; as_read = as_read }
  where
    as_read : (n : ℕ) → IsEditedTable image n → made_of made n ≡ None → AreAsRead read image n
    as_read n (inl is) none = dynamic n is none
    as_read n (inr (inl is)) none = static n is none
    as_read n (inr (inr is)) none =
        subst (AreAsRead read image) is (names (subst (λ (k : ℕ). made_of made k ≡ None) (sym is) none))

-- where no list was read, no text is one of it
pub none_left : (ts : List (List ℕ)) → (length ts == 0) ≡ is_subsequence ts []
unfolding is_subsequence
none_left [] = refl
none_left (t ∷ ts) = ne_eqb (length (t ∷ ts)) 0 (λ e. omega (arith, e))
