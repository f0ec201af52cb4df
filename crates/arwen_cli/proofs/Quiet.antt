-- Where no word begins with a hyphen, none asks for quiet.
use Rattle.std.specs.Prelude.{◌&&◌}
use Rattle.std.proofs.Common.{◌≡◌, ◌∙◌, ◌∷◌, [], Bool, List, ap, false, if◌then◌else◌, refl, subst, true}
use Rattle.arwen_cli_parser.specs.Asked.{has_option}
use Rattle.arwen_cli_options.specs.Flags.{has_flag, is_mark, is_move_word, is_quiet_word, is_sign_word}
use Rattle.arwen_cli_options.specs.Lines.{is_elf_line, is_macho_line, is_moving_line, unsigned, without_quiet, without_sign}
use Rattle.arwen_cli_parser.proofs.Values.{first_value}
use Rattle.arwen_cli_parser.proofs.Words.{IsValue}
use Rattle.command_words.specs.Rows.{Text}

not_quiet : (word : Text) → IsValue word → is_quiet_word word ≡ false
not_quiet [] is = refl
not_quiet (x ∷ xs) is = simp is

not_mark : (word : Text) → IsValue word → is_mark word ≡ false
not_mark [] is = refl
not_mark (x ∷ xs) is = simp is

all_heard : (words : List Text) → has_option words ≡ false → without_quiet words ≡ words
all_heard [] none = refl
all_heard (word ∷ words) none =
    let parts = first_value word words none in
    rw (not_quiet word parts.0, not_mark word parts.0) (ap (λ (ws : List Text). word ∷ ws) (all_heard words parts.1))

-- none asks for signing
not_sign : (word : Text) → IsValue word → is_sign_word word ≡ false
not_sign [] is = refl
not_sign (x ∷ xs) is = simp is

all_unsigned : (words : List Text) → has_option words ≡ false → without_sign words ≡ words
all_unsigned [] none = refl
all_unsigned (word ∷ words) none =
    let parts = first_value word words none in
    rw (not_sign word parts.0, not_mark word parts.0) (ap (λ (ws : List Text). word ∷ ws) (all_unsigned words parts.1))

either_line : (words : List Text) (b : Bool) → without_sign words ≡ words → (if b then without_sign words else words) ≡ words
either_line words true same = same
either_line words false same = refl

-- none gives leave that the dynamic section moves
not_move : (word : Text) → IsValue word → is_move_word word ≡ false
not_move [] is = refl
not_move (x ∷ xs) is = simp is

none_move : (words : List Text) → has_option words ≡ false → has_flag is_move_word words ≡ false
none_move [] none = refl
none_move (word ∷ words) none =
    let parts = first_value word words none in
    rw (not_mark word parts.0, not_move word parts.0) (none_move words parts.1)

either_part : (b c : Bool) → c ≡ false → (b && c) ≡ false
either_part true c h = h
either_part false c h = refl

pub unmoved : (words : List Text) → has_option words ≡ false → is_moving_line words ≡ false
unmoved words plain = either_part (is_elf_line words) (has_flag is_move_word words) (none_move words plain)

-- the words that are heard are those of the line
heard_is : (heard audible words : List Text) → heard ≡ unsigned audible → audible ≡ without_quiet words → has_option words ≡ false → heard ≡ words
heard_is heard audible words is_unsigned is plain =
    let first : audible ≡ words = is ∙ all_heard words plain in
    is_unsigned ∙ ap unsigned first ∙ either_line words (is_macho_line words) (all_unsigned words plain)

-- what holds of the words that are heard holds of those of the line
pub heard_for_all : (P : List Text → Type 0) (heard audible words : List Text) → heard ≡ unsigned audible → audible ≡ without_quiet words → (has_option heard ≡ false → P heard) → has_option words ≡ false → P words
heard_for_all P heard audible words is_unsigned is holds plain =
    let same : heard ≡ words = heard_is heard audible words is_unsigned is plain in
    subst P same (holds (ap has_option same ∙ plain))
