-- Words, as a caller lends them.
use Rattle.std.specs.Prelude.{ℕ, ◌≡◌, ◌+◌, ⊤, List, [], ◌∷◌, Result, Ok, Err, if◌then◌else◌}
use Rattle.std.specs.Str.{is_utf8}
use Rattle.command_words.specs.Groups.{is_plus}
use Rattle.command_words.specs.Rows.{Text}
use Rattle.arwen_c.specs.declared.error.CallError.{CallError}
use Rattle.arwen_c.specs.declared.error.CallError.TheVariants.{Memory, NoText}

-- the number of the group behind a word
abbrev pub group_behind : ℕ → Text → ℕ
group_behind group word = if is_plus word then group + 1 else group

abbrev pub behind : Text → Result (List Text) ℕ → Result (List Text) ℕ
behind word (Ok words) = Ok (word ∷ words)
behind word (Err group) = Err group

-- Texts that are words, the first of them in the group of this number; the group of the first that is no UTF-8, where there is one.
unfoldable pub words_from : ℕ → List Text → Result (List Text) ℕ
words_from group [] = Ok []
words_from group (text ∷ texts) =
    if is_utf8 text then behind text (words_from (group_behind group text) texts) else Err group

-- the error is that of a text that is no UTF-8, or want of memory
abbrev pub TellsNoText : Result (List Text) ℕ → CallError → Type 0
TellsNoText read (NoText group) = read ≡ Err group
TellsNoText read Memory = ⊤
TellsNoText read _ = ⊥
