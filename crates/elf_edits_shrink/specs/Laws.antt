-- What holds of run paths that shrink.
use Rattle.std.specs.Prelude.{ℕ, ◌≡◌, List, [], map, filter, not}
use Rattle.elf_edits.specs.Shrunk.{Search, removed_from, shrunk_text, stays}
use Rattle.elf_edits.specs.Texts.{directories_in}

-- What goes from a run path is told, each directory that doesn't stay, in order; where none goes, the text is as it was.
pub record ShrinkingTells : Type 0 where
  pub told : (s : Search) (text : List ℕ) → map (λ r. r.directory) (removed_from s text) ≡ filter (λ directory. not (stays s directory)) (directories_in text)
  pub none_gone : (s : Search) (text : List ℕ) → removed_from s text ≡ [] → shrunk_text s text ≡ text
