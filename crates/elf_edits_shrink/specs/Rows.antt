-- Small lists and images, and what shrinking makes of them. Each row is computed.
use Rattle.std.specs.Prelude.{ℕ, ◌≡◌, List, [], ◌∷◌, Option, Some, None, Ok, Err, codes}
use Rattle.elf_image.specs.Dynamic.{Auto}
use Rattle.elf_image.specs.Image.{Image}
use Rattle.elf_edits.specs.Cause.{NoRunPath, NulInText, cause}
use Rattle.elf_edits.specs.Edit.{Answer, Edit, ShrinkRpath}
use Rattle.elf_edits.specs.Edited.{step}
use Rattle.elf_edits.specs.Rows.{LeavesAll, machine, needed, rpath, runpath, small_entries, small_image, with_entries, with_nul_in_it}
use Rattle.elf_edits.specs.Shrunk.{NoLibrary, Prefix, Removal}
use Rattle.elf_edits.specs.Texts.{has_some}
use Rattle.elf_edits_shrink.specs.Questions.{shrink_questions}
use Rattle.elf_edits_shrink.specs.Removals.{removed_by}

-- a library found in a directory, for a machine
abbrev pub library_found : List ℕ → List ℕ → Option ℕ → Answer
library_found directory name m = record { directory = directory; needed = name; machine = m }

abbrev pub gone : List ℕ → Removal
gone directory = record { directory = directory; reason = NoLibrary }

abbrev pub foo : List ℕ
foo = codes "libfoo.so"

abbrev pub searching : List ℕ → Image
searching text = with_entries (needed foo ∷ runpath text ∷ [])

-- a run path shrinks to a text, with these directories removed
pub record ShrinksTo (edit : Edit) (from to : List ℕ) (removals : List Removal) : Type 0 where
  pub left : step edit (searching from) ≡ Ok (record (searching to) { changed = has_some removals })
  pub removed : removed_by edit (searching from) ≡ removals

pub record ShrinkRows : Type 0 where
  pub found_in_one : ShrinksTo (ShrinkRpath [] (library_found (codes "/foo/lib") foo (Some machine) ∷ [])) (codes "/lib:/usr/lib:/foo/lib") (codes "/foo/lib")
      (gone (codes "/lib") ∷ gone (codes "/usr/lib") ∷ [])
  pub found_nowhere : ShrinksTo (ShrinkRpath [] []) (codes "/lib:/foo/lib") [] (gone (codes "/lib") ∷ gone (codes "/foo/lib") ∷ [])
  pub not_absolute : ShrinksTo (ShrinkRpath [] []) (codes "$ORIGIN:/lib::lib") (codes "$ORIGIN::lib") (gone (codes "/lib") ∷ [])
  pub nothing_goes : ShrinksTo (ShrinkRpath [] (library_found (codes "/lib") foo (Some machine) ∷ [])) (codes "/lib:/lib") (codes "/lib:/lib") []
  pub another_machine : ShrinksTo (ShrinkRpath [] (library_found (codes "/lib") foo (Some 3) ∷ library_found (codes "/usr/lib") foo None ∷ [])) (codes "/lib:/usr/lib") [] (gone (codes "/lib") ∷ gone (codes "/usr/lib") ∷ [])
  pub first_answer_counts : ShrinksTo (ShrinkRpath [] (library_found (codes "/lib") foo None ∷ library_found (codes "/lib") foo (Some machine) ∷ [])) (codes "/lib") [] (gone (codes "/lib") ∷ [])
  -- a prefix is one of bytes; what it doesn't begin goes for that reason, found or not
  pub by_prefixes : ShrinksTo (ShrinkRpath (codes "/opt" ∷ codes "/us" ∷ []) (library_found (codes "/lib") foo (Some machine) ∷ library_found (codes "/usr/lib") foo (Some machine) ∷ [])) (codes "/lib:/usr/lib:/opt") (codes "/usr/lib")
      (record { directory = codes "/lib"; reason = Prefix } ∷ gone (codes "/opt") ∷ [])
  pub no_run_path : step (ShrinkRpath [] []) (with_entries (Auto 5 ∷ [])) ≡ Err NoRunPath
  pub questions : shrink_questions small_entries ≡ (codes "/a", codes "libc.so.6") ∷ []
  pub all_questions : shrink_questions (needed (codes "a") ∷ rpath (codes "/x:y:/z") ∷ needed (codes "b") ∷ runpath (codes "/w") ∷ [])
      ≡ (codes "/x", codes "a") ∷ (codes "/x", codes "b") ∷ (codes "/z", codes "a") ∷ (codes "/z", codes "b") ∷ (codes "/w", codes "a") ∷ (codes "/w", codes "b") ∷ []
  pub prefixes : cause (ShrinkRpath (with_nul_in_it ∷ []) []) small_image ≡ Some NulInText
  -- prefixes come before what stands against shrinking alone
  pub texts_next : cause (ShrinkRpath (with_nul_in_it ∷ []) []) (with_entries []) ≡ Some NulInText
  -- the image stays as it was, the mark too
  pub nothing_shrinks : LeavesAll (ShrinkRpath [] (library_found (codes "/a") (codes "libc.so.6") (Some machine) ∷ [])) small_image
