-- What the code holds to judge directories by, and what it answers.
use Rattle.std.specs.Prelude.{ℕ, List, [], ◌∷◌, map, Bool, ◌&&◌, Option, Some, None, if◌then◌else◌}
use Rattle.std.specs.Map.{lookup}
use Rattle.std.specs.Str.{bytes_eq}
use Rattle.std.specs.Borrow.{Bor}
use Rattle.patch_bytes.specs.Memory.{◌>>=◌}
use Rattle.elf_image.specs.Dynamic.{Auto, Entry, Integer, Text}
use Rattle.elf_edits.specs.Edit.{Answer}
use Rattle.elf_edits.specs.EditModel.{texts_model}
use Rattle.elf_edits.specs.Shrunk.{NoLibrary, Prefix, Reason, Removal, Search, reason_of, stays}
use Rattle.elf_edits_shrink.specs.declared.probe.ProbeAnswer.{ProbeAnswer}
use Rattle.elf_edits_shrink.specs.declared.removal.Reason.{Reason as OwnReason}
use Rattle.elf_edits_shrink.specs.declared.removal.Reason.TheVariants as reasons
use Rattle.elf_edits_shrink.specs.declared.removal.Removed.{Removed}
use Rattle.elf_edits_shrink.specs.declared.search.Search.{Search as OwnSearch}

-- an answer of a probe
abbrev pub answer_model : ProbeAnswer → Answer
answer_model a = record { directory = a.directory.bytes; needed = a.needed.bytes; machine = a.machine }

-- a key of the answers' map is this directory with this library
abbrev pub is_pair : List ℕ → List ℕ → Bor (List ℕ) × Bor (List ℕ) → Bool
is_pair directory name k = bytes_eq directory k.0.now && bytes_eq name k.1.now

-- the machine that a map of answers has for a directory and a library
abbrev pub machine_in : List ((Bor (List ℕ) × Bor (List ℕ)) × Option ℕ) → List ℕ → List ℕ → Option ℕ
machine_in entries directory name = lookup (is_pair directory name) entries >>= (λ machine. machine)

abbrev pub reason_model : OwnReason → Reason
reason_model reasons.Prefix = Prefix
reason_model reasons.NoLibrary = NoLibrary

abbrev pub removal_model : Removed → Removal
removal_model r = record { directory = r.directory.items; reason = reason_model r.reason }

-- what directories are judged by
abbrev pub search_model : OwnSearch → Search
search_model s = record { prefixes = texts_model s.prefixes.now; needed = map (λ name. name.now) s.needed.items; machine = s.machine; found = machine_in s.found.entries }

-- a directory that goes, with its reason; none where it stays
abbrev pub removal_if : Search → List ℕ → Option Removal
removal_if s directory = if stays s directory then None else Some (record { directory = directory; reason = reason_of s directory })

-- the text of an entry that has one
abbrev pub texts_of_entry : Entry → List (List ℕ)
texts_of_entry (Auto tag) = []
texts_of_entry (Integer tag value) = []
texts_of_entry (Text tag text) = text ∷ []

-- a pair of lent texts
abbrev pub pair_lent : Bor (List ℕ) × Bor (List ℕ) → List ℕ × List ℕ
pair_lent pair = (pair.0.now, pair.1.now)
