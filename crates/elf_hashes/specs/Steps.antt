-- What the steps of building hash tables answer.
use Rattle.std.specs.Prelude.{ℕ, zero, suc, ◌≡◌, ◌<◌, List, [], ◌∷◌, length, drop, Option, ◌==◌, if◌then◌else◌, slice_index}
use Rattle.elf_format.specs.declared.form.Form.{Form}
use Rattle.elf_format.specs.Hashes.{gabi_hash, gnu_hash}
use Rattle.elf_hashes.specs.declared.hashes.Hashing.{Hashing}
use Rattle.elf_hashes.specs.declared.hashes.Hashing.TheVariants as kinds
use Rattle.elf_hashes.specs.declared.gnu.GnuSizes.{GnuSizes}
use Rattle.elf_hashes.specs.Buckets.{chains, in_buckets, next_in}
use Rattle.elf_hashes.specs.Gnu.{filter_word_of}

-- the hash of a name that a table goes by
abbrev pub hash_by : Hashing → List ℕ → ℕ
hash_by kinds.Gabi name = gabi_hash name
hash_by kinds.Gnu name = gnu_hash name

-- the symbols of a chain from a number on, at most so many: 0 is none, and behind each stands its entry
unfoldable pub walk : List ℕ → ℕ → ℕ → List ℕ
walk nexts zero i = []
walk nexts (suc room) i = if i == 0 then [] else i ∷ walk nexts room (slice_index nexts i)

-- The symbols from a number on are chained, with as many buckets as there are first symbols.
pub record AreChained (i : ℕ) (hashes : List (Option ℕ)) (firsts nexts : List ℕ) : Type 0 where
  pub long : length nexts ≡ length hashes
  pub heads : (b : ℕ) → b < length firsts → slice_index firsts b ≡ next_in b i (drop i (in_buckets (length firsts) hashes))
  pub entries : drop i nexts ≡ chains i (drop i (in_buckets (length firsts) hashes))

-- the bits of the hashes from a number on are set, and no others
abbrev pub AreBitsSet : Form → GnuSizes → ℕ → List (Option ℕ) → List ℕ → Type 0
AreBitsSet form sizes i hashes filter = (k : ℕ) → k < length filter → slice_index filter k ≡ filter_word_of form sizes k (drop i hashes)
