-- Each row is computed.
use Rattle.std.proofs.Common.{refl}
use Rattle.elf_format.specs.Hashes.{gabi_hash, gnu_hash}
use Rattle.elf_format.specs.Image.{counted}
use Rattle.elf_hashes.specs.Buckets.{chains, next_in}
use Rattle.elf_hashes.specs.Found.{hashed_names}
use Rattle.elf_hashes.specs.Gnu.{filter_word_of, first_hashed, gnu_words}
use Rattle.elf_hashes.specs.Order.{places_by_bucket}
use Rattle.elf_hashes.proofs.rows.hash_table_rows.Goals as goal

pub returns : goal.returns
unfolding gabi_hash gnu_hash counted chains next_in hashed_names filter_word_of first_hashed gnu_words places_by_bucket
returns c = record {
  pair = record { order = refl; gabi = refl; gabi_unordered = refl; first_symbol = refl; filter = refl; buckets = refl; words = refl };
  chain = record { gabi = refl; words = refl };
  unfound = record { order = refl; gabi = refl; first_symbol = refl; filter = refl; words = refl; none = refl };
}
