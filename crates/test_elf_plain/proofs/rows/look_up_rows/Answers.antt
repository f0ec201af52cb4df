-- Each look-up is computed: what its steps find, and that a bucket's first symbol is the one that is sought.
use Rattle.std.proofs.Common.{◌≡◌, ◌≢◌, ◌≤◌, ◌<◌, ℕ, ◌%◌, Some, arith, refl}
use Rattle.patch_bytes.specs.Memory.{memory_of}
use Rattle.elf_format.specs.Hashes.{GnuHeader, gnu_word}
use Rattle.test_elf_plain.specs.Rows.{gnu_table}
use Rattle.test_elf_plain.specs.Vectors.{little64}
use Rattle.test_elf_plain.proofs.Computing.{computing}
use Rattle.test_elf_plain.proofs.rows.look_up_rows.Goals as goal

not_none : (n : ℕ) → 0 < n → n ≢ 0
not_none n h e = omega arith

-- between a symbol and itself there is none
none_between : (n : ℕ) (header : GnuHeader) (j : ℕ) → n ≤ j → j < n → (word : ℕ) × (gnu_word little64 (memory_of gnu_table) header j ≡ Some word) × (word % 2 ≡ 0)
none_between n header j low high = absurd (omega arith)

header : GnuHeader
header = record { buckets = 2; first_symbol = 1; filter_words = 1; filter_shift = 6 }

pub returns : goal.returns
unfolding computing header
returns c = record {
  gabi_f = record { steps = 0; visited = refl; is_symbol = not_none 2 (omega arith); named = refl };
  gabi_g = record { steps = 0; visited = refl; is_symbol = not_none 1 (omega arith); named = refl };
  gabi_g_ends = refl;
  gabi_g_ended = refl;
  gnu_f = record {
    header = header;
    is_header = refl;
    passes = record { words = omega arith; word = 0x1001800; is_word = refl; first_bit = refl; second_bit = refl };
    buckets = omega arith;
    first = 2;
    is_first = refl;
    is_symbol = not_none 2 (omega arith);
    hashed = omega arith;
    from_first = omega arith;
    goes_on = none_between 2 header;
    word = 177675;
    is_word = refl;
    same_hash = refl;
    named = refl;
  };
  gnu_g = record {
    header = header;
    is_header = refl;
    passes = record { words = omega arith; word = 0x1001800; is_word = refl; first_bit = refl; second_bit = refl };
    buckets = omega arith;
    first = 1;
    is_first = refl;
    is_symbol = not_none 1 (omega arith);
    hashed = omega arith;
    from_first = omega arith;
    goes_on = none_between 1 header;
    word = 177677;
    is_word = refl;
    same_hash = refl;
    named = refl;
  };
}
