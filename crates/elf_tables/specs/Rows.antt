-- Names with their hashes, and lists of texts with the lengths of their tables. Each row is computed.
use Rattle.std.specs.Prelude.{◌≡◌, [], ◌∷◌, codes, replicate}
use Rattle.elf_format.specs.Hashes.{gabi_hash, gnu_hash}
use Rattle.elf_tables.specs.Strings.{table_length}

pub record HashRows : Type 0 where
  pub gabi_empty : gabi_hash [] ≡ 0
  pub gabi_short : gabi_hash (codes "exit") ≡ 0x6cf04
  -- the upper four bits come back
  pub gabi_turned : gabi_hash (codes "printf") ≡ 0x77905a6
  pub gabi_version : gabi_hash (codes "GLIBC_2.2.5") ≡ 0x9691a75
  pub gabi_high : gabi_hash (replicate 9 255) ≡ 0x10fef
  pub gnu_empty : gnu_hash [] ≡ 5381
  pub gnu_short : gnu_hash (codes "exit") ≡ 0x7c967e3f
  pub gnu_turned : gnu_hash (codes "printf") ≡ 0x156b2bb8
  pub gnu_longer : gnu_hash (codes "flapenguin.me") ≡ 0x8ae9f18e

pub record TableRows : Type 0 where
  pub none : table_length [] ≡ 1
  pub empty : table_length ([] ∷ []) ≡ 1
  pub ends : table_length (codes "bc" ∷ codes "abc" ∷ codes "c" ∷ [] ∷ []) ≡ 5
  pub apart : table_length (codes "abc" ∷ codes "xbc" ∷ []) ≡ 9
  -- a text that begins another needs bytes of its own
  pub begins : table_length (codes "ab" ∷ codes "abc" ∷ []) ≡ 8
  pub twice : table_length (codes "abc" ∷ codes "abc" ∷ codes "abc" ∷ []) ≡ 5
  pub several : table_length (codes "libc.so.6" ∷ codes ".6" ∷ codes "libm.so.6" ∷ codes "so.6" ∷ []) ≡ 21
