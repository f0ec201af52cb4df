-- A fat file's table, in bytes that go on differently behind it.
use Rattle.std.proofs.Common.{◌≡◌, ◌≤◌, ◌+◌, ◌*◌, ◌-◌, ◌^◌, ◌==◌, ℕ, zero, suc, not, nat_lt, if◌then◌else◌, List, ◌∷◌, length, take, drop, Option, Some, refl, sym, ap, ◌∙◌, arith}
use Rattle.std.proofs.lemmas.List.{drop-take}
use Rattle.patch_bytes.specs.declared.number.ByteOrder2.TheVariants.{Big}
use Rattle.patch_bytes.specs.Number.{number_at}
use Rattle.patch_bytes.proofs.NumberLaws.{number_at-take}
use Rattle.macho_image.specs.declared.fat.FatArch.{FatArch}
use Rattle.macho_image.specs.declared.fat.TheConstants.{FAT_MAGIC}
use Rattle.macho_image.specs.declared.format.MachFault.{MachFault}
use Rattle.macho_image.specs.declared.format.MachFault.TheVariants.{BadMagic, TooLong, Truncated}
use Rattle.macho_image.specs.Fat.{arch_of, archs_of, nfat_arch_of, slices_fault, table, table_end, table_fault}

-- a record reads its own 20 bytes
arch-take : (n : ℕ) (rest : List ℕ) → 20 ≤ n → arch_of (take n rest) ≡ arch_of rest
arch-take n rest long =
    let kind = number_at-take Big 4 n 0 rest (omega arith) in
    let model = number_at-take Big 4 n 4 rest (omega arith) in
    let offset = number_at-take Big 4 n 8 rest (omega arith) in
    let size = number_at-take Big 4 n 12 rest (omega arith) in
    let align = number_at-take Big 4 n 16 rest (omega arith) in
    cc

table-take : (n : ℕ) (rest : List ℕ) → table n (take (20 * n) rest) ≡ table n rest
table-take zero rest = refl
table-take (suc n) rest =
    let size : 20 * suc n ≡ 20 + 20 * n = omega arith in
    let first : arch_of (take (20 * suc n) rest) ≡ arch_of rest = arch-take (20 * suc n) rest (omega arith) in
    let left : drop 20 (take (20 * suc n) rest) ≡ take (20 * n) (drop 20 rest) = ap (λ (k : ℕ). drop 20 (take k rest)) size ∙ drop-take 20 (20 * n) rest in
    ap (λ (a : FatArch). a ∷ table n (drop 20 (take (20 * suc n) rest))) first
    ∙ ap (λ (xs : List ℕ). arch_of rest ∷ table n xs) left
    ∙ ap (λ (archs : List FatArch). arch_of rest ∷ archs) (table-take n (drop 20 rest))

-- bytes that are the same up to the table's end
pub record SameTable (old new : List ℕ) : Type 0 where
  pub long : length new ≡ length old
  pub front : take (table_end (nfat_arch_of old)) new ≡ take (table_end (nfat_arch_of old)) old

number_same : (pos : ℕ) (old new : List ℕ) → pos + 4 ≤ 8 → SameTable old new → number_at Big 4 pos new ≡ number_at Big 4 pos old
number_same pos old new low same =
    let m : ℕ = table_end (nfat_arch_of old) in
    sym (number_at-take Big 4 m pos new (omega arith)) ∙ ap (number_at Big 4 pos) same.front ∙ number_at-take Big 4 m pos old (omega arith)

pub archs_same : (old new : List ℕ) → SameTable old new → archs_of new ≡ archs_of old
unfolding archs_of
archs_same old new same =
    let n : ℕ = nfat_arch_of old in
    let front : take (20 * n) (drop 8 new) ≡ take (20 * n) (drop 8 old) =
    sym (drop-take 8 (20 * n) new) ∙ ap (drop 8) same.front ∙ drop-take 8 (20 * n) old in
    ap (λ (k : ℕ). table k (drop 8 new)) (number_same 4 old new (omega arith) same)
    ∙ sym (table-take n (drop 8 new)) ∙ ap (table n) front ∙ table-take n (drop 8 old)

-- the checks of the table, by what they read
abbrev checks : ℕ → ℕ → ℕ → List FatArch → Option MachFault
checks len magic n archs =
    if nat_lt (2 ^ 32 - 1) len then Some TooLong
    else (if nat_lt len 4 then Some Truncated
    else (if not (magic == FAT_MAGIC) then Some BadMagic
    else (if nat_lt len 8 then Some Truncated
    else (if nat_lt len (table_end n) then Some Truncated
    else slices_fault len archs))))

checks_read : (bytes : List ℕ) → table_fault bytes ≡ checks (length bytes) (number_at Big 4 0 bytes) (nfat_arch_of bytes) (archs_of bytes)
unfolding table_fault
checks_read bytes = refl

pub table_same : (old new : List ℕ) → SameTable old new → table_fault new ≡ table_fault old
table_same old new same =
    checks_read new
    ∙ ap (λ (len : ℕ). checks len (number_at Big 4 0 new) (nfat_arch_of new) (archs_of new)) same.long
    ∙ ap (λ (magic : ℕ). checks (length old) magic (nfat_arch_of new) (archs_of new)) (number_same 0 old new (omega arith) same)
    ∙ ap (λ (n : ℕ). checks (length old) (number_at Big 4 0 old) n (archs_of new)) (number_same 4 old new (omega arith) same)
    ∙ ap (checks (length old) (number_at Big 4 0 old) (nfat_arch_of old)) (archs_same old new same)
    ∙ sym (checks_read old)
