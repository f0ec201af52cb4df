-- The table of a fat file whose slices rise, and the fronts of the slices.
use Rattle.std.proofs.Common.{◌≡◌, ◌≤◌, ◌<◌, ◌^◌, ◌+◌, ◌*◌, ◌-◌, ◌∙◌, ◌&&◌, ℕ, zero, suc, inl, inr, Bool, true, false, nat_le, if◌then◌else◌, List, [], ◌∷◌, ◌++◌, length, take, drop, get_or, append_assoc, None, Option, Result, Ok, Err, refl, sym, ap, subst, arith}
use Rattle.std.specs.List.{list_any}
use Rattle.std.specs.Result.{is_err, is_ok}
use Rattle.std.proofs.lemmas.Bool.{cases_lt, le-leb, le-ltb, lt-ltb}
use Rattle.std.proofs.lemmas.List.{drop-append-le, length-append, length-drop, length-take-le, take-append-drop, take_all, take_more, take_rest}
use Rattle.std.specs.declared.io.Error.{Error}
use Rattle.byte_store.specs.Causes.{IsNotRead}
use Rattle.byte_store.specs.declared.reading.ReadError.{ReadError}
use Rattle.byte_store.specs.declared.reading.ReadError.TheVariants.{Io, Memory}
use Rattle.patch_bytes.specs.declared.number.ByteOrder2.TheVariants.{Big}
use Rattle.patch_bytes.proofs.NumberLaws.{number_at-append_left}
use Rattle.arwen_macho.specs.Found.{begins_fat}
use Rattle.macho_image.specs.Fat.{arch_of, archs_of, has_fat_magic, is_outside, nfat_arch_of, share_byte, slices_fault, some_share, table, table_end, table_fault}
use Rattle.macho_image.specs.declared.fat.FatArch.{FatArch}
use Rattle.macho_commands_stores.specs.Slices.{AreFrontsOf, AreRising, AreSlicesRead, HasSlices, IsFrontAt, IsTableOf}
use Rattle.macho_commands_stores.specs.declared.slices.SliceFront.{SliceFront}
use Rattle.macho_commands_stores.specs.declared.slices.SliceFronts.{SliceFronts}
use Rattle.byte_store.specs.Known.{HasLength, IsFirst, Stays}

-- ---- a table that is read record by record

-- what was read and what is left give all
pub table_more : (count i : ℕ) (rest : List ℕ) (arch : FatArch) (made next all : List FatArch) → i < count → arch ≡ arch_of rest → next ≡ made ++ arch ∷ [] → made ++ table (count - i) rest ≡ all → next ++ table (count - (i + 1)) (take (length rest - 20) (drop 20 rest)) ≡ all
table_more count i rest arch made next all within is push before =
    let left : count - i ≡ suc (count - (i + 1)) = omega arith in
    let behind : List FatArch = table (count - (i + 1)) (take (length rest - 20) (drop 20 rest)) in
    let step = rw left at before in
    ap (λ xs. xs ++ behind) push ∙ append_assoc made (arch ∷ []) behind ∙ ap (λ a. made ++ a ∷ behind) is
    ∙ ap (λ r. made ++ arch_of rest ∷ table (count - (i + 1)) r) (take_rest rest 20) ∙ step

pub place_more : (i n : ℕ) (rest : List ℕ) → 20 ≤ length rest → 20 * i + length rest ≡ n → 20 * (i + 1) + length (take (length rest - 20) (drop 20 rest)) ≡ n
place_more i n rest within before = rw (take_rest rest 20, length-drop) (omega arith)

length-table : (n : ℕ) (rest : List ℕ) → length (table n rest) ≡ n
length-table zero rest = refl
length-table (suc n) rest = ap suc (length-table n (drop 20 rest))

-- bytes behind those in which a record or a table stands
arch-longer : (bytes rest : List ℕ) → 20 ≤ length bytes → arch_of (bytes ++ rest) ≡ arch_of bytes
arch-longer bytes rest long =
    let kind = number_at-append_left Big 4 0 bytes rest (omega arith) in
    let model = number_at-append_left Big 4 4 bytes rest (omega arith) in
    let offset = number_at-append_left Big 4 8 bytes rest (omega arith) in
    let size = number_at-append_left Big 4 12 bytes rest (omega arith) in
    let align = number_at-append_left Big 4 16 bytes rest (omega arith) in
    cc

table-longer : (n : ℕ) (bytes rest : List ℕ) → 20 * n ≤ length bytes → table n (bytes ++ rest) ≡ table n bytes
table-longer zero bytes rest long = refl
table-longer (suc n) bytes rest long =
    let behind : drop 20 (bytes ++ rest) ≡ drop 20 bytes ++ rest = drop-append-le 20 bytes rest (omega arith) in
    ap (λ (a : FatArch). a ∷ table n (drop 20 (bytes ++ rest))) (arch-longer bytes rest (omega arith))
    ∙ ap (λ (l : List ℕ). arch_of bytes ∷ table n l) behind
    ∙ ap (λ (archs : List FatArch). arch_of bytes ∷ archs) (table-longer n (drop 20 bytes) rest (omega (arith, length-drop 20 bytes)))

-- ---- slices that rise

pub rising_within : (start size : ℕ) (archs : List FatArch) → AreRising start size archs → start ≤ size
rising_within start size [] rising = rising
rising_within start size (arch ∷ archs) rising =
    let behind : arch.offset + arch.size ≤ size = rising_within (arch.offset + arch.size) size archs rising.2 in
    omega (arith, rising.0)

none_outside : (end start size : ℕ) (archs : List FatArch) → end ≤ start → AreRising start size archs → list_any (is_outside size end) archs ≡ false
none_outside end start size [] low rising = refl
none_outside end start size (arch ∷ archs) low rising =
    let within : arch.offset + arch.size ≤ size = rising_within (arch.offset + arch.size) size archs rising.2 in
    let here : end ≤ arch.offset = omega (arith, rising.0) in
    rw (le-ltb size (arch.offset + arch.size) within, le-ltb arch.offset end here)
    (none_outside end (arch.offset + arch.size) size archs (omega arith) rising.2)

none_after : (a : FatArch) (start size : ℕ) (archs : List FatArch) → 0 < a.size → a.offset + a.size ≤ start → AreRising start size archs → list_any (share_byte a) archs ≡ false
none_after a start size [] some low rising = refl
none_after a start size (b ∷ archs) some low rising =
    let apart : a.offset + a.size ≤ b.offset = omega (arith, rising.0) in
    let before : a.offset < b.offset + b.size = omega (arith, rising.1) in
    rw (lt-ltb 0 a.size some, lt-ltb 0 b.size rising.1, lt-ltb a.offset (b.offset + b.size) before, le-ltb b.offset (a.offset + a.size) apart)
    (none_after a (b.offset + b.size) size archs some (omega arith) rising.2)

none_share : (start size : ℕ) (archs : List FatArch) → AreRising start size archs → some_share archs ≡ false
none_share start size [] rising = refl
none_share start size (a ∷ archs) rising =
    rw (none_after a (a.offset + a.size) size archs rising.1 (omega arith) rising.2) (none_share (a.offset + a.size) size archs rising.2)

pub rising_pass : (size : ℕ) (archs : List FatArch) → AreRising (table_end (length archs)) size archs → slices_fault size archs ≡ None
unfolding slices_fault
rising_pass size archs rising =
    rw (none_outside (table_end (length archs)) (table_end (length archs)) size archs (omega arith) rising, none_share (table_end (length archs)) size archs rising) refl

-- ---- the table of a file

archs_longer : (first rest : List ℕ) (count : ℕ) → 8 + 20 * count ≤ length first → count ≡ nfat_arch_of first → archs_of (first ++ rest) ≡ table count (drop 8 first)
unfolding archs_of
archs_longer first rest count long is =
    let counted : nfat_arch_of (first ++ rest) ≡ count = number_at-append_left Big 4 4 first rest (omega arith) ∙ sym is in
    let behind : drop 8 (first ++ rest) ≡ drop 8 first ++ rest = drop-append-le 8 first rest (omega arith) in
    ap (λ (n : ℕ). table n (drop 8 (first ++ rest))) counted
    ∙ ap (table count) behind
    ∙ table-longer count (drop 8 first) rest (omega (arith, length-drop 8 first))

passes_longer : (file : List ℕ) (archs : List FatArch) → has_fat_magic file ≡ true → length file < 2 ^ 32 → table_end (length archs) ≤ length file → nfat_arch_of file ≡ length archs → archs_of file ≡ archs → slices_fault (length file) archs ≡ None → table_fault file ≡ None
unfolding table_fault
passes_longer file archs magic short long counted are ok =
    let four : 4 ≤ length file = omega arith in
    let eight : 8 ≤ length file = omega arith in
    rw (le-ltb (2 ^ 32 - 1) (length file) (omega arith), le-ltb (length file) 4 four, magic, le-ltb (length file) 8 eight, counted, le-ltb (length file) (table_end (length archs)) long, are) ok

both : (a b : Bool) → (a && b) ≡ true → b ≡ true
both true b is = is
both false b is = absurd (cc)

magic_longer : (first rest : List ℕ) → 4 ≤ length first → has_fat_magic (first ++ rest) ≡ has_fat_magic first
magic_longer first rest long = rw (number_at-append_left Big 4 0 first rest long) refl

begins : (file : List ℕ) → 4 ≤ length file → has_fat_magic file ≡ true → begins_fat file ≡ true
begins file long magic = rw (le-leb 4 (length file) long, magic) refl

has_longer : (first rest : List ℕ) (count : ℕ) (archs : List FatArch) → has_fat_magic first ≡ true → 8 + 20 * count ≤ length first → count ≡ nfat_arch_of first → archs ≡ table count (drop 8 first) → length (first ++ rest) < 2 ^ 32 → AreRising (8 + 20 * count) (length (first ++ rest)) archs → HasSlices (first ++ rest) archs
has_longer first rest count archs magic long is read short rising =
    let counted : length archs ≡ count = ap length read ∙ length-table count (drop 8 first) in
    let more : length first ≤ length (first ++ rest) = omega (arith, length-append first rest) in
    let all_magic : has_fat_magic (first ++ rest) ≡ true = magic_longer first rest (omega arith) ∙ magic in
    let are : archs_of (first ++ rest) ≡ archs = archs_longer first rest count long is ∙ sym read in
    let number : nfat_arch_of (first ++ rest) ≡ length archs = number_at-append_left Big 4 4 first rest (omega arith) ∙ sym is ∙ sym counted in
    let P : ℕ → Type 0 = λ n. AreRising (8 + 20 * n) (length (first ++ rest)) archs in
    record {
      begins = begins (first ++ rest) (omega arith) all_magic;
      passes = passes_longer (first ++ rest) archs all_magic short (omega arith) number are (rising_pass (length (first ++ rest)) archs (subst P (sym counted) rising));
      archs_are = are;
    }

-- what the first bytes of a file tell of its table
pub table_is : (first : List ℕ) (size count : ℕ) (archs : List FatArch) → begins_fat first ≡ true → 0 < count → 8 + 20 * count ≤ length first → count ≡ nfat_arch_of first → archs ≡ table count (drop 8 first) → size < 2 ^ 32 → AreRising (8 + 20 * count) size archs → IsTableOf first size archs
table_is first size count archs fat some long is read short rising =
    let counted : length archs ≡ count = ap length read ∙ length-table count (drop 8 first) in
    let P : ℕ → Type 0 = λ n. AreRising (8 + 20 * n) size archs in
    record {
      some = omega arith;
      short = short;
      rising = subst P (sym counted) rising;
      of = λ file same all.
          let n : ℕ = length first in
          let joined : first ++ drop n file ≡ file = ap (λ (l : List ℕ). l ++ drop n file) same ∙ take-append-drop n file in
          let many : length (first ++ drop n file) ≡ size = ap length joined ∙ all in
          let R : ℕ → Type 0 = λ m. AreRising (8 + 20 * count) m archs in
          let Has : List ℕ → Type 0 = λ l. HasSlices l archs in
          subst Has joined (has_longer first (drop n file) count archs (both (nat_le 4 (length first)) (has_fat_magic first) fat) long is read (omega (arith, many)) (subst R (sym many) rising));
    }

-- ---- what was read of them

-- an error of a later read
pub later : (may_fail : Error → Type 0) (old mid : Option (List ℕ)) (e : ReadError) (a b c : ℕ) → mid ≡ old → a ≤ b → IsNotRead may_fail mid b c e → IsNotRead may_fail old a c e
later may_fail old mid Memory a b c same grows is = tt
later may_fail old mid (Io e) a b c same grows (inl is) = inl (is.0, (omega arith, λ below. omega arith))
later may_fail old mid (Io e) a b c same grows (inr is) = inr (
  is.0,
  λ all knows.
      let failed = is.1 all (same ∙ knows) in
      ((omega arith, λ below. omega arith), failed.1),
)

-- the front of one slice more
pub fronts_more : (known mid : Option (List ℕ)) (archs : List FatArch) (fronts next : List SliceFront) (i : ℕ) (d : FatArch) (front : SliceFront) → i < length archs → mid ≡ known → next ≡ fronts ++ front ∷ [] → AreFrontsOf known (take i archs) fronts → IsFrontAt mid (get_or archs i d) front → AreFrontsOf known (take (i + 1) archs) next
fronts_more known mid archs fronts next i d front inside kept push before here =
    let Known : Option (List ℕ) → Type 0 = λ k. IsFrontAt k (get_or archs i d) front in
    let All : List FatArch → Type 0 = λ l. AreFrontsOf known l (fronts ++ front ∷ []) in
    let Next : List SliceFront → Type 0 = AreFrontsOf known (take (i + 1) archs) in
    subst Next (sym push) (subst All (sym (take_more archs i d inside)) (zip_push known (take i archs) fronts (get_or archs i d) front before (subst Known kept here)))
  where
    zip_push : (known : Option (List ℕ)) (archs : List FatArch) (fronts : List SliceFront) (arch : FatArch) (front : SliceFront) → AreFrontsOf known archs fronts → IsFrontAt known arch front → AreFrontsOf known (archs ++ arch ∷ []) (fronts ++ front ∷ [])
    zip_push known [] [] arch front all here = (here, tt)
    zip_push known [] (f ∷ fronts) arch front all here = absurd all
    zip_push known (a ∷ archs) [] arch front all here = absurd all
    zip_push known (a ∷ archs) (f ∷ fronts) arch front all here = (all.0, zip_push known archs fronts arch front all.1 here)

-- first bytes are as many first bytes
pub first_are : (n : ℕ) (file first : List ℕ) → first ≡ take n file → first ≡ take (length first) file
first_are n file first is = elim (cases_lt (length file) n) [
  | inl short ↦
      let all : first ≡ file = is ∙ take_all n file (omega (arith, short)) in
      all ∙ sym (take_all (length first) file (omega (arith, ap length all)))
  | inr long ↦ is ∙ ap (λ (k : ℕ). take k file) (sym (ap length is ∙ length-take-le n file long))
]

-- what was read of a fat file
pub slices_read : (known mid : Option (List ℕ)) (n : ℕ) (first : List ℕ) (archs : List FatArch) (read : SliceFronts) → IsFirst n known first → Stays known mid → HasLength mid read.length → IsTableOf first read.length archs → AreFrontsOf mid archs read.fronts.items → AreSlicesRead known read
slices_read known mid n first archs read is_first kept long table fronts =
    let P : Option (List ℕ) → Type 0 = λ k. AreFrontsOf k archs read.fronts.items in
    record {
      archs = archs;
      some = table.some;
      short = table.short;
      rising = table.rising;
      fronts = subst P kept fronts;
      has = λ file is.
          let all : length file ≡ read.length = long file (kept ∙ is) in
          (table.of file (first_are n file first (is_first file is)) all, all);
    }

-- what a push left that was no error
pub pushed : {T E A : Type 0} (answer : Result T E) (more same new : List A) → new ≡ (if is_ok answer then more else same) → is_err answer ≡ false → new ≡ more
pushed (Ok x) more same new is none = is
pushed (Err e) more same new is none = absurd (cc)
