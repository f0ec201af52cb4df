-- Names of ABIs (gABI, ELF Identification, EI_OSABI), and an interpreter's bytes.
use Rattle.std.specs.Prelude.{ℕ, List, [], ◌∷◌, ◌++◌, find, length, nat_eq, ◌||◌, ◌==◌, if◌then◌else◌, Option, Some, codes}
use Rattle.std.specs.List.{ends_with}
use Rattle.std.specs.Str.{bytes_eq, str_to_ascii_lowercase}
use Rattle.patch_bytes.specs.Memory.{◌>>=◌}

abbrev pub openvms_and_later : List (List ℕ × ℕ)
openvms_and_later = (codes "openvms", 13) ∷ (codes "nsk", 14) ∷ (codes "aros", 15) ∷ (codes "fenixos", 16) ∷ (codes "cloudabi", 17) ∷ []

abbrev pub irix_and_later : List (List ℕ × ℕ)
irix_and_later = (codes "irix", 8) ∷ (codes "freebsd", 9) ∷ (codes "tru64", 10) ∷ (codes "modesto", 11) ∷ (codes "openbsd", 12) ∷ openvms_and_later

abbrev pub hurd_and_later : List (List ℕ × ℕ)
hurd_and_later = (codes "hurd", 4) ∷ (codes "gnu-hurd", 4) ∷ (codes "gnu hurd", 4) ∷ (codes "solaris", 6) ∷ (codes "aix", 7) ∷ irix_and_later

-- each name with the number that stands in the identification
abbrev pub abi_names : List (List ℕ × ℕ)
abi_names = (codes "sysv", 0) ∷ (codes "hpux", 1) ∷ (codes "netbsd", 2) ∷ (codes "linux", 3) ∷ hurd_and_later

-- the name with its ASCII letters lowered, and no other letters
abbrev pub lowercase_name : List ℕ → List ℕ
lowercase_name name = str_to_ascii_lowercase name

-- the number of a name with small letters
abbrev pub number_among : List (List ℕ × ℕ) → List ℕ → Option ℕ
number_among rows name = find (λ row. bytes_eq name row.0) rows >>= (λ row. Some row.1)

-- the number of a name, whatever the case of its ASCII letters; none for an unknown name
unfoldable pub abi_number : List ℕ → Option ℕ
abi_number name = number_among abi_names (lowercase_name name)

-- what is stored of an interpreter's bytes: a NUL is put behind them, unless they are empty or end with one
abbrev pub with_nul : List ℕ → List ℕ
with_nul bytes = if length bytes == 0 || ends_with nat_eq bytes (0 ∷ []) then bytes else bytes ++ 0 ∷ []
