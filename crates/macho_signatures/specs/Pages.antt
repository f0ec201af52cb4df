-- The pages of a file, and whether their slots hold their hashes (cs_blobs.h, `CS_CodeDirectory`).
use Rattle.std.specs.Prelude.{ℕ, ◌+◌, ◌*◌, ◌-◌, ◌<◌, ◌≡◌, Bool, not, min, List, [], ◌∷◌, ◌++◌, map, filter, take, drop}
use Rattle.std.specs.List.{All, list_all, range_with_len}
use Rattle.std.specs.Str.{bytes_eq}
use Rattle.sha1.specs.Sha1.{sha1}
use Rattle.sha2.specs.Sha256.{sha256}
use Rattle.macho_signatures.specs.Directory.{hash_size}
use Rattle.macho_signatures.specs.declared.directory.Directory.{Directory}
use Rattle.macho_signatures.specs.declared.directory.HashKind.{HashKind}
use Rattle.macho_signatures.specs.declared.directory.HashKind.TheVariants.{Sha1, Sha256}
use Rattle.macho_signatures.specs.declared.pages.PageHash.{PageHash}
use Rattle.macho_signatures.specs.declared.pages.UnfitPage.{UnfitPage}

-- the hash of bytes
abbrev pub hash_of : HashKind → List ℕ → PageHash
hash_of Sha1 bytes = PageHash.Sha1 (sha1 bytes)
hash_of Sha256 bytes = PageHash.Sha256 (sha256 bytes)

-- the bytes of a hash
abbrev pub hash_bytes : PageHash → List ℕ
hash_bytes (PageHash.Sha1 hash) = hash
hash_bytes (PageHash.Sha256 hash) = hash

-- where a page begins and ends: the last one ends at the limit
abbrev pub page_start : Directory → ℕ → ℕ
page_start d page = page * d.page_size

abbrev pub page_end : Directory → ℕ → ℕ
page_end d page = min (page * d.page_size + d.page_size) d.limit

-- the bytes of a page
abbrev pub page_of : Directory → ℕ → List ℕ → List ℕ
page_of d page bytes = take (page_end d page - page_start d page) (drop (page_start d page) bytes)

-- where the slot of a page stands, and the bytes in it
abbrev pub slot_place : Directory → ℕ → ℕ
slot_place d page = d.slots + page * hash_size d.hash

abbrev pub slot_of : Directory → ℕ → List ℕ → List ℕ
slot_of d page bytes = take (hash_size d.hash) (drop (slot_place d page) bytes)

-- the hash of a page
unfoldable pub page_hash : Directory → ℕ → List ℕ → PageHash
page_hash d page bytes = hash_of d.hash (page_of d page bytes)

-- the slot of a page holds its hash
unfoldable pub is_fit : Directory → List ℕ → ℕ → Bool
is_fit d bytes page = bytes_eq (slot_of d page bytes) (hash_bytes (page_hash d page bytes))

-- the pages of a directory by their numbers
abbrev pub pages_of : Directory → List ℕ
pages_of d = range_with_len 0 d.count

-- the pages of a directory whose slots don't hold their hashes, with the number of the directory
unfoldable pub unfit_in : ℕ → Directory → List ℕ → List UnfitPage
unfit_in number d bytes = map (λ page. record { directory = number; page = page }) (filter (λ page. not (is_fit d bytes page)) (pages_of d))

-- the pages of several directories whose slots don't hold their hashes; the first directory has this number
abbrev pub unfit_from : ℕ → List Directory → List ℕ → List UnfitPage
unfit_from number [] bytes = []
unfit_from number (d ∷ ds) bytes = unfit_in number d bytes ++ unfit_from (number + 1) ds bytes

-- whether each slot of each directory holds the hash of its page
unfoldable pub do_pages_fit : List Directory → List ℕ → Bool
do_pages_fit ds bytes = list_all (λ d. list_all (is_fit d bytes) (pages_of d)) ds

-- the slot of a page holds the hash of the page
unfoldable pub Fits : Directory → List ℕ → ℕ → Type 0
Fits d bytes page = slot_of d page bytes ≡ hash_bytes (page_hash d page bytes)

abbrev pub AllFit : List Directory → List ℕ → Type 0
AllFit ds bytes = All (λ d. (page : ℕ) → page < d.count → Fits d bytes page) ds
