-- The directories of a signature that passes all checks stand where they may.
use Rattle.std.proofs.Common.{◌≡◌, ◌≤◌, ◌+◌, ◌||◌, ◌==◌, ℕ, not, nat_lt, List, length, drop, Some, None, arith, if◌then◌else◌}
use Rattle.std.specs.List.{list_any}
use Rattle.std.proofs.lemmas.Bool.{ltb-false, or_parts}
use Rattle.std.proofs.lemmas.List.{length-drop, length-take-le}
use Rattle.macho_signatures.specs.Blobs.{AreBlobs, blob_count, blobs_fault, blobs_of, header_fault, index_end, is_bad_blob, number32, first_there, signature_bytes, some_overlap, super_length}
use Rattle.macho_signatures.specs.Signature.{ArePlaced, blob_fault, contents_fault, directories_of, directory_blobs, first_fault, has_main, signature_fault}
use Rattle.macho_signatures.specs.declared.fault.SignatureFault.TheVariants.{BadBlob, BadLength, NoDirectory, NoSuperBlob, Outside}
use Rattle.macho_signatures.proofs.IndexLaws.{are_blobs}
use Rattle.macho_signatures.proofs.PlaceLaws.{are_placed, neither_there, passes}

header_passes : (s : List ℕ) → header_fault s ≡ None → (12 ≤ length s) × (super_length s ≤ length s)
unfolding header_fault
header_passes s none =
    let first = passes (nat_lt (length s) 12) NoSuperBlob _ none in
    let second = passes (not (number32 0 s == 4208856256)) NoSuperBlob _ first.1 in
    let third = passes (nat_lt (super_length s) 12 || nat_lt (length s) (super_length s)) BadLength _ second.1 in
    let either = or_parts (nat_lt (super_length s) 12) (nat_lt (length s) (super_length s)) third.0 in
    (ltb-false (length s) 12 first.0, ltb-false (length s) (super_length s) either.1)

blobs_pass : (s : List ℕ) → header_fault s ≡ None → blobs_fault s ≡ None → AreBlobs s (blobs_of s)
unfolding blobs_fault
blobs_pass s header none =
    let long = header_passes s header in
    let first = passes (list_any (is_bad_blob (super_length s) (index_end (blob_count s))) (blobs_of s)) BadBlob _ none in
    let second = passes (some_overlap (blobs_of s)) BadBlob None first.1 in
    are_blobs s (blobs_of s) long.0 long.1 first.0 second.0

contents_pass : (start len : ℕ) (s : List ℕ) → start + length s ≤ len → AreBlobs s (blobs_of s) → contents_fault start s ≡ None → ArePlaced start len (directories_of start s)
unfolding contents_fault directories_of
contents_pass start len s room are none =
    let first = neither_there (first_fault (blob_fault start s) (directory_blobs s)) (if has_main s then None else Some NoDirectory) none in
    are_placed start len s (blobs_of s) room are first.0

pub passes_placed : (start size : ℕ) (bytes : List ℕ) → signature_fault start size bytes ≡ None → ArePlaced start (length bytes) (directories_of start (signature_bytes start size bytes))
unfolding signature_fault
passes_placed start size bytes none =
    let s : List ℕ = signature_bytes start size bytes in
    let outer = passes (nat_lt (length bytes) (start + size)) Outside _ none in
    let within = ltb-false (length bytes) (start + size) outer.0 in
    let both = neither_there (first_there (header_fault s) (blobs_fault s)) (contents_fault start s) outer.1 in
    let parts = neither_there (header_fault s) (blobs_fault s) both.0 in
    let left = length-drop start bytes in
    let long : length s ≡ size = length-take-le size (drop start bytes) (omega (arith, left, within)) in
    contents_pass start (length bytes) s (omega (arith, long, within)) (blobs_pass s parts.0 parts.1) both.1
