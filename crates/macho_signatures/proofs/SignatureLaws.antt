-- The checks of a signature in their order, and what is read of one that passes them.
use Rattle.std.proofs.Common.{◌≡◌, ◌≢◌, ◌≤◌, ◌<◌, ℕ, ◌+◌, Bool, List, length, map, drop, filter, ◌==◌, Some, None, Result, Ok, Err, refl, sym, ap, ◌∙◌, subst, arith, if◌then◌else◌}
use Rattle.std.specs.Result.{MatchResult}
use Rattle.std.specs.List.{All, list_any}
use Rattle.std.proofs.lemmas.Bool.{le-ltb, lt-ltb}
use Rattle.std.proofs.lemmas.List.{length-drop, length-take-le}
use Rattle.std.proofs.lemmas.List.Elements.{All-filter, All-same}
use Rattle.macho_signatures.specs.declared.blobs.Blob.{Blob}
use Rattle.macho_signatures.specs.declared.directory.Directory.{Directory}
use Rattle.macho_signatures.specs.declared.fault.SignatureFault.{SignatureFault}
use Rattle.macho_signatures.specs.declared.fault.SignatureFault.TheVariants.{Memory, NoDirectory, Outside}
use Rattle.macho_signatures.specs.declared.signature.Signature.{Signature}
use Rattle.macho_signatures.specs.Blobs.{AreBlobs, blobs_fault, blobs_of, header_fault, first_there, signature_bytes}
use Rattle.macho_signatures.specs.Signature.{ArePlaced, Tells, blob_directory, blob_fault, bytes_fault, contents_fault, directories_of, directory_blobs, first_fault, has_main, is_directory, is_message, is_signed, signature_fault}
use Rattle.macho_signatures.proofs.PlaceLaws.{are_placed, neither_there}

-- blobs of which each lies in the signature
pub inside_blobs : (s : List ℕ) (blobs : List Blob) → AreBlobs s blobs → All (λ b. b.offset + b.size ≤ length s) blobs
inside_blobs s blobs are = λ k d here. let h = are.inside k d here in let w = are.within in omega (arith, h, w)

pub inside_kept : (s : List ℕ) (blobs kept seen : List Blob) → AreBlobs s blobs → kept ≡ filter is_directory blobs → seen ≡ kept → All (λ b. b.offset + b.size ≤ length s) seen
inside_kept s blobs kept seen are is same =
    All-same (λ b. b.offset + b.size ≤ length s) seen (filter is_directory blobs) (same ∙ is)
    (All-filter is_directory (λ b. b.offset + b.size ≤ length s) blobs (inside_blobs s blobs are))

-- a fault of a directory
pub directories_fault : (start : ℕ) (s : List ℕ) (blobs kept seen : List Blob) (e : SignatureFault) → blobs ≡ blobs_of s → kept ≡ filter is_directory blobs → seen ≡ kept → first_fault (blob_fault start s) seen ≡ Some e → contents_fault start s ≡ Some e
unfolding contents_fault
directories_fault start s blobs kept seen e all is same fault =
    let seen_is : directory_blobs s ≡ seen = ap (filter is_directory) (sym all) ∙ sym is ∙ sym same in
    let found : first_fault (blob_fault start s) (directory_blobs s) ≡ Some e = ap (first_fault (blob_fault start s)) seen_is ∙ fault in
    rw found refl

-- no directory in the main slot
pub main_fault : (start : ℕ) (s : List ℕ) (blobs kept seen : List Blob) (answer : Bool) → blobs ≡ blobs_of s → kept ≡ filter is_directory blobs → seen ≡ kept → first_fault (blob_fault start s) seen ≡ None → answer ≡ list_any (λ (b : Blob). b.kind == 0) blobs → contents_fault start s ≡ (if answer then None else Some NoDirectory)
unfolding contents_fault
main_fault start s blobs kept seen answer all is same pass told =
    let seen_is : directory_blobs s ≡ seen = ap (filter is_directory) (sym all) ∙ sym is ∙ sym same in
    let found : first_fault (blob_fault start s) (directory_blobs s) ≡ None = ap (first_fault (blob_fault start s)) seen_is ∙ pass in
    let main : has_main s ≡ answer = ap (list_any (λ (b : Blob). b.kind == 0)) (sym all) ∙ sym told in
    rw (found, main) refl

pub contents_tell : (start : ℕ) (s : List ℕ) (blobs kept seen : List Blob) (found : Signature) (answer : Bool) → blobs ≡ blobs_of s → kept ≡ filter is_directory blobs → seen ≡ kept → found.start ≡ start → found.directories.items ≡ map (blob_directory start s) seen → found.is_signed ≡ answer → answer ≡ list_any (is_message s) blobs → Tells start s found
unfolding directories_of is_signed
contents_tell start s blobs kept seen found answer all is same begins made signed told =
    let seen_is : seen ≡ directory_blobs s = same ∙ is ∙ ap (filter is_directory) all in
    record {
      begins = begins;
      directories = made ∙ ap (map (blob_directory start s)) seen_is;
      signed = signed ∙ told ∙ ap (list_any (is_message s)) all;
    }

-- ## The whole

pub fault_outside : (start size : ℕ) (bytes : List ℕ) → length bytes < start + size → signature_fault start size bytes ≡ Some Outside
unfolding signature_fault
fault_outside start size bytes outside = rw (lt-ltb (length bytes) (start + size) outside) refl

fault_within : (start size : ℕ) (bytes : List ℕ) → start + size ≤ length bytes → signature_fault start size bytes ≡ first_there (first_there (header_fault (signature_bytes start size bytes)) (blobs_fault (signature_bytes start size bytes))) (contents_fault start (signature_bytes start size bytes))
unfolding signature_fault
fault_within start size bytes within = rw (le-ltb (length bytes) (start + size) within) refl

pub fault_within_bytes : (start size : ℕ) (bytes s : List ℕ) → start + size ≤ length bytes → s ≡ signature_bytes start size bytes → signature_fault start size bytes ≡ bytes_fault start s
fault_within_bytes start size bytes s within is = fault_within start size bytes within ∙ ap (bytes_fault start) (sym is)

length-signature_bytes : (start size : ℕ) (bytes : List ℕ) → start + size ≤ length bytes → start + length (signature_bytes start size bytes) ≤ length bytes
length-signature_bytes start size bytes within =
    let left = length-drop start bytes in
    let long : length (signature_bytes start size bytes) ≡ size = length-take-le size (drop start bytes) (omega (arith, left, within)) in
    omega (arith, long, within)

placed_directories : (start len : ℕ) (s : List ℕ) (blobs : List Blob) (ds : List Directory) → start + length s ≤ len → AreBlobs s blobs → blobs ≡ blobs_of s → contents_fault start s ≡ None → ds ≡ directories_of start s → ArePlaced start len ds
unfolding contents_fault directories_of
placed_directories start len s blobs ds room are all pass made =
    let P : List Blob → Type 0 = λ xs. AreBlobs s xs in
    let Q : List Directory → Type 0 = λ xs. ArePlaced start len xs in
    let first = neither_there (first_fault (blob_fault start s) (directory_blobs s)) (if has_main s then None else Some NoDirectory) pass in
    subst Q (sym made) (are_placed start len s (blobs_of s) room (subst P all are) first.0)

-- what is answered to the bytes of a signature
abbrev pub AnswersBytes : ℕ → List ℕ → Result Signature SignatureFault → Type 0
AnswersBytes start s r =
    MatchResult r
    (λ found. (bytes_fault start s ≡ None) × Tells start s found × ((len : ℕ) → start + length s ≤ len → ArePlaced start len found.directories.items))
    (λ e. e ≢ Memory → bytes_fault start s ≡ Some e)

pub answers_bytes : (start : ℕ) (s : List ℕ) (blobs : List Blob) (r : Result Signature SignatureFault) → first_there (header_fault s) (blobs_fault s) ≡ None → AreBlobs s blobs → blobs ≡ blobs_of s → MatchResult r (λ found. (contents_fault start s ≡ None) × Tells start s found) (λ e. e ≢ Memory → contents_fault start s ≡ Some e) → AnswersBytes start s r
answers_bytes start s blobs (Ok found) pass are all told =
    (rw pass told.0, told.1, λ len room. placed_directories start len s blobs found.directories.items room are all told.0 told.1.directories)
answers_bytes start s blobs (Err e) pass are all told = λ other. rw pass (told other)

pub super_fault : (start : ℕ) (s : List ℕ) (e : SignatureFault) → first_there (header_fault s) (blobs_fault s) ≡ Some e → bytes_fault start s ≡ Some e
super_fault start s e fault = rw fault refl

-- what is answered to a file with the bytes of a signature
abbrev pub Answers : ℕ → ℕ → List ℕ → Result Signature SignatureFault → Type 0
Answers start size bytes r =
    MatchResult r
    (λ found. (signature_fault start size bytes ≡ None) × Tells start (signature_bytes start size bytes) found × ArePlaced start (length bytes) found.directories.items)
    (λ e. e ≢ Memory → signature_fault start size bytes ≡ Some e)

pub answers : (start size : ℕ) (bytes s : List ℕ) (r : Result Signature SignatureFault) → start + size ≤ length bytes → s ≡ signature_bytes start size bytes → AnswersBytes start s r → Answers start size bytes r
answers start size bytes s (Ok found) within is told =
    let P : List ℕ → Type 0 = λ x. Tells start x found in
    let long = length-signature_bytes start size bytes within in
    (fault_within_bytes start size bytes s within is ∙ told.0, subst P is told.1, told.2 (length bytes) (omega (arith, long, ap length is)))
answers start size bytes s (Err e) within is told = λ other. fault_within_bytes start size bytes s within is ∙ told other
