-- Each row is computed.
use Rattle.std.proofs.Common.{refl}
use Rattle.patch_bytes.specs.Number.{number_at}
use Rattle.sha2.specs.Sha256.{compress, digest_bytes, first_words, hash_after, rounds, schedule, sha256}
use Rattle.macho_signatures.specs.Blobs.{blob_at, blobs_fault, blobs_of, header_fault}
use Rattle.macho_signatures.specs.Directory.{are_slots_outside, code_limit, directory_fault, directory_of, hash_kind_of, is_header_bad, is_identifier_outside, is_scattered, pages_fault}
use Rattle.macho_signatures.specs.Pages.{is_fit, page_hash}
use Rattle.macho_signatures.specs.Renewed.{is_touched}
use Rattle.macho_signatures.specs.Signature.{contents_fault, directories_of, is_signed, signature_fault}
use Rattle.macho_signatures.proofs.rows.signature_rows.Goals as goal

pub returns : goal.returns
unfolding number_at compress digest_bytes first_words hash_after rounds schedule sha256 blob_at blobs_fault blobs_of header_fault are_slots_outside code_limit directory_fault directory_of hash_kind_of is_header_bad is_identifier_outside is_scattered pages_fault is_fit page_hash is_touched contents_fault directories_of is_signed signature_fault
returns c = record {
  accepted = record { accepted = refl; padded = refl; tells = refl; two_pages = refl; special = refl; adhoc = refl; nothing = refl };
  super = record { outside = refl; largest = refl; short = refl; magic = refl; less = refl; more = refl; index = refl; all = refl };
  blobs = record { before = refl; past = refl; far = refl; short = refl; long = refl; twice = refl; overlap = refl; apart = refl };
  directories = record { magic = refl; early = refl; late = refl; fields = refl; slots_before = refl; special = refl; slots_past = refl; identifier = refl; no_nul = refl; kind = refl; size = refl; cut = refl; page_size = refl; largest_page = refl; scattered = refl; gathered = refl; slots = refl; none = refl; limit = refl; alternate = refl; other = refl; first = refl };
  signed = record { message = refl; empty = refl; slot = refl; magic = refl };
  pages = record { fits = refl; unfit = refl; first = refl; second = refl; both = refl; limit = refl; none = refl };
}
