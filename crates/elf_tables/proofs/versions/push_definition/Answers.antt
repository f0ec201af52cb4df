use Rattle.std.proofs.Common.{◌≡◌, ◌+◌, ◌*◌, ◌<◌, ◌++◌, ℕ, List, length, map, sym, subst, ap, ◌∙◌, cond, rules, arith}
use Rattle.std.specs.List.{AllByRecursion}
use Rattle.std.proofs.lemmas.List.{length-map}
use Rattle.std.proofs.lemmas.Result.{MatchResult-weaker}
use Rattle.patch_bytes.specs.ByteString.{StringValue, bytes_of_each}
use Rattle.elf_format.specs.Hashes.{gabi_hash}
use Rattle.elf_image.specs.ImageModel.{definition_model}
use Rattle.elf_tables.specs.VersionRecords.{PlacedDefinition, definition_size, chained, own_name, place_in, placed_definition, spelled_definition, spelled_definition_name}
use Rattle.elf_tables.proofs.ChainingSteps.{definition_made}
use Rattle.elf_tables.proofs.versions.push_definition.Goals as goal

pub returns : goal.returns
returns c =
    let strings : List StringValue = c.args.version.now.names.items in
    let names : List (List ℕ) = bytes_of_each strings in
    let d : PlacedDefinition = placed_definition c.args.table.now (definition_model c.args.version.now) in
    let counted_strings : c.len-count.result ≡ length strings = search rules in
    let counted : c.len-count.result ≡ length names = counted_strings ∙ sym (length-map strings (λ (x : StringValue). x.bytes)) in
    let long : length d.names ≡ length names = length-map names (place_in c.args.table.now) in
    let hashed : c.own_hash.result ≡ d.hash = c.own_hash.ensures ∙ ap (λ l. gabi_hash (own_name (bytes_of_each l))) c.deref.ensures.value in
    let next : c.next_distance-next.result ≡ cond c.args.has_next (definition_size d) 0 = c.next_distance-next.ensures ∙ ap (λ m. cond c.args.has_next (20 + 8 * m) 0) (counted ∙ sym long) in
    let hash : c.own_hash.result < 4294967296 = search rules in
    let few : length d.names < 65536 = omega arith in
    let same : map (place_in c.args.table.now) (bytes_of_each c.deref-2.result.now) ≡ d.names = ap (λ l. map (place_in c.args.table.now) (bytes_of_each l)) c.deref-2.ensures.value in
    let bytes : List ℕ = c.args.bytes.now.items in
    let second : List ℕ = c.push_words.new.bytes.items in
    MatchResult-weaker c.push_names.result c.push_names.ensures
    (λ _ both. (
      subst (λ (n : ℕ). c.push_names.new.bytes.items ≡ bytes ++ spelled_definition c.args.order d n) next
          (definition_made c.args.order d bytes c.push_front.new.bytes.items second c.push_names.new.bytes.items c.len-count.result c.own_hash.result c.next_distance-next.result (counted ∙ sym long) hashed
          c.in_ok-push_front.ensures.made c.in_ok-push_words.ensures
          (both.0 ∙ ap (λ l. second ++ chained (spelled_definition_name c.args.order) (λ name. 8) l) same)),
      record {
        index = c.push_front.ensures.index;
        flags = c.push_front.ensures.flags;
        count = few;
        hash = subst (λ (n : ℕ). n < 4294967296) hashed hash;
        names = subst (λ (l : List ℕ). AllByRecursion (λ place. place < 4294967296) l) same both.1;
      },
    ))
    (λ fault other large. absurd (other large))
