use Rattle.std.proofs.Common.{◌≡◌, ◌+◌, ◌*◌, ◌<◌, ◌++◌, ℕ, List, Some, length, map, sym, subst, ap, ◌∙◌, cond, rules, arith}
use Rattle.std.specs.Prelude.{unwrap_or}
use Rattle.std.specs.List.{AllByRecursion}
use Rattle.std.proofs.lemmas.List.{length-map}
use Rattle.std.proofs.lemmas.Result.{MatchResult-weaker}
use Rattle.elf_image.specs.declared.version.VersionNeedName.{VersionNeedName}
use Rattle.elf_image.specs.ImageModel.{name_model, needs_model}
use Rattle.elf_tables.specs.Strings.{place_of}
use Rattle.elf_tables.specs.VersionRecords.{PlacedName, PlacedNeeds, chained, needs_size, place_in, placed_name, placed_needs, spelled_need_name, spelled_needs}
use Rattle.elf_tables.specs.VersionSteps.{NameFits}
use Rattle.elf_tables.proofs.NeedsSteps.{needs_made}
use Rattle.elf_tables.proofs.needs.push_needs.Goals as goal

pub returns : goal.returns
returns c =
    let versions : List VersionNeedName = c.args.needs.now.versions.items in
    let m : PlacedNeeds = placed_needs c.args.table.now (needs_model c.args.needs.now) in
    let counted : c.len-count.result ≡ length versions = search rules in
    let long : length m.versions ≡ length versions = length-map (map name_model versions) (placed_name c.args.table.now) ∙ length-map versions name_model in
    let told : place_of c.args.table.now c.as_slice.result.now ≡ Some c.unwrap-file.result = sym c.offset_of.ensures.place ∙ c.unwrap-file.ensures in
    let placed : c.unwrap-file.result ≡ m.file = sym (ap (λ o. unwrap_or o 0) told) ∙ ap (place_in c.args.table.now) c.as_slice.ensures in
    let next : c.next_distance-next.result ≡ cond c.args.has_next (needs_size m) 0 = c.next_distance-next.ensures ∙ ap (λ k. cond c.args.has_next (16 + 16 * k) 0) (counted ∙ sym long) in
    let file : c.unwrap-file.result < 4294967296 = search rules in
    let few : length m.versions < 65536 = omega arith in
    let same : map (placed_name c.args.table.now) (map name_model c.deref.result.now) ≡ m.versions = ap (λ l. map (placed_name c.args.table.now) (map name_model l)) c.deref.ensures.value in
    let bytes : List ℕ = c.args.bytes.now.items in
    let second : List ℕ = c.push_words.new.bytes.items in
    MatchResult-weaker c.push_need_names.result c.push_need_names.ensures
    (λ _ both. (
      subst (λ (n : ℕ). c.push_need_names.new.bytes.items ≡ bytes ++ spelled_needs c.args.order m n) next
          (needs_made c.args.order m bytes c.push_halves.new.bytes.items second c.push_need_names.new.bytes.items c.len-count.result c.unwrap-file.result c.next_distance-next.result (counted ∙ sym long) placed
          c.in_ok-push_halves.ensures c.in_ok-push_words.ensures
          (both.0 ∙ ap (λ l. second ++ chained (spelled_need_name c.args.order) (λ v. 16) l) same)),
      record {
        count = few;
        file = subst (λ (n : ℕ). n < 4294967296) placed file;
        versions = subst (λ (l : List PlacedName). AllByRecursion NameFits l) same both.1;
      },
    ))
    (λ fault other large. absurd (other large))
