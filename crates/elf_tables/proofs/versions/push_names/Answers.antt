use Rattle.std.proofs.Common.{◌≡◌, ◌+◌, ◌<◌, ℕ, List, Some, cond, length, map, get_or, ltb, sym, ap, ◌∙◌, rules, arith}
use Rattle.std.specs.Prelude.{unwrap_or}
use Rattle.std.proofs.lemmas.List.{get_or-map, length-map}
use Rattle.patch_bytes.specs.ByteString.{StringValue, bytes_of_each}
use Rattle.elf_tables.specs.Strings.{place_of}
use Rattle.elf_tables.specs.VersionRecords.{place_in, spelled_definition_name}
use Rattle.elf_tables.proofs.ChainingSteps.{chaining-all, chaining-more}
use Rattle.elf_tables.proofs.versions.push_names.Goals as goal

pub loop-i-preserved : goal.loop-i-preserved
loop-i-preserved c =
    let shown : StringValue → List ℕ = λ x. x.bytes in
    let names : List (List ℕ) = bytes_of_each c.args.names.now in
    let places : List ℕ = map (place_in c.args.table.now) names in
    let place : ℕ = c.unwrap-place.result in
    let text : List ℕ = c.as_slice.result.now in
    let as_many : length names ≡ length c.args.names.now = length-map c.args.names.now shown in
    let long : length places ≡ length c.args.names.now = length-map names (place_in c.args.table.now) ∙ as_many in
    let within : c.loop-i.i < length places = omega arith in
    let told : place_of c.args.table.now text ≡ Some place = sym c.offset_of.ensures.place ∙ c.unwrap-place.ensures in
    let read : text ≡ get_or names c.loop-i.i text =
    c.as_slice.ensures ∙ ap shown c.index-names-i.is ∙ sym (get_or-map shown c.args.names.now c.loop-i.i c.index-names-i.result text (omega arith)) in
    let here : place ≡ get_or places c.loop-i.i place =
    sym (ap (λ o. unwrap_or o 0) told) ∙ ap (place_in c.args.table.now) read
    ∙ sym (get_or-map (place_in c.args.table.now) names c.loop-i.i text place (omega arith)) in
    let fits : place < 4294967296 = search rules in
    let next : c.next_distance-next.result ≡ cond (ltb (c.loop-i.i + 1) (length places)) 8 0 = c.next_distance-next.ensures ∙ ap (λ m. cond (ltb (c.loop-i.i + 1) m) 8 0) (sym long) in
    chaining-more (spelled_definition_name c.args.order) (λ name. 8) (λ (p : ℕ). p < 4294967296) c.args.bytes.now.items places c.loop-i.i c.loop-i.bytes.items c.push_words.new.bytes.items place c.next_distance-next.result
    c.loop-i.invariant within here fits next c.in_ok-push_words.ensures

pub returns : goal.returns
returns c =
    let names : List (List ℕ) = bytes_of_each c.args.names.now in
    let places : List ℕ = map (place_in c.args.table.now) names in
    let long : length places ≡ length c.args.names.now = length-map names (place_in c.args.table.now) ∙ length-map c.args.names.now (λ (x : StringValue). x.bytes) in
    chaining-all (spelled_definition_name c.args.order) (λ name. 8) (λ (p : ℕ). p < 4294967296) c.args.bytes.now.items places c.loop-i.i c.loop-i.bytes.items c.loop-i.invariant (omega arith)
