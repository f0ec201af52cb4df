-- The next pair is the digits of the next byte, and behind the last pair there are no more bytes.
use Rattle.std.proofs.Common.{◌≡◌, ◌/◌, ◌<◌, ◌≤◌, ◌∙◌, ℕ, List, ◌∷◌, [], ◌++◌, ap, arith, get_or, length, map}
use Rattle.std.specs.Simd.{first_chunks}
use Rattle.std.proofs.lemmas.List.{get_or-map, length-map, take_all, take_more}
use Rattle.std.proofs.lemmas.List.Elements.{All-get_or}
use Rattle.test_cases_written.proofs.HexLaws.{pairs_spelled, spelled}
use Rattle.test_cases_written.proofs.words.bytes_spelled.Goals as goal

pub loop-pair-preserved : goal.loop-pair-preserved
loop-pair-preserved c bytes are spell =
    let i = c.loop-pair.pair-index in
    let all = c.as_chunks.result.0.now in
    let pairs : all ≡ map spelled bytes =
    c.as_chunks.ensures.front ∙ ap (λ (digits : List ℕ). first_chunks 2 (length digits / 2) digits) spell ∙ pairs_spelled bytes in
    let count : length all ≡ length bytes = ap length pairs ∙ length-map bytes spelled in
    let inside : i < length bytes = omega arith in
    let byte = get_or bytes i 0 in
    let small = All-get_or (λ (b : ℕ). b < 256) bytes i 0 inside are in
    let pair : get_or all i [] ≡ spelled byte = ap (λ (ps : List (List ℕ)). get_or ps i []) pairs ∙ get_or-map spelled bytes i 0 [] inside in
    let is : c.byte.result ≡ byte = c.byte.ensures byte small (ap (λ (p : List ℕ). get_or p 0 0) pair) (ap (λ (p : List ℕ). get_or p 1 0) pair) in
    let so_far = c.loop-pair.invariant bytes are spell in
    let more = take_more bytes i 0 inside in
    let pushed : c.push.new.self.items ≡ c.loop-pair.made.items ++ c.byte.result ∷ [] = c.in_ok-push.ensures.items in
    cc

pub returns : goal.returns
returns c bytes are spell =
    let all = c.as_chunks.result.0.now in
    let pairs : all ≡ map spelled bytes =
    c.as_chunks.ensures.front ∙ ap (λ (digits : List ℕ). first_chunks 2 (length digits / 2) digits) spell ∙ pairs_spelled bytes in
    let count : length all ≡ length bytes = ap length pairs ∙ length-map bytes spelled in
    let past : length bytes ≤ c.loop-pair.pair-index = omega arith in
    c.loop-pair.invariant bytes are spell ∙ take_all c.loop-pair.pair-index bytes past
