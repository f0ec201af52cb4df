-- One version symbol after another; no bytes spell 0.
use Rattle.std.proofs.Common.{◌≡◌, ◌+◌, ◌-◌, ℕ, List, Bool, true, length, take, drop, sym, ap, ◌∙◌, subst, arith}
use Rattle.std.specs.List.{list_all}
use Rattle.std.proofs.lemmas.List.{length-drop, take_all}
use Rattle.std.proofs.lemmas.Bool.{eqb-true}
use Rattle.elf_format.specs.declared.version_id.VersionId.{VersionId}
use Rattle.elf_format.specs.Form.{records}
use Rattle.elf_format.specs.Versions.{version_id}
use Rattle.elf_image_versions.proofs.VersionSteps.{all_done, all_empty, all_go, all_start, all_stop, is_marked, is_marked-low, is_marked-mark, is_marked-none, no_bytes}
use Rattle.elf_image_versions.proofs.rule.are_marked.Goals as goal
use Rattle.elf_image_versions.proofs.rule.are_marked.Goals.{else-id-ge-VER_NDX_FIRST-via-then-id-ge-VER_NDX_FIRST+else-not-marks-id, else-id-ge-VER_NDX_FIRST-via-else-id-ge-VER_NDX_FIRST}

pub loop-init : goal.loop-init
loop-init c = all_start (version_id c.args.form) (is_marked c.args.marks.now) c.args.count c.args.bytes.now

pub returns-then-is_empty : goal.returns-then-is_empty
returns-then-is_empty c =
    let test : VersionId → Bool = is_marked c.args.marks.now in
    all_empty (version_id c.args.form) test (c.args.count - c.loop.counter) c.loop.rest.now (list_all test (records (version_id c.args.form) 2 c.args.count c.args.bytes.now))
    (eqb-true (length c.loop.rest.now) 0 (sym c.if-is_empty.ensures)) (no_bytes c.args.form c.args.marks.now) c.loop.invariant

pub returns-then-not-marks-id : goal.returns-then-not-marks-id
returns-then-not-marks-id c =
    let test : VersionId → Bool = is_marked c.args.marks.now in
    let id : c.read_version_id-id.result ≡ version_id c.args.form (take 2 c.loop.rest.now) = c.read_version_id-id.ensures ∙ ap (version_id c.args.form) c.part.ensures in
    all_stop (version_id c.args.form) test c.args.count c.loop.counter c.loop.rest.now (list_all test (records (version_id c.args.form) 2 c.args.count c.args.bytes.now)) c.loop-test.true
    (ap test (sym id) ∙ is_marked-none c.args.marks.now c.read_version_id-id.result c.if-id-ge-VER_NDX_FIRST.true c.if-not-marks-id.true) c.loop.invariant

pub loop-preserved : goal.loop-preserved
loop-preserved c =
    let test : VersionId → Bool = is_marked c.args.marks.now in
    let decode : List ℕ → VersionId = version_id c.args.form in
    let rest : List ℕ = c.loop.rest.now in
    let whole : Bool = list_all test (records decode 2 c.args.count c.args.bytes.now) in
    let id : c.read_version_id-id.result ≡ decode (take 2 rest) = c.read_version_id-id.ensures ∙ ap decode c.part.ensures in
    let passes : test c.read_version_id-id.result ≡ true = elim c.else-id-ge-VER_NDX_FIRST.branch [
      | else-id-ge-VER_NDX_FIRST-via-then-id-ge-VER_NDX_FIRST+else-not-marks-id w ↦ is_marked-mark c.args.marks.now c.read_version_id-id.result w.if-not-marks-id.false
      | else-id-ge-VER_NDX_FIRST-via-else-id-ge-VER_NDX_FIRST w ↦ is_marked-low c.args.marks.now c.read_version_id-id.result w.if-id-ge-VER_NDX_FIRST.false
    ] in
    let next : c.part-rest.result.now ≡ drop 2 rest = c.part-rest.ensures ∙ take_all (length rest) (drop 2 rest) (omega (arith, length-drop 2 rest)) in
    subst (λ (l : List ℕ). list_all test (records decode 2 (c.args.count - (c.loop.counter + 1)) l) ≡ whole) (sym next)
    (all_go decode test c.args.count c.loop.counter rest whole c.loop-test.true (ap test (sym id) ∙ passes) c.loop.invariant)

pub returns : goal.returns
returns c =
    let test : VersionId → Bool = is_marked c.args.marks.now in
    all_done (version_id c.args.form) test c.args.count c.loop.counter c.loop.rest.now (list_all test (records (version_id c.args.form) 2 c.args.count c.args.bytes.now)) c.loop-test.false c.loop.invariant
