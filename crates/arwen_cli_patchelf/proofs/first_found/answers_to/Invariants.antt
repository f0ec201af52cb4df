use Rattle.std.proofs.Common.{◌≡◌, List, ℕ, map, string_bytes, take}
use Rattle.std.specs.HashSet.{keys}
use Rattle.elf_edits.specs.Changes.{has_name}
use Rattle.elf_edits_shrink.specs.ShrinkModel.{answer_model, pair_lent}
use Rattle.arwen_cli_patchelf.specs.FirstFound.{AreFirstFound, is_settled}
use Rattle.arwen_cli_patchelf.proofs.first_found.answers_to.Given as goal

-- the answers for the pairs so far, and the libraries that they settle
abbrev pub invariant-loop-directory : goal.invariant-loop-directory
invariant-loop-directory g l = record {
  given : AreFirstFound (g.P.Probe.may_find l.probe) (map string_bytes l.prefixes) l.machine (map pair_lent (take l.directory-index l.questions)) (map answer_model l.answers.items);
  settled : (name : List ℕ) → has_name (keys l.settled) name ≡ is_settled (map string_bytes l.prefixes) l.machine (map answer_model l.answers.items) name;
}
