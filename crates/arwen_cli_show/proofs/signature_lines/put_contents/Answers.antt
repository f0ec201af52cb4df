-- The lines are put one behind the other.
use Rattle.std.proofs.Common.{ℕ, ◌==◌, List, ◌++◌, codes, map, string_bytes, ap, ◌∙◌}
use Rattle.std.proofs.lemmas.Result.{on_ok_weaker}
use Rattle.macho_signatures.specs.declared.directory.HashKind.{HashKind}
use Rattle.arwen_cli_show.specs.Lines.{answer, contents_lines, line, lines, number_line}
use Rattle.arwen_cli_facts.specs.SignatureNames.{hash_name, kind_name}
use Rattle.arwen_cli_show.proofs.Joined.{joined_5}
use Rattle.arwen_cli_show.proofs.signature_lines.put_contents.Goals as goal

pub returns : goal.returns
unfolding contents_lines
returns c =
    on_ok_weaker c.put_number.result
    (λ h. joined_5 (string_bytes c.args.out.now)
    (line (codes "signature") (kind_name c.args.contents.now.kind))
    (line (codes "identifier") (string_bytes c.args.contents.now.identifier))
    (lines (codes "hashes") (map hash_name c.args.contents.now.hashes.items))
    (line (codes "pages_fit") (answer (c.args.contents.now.unfit_pages == 0)))
    (number_line (codes "unfit_pages") c.args.contents.now.unfit_pages)
    (string_bytes c.put_line.new.out) (string_bytes c.put_line-2.new.out) (string_bytes c.put_hashes.new.out) (string_bytes c.put_line-3.new.out) (string_bytes c.put_number.new.out)
    (c.in_ok-put_line.ensures ∙ ap (λ (n : List ℕ). string_bytes c.args.out.now ++ line (codes "signature") n) c.kind_name.ensures)
    (c.in_ok-put_line-2.ensures ∙ ap (λ (n : List ℕ). string_bytes c.put_line.new.out ++ line (codes "identifier") n) c.as_str.ensures.value)
    (c.in_ok-put_hashes.ensures ∙ ap (λ (n : List HashKind). string_bytes c.put_line-2.new.out ++ lines (codes "hashes") (map hash_name n)) c.as_slice.ensures.value)
    (c.in_ok-put_line-3.ensures ∙ ap (λ (n : List ℕ). string_bytes c.put_hashes.new.out ++ line (codes "pages_fit") n) c.answer.ensures)
    h) c.put_number.ensures
