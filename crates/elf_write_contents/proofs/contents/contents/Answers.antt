-- One section more, and the end.
use Rattle.std.proofs.Common.{◌≡◌, ◌<◌, ◌+◌, ℕ, List, [], ◌∷◌, length, sym, ap, ◌∙◌, subst, arith}
use Rattle.std.specs.Prelude.{◌==◌, slice_index}
use Rattle.std.proofs.lemmas.List.{length-append, length-map, map_push}
use Rattle.patch_bytes.specs.ByteString.{StringValue, bytes_of_each}
use Rattle.elf_format.specs.Options.{is_some_and}
use Rattle.elf_image.specs.ImageModel.{section_model}
use Rattle.elf_image.specs.Kept.{interpreter_number}
use Rattle.elf_write_contents.specs.ContentSteps.{IsBytesAt}
use Rattle.elf_write_contents.proofs.ContentsAll.{all_made, interpreter_at, long_held, one_more, section_there}
use Rattle.elf_write_contents.proofs.contents.contents.Goals as goal
use Rattle.elf_write_contents.proofs.contents.contents.Goals.{then-is_numbered, else-is_numbered+in_ok-bytes}

pub loop-i-preserved : goal.loop-i-preserved
loop-i-preserved c =
    let within : c.loop-i.i < length c.args.image.now.sections =
    omega (arith, long_held c.sections-i-end.result.now c.args.image.now.sections c.sections-i-end.ensures) in
    let number : ℕ = slice_index c.args.image.now.section_numbers c.loop-i.i in
    let tells : c.is_numbered.result ≡ is_some_and (λ n. n == number) (interpreter_number c.args.read.now) =
    c.is_numbered.ensures
    ∙ ap (λ (k : ℕ). is_some_and (λ n. n == k) c.interpreter_number-interpreter.result) c.read_section.ensures
    ∙ ap (is_some_and (λ n. n == number)) c.interpreter_number-interpreter.ensures in
    let here : IsBytesAt c.args.image.now c.args.plan.now c.args.made.now c.args.raw.now c.loop-i.i c.if-is_numbered.bytes.bytes =
    elim c.if-is_numbered.branch [
      | then-is_numbered w ↦
          let at : _ = section_there w.sections.result.now c.args.image.now.sections c.loop-i.i w.index-sections-i.result
          w.sections.ensures within w.index-sections-i.is in
          subst (λ (b : List ℕ). IsBytesAt c.args.image.now c.args.plan.now c.args.made.now c.args.raw.now c.loop-i.i b)
          (sym (ap (λ (s : StringValue). s.bytes) w.bytes-is ∙ w.interpreter_content-bytes.ensures))
          (interpreter_at c.args.read.now c.args.image.now c.args.plan.now c.args.made.now c.args.raw.now c.requires.planned c.loop-i.i
          (section_model w.index-sections-i.result) at (sym tells ∙ w.if-is_numbered.true))
      | else-is_numbered+in_ok-bytes w ↦
          subst (λ (s : StringValue). IsBytesAt c.args.image.now c.args.plan.now c.args.made.now c.args.raw.now c.loop-i.i s.bytes)
          (sym w.bytes-is) w.in_ok-bytes.ensures
    ] in
    record {
      long = ap length c.in_ok-push.ensures.items ∙ length-append c.loop-i.contents.items (c.if-is_numbered.bytes ∷ [])
          ∙ ap (λ n. n + 1) c.loop-i.invariant.long;
      are = one_more c.args.image.now c.args.plan.now c.args.made.now c.args.raw.now (bytes_of_each c.loop-i.contents.items) (bytes_of_each c.push.new.self.items)
          c.if-is_numbered.bytes.bytes c.loop-i.invariant.are
          (subst (λ n. IsBytesAt c.args.image.now c.args.plan.now c.args.made.now c.args.raw.now n c.if-is_numbered.bytes.bytes)
          (sym (length-map c.loop-i.contents.items (λ (s : StringValue). s.bytes) ∙ c.loop-i.invariant.long)) here)
          (ap bytes_of_each c.in_ok-push.ensures.items ∙ map_push (λ (s : StringValue). s.bytes) c.loop-i.contents.items c.if-is_numbered.bytes);
    }

pub returns : goal.returns
returns c =
    let long : length (bytes_of_each c.loop-i.contents.items) ≡ length c.args.image.now.sections =
    omega (
      arith,
      length-map c.loop-i.contents.items (λ (s : StringValue). s.bytes),
      c.loop-i.invariant.long,
      long_held c.sections-i-end.result.now c.args.image.now.sections c.sections-i-end.ensures,
    ) in
    all_made c.args.image.now c.args.plan.now c.args.made.now c.args.raw.now c.args.read.now c.requires.planned (bytes_of_each c.loop-i.contents.items)
    c.loop-i.invariant.are long
