use Rattle.std.proofs.Common.{◌≡◌, ◌∷◌, [], ◌++◌, ℕ, List, length, sym, ap, ◌∙◌, subst}
use Rattle.std.specs.List.{All}
use Rattle.arwen_macho.specs.declared.front.Front.{Front}
use Rattle.arwen_macho.specs.FatState.{put_at}
use Rattle.arwen_macho.specs.Fronts.{LiesIn, fronts_on}
use Rattle.arwen_macho.proofs.LeadLaws.{All-pushed, fronts_on-push}
use Rattle.arwen_macho.proofs.front.lay_fronts.Goals as goal

pub loop-front-preserved : goal.loop-front-preserved
loop-front-preserved c =
    let front : Front = c.in-Some.front in
    let left : List Front = c.pop.new.self.items in
    let was : c.loop-front.fronts.items ≡ left ++ front ∷ [] = c.in-Some.ensures.items in
    let Inside : List Front → Type 0 = λ l. All (LiesIn (length c.args.bytes.now)) l in
    let written : c.put.new.bytes ≡ put_at front.offset front.bytes.items c.loop-front.bytes =
    c.put.ensures ∙ ap (λ (part : List ℕ). put_at front.offset part c.loop-front.bytes) c.deref.ensures.value in
    record {
      same =
          ap (fronts_on left) written
          ∙ sym (fronts_on-push left front c.loop-front.bytes)
          ∙ ap (λ (l : List Front). fronts_on l c.loop-front.bytes) (sym was)
          ∙ c.loop-front.invariant.same;
      inside = (All-pushed (LiesIn (length c.args.bytes.now)) left front (subst Inside was c.loop-front.invariant.inside)).0;
    }
