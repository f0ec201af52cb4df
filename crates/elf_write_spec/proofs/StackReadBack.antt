-- The flags of the stack of a written file are those of its image.
use Rattle.std.proofs.Common.{◌≡◌, Bool, true, false, not, cond, ◌&&◌, ℕ, List, [], ◌∷◌, ◌++◌, map, refl, sym, ap, ◌∙◌, Option, Some}
use Rattle.std.specs.Prelude.{◌==◌, find}
use Rattle.std.specs.List.{flat_map, list_any}
use Rattle.std.proofs.lemmas.Bool.{eqb-true}
use Rattle.patch_bytes.specs.Memory.{◌>>=◌}
use Rattle.elf_format.specs.declared.constants.TheConstants.{PT_GNU_STACK, PT_LOAD}
use Rattle.elf_format.specs.declared.records.SegmentHeader.{SegmentHeader}
use Rattle.elf_format.specs.File.{is_loaded, segment_of_type}
use Rattle.elf_layout_plan.specs.Anchors.{HeaderTable, Itself, Anchor, Notes, OneSection, anchor_of}
use Rattle.elf_layout_plan.specs.Memory.{Resized}
use Rattle.elf_layout_plan.specs.Plan.{resized}
use Rattle.elf_layout_plan.specs.Written.{Target, behind_last_load, anchored_to, resized_table, targets_of, with_table_size, written_from, written_segments}
use Rattle.elf_layout_plan.proofs.ForCallers.ApartLists.{Each}
use Rattle.elf_layout_plan.proofs.ForCallers.ApartWritten.{added_headers, all_added_are_loaded}
use Rattle.elf_write_spec.specs.Output.{IsPlannedOutput, Output}
use Rattle.elf_write_spec.proofs.WrittenTypes.{segments_are}

-- the flags of the first program header for the stack
abbrev pub stack_flags : List SegmentHeader → Option ℕ
stack_flags segments = segment_of_type PT_GNU_STACK segments >>= λ p. Some p.p_flags

-- by whether the first is for the stack
flags_by : Bool → SegmentHeader → List SegmentHeader → Option ℕ
flags_by b p ps = cond b (Some p.p_flags) (stack_flags ps)

flags_are : (p : SegmentHeader) (ps : List SegmentHeader) → stack_flags (p ∷ ps) ≡ flags_by (p.p_type == PT_GNU_STACK) p ps
unfolding flags_by
flags_are p ps = by_test (p.p_type == PT_GNU_STACK)
  where
    by_test : (b : Bool)
        → (cond b (Some p) (find (λ q. q.p_type == PT_GNU_STACK) ps) >>= λ q. Some q.p_flags) ≡ cond b (Some p.p_flags) (stack_flags ps)
    by_test true = refl
    by_test false = refl

-- a program header of the same type, with the same flags
record IsLike (p q : SegmentHeader) : Type 0 where
  type : q.p_type ≡ p.p_type
  flags : q.p_flags ≡ p.p_flags

-- several like one that isn't for the stack have no flags of the stack
flags_behind : (p : SegmentHeader) (qs rest : List SegmentHeader) → Each (IsLike p) qs → (p.p_type == PT_GNU_STACK) ≡ false
    → stack_flags (qs ++ rest) ≡ stack_flags rest
unfolding flags_by
flags_behind p [] rest all h = refl
flags_behind p (q ∷ qs) rest all h =
    flags_are q (qs ++ rest)
    ∙ ap (λ b. flags_by b q (qs ++ rest)) (ap (λ n. n == PT_GNU_STACK) all.0.type ∙ h)
    ∙ flags_behind p qs rest all.1 h

-- several like one have its flags of the stack
flags_like : (p q : SegmentHeader) (qs rest : List SegmentHeader) → IsLike p q → Each (IsLike p) qs
    → stack_flags (q ∷ qs ++ rest) ≡ stack_flags (p ∷ rest)
unfolding flags_by
flags_like p q qs rest like all =
    flags_are q (qs ++ rest) ∙ ap (λ n. flags_by (n == PT_GNU_STACK) q (qs ++ rest)) like.type ∙ by_test (p.p_type == PT_GNU_STACK) refl
    ∙ sym (flags_are p rest)
  where
    by_test : (b : Bool) → (p.p_type == PT_GNU_STACK) ≡ b → flags_by b q (qs ++ rest) ≡ flags_by b p rest
    by_test true h = ap Some like.flags
    by_test false h = flags_behind p qs rest all h

-- ## Those that are written of one

module _ (r : Resized) (moved : List ℕ) where
  table_by : SegmentHeader → Anchor → SegmentHeader
  table_by p anchor = elim anchor [ HeaderTable ↦ with_table_size r moved p | _ ↦ p ]

  table_like : (p : SegmentHeader) (anchor : Anchor) → IsLike p (table_by p anchor)
  unfolding table_by
  table_like p Itself = record { type = refl; flags = refl }
  table_like p HeaderTable = record { type = refl; flags = refl }
  table_like p (OneSection s) = record { type = refl; flags = refl }
  table_like p (Notes notes) = record { type = refl; flags = refl }

  anchored_like : (p : SegmentHeader) (ts : List Target) → Each (IsLike p) (map (anchored_to r.image.form p) ts)
  anchored_like p [] = tt
  anchored_like p (t ∷ ts) = (record { type = refl; flags = refl }, anchored_like p ts)

  written_by : SegmentHeader → List Target → List SegmentHeader
  written_by p targets = elim targets [ [] ↦ resized_table r moved p ∷ [] | t ∷ ts ↦ map (anchored_to r.image.form p) (t ∷ ts) ]

  written_is : (p : SegmentHeader) → written_from r moved p ≡ written_by p (targets_of r moved p)
  unfolding written_by
  written_is p = refl

  flags_by_targets : (p : SegmentHeader) (rest : List SegmentHeader) (targets : List Target)
      → stack_flags (written_by p targets ++ rest) ≡ stack_flags (p ∷ rest)
  unfolding written_by table_by
  flags_by_targets p rest [] = flags_like p (table_by p (anchor_of r.read r.image p)) [] rest (table_like p (anchor_of r.read r.image p)) tt
  flags_by_targets p rest (t ∷ ts) =
      flags_like p (anchored_to r.image.form p t) (map (anchored_to r.image.form p) ts) rest (record { type = refl; flags = refl }) (anchored_like p ts)

  flags_of_one : (p : SegmentHeader) (rest : List SegmentHeader) → stack_flags (written_from r moved p ++ rest) ≡ stack_flags (p ∷ rest)
  flags_of_one p rest = ap (λ l. stack_flags (l ++ rest)) (written_is p) ∙ flags_by_targets p rest (targets_of r moved p)

  flags_of_all : (ps : List SegmentHeader) → stack_flags (flat_map (written_from r moved) ps) ≡ stack_flags ps
  unfolding flags_by
  flags_of_all [] = refl
  flags_of_all (p ∷ ps) =
      flags_of_one p (flat_map (written_from r moved) ps)
      ∙ flags_are p (flat_map (written_from r moved) ps)
      ∙ by_test (p.p_type == PT_GNU_STACK) (flags_of_all ps)
      ∙ sym (flags_are p ps)
    where
      by_test : (b : Bool) → stack_flags (flat_map (written_from r moved) ps) ≡ stack_flags ps
          → flags_by b p (flat_map (written_from r moved) ps) ≡ flags_by b p ps
      by_test true h = refl
      by_test false h = h

-- ## Those that are added

no_stack : (n : ℕ) → (n == PT_LOAD) ≡ true → (n == PT_GNU_STACK) ≡ false
no_stack n h = ap (λ m. m == PT_GNU_STACK) (eqb-true n PT_LOAD h)

flags_of_added : (adds ps : List SegmentHeader) → Each (λ p. is_loaded p ≡ true) adds → stack_flags (adds ++ ps) ≡ stack_flags ps
unfolding flags_by
flags_of_added [] ps all = refl
flags_of_added (a ∷ adds) ps all =
    flags_are a (adds ++ ps)
    ∙ ap (λ b. flags_by b a (adds ++ ps)) (no_stack a.p_type all.0)
    ∙ flags_of_added adds ps all.1

flags_behind_load : (adds ps : List SegmentHeader) → Each (λ p. is_loaded p ≡ true) adds
    → stack_flags (behind_last_load adds ps) ≡ stack_flags ps
unfolding behind_last_load flags_by
flags_behind_load adds [] all = refl
flags_behind_load adds (p ∷ ps) all = by_test (is_loaded p && not (list_any is_loaded ps)) (flags_behind_load adds ps all)
  where
    same_rest : (more : List SegmentHeader) → stack_flags more ≡ stack_flags ps → stack_flags (p ∷ more) ≡ stack_flags (p ∷ ps)
    same_rest more h = flags_are p more ∙ ap (λ f. cond (p.p_type == PT_GNU_STACK) (Some p.p_flags) f) h ∙ sym (flags_are p ps)

    by_test : (b : Bool) → stack_flags (behind_last_load adds ps) ≡ stack_flags ps
        → stack_flags (elim b as (λ _. List SegmentHeader) [ true ↦ p ∷ adds ++ ps | _ ↦ p ∷ behind_last_load adds ps ])
        ≡ stack_flags (p ∷ ps)
    by_test true h = same_rest (adds ++ ps) (flags_of_added adds ps all)
    by_test false h = same_rest (behind_last_load adds ps) h

-- ## All of them

flags_written : (r : Resized) (moved : List ℕ) → stack_flags (written_segments r moved) ≡ stack_flags r.image.segments
unfolding written_segments
flags_written r moved =
    flags_behind_load (added_headers r moved) (flat_map (written_from r moved) r.image.segments) (all_added_are_loaded r moved)
    ∙ flags_of_all r moved r.image.segments

-- the stack has the flags of the image
pub stack_read_back : (w : Output) → IsPlannedOutput w → stack_flags w.plan.segments ≡ stack_flags w.image.segments
stack_read_back w is = ap stack_flags (segments_are w is) ∙ flags_written (resized w.image) is.planned.moved
