-- A batch is decided by the facts at its start.
use Rattle.std.proofs.Common.{◌≡◌, ℕ, ◌+◌, Bool, true, false, not, ◌&&◌, List, [], ◌∷◌, ◌++◌, length, map, refl, sym, ap, subst, ◌∙◌, Option, Some, None, is_some, option_map, Ok, Err}
use Rattle.std.specs.Prelude.{◌==◌, if◌then◌else◌, is_none, nat_le}
use Rattle.std.specs.List.{list_any}
use Rattle.std.proofs.lemmas.Bool.{cond-true, cond-false}
use Rattle.std.proofs.lemmas.List.{length-map}
use Rattle.elf_format.specs.declared.constants.TheConstants.{EM_MIPS, PT_GNU_STACK}
use Rattle.elf_format.specs.declared.records.SegmentHeader.{SegmentHeader}
use Rattle.elf_image.specs.File.{segment_of_type}
use Rattle.elf_image.specs.Image.{Image}
use Rattle.elf_image.specs.Options.{first_there}
use Rattle.elf_image.specs.Names.{texts_of_symbols}
use Rattle.elf_image.specs.Renumbering.{can_renumber}
use Rattle.elf_image.specs.Leave.{spare_facts}
use Rattle.elf_image.specs.Views.{NamedSymbol}
use Rattle.elf_edits.specs.declared.edit.ElfEdit.{ElfEdit}
use Rattle.elf_edits.specs.declared.edit.ElfEdit.TheVariants as edits
use Rattle.elf_edits.specs.declared.constants.TheConstants.{MOST_SEGMENTS}
use Rattle.elf_edits.specs.Batch.{answer_at, run_from, then_on}
use Rattle.elf_edits.specs.Cause.{CannotRenumber, Cause, Facts, NoInterpreter, NulInText, MipsImage, TooManyHeaders, cause, cause_if, facts_of, first_cause, fixed_names, has_no_room_for_stack, interpreter_missing, list_missing, own_cause}
use Rattle.elf_edits.specs.Decided.{all_edited, first_refusal, refusal_or, unless_refused}
use Rattle.elf_edits.specs.Edit.{AllowDynamicMove, ClearExecStack, Edit, RenameDynamicSymbols, SetExecStack, SetInterpreter, SetPageSize, edit_model, edited_entries, edited_symbols, task_of, texts_of}
use Rattle.elf_edits.specs.Edited.{edited_image, edited_interpreter, edited_segments, segments_with_leave, step, with_align, with_stack_changed}
use Rattle.elf_edits.specs.Symbols.{has_new_name, names_behind_first}
use Rattle.elf_edits.specs.Texts.{holds_nul}
use Rattle.elf_edits.proofs.ListLaws.{by_test}
use Rattle.elf_edits.proofs.SpareLaws.{room_left}
use Rattle.elf_edits.proofs.SymbolLaws.{names_behind, names_stay}

-- ## No cause stands

pub neither : {A : Type 0} (o p : Option A) → first_there o p ≡ None → (o ≡ None) × (p ≡ None)
neither None p h = (refl, h)
neither (Some x) p h = absurd (cc)

pub stands_not : (b : Bool) (reason : Cause) → cause_if b reason ≡ None → b ≡ false
stands_not true reason h = absurd (cc)
stands_not false reason h = refl

-- what is known where no cause stands
pub record IsFree (edit : Edit) (facts : Facts) : Type 0 where
  pub list : list_missing (task_of edit) facts ≡ None
  pub interpreter : interpreter_missing edit facts ≡ None
  pub texts : list_any holds_nul (texts_of edit) ≡ false
  pub own : own_cause edit facts ≡ None

pub is_free : (edit : Edit) (facts : Facts) → first_cause edit facts ≡ None → IsFree edit facts
unfolding first_cause
is_free edit facts h =
    let nul = cause_if (list_any holds_nul (texts_of edit)) NulInText in
    let behind_nul = first_there nul (own_cause edit facts) in
    let behind_list = first_there (interpreter_missing edit facts) behind_nul in
    let behind_machine = first_there (list_missing (task_of edit) facts) behind_list in
    let machine = neither (cause_if (facts.machine == EM_MIPS) MipsImage) behind_machine h in
    let list = neither (list_missing (task_of edit) facts) behind_list machine.1 in
    let interpreter = neither (interpreter_missing edit facts) behind_nul list.1 in
    let texts = neither nul (own_cause edit facts) interpreter.1 in
    record { list = list.0; interpreter = interpreter.0; texts = stands_not (list_any holds_nul (texts_of edit)) NulInText texts.0; own = texts.1 }

-- the step of an edit against which none stands
pub step_is : (edit : Edit) (image : Image) → cause edit image ≡ None → step edit image ≡ Ok (edited_image edit image)
unfolding step
step_is edit image none = ap (λ o. elim o [ None ↦ Ok (edited_image edit image) | Some reason ↦ Err reason ]) none

pub step_refused : (edit : Edit) (image : Image) (reason : Cause) → cause edit image ≡ Some reason → step edit image ≡ Err reason
unfolding step
step_refused edit image reason some = ap (λ o. elim o [ None ↦ Ok (edited_image edit image) | Some r ↦ Err r ]) some

-- ## What causes look at stays

not_false_is : (b : Bool) → not b ≡ false → b ≡ true
not_false_is true h = refl
not_false_is false h = cc

some_if_changed : {A B : Type 0} (f : A → B) (o : Option A) → is_some (option_map f o) ≡ is_some o
some_if_changed f None = refl
some_if_changed f (Some x) = refl

interpreter_stays : (edit : Edit) (image : Image) → IsFree edit (facts_of image) → is_some (edited_interpreter edit image.interpreter) ≡ is_some image.interpreter
interpreter_stays (SetInterpreter bytes) image free = sym (not_false_is (is_some image.interpreter) (stands_not (not (is_some image.interpreter)) NoInterpreter free.interpreter))
interpreter_stays _ image free = refl

lacks_stack : List SegmentHeader → Bool
lacks_stack segments = is_none (segment_of_type PT_GNU_STACK segments)

stack_is_there : (change : ℕ → ℕ) (segments : List SegmentHeader) → lacks_stack (with_stack_changed change segments) ≡ false
unfolding lacks_stack with_stack_changed
stack_is_there change [] = refl
stack_is_there change (p ∷ ps) = by_test (p.p_type == PT_GNU_STACK)
    (λ holds. ap lacks_stack (cond-true (p.p_type == PT_GNU_STACK) (record p { p_flags = change p.p_flags } ∷ ps) (p ∷ with_stack_changed change ps) holds)
    ∙ ap is_none (cond-true (p.p_type == PT_GNU_STACK) (Some (record p { p_flags = change p.p_flags })) (segment_of_type PT_GNU_STACK ps) holds))
    (λ fails. ap lacks_stack (cond-false (p.p_type == PT_GNU_STACK) (record p { p_flags = change p.p_flags } ∷ ps) (p ∷ with_stack_changed change ps) fails)
    ∙ ap is_none (cond-false (p.p_type == PT_GNU_STACK) (Some p) (segment_of_type PT_GNU_STACK (with_stack_changed change ps)) fails) ∙ stack_is_there change ps)

lacks_as_before : (size : ℕ) (segments : List SegmentHeader) → lacks_stack (map (with_align size) segments) ≡ lacks_stack segments
unfolding lacks_stack
lacks_as_before size [] = refl
lacks_as_before size (p ∷ ps) = by_test (p.p_type == PT_GNU_STACK)
    (λ holds. ap is_none (cond-true (p.p_type == PT_GNU_STACK) (Some (with_align size p)) (segment_of_type PT_GNU_STACK (map (with_align size) ps)) holds)
    ∙ sym (ap is_none (cond-true (p.p_type == PT_GNU_STACK) (Some p) (segment_of_type PT_GNU_STACK ps) holds)))
    (λ fails. ap is_none (cond-false (p.p_type == PT_GNU_STACK) (Some (with_align size p)) (segment_of_type PT_GNU_STACK (map (with_align size) ps)) fails)
    ∙ lacks_as_before size ps
    ∙ sym (ap is_none (cond-false (p.p_type == PT_GNU_STACK) (Some p) (segment_of_type PT_GNU_STACK ps) fails)))

full : List SegmentHeader → Bool
full segments = lacks_stack segments && nat_le MOST_SEGMENTS (length segments)

-- where spare segments go, there is room before as after
room_with_leave : (leave : Bool) (image : Image) → full (segments_with_leave leave image) ≡ full image.segments
unfolding full lacks_stack
room_with_leave true image = room_left (spare_facts image)
room_with_leave false image = refl

room_stays : (edit : Edit) (image : Image) → IsFree edit (facts_of image) → full (edited_segments edit image) ≡ full image.segments
unfolding full lacks_stack
room_stays ClearExecStack image free = ap (λ b. b && nat_le MOST_SEGMENTS (length (edited_segments ClearExecStack image))) (stack_is_there _ image.segments) ∙ sym (stands_not (has_no_room_for_stack image) TooManyHeaders free.own)
room_stays SetExecStack image free = ap (λ b. b && nat_le MOST_SEGMENTS (length (edited_segments SetExecStack image))) (stack_is_there _ image.segments) ∙ sym (stands_not (has_no_room_for_stack image) TooManyHeaders free.own)
room_stays (SetPageSize size) image free =
    ap (λ b. b && nat_le MOST_SEGMENTS (length (map (with_align size) image.segments))) (lacks_as_before size image.segments)
    ∙ ap (λ n. is_none (segment_of_type PT_GNU_STACK image.segments) && nat_le MOST_SEGMENTS n) (length-map image.segments (with_align size))
room_stays AllowDynamicMove image free = room_with_leave image.changed image
room_stays _ image free = refl

-- where names have to stay, an edit has no other one for any of them
pub no_new_name : (pairs : List (List ℕ × List ℕ)) (image : Image) → IsFree (RenameDynamicSymbols pairs) (facts_of image) → can_renumber image ≡ false → list_any (has_new_name pairs) (names_behind_first image.dynamic_symbols) ≡ false
no_new_name pairs image free fixed =
    sym (ap (list_any (has_new_name pairs)) (cond-false (can_renumber image) [] (names_behind_first image.dynamic_symbols) fixed))
    ∙ stands_not (list_any (has_new_name pairs) (fixed_names image)) CannotRenumber free.own

-- an edit that has no other names for the symbols leaves them, also in symbols that edits before it made
pub fixed_names_stay : (edit : Edit) (image : Image) (ys : List NamedSymbol) → IsFree edit (facts_of image) → can_renumber image ≡ false → texts_of_symbols ys ≡ texts_of_symbols image.dynamic_symbols → texts_of_symbols (edited_symbols edit ys) ≡ texts_of_symbols ys
fixed_names_stay edit image ys free fixed same =
    names_stay edit ys (λ pairs is. ap (list_any (has_new_name pairs)) (names_behind ys image.dynamic_symbols same) ∙ no_new_name pairs image (subst (λ (e : Edit). IsFree e (facts_of image)) is free) fixed)

names_fixed_again : (edit : Edit) (image : Image) → IsFree edit (facts_of image) → (if can_renumber image then [] else names_behind_first (edited_symbols edit image.dynamic_symbols)) ≡ fixed_names image
names_fixed_again edit image free = by_test (can_renumber image)
    (λ holds. cond-true (can_renumber image) [] (names_behind_first (edited_symbols edit image.dynamic_symbols)) holds ∙ sym (cond-true (can_renumber image) [] (names_behind_first image.dynamic_symbols) holds))
    (λ fails.
    ap (λ l. if can_renumber image then [] else l) (names_behind (edited_symbols edit image.dynamic_symbols) image.dynamic_symbols (fixed_names_stay edit image image.dynamic_symbols free fails refl)))

-- the facts, with another answer on the run path
abbrev with_run_path : Bool → Facts → Facts
with_run_path b facts = record facts { has_run_path = b }

facts_with : ℕ → Bool → Bool → Bool → Bool → List (List ℕ) → Facts
facts_with machine list path interpreter room names = record { machine = machine; has_list = list; has_run_path = path; has_interpreter = interpreter; is_full = room; fixed_names = names }

same_parts : (m m' : ℕ) (l l' p i i' r r' : Bool) (n n' : List (List ℕ)) → m ≡ m' → l ≡ l' → i ≡ i' → r ≡ r' → n ≡ n' → facts_with m l p i r n ≡ facts_with m' l' p i' r' n'
same_parts m m' l l' p i i' r r' n n' machine list interpreter room names = cc

same_facts : (old new : Facts) → new.machine ≡ old.machine → new.has_list ≡ old.has_list → new.has_interpreter ≡ old.has_interpreter → new.is_full ≡ old.is_full → new.fixed_names ≡ old.fixed_names → new ≡ with_run_path new.has_run_path old
unfolding facts_with
same_facts old new machine list interpreter room names =
    same_parts new.machine old.machine new.has_list old.has_list new.has_run_path new.has_interpreter old.has_interpreter new.is_full old.is_full new.fixed_names old.fixed_names machine list interpreter room names

pub facts_stay : (edit : Edit) (image : Image) → cause edit image ≡ None → facts_of (edited_image edit image) ≡ with_run_path (facts_of (edited_image edit image)).has_run_path (facts_of image)
unfolding cause edited_image full lacks_stack
facts_stay edit image none =
    let free = is_free edit (facts_of image) none in
    same_facts (facts_of image) (facts_of (edited_image edit image)) refl (some_if_changed (edited_entries image.header.e_machine edit) image.entries)
    (interpreter_stays edit image free) (room_stays edit image free) (names_fixed_again edit image free)

-- no edit of a batch asks for the run path
asks_no_run_path : (edit : ElfEdit) (facts : Facts) (b : Bool) → first_cause (edit_model edit) (with_run_path b facts) ≡ first_cause (edit_model edit) facts
unfolding first_cause
asks_no_run_path edits.AddDebugTag facts b = refl
asks_no_run_path _ facts b = refl

first_refusal_same : (edits : List ElfEdit) (done : ℕ) (facts : Facts) (b : Bool) → first_refusal (with_run_path b facts) done (map edit_model edits) ≡ first_refusal facts done (map edit_model edits)
unfolding first_refusal
first_refusal_same [] done facts b = refl
first_refusal_same (edit ∷ edits) done facts b =
    ap (λ o. refusal_or o done (first_refusal (with_run_path b facts) (done + 1) (map edit_model edits))) (asks_no_run_path edit facts b)
    ∙ ap (λ o. refusal_or (first_cause (edit_model edit) facts) done o) (first_refusal_same edits (done + 1) facts b)

-- ## Batches

-- A batch that is refused is refused by the facts at its start; one that is not makes all its edits.
pub batch_decided : (edits : List ElfEdit) (done : ℕ) (image : Image) → run_from done (map edit_model edits) image ≡ unless_refused (first_refusal (facts_of image) done (map edit_model edits)) (all_edited (map edit_model edits) image)
unfolding run_from first_refusal all_edited cause
batch_decided [] done image = refl
batch_decided (edit ∷ edits) done image = by_cause (batch_decided edits (done + 1) (edited_image (edit_model edit) image)) (cause (edit_model edit) image) refl
  where
    rest : List Edit
    rest = map edit_model edits

    next : Image
    next = edited_image (edit_model edit) image

    by_cause : run_from (done + 1) rest next ≡ unless_refused (first_refusal (facts_of next) (done + 1) rest) (all_edited rest next) → (found : Option Cause) → cause (edit_model edit) image ≡ found → run_from done (edit_model edit ∷ rest) image ≡ unless_refused (first_refusal (facts_of image) done (edit_model edit ∷ rest)) (all_edited rest next)
    by_cause behind None is =
        let later : first_refusal (facts_of next) (done + 1) rest ≡ first_refusal (facts_of image) (done + 1) rest =
        ap (λ facts. first_refusal facts (done + 1) rest) (facts_stay (edit_model edit) image is) ∙ first_refusal_same edits (done + 1) (facts_of image) (facts_of next).has_run_path in
        ap (λ answer. then_on (answer_at done answer) (run_from (done + 1) rest)) (step_is (edit_model edit) image is)
        ∙ behind
        ∙ ap (λ o. unless_refused o (all_edited rest next)) (later ∙ sym (ap (λ o. refusal_or o done (first_refusal (facts_of image) (done + 1) rest)) is))
    by_cause behind (Some reason) is =
        ap (λ answer. then_on (answer_at done answer) (run_from (done + 1) rest)) (step_refused (edit_model edit) image reason is)
        ∙ sym (ap (λ o. unless_refused (refusal_or o done (first_refusal (facts_of image) (done + 1) rest)) (all_edited rest next)) is)

-- the edits of a batch, one after the other
pub all_edited-push : (edits : List Edit) (edit : Edit) (image : Image) → all_edited (edits ++ edit ∷ []) image ≡ edited_image edit (all_edited edits image)
unfolding all_edited
all_edited-push [] edit image = refl
all_edited-push (first ∷ edits) edit image = all_edited-push edits edit (edited_image first image)
