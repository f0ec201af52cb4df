-- What readers of records answer: what the definitions say, seen through the types of the readers.
use Rattle.std.specs.Prelude.{ℕ, zero, suc, ◌≡◌, ◌+◌, ◌||◌, ◌==◌, if◌then◌else◌, not, true, List, [], ◌∷◌, Option, Some, None, Result, Ok, Err}
use Rattle.std.specs.Borrow.{Bor}
use Rattle.patch_bytes.specs.Memory.{◌>>=◌}
use Rattle.elf_format.specs.Versions.{Step}
use Rattle.elf_format.specs.declared.view_fault.ViewFault.{ViewFault}
use Rattle.elf_format.specs.declared.view_fault.ViewFault.TheVariants as faults

-- a fault says that nothing is shown, unless memory ran out
abbrev pub Fails : {Y : Type 0} → ViewFault → Option Y → Type 0
Fails faults.Absent shown = shown ≡ None
Fails faults.Memory shown = Unit {0}

-- an answer, seen by view, is what is shown
abbrev pub Gives : {X Y : Type 0} → (X → Y) → Result X ViewFault → Option Y → Type 0
Gives view (Ok x) shown = shown ≡ Some (view x)
Gives view (Err e) shown = Fails e shown

-- the bytes that a slice lends
abbrev pub borrowed : Bor (List ℕ) → List ℕ
borrowed bytes = bytes.now

-- the step of a walk, if it is whole
abbrev pub whole_step : {A : Type 0} → Option (Step A) → Option (Step A)
whole_step o = o >>= (λ s. if s.is_whole then Some s else None)

-- the values of a chain, record by record
unfoldable pub chain : {A : Type 0} → (ℕ → Option (Step A)) → ℕ → ℕ → Option (List A)
chain read zero a = Some []
chain read (suc n) a = whole_step (read a) >>= (λ s. elim (n == 0 || not (s.next == 0)) [ true ↦ chain read n (a + s.next) >>= (λ xs. Some (s.value ∷ xs)) | _ ↦ None ])

-- a value and how far behind the next record stands, as a whole step
abbrev pub step_model : {X A : Type 0} → (X → A) → X × ℕ → Step A
step_model view x = record { value = view x.0; is_whole = true; next = x.1 }
