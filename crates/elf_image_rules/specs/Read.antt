-- What the steps of the reader answer: what the read rules say, seen through the reader's types.
use Rattle.std.specs.Prelude.{◌≡◌, Result, Ok, Err}
use Rattle.elf_format.specs.declared.fault.ElfFault.{ElfFault}
use Rattle.elf_format.specs.declared.fault.ElfFault.TheVariants as faults
use Rattle.elf_image_rules.specs.declared.headers.Headers.{Headers}
use Rattle.elf_format.specs.File.{Parts}

-- the header tables, seen without where the file lies
abbrev pub parts_model : Headers → Parts
parts_model h = record {
  opened = record { file = h.file.now; form = h.form; header = h.header };
  segments = h.segments.items;
  sections = h.sections.items;
}

-- a fault is the one that is answered, unless memory ran out
abbrev pub Refuses : {A : Type 0} → ElfFault → Result A ElfFault → Type 0
Refuses faults.Memory answer = Unit {0}
Refuses faults.BadMagic answer = answer ≡ Err faults.BadMagic
Refuses faults.Truncated answer = answer ≡ Err faults.Truncated
Refuses faults.Unsupported answer = answer ≡ Err faults.Unsupported
Refuses (faults.Disagree rule) answer = answer ≡ Err (faults.Disagree rule)
Refuses faults.BadText answer = answer ≡ Err faults.BadText
Refuses faults.NumberTooLarge answer = answer ≡ Err faults.NumberTooLarge

-- an answer, seen by view, is what the definitions answer
abbrev pub Reads : {X A : Type 0} → (X → A) → Result X ElfFault → Result A ElfFault → Type 0
Reads view (Ok x) answer = answer ≡ Ok (view x)
Reads view (Err fault) answer = Refuses fault answer

-- what was checked passes, or the first fault is answered
abbrev pub Passes : {A : Type 0} → A → Result Unit ElfFault → Result A ElfFault → Type 0
Passes x (Ok _) answer = answer ≡ Ok x
Passes x (Err fault) answer = Refuses fault answer
