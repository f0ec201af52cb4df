-- Prints, one behind the other.
use Rattle.std.proofs.Common.{◌≡◌, ◌≤◌, [], ◌∷◌, ◌==◌, arith, false, ℕ, List, Option, Some, inl, inr, length, refl, subst}
use Rattle.std.specs.declared.io.Error.{Error}
use Rattle.elf_commands.specs.ElfCommandError.{ElfCommandError}
use Rattle.elf_commands.specs.ElfCommandError.TheVariants.{Io}
use Rattle.byte_store.specs.declared.reading.ReadError.TheVariants as read
use Rattle.command_words.specs.Loading.{IsNotLoaded}
use Rattle.elf_commands.specs.Failures.{HasReadCause, HasReadCauseAt}
use Rattle.arwen_cli_patchelf.specs.declared.error.PatchelfError.{PatchelfError}
use Rattle.arwen_cli_patchelf.specs.declared.error.PatchelfError.TheVariants.{Absent, Command}
use Rattle.arwen_cli_patchelf.specs.declared.printing.Print.{Print}
use Rattle.arwen_cli_patchelf.specs.Printing.{IfCommand, TellsPrints}
use Rattle.arwen_cli_patchelf.proofs.OutputLaws.{opened_cause}

-- a read that fails later
of_read_later : (reads : Error → Type 0) (known mid : Option (List ℕ)) (a b c : ℕ) (e : ElfCommandError) → mid ≡ known → a ≤ b → HasReadCause reads mid b c e → HasReadCause reads known a c e
of_read_later reads known mid a b c (Io e) same grows why =
    let Of : Option (List ℕ) → Type 0 = λ o. IsNotLoaded reads o b c (read.Io e) in
    elim (subst Of same why) [
      | inl (may, rises) ↦ inl (may, (omega (arith, grows, rises.0), λ below. omega (arith, grows, rises.1 below)))
      | inr (inl (other, fails)) ↦ inr (inl (other, λ all knows. let (rises, some) = fails all knows in ((omega (arith, grows, rises.0), λ below. omega (arith, grows, rises.1 below)), some)))
      | inr (inr long) ↦ inr (inr long)
    ]
of_read_later reads known mid a b c e same grows why = tt

pub read_later : (reads : Error → Type 0) (known mid : Option (List ℕ)) (a b c : ℕ) (e : PatchelfError) → mid ≡ known → a ≤ b
    → IfCommand (HasReadCause reads mid b c) e → IfCommand (HasReadCause reads known a c) e
read_later reads known mid a b c (Command e) same grows why = of_read_later reads known mid a b c e same grows why
read_later reads known mid a b c (Absent print) same grows why = tt

-- a store that was opened at a path
pub opened_at : {S : Type 0} (opens reads : Error → Type 0) (failed : S → ℕ) (known old : Option (List ℕ)) (a : ℕ) (e : PatchelfError) (store : S) → old ≡ known → a ≡ 0
    → IfCommand (HasReadCause reads old a (failed store)) e → IfCommand (λ x. HasReadCauseAt opens reads failed known x (Some store)) e
opened_at opens reads failed known old a (Command e) store same fresh why = opened_cause reads known old a (failed store) e same fresh why
opened_at opens reads failed known old a (Absent print) store same fresh why = tt

-- an opening that failed
pub unopened : {W : Type 0} (contents : W → Option (List ℕ)) (failed : W → ℕ) (prints : List Print) (known : Option (List ℕ)) (w : W) (e : Error)
    → false ≡ (length prints == 0) → TellsPrints contents failed prints known w w (Command (Io e))
unopened contents failed [] known w e some = absurd (cc)
unopened contents failed (print ∷ rest) known w e some = inl refl
