-- What options mean of slices, and why there are no edits.
use Rattle.std.proofs.Common.{◌≡◌, ◌<◌, ◌∙◌, [], ◌∷◌, ℕ, zero, suc, List, Option, None, arith, get_or, length, map, refl, subst, sym}
use Rattle.byte_store.specs.Known.{IsAll}
use Rattle.byte_store.specs.declared.reading.ReadError.{ReadError}
use Rattle.byte_store.specs.declared.reading.ReadError.TheVariants as read
use Rattle.arwen_macho.specs.Container.{first_container}
use Rattle.arwen_macho.specs.FatSlice.{HeldSlice, slice_model}
use Rattle.arwen_macho.specs.Found.{container_found}
use Rattle.arwen_macho.specs.declared.macho.MachoType.{MachoType}
use Rattle.macho_commands.specs.Errors.{answer_to_read}
use Rattle.macho_commands.specs.declared.error.MachoCommandError.TheVariants.{Edits, Io, Macho, MachoBatch, Memory, Signing as signing, Unfit}
use Rattle.macho_edits.specs.Call.{Call}
use Rattle.macho_edits.specs.State.{laid_bytes}
use Rattle.macho_edits.specs.declared.error.MachoError.TheVariants as macho
use Rattle.arwen_cli_options.specs.Options.{Asked}
use Rattle.arwen_cli_install_names.specs.Editing.{TellsNoCalls, answer_to_naming}
use Rattle.arwen_cli_install_names.specs.Naming.{AreUnlike, AreCalls, IsUnlike, TellsUnnamed, TellsUnread, TellsPartsUnnamed, parts_of, calls_in, slice_bytes}
use Rattle.arwen_cli_install_names.specs.declared.naming.NamingFault.{NamingFault}
use Rattle.arwen_cli_install_names.specs.declared.naming.NamingFault.TheVariants as naming
use Rattle.arwen_cli_install_names.specs.declared.editing.NamesError.TheVariants.{Command}

-- ## Slices

-- edits that options mean of each slice are those of the one with a number
calls_at : (given : List Asked) (slices : List HeldSlice) (calls : List Call) (i : ℕ) (d : HeldSlice) → AreCalls given (map slice_bytes (map slice_model slices)) calls → i < length slices
    → calls ≡ calls_in (slice_bytes (slice_model (get_or slices i d))) given
calls_at given [] calls i d are below = absurd (omega arith)
calls_at given (slice ∷ slices) calls zero d are below = are.0
calls_at given (slice ∷ slices) calls (suc i) d are below = calls_at given slices calls i d are.1 (omega arith)

-- edits that options mean of each slice are those of one of them
pub calls_of_slice : (given : List Asked) (slices : List HeldSlice) (calls : List Call) (i : ℕ) (slice : HeldSlice) → AreCalls given (map slice_bytes (map slice_model slices)) calls → i < length slices
    → slice ≡ get_or slices i slice → calls ≡ calls_in (laid_bytes slice.inner.state) given
calls_of_slice given slices calls i slice are below is =
    let Of : HeldSlice → Type 0 = λ s. calls ≡ calls_in (slice_bytes (slice_model s)) given in subst Of (sym is) (calls_at given slices calls i slice are below)

-- the edits of the first slice aren't those of all
pub unlike : (given : List Asked) (slices : List HeldSlice) (calls : List Call) (first : HeldSlice) → 0 < length slices → first ≡ get_or slices 0 first → calls ≡ calls_in (laid_bytes first.inner.state) given
    → (AreCalls given (map slice_bytes (map slice_model slices)) calls → ⊥) → AreUnlike given (map slice_bytes (map slice_model slices))
unlike given slices calls first some is_first is not_all = λ all are.
    let Are : List Call → Type 0 = AreCalls given (map slice_bytes (map slice_model slices)) in not_all (subst Are (calls_of_slice given slices all 0 first are some is_first ∙ sym is) are)

-- ## A file

-- a file that was read
pub unnamed : (given : List Asked) (file : List ℕ) (container : MachoType) (fault : NamingFault) → container_found file ≡ None → container ≡ first_container file → TellsPartsUnnamed given (parts_of container) fault
    → TellsUnnamed given file fault
unnamed given file container (naming.Command e) read is tells = (macho.Memory, tt, tells)
unnamed given file container naming.Unlike read is tells =
    let Of : MachoType → Type 0 = λ c. AreUnlike given (parts_of c) in record { read = read; unlike = subst Of is tells }

-- ## A store

-- a store that isn't read
pub read_tells : (given : List Asked) (known : Option (List ℕ)) (e : ReadError) → TellsNoCalls given known (Command (answer_to_read e))
read_tells given known read.Memory = λ file is. (macho.Memory, tt, refl)
read_tells given known (read.Io e) = tt

-- the bytes of a store, which were read
pub store_unnamed : (given : List Asked) (known : Option (List ℕ)) (loaded : List ℕ) (fault : NamingFault) → IsAll known loaded → TellsUnnamed given loaded fault → TellsNoCalls given known (answer_to_naming fault)
store_unnamed given known loaded (naming.Command (Io e)) all tells = tt
store_unnamed given known loaded (naming.Command Memory) all tells = λ file is. subst (λ (l : List ℕ). TellsUnread l Memory) (all file is) tells
store_unnamed given known loaded (naming.Command (Macho e)) all tells = λ file is. subst (λ (l : List ℕ). TellsUnread l (Macho e)) (all file is) tells
store_unnamed given known loaded (naming.Command (MachoBatch e)) all tells = λ file is. subst (λ (l : List ℕ). TellsUnread l (MachoBatch e)) (all file is) tells
store_unnamed given known loaded (naming.Command (Edits e)) all tells = λ file is. subst (λ (l : List ℕ). TellsUnread l (Edits e)) (all file is) tells
store_unnamed given known loaded (naming.Command (signing e)) all tells = λ file is. subst (λ (l : List ℕ). TellsUnread l (signing e)) (all file is) tells
store_unnamed given known loaded (naming.Command Unfit) all tells = λ file is. subst (λ (l : List ℕ). TellsUnread l Unfit) (all file is) tells
store_unnamed given known loaded naming.Unlike all tells = λ file is. subst (IsUnlike given) (all file is) tells
