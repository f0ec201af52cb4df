-- What is told of an edit: of a file that was read, of bytes, of a store.
use Rattle.std.proofs.Common.{◌≡◌, ◌∙◌, ℕ, List, [], None, Option, ap}
use Rattle.arwen_macho.specs.Container.{first_container}
use Rattle.arwen_macho.specs.Found.{container_found}
use Rattle.arwen_macho.specs.declared.front.Front.{Front}
use Rattle.arwen_macho.specs.declared.macho.MachoType.{MachoType}
use Rattle.command_words.specs.Rows.{Text}
use Rattle.command_words.specs.declared.noting.Notes.{Notes}
use Rattle.command_words.specs.declared.noting.Notes.TheVariants.{LeftOut, Wanted}
use Rattle.macho_commands.specs.Engine.{Asked, Writes, asked, signs_of}
use Rattle.macho_commands.specs.Meaning.{MachoMeaning, file_of}
use Rattle.macho_commands.specs.Notes.{TellsBy, TellsCommand, TellsOf, TellsWanted, TellsWantedAt, note_line}
use Rattle.macho_commands.specs.declared.signing.Signing.{Signing}
use Rattle.macho_commands.specs.declared.signing.Signs.{Signs}
use Rattle.macho_commands.specs.declared.signing.Signs.TheVariants.{Nothing, Touched, Whole}
use Rattle.macho_commands_stores.specs.Signed.{is_signed_file}
use Rattle.macho_signatures.specs.declared.renewal.Slot.{Slot}
use Rattle.macho_commands_stores.specs.declared.loading.Loaded.{Loaded}
use Rattle.macho_commands.proofs.StoreLaws.{ReadsStore, told_all}

-- what is told of the file that was read is told of its bytes
pub told_of_bytes : (n : Notes) (path : Text) (file : List ℕ) (read : MachoType) (told : Text) → container_found file ≡ None → read ≡ first_container file → TellsOf n path read told → TellsWanted n path file told
told_of_bytes Wanted path file read told found is tells = (found, tells ∙ ap (λ (r : MachoType). note_line (is_signed_file r) path) is)
told_of_bytes LeftOut path file read told found is tells = tells

-- what is told of what was read of a store, where it is edited
left_out : (signs : Signs) (a : Asked) (path : Text) (file : List ℕ) (told : Text) → TellsBy signs LeftOut a path file told → told ≡ []
left_out Nothing a path file told tells = tells
left_out Touched a path file told tells = tells
left_out Whole a path file told tells = tells

pub told_of_store : (n : Notes) (choice : Signing) (meaning : MachoMeaning) (known : Option (List ℕ)) (loaded : Loaded) (fronts : List Front) (slots : List Slot) (told : Text) → ReadsStore (signs_of choice meaning) known loaded → Writes choice meaning loaded.bytes.items fronts slots → TellsCommand choice meaning n loaded.bytes.items told → TellsWantedAt choice meaning n known told
told_of_store Wanted choice meaning known loaded fronts slots told reads writes tells = told_all choice meaning Wanted known loaded fronts slots told reads writes tells
told_of_store LeftOut choice meaning known loaded fronts slots told reads writes tells = left_out (signs_of choice meaning) (asked meaning) (file_of meaning) loaded.bytes.items told tells
