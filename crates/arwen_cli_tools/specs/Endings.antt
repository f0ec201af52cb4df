-- How lines end.
use Rattle.std.specs.Prelude.{ℕ, ◌≡◌, ◌⊎◌, List, Option, None, Err, codes, string_bytes, ⊤}
use Rattle.byte_store.specs.declared.reading.ReadError.{ReadError}
use Rattle.arwen_cli_install_names.specs.Line.{ReadsNames, TellsNames}
use Rattle.arwen_cli_install_names.specs.declared.editing.NamesError.{NamesError}
use Rattle.arwen_cli_install_names.specs.declared.line.NameLine.{NameLine}
use Rattle.arwen_cli_install_names.specs.declared.line.NameLineError.{NameLineError}
use Rattle.arwen_cli_patchelf.specs.declared.error.PatchelfError.{PatchelfError}
use Rattle.arwen_cli_patchelf_lines.specs.Line.{ReadsLine, TellsLine}
use Rattle.arwen_cli_patchelf.specs.Plans.{PlanMeant}
use Rattle.arwen_cli_patchelf_lines.specs.declared.line.Line.{Line}
use Rattle.arwen_cli_patchelf_lines.specs.declared.line.LineError.{LineError}
use Rattle.arwen_cli_options.specs.Options.{Text, help, line_of, version}
use Rattle.arwen_cli_options.specs.Tables.{install_name_tool_known, patchelf_known}
use Rattle.arwen_cli_tools.specs.Causes.{IsElfFaultLine, IsNamesFaultLine}
use Rattle.arwen_cli_tools.specs.Texts.{EndsUnread, EndsUnreadNames}
use Rattle.arwen_cli_tools.specs.declared.ending.Ending.{Ending}
use Rattle.arwen_cli_tools.specs.declared.ending.Ending.TheVariants.{Done, Failed, Told}
use Rattle.arwen_cli_tools.specs.declared.peers.Peer.{Peer}
use Rattle.arwen_cli_tools.specs.declared.peers.Peer.TheVariants.{InstallNameTool, Patchelf}
use Rattle.arwen_cli_tools.specs.declared.texts.Sayings.{Sayings}

-- the status that the program ends with
abbrev pub status_of : Ending → ℕ
status_of Done = 0
status_of (Told text) = 0
status_of (Failed line) = 1

-- nothing is known of the files of a runtime
abbrev pub unknown : Text → Option (List ℕ)
unknown path = None

-- nor why they can't be read
abbrev pub any_error : Text → ReadError → Type 0
any_error path e = ⊤

-- ## Lines that were read

-- all is done of a line of patchelf, or its ending tells the fault of a file, of whose bytes nothing need be known
abbrev pub EndsReadLine : Ending → Type 0
EndsReadLine Done = ⊤
EndsReadLine (Failed line) = (plan : PlanMeant) × (known : Option (List ℕ)) × (path : Text) × (e : PatchelfError)
    × IsElfFaultLine plan known path e (string_bytes line)
EndsReadLine (Told text) = ⊥

-- the ending tells why the file of a line of install_name_tool isn't edited
abbrev pub IsNamesEnding : Text → NamesError → Ending → Type 0
IsNamesEnding path e (Failed line) = (known : Option (List ℕ)) × IsNamesFaultLine known path e (string_bytes line)
IsNamesEnding path e Done = ⊥
IsNamesEnding path e (Told text) = ⊥

-- it is edited, or the ending tells why it isn't
abbrev pub EndsReadNames : Text → Ending → Type 0
EndsReadNames path Done = ⊤
EndsReadNames path (Failed line) = (e : NamesError) × IsNamesEnding path e (Failed line)
EndsReadNames path (Told text) = ⊥

-- ## Lines

-- it isn't read, and the ending tells why; or it is, and was run
abbrev pub EndsPatchelf : List Text → Ending → Type 0
EndsPatchelf words ending =
    ((e : LineError) × (said : Sayings) × TellsLine unknown any_error words e × (said.name.now ≡ codes "patchelf") × EndsUnread said e ending)
    ⊎ ((line : Line) × ReadsLine unknown words line × EndsReadLine ending)

abbrev pub EndsNames : List Text → Ending → Type 0
EndsNames words ending =
    ((e : NameLineError) × (said : Sayings) × TellsNames words e × (said.name.now ≡ codes "install_name_tool") × EndsUnreadNames said e ending)
    ⊎ ((line : NameLine) × ReadsNames words line × EndsReadNames line.path.now ending)

abbrev pub EndsLine : Peer → List Text → Ending → Type 0
EndsLine Patchelf words ending = EndsPatchelf words ending
EndsLine InstallNameTool words ending = EndsNames words ending

-- ## Which lines may be done

-- the words ask for help or the version, or give a line that isn't refused
abbrev pub MayBeDone : Peer → List Text → Type 0
MayBeDone Patchelf words = ((line_of patchelf_known words ≡ Err help) ⊎ (line_of patchelf_known words ≡ Err version))
    ⊎ ((line : Line) × ReadsLine unknown words line)
MayBeDone InstallNameTool words = ((line_of install_name_tool_known words ≡ Err help) ⊎ (line_of install_name_tool_known words ≡ Err version))
    ⊎ ((line : NameLine) × ReadsNames words line)
