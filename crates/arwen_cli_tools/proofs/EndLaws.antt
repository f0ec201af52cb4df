-- Lines that end with the status 0.
use Rattle.std.proofs.Common.{◌≡◌, ◌⊎◌, List, Result, Ok, Err, arith, inl, inr}
use Rattle.std.specs.Prelude.{OnOk, String}
use Rattle.std.specs.declared.alloc.Global.{Global}
use Rattle.arwen_cli_install_names.specs.Line.{TellsNames}
use Rattle.arwen_cli_install_names.specs.declared.line.NameLineError.{NameLineError}
use Rattle.arwen_cli_install_names.specs.declared.line.NameLineError.TheVariants as name_error
use Rattle.arwen_cli_patchelf_lines.specs.Line.{TellsLine}
use Rattle.arwen_cli_patchelf_lines.specs.declared.line.LineError.{LineError}
use Rattle.arwen_cli_patchelf_lines.specs.declared.line.LineError.TheVariants as error
use Rattle.arwen_cli_options.specs.Options.{TellsWrong, Text, Wrong, help, version}
use Rattle.arwen_cli_options.specs.declared.options.LineFault.{LineFault}
use Rattle.arwen_cli_options.specs.declared.options.LineFault.TheVariants as fault
use Rattle.arwen_cli_tools.specs.Endings.{EndsLine, MayBeDone, any_error, status_of, unknown}
use Rattle.arwen_cli_tools.specs.Texts.{EndsUnread, EndsUnreadNames, EndsWords}
use Rattle.arwen_cli_tools.specs.declared.ending.Ending.{Ending}
use Rattle.arwen_cli_tools.specs.declared.ending.Ending.TheVariants.{Done, Failed, Told}
use Rattle.arwen_cli_tools.specs.declared.peers.Peer.{Peer}
use Rattle.arwen_cli_tools.specs.declared.peers.Peer.TheVariants.{InstallNameTool, Patchelf}
use Rattle.arwen_cli_tools.specs.declared.texts.Sayings.{Sayings}

pub ok_more : {T E : Type 0} (r : Result T E) (A B : Type 0) → (A → B) → OnOk r A → OnOk r B
ok_more (Ok x) A B f h = f h
ok_more (Err e) A B f h = tt

one_is_none : (line : String Global) → status_of (Failed line) ≡ 0 → ⊥
one_is_none line zero = omega arith

-- words that are no line to run ask for help or the version
asked : {X : Type 0} (meant : Result X Wrong) (said : Sayings) (f : LineFault) (ending : Ending) → TellsWrong meant f → EndsWords said f ending → status_of ending ≡ 0
    → (meant ≡ Err help) ⊎ (meant ≡ Err version)
asked meant said fault.Help ending tells ends zero = inl tells
asked meant said fault.Version ending tells ends zero = inr tells
asked meant said (fault.Unknown word) Done tells ends zero = absurd ends
asked meant said (fault.Unknown word) (Told text) tells ends zero = absurd ends
asked meant said (fault.Unknown word) (Failed line) tells ends zero = absurd (one_is_none line zero)
asked meant said (fault.Missing option) Done tells ends zero = absurd ends
asked meant said (fault.Missing option) (Told text) tells ends zero = absurd ends
asked meant said (fault.Missing option) (Failed line) tells ends zero = absurd (one_is_none line zero)
asked meant said fault.Memory Done tells ends zero = absurd ends
asked meant said fault.Memory (Told text) tells ends zero = absurd ends
asked meant said fault.Memory (Failed line) tells ends zero = absurd ends

unread : (words : List Text) (e : LineError) (said : Sayings) (ending : Ending) → TellsLine unknown any_error words e → EndsUnread said e ending → status_of ending ≡ 0 → MayBeDone Patchelf words
unread words (error.Words f) said ending tells ends zero = inl (asked _ said f ending tells ends zero)
unread words (error.Refused refused) said Done tells ends zero = absurd ends
unread words (error.Refused refused) said (Told text) tells ends zero = absurd ends
unread words (error.Refused refused) said (Failed line) tells ends zero = absurd (one_is_none line zero)
unread words (error.Value refused) said Done tells ends zero = absurd ends
unread words (error.Value refused) said (Told text) tells ends zero = absurd ends
unread words (error.Value refused) said (Failed line) tells ends zero = absurd (one_is_none line zero)
unread words error.Memory said Done tells ends zero = absurd ends
unread words error.Memory said (Told text) tells ends zero = absurd ends
unread words error.Memory said (Failed line) tells ends zero = absurd ends

unread_names : (words : List Text) (e : NameLineError) (said : Sayings) (ending : Ending) → TellsNames words e → EndsUnreadNames said e ending → status_of ending ≡ 0 → MayBeDone InstallNameTool words
unread_names words (name_error.Words f) said ending tells ends zero = inl (asked _ said f ending tells ends zero)
unread_names words (name_error.Refused refused) said Done tells ends zero = absurd ends
unread_names words (name_error.Refused refused) said (Told text) tells ends zero = absurd ends
unread_names words (name_error.Refused refused) said (Failed line) tells ends zero = absurd (one_is_none line zero)

-- a line that ends with the status 0 asks for help or the version, or isn't refused
pub may_be_done : (peer : Peer) (words : List Text) (ending : Ending) → EndsLine peer words ending → status_of ending ≡ 0 → MayBeDone peer words
may_be_done Patchelf words ending (inl (e, said, tells, name, ends)) zero = unread words e said ending tells ends zero
may_be_done Patchelf words ending (inr (line, reads, ends)) zero = inr (line, reads)
may_be_done InstallNameTool words ending (inl (e, said, tells, name, ends)) zero = unread_names words e said ending tells ends zero
may_be_done InstallNameTool words ending (inr (line, reads, ends)) zero = inr (line, reads)
