-- What the option asks for by which the code signatures of edited Mach-O files are made to fit again.
use Rattle.std.specs.Prelude.{List, if◌then◌else◌}
use Rattle.command_words.specs.Rows.{Text}
use Rattle.macho_commands.specs.declared.signing.Signing.{Signing}
use Rattle.macho_commands.specs.declared.signing.Signing.TheVariants.{Left, Renewed}
use Rattle.arwen_cli_options.specs.Lines.{is_signed_line}

abbrev pub signing_asked : List Text → Signing
signing_asked words = if is_signed_line words then Renewed else Left
