-- The options of the peers.
use Rattle.std.specs.Prelude.{List, [], ◌∷◌, codes}
use Rattle.arwen_cli_options.specs.Options.{Known, Text}
use Rattle.arwen_cli_options.specs.declared.options.Form.{Form}
use Rattle.arwen_cli_options.specs.declared.options.Form.TheVariants.{Flag, Help, One, Two, Version}

abbrev pub option : Text → Form → Known
option name form = record { word = name; name = name; form = form }

-- another word that gives an option
abbrev pub alias : Text → Text → Form → Known
alias word name form = record { word = word; name = name; form = form }

abbrev pub patchelf_known : List Known
patchelf_known = alias (codes "--interpreter") (codes "--set-interpreter") One
    ∷ option (codes "--set-interpreter") One
    ∷ option (codes "--page-size") One
    ∷ option (codes "--print-interpreter") Flag
    ∷ option (codes "--print-os-abi") Flag
    ∷ option (codes "--set-os-abi") One
    ∷ option (codes "--print-soname") Flag
    ∷ option (codes "--set-soname") One
    ∷ option (codes "--remove-rpath") Flag
    ∷ option (codes "--shrink-rpath") Flag
    ∷ option (codes "--allowed-rpath-prefixes") One
    ∷ option (codes "--set-rpath") One
    ∷ option (codes "--add-rpath") One
    ∷ option (codes "--print-rpath") Flag
    ∷ option (codes "--force-rpath") Flag
    ∷ option (codes "--print-needed") Flag
    ∷ option (codes "--no-sort") Flag
    ∷ option (codes "--add-needed") One
    ∷ option (codes "--remove-needed") One
    ∷ option (codes "--replace-needed") Two
    ∷ option (codes "--clear-symbol-version") One
    ∷ option (codes "--print-execstack") Flag
    ∷ option (codes "--clear-execstack") Flag
    ∷ option (codes "--set-execstack") Flag
    ∷ option (codes "--output") One
    ∷ option (codes "--debug") Flag
    ∷ option (codes "--no-default-lib") Flag
    ∷ option (codes "--add-debug-tag") Flag
    ∷ option (codes "--rename-dynamic-symbols") One
    ∷ option (codes "--no-clobber-old-sections") Flag
    ∷ option (codes "--help") Help
    ∷ alias (codes "-h") (codes "--help") Help
    ∷ option (codes "--version") Version
    ∷ []

abbrev pub install_name_tool_known : List Known
install_name_tool_known = option (codes "-add_rpath") One
    ∷ option (codes "-prepend_rpath") One
    ∷ option (codes "-rpath") Two
    ∷ option (codes "-delete_rpath") One
    ∷ option (codes "-delete_all_rpaths") Flag
    ∷ option (codes "-change") Two
    ∷ option (codes "-id") One
    ∷ option (codes "-V") Version
    ∷ alias (codes "--version") (codes "-V") Version
    ∷ alias (codes "-h") (codes "--help") Help
    ∷ option (codes "--help") Help
    ∷ []
