-- Whose line the program's name and words are.
use Rattle.std.specs.Prelude.{List, [], ◌∷◌, map, Option, Some, None, codes, option_map, if◌then◌else◌}
use Rattle.std.specs.Borrow.{Bor}
use Rattle.std.specs.Path.{path_file_name}
use Rattle.std.specs.Str.{bytes_eq}
use Rattle.arwen_cli_options.specs.Options.{Text}
use Rattle.arwen_cli_tools.specs.declared.peers.Peer.{Peer}
use Rattle.arwen_cli_tools.specs.declared.peers.Peer.TheVariants.{InstallNameTool, Patchelf}

abbrev pub line_shown : Peer × Bor (List (Bor Text)) → Peer × List Text
line_shown line = (line.0, map (λ word. word.now) line.1.now)

-- the tool of a name
abbrev pub tool_of : Option Text → Option Peer
tool_of None = None
tool_of (Some name) =
    if bytes_eq name (codes "patchelf") then Some Patchelf
    else (if bytes_eq name (codes "install_name_tool") then Some InstallNameTool else None)

-- the tool that has the last part of a path as its name
abbrev pub named_by : Text → Option Peer
named_by path = tool_of (path_file_name path)

-- the tool that the first word names, with the words behind it
abbrev pub worded_by : List Text → Option (Peer × List Text)
worded_by [] = None
worded_by (first ∷ behind) =
    if bytes_eq first (codes "patchelf") then Some (Patchelf, behind)
    else (if bytes_eq first (codes "install-name-tool") then Some (InstallNameTool, behind) else None)

-- a name that is a tool's decides, or else the first word
abbrev pub by_name : Option Peer → List Text → Option (Peer × List Text)
by_name None words = worded_by words
by_name (Some peer) words = Some (peer, words)

abbrev pub peer_told : Text → List Text → Option (Peer × List Text)
peer_told name words = by_name (named_by name) words

-- the tool whose help words ask for: `help`, and behind it the tool's name
abbrev pub helped : List Text → Option Peer
helped [] = None
helped (first ∷ behind) = if bytes_eq first (codes "help") then option_map (λ line. line.0) (worded_by behind) else None
