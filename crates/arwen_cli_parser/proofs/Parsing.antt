-- What the parser of lines gives, at a line that is written out.
use Rattle.std.proofs.Common.{refl, ◌≡◌, ◌∷◌, [], ◌+◌, ◌<◌, ℕ, Option, Some, None, Box, List, false, ap, ap₂, ◌∙◌, get_or, inl, inr, length, map, sym, take}
use Rattle.std.proofs.lemmas.List.{map_push, take_more}
use Rattle.command_words.specs.Rows.{row_model}
use Rattle.command_words.specs.declared.rows.Row.{Row as TableRow}
use Rattle.std.specs.Option.{option_map}
use Rattle.std.specs.Box.{box_value}
use Rattle.clap.specs.Walk.{Row, Text}
use Rattle.clap.specs.Words.{AddsSubcommand, App, HasKind, Kinds, app_of, kind_of, subcommand_rows, with_subcommand}
use Rattle.clap.specs.declared.builder.command.Command.{Command}
use Rattle.clap.specs.declared.error.Error.{Error}
use Rattle.clap.specs.declared.error.kind.ErrorKind.TheVariants.{OutOfMemory}
use Rattle.clap.specs.declared.parser.matches.ArgMatches.TheViews.{out-SubCommand}
use Rattle.clap.specs.declared.parser.matches.SubCommand.{SubCommand}
use Rattle.arwen_cli_parser.specs.Parser.{has_globals, leaf_of, line_app}
use Rattle.arwen_cli_parser.proofs.Table.{line_app-push}

-- a subcommand is added as it is
pub added : (old sub new : Command) (a s : App) → app_of old ≡ a → app_of sub ≡ s → has_globals sub ≡ false → AddsSubcommand old sub new → app_of new ≡ with_subcommand a s.top
added old sub new a s old_is sub_is local h = h.shape local ∙ ap₂ with_subcommand old_is (ap (λ (app : App). app.top) sub_is)

-- a row's command is added behind those before it
pub with_row : (first : Text) (rows : List TableRow) (i : ℕ) (row : TableRow) (old new : Command) → i < length rows → app_of old ≡ line_app first (map row_model (take i rows))
    → app_of new ≡ with_subcommand (app_of old) (leaf_of (row_model (get_or rows i row))) → app_of new ≡ line_app first (map row_model (take (i + 1) rows))
with_row first rows i row old new inside old_is adds =
    adds ∙ ap (λ (a : App). with_subcommand a (leaf_of (row_model (get_or rows i row)))) old_is ∙ line_app-push first (map row_model (take i rows)) (row_model (get_or rows i row))
    ∙ ap (line_app first) (sym (map_push row_model (take i rows) (get_or rows i row)) ∙ ap (map row_model) (sym (take_more rows i row inside)))

module _ {Z : Type 0} where
  -- the name and the rows of the subcommand that was found
  pub by_parts : (o : Option (Box SubCommand Z)) (name : Text) (rows : List Row) → Some name ≡ option_map (λ b. (out-SubCommand (box_value b)).name.now) o
      → Some rows ≡ option_map (λ (p : Text × List Row). p.1) (subcommand_rows o) → subcommand_rows o ≡ Some (name, rows)
  by_parts None name rows n r = absurd (cc)
  by_parts (Some b) name rows n r = cc

-- what is there is not missing
pub some≢none : {X : Type 0} (x : X) → None ≡ Some x → ⊥
some≢none x e = cc

-- without a name there is no subcommand
pub no_command : (found : Option (Text × List Row)) → None ≡ option_map (λ (p : Text × List Row). p.1) found → found ≡ None
no_command None e = refl
no_command (Some p) e = absurd (cc)

-- where the words have no fault, only memory can fail
pub by_memory : (kinds : Kinds) (e : Error) → kinds ≡ [] → HasKind kinds e → kind_of e ≡ OutOfMemory
by_memory [] e none h = elim h [ inl memory ↦ memory | inr other ↦ absurd other ]
by_memory (kind ∷ kinds) e none h = absurd (cc)
