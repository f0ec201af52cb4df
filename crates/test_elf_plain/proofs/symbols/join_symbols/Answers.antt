-- Symbol by symbol, as long as all three are there.
use Rattle.std.proofs.Common.{◌≡◌, ◌+◌, ◌++◌, ◌∷◌, [], ℕ, List, Option, None, get_or, map, drop, sym, ap, ◌∙◌, arith}
use Rattle.std.proofs.lemmas.List.{get_or-map, length-map, map_push}
use Rattle.elf_format.specs.declared.version_id.VersionId.{VersionId}
use Rattle.test_elf_plain.specs.PlainViews.{symbol_model, text_model}
use Rattle.elf_format.specs.Views.{NamedSymbol, named_symbols}
use Rattle.test_elf_plain.proofs.JoinSteps.{join_ends_names, join_ends_symbols, join_ends_versions, join_goes, joined}
use Rattle.elf_format.proofs.ReadingSteps.{no_symbol}
use Rattle.test_elf_plain.proofs.symbols.join_symbols.Goals as goal

pub returns-then-i-names : goal.returns-then-i-names
returns-then-i-names c =
    let ns : List (List ℕ) = map text_model c.args.names.now in
    join_ends_names c.args.symbols.now ns c.args.versions.now (map symbol_model c.loop-i.made.items) c.loop-i.i (named_symbols c.args.symbols.now ns c.args.versions.now) c.loop-i.invariant
    (omega (arith, length-map c.args.names.now text_model))

pub returns-then-i-versions : goal.returns-then-i-versions
returns-then-i-versions c =
    let ns : List (List ℕ) = map text_model c.args.names.now in
    join_ends_versions c.args.symbols.now ns c.args.versions.now (map symbol_model c.loop-i.made.items) c.loop-i.i (named_symbols c.args.symbols.now ns c.args.versions.now) c.loop-i.invariant c.if-i-versions.true

pub loop-i-preserved : goal.loop-i-preserved
loop-i-preserved c =
    let ys = c.args.symbols.now in
    let ns : List (List ℕ) = map text_model c.args.names.now in
    let vs : List (Option VersionId) = c.args.versions.now in
    let i : ℕ = c.loop-i.i in
    let made : List NamedSymbol = map symbol_model c.loop-i.made.items in
    let name : get_or ns i [] ≡ text_model c.index-names-i.result =
    get_or-map text_model c.args.names.now i c.index-names-i.result [] (omega arith) ∙ ap text_model (sym c.index-names-i.is) in
    let copied : c.in_ok-from_slice.field-0.items ≡ get_or ns i [] = c.in_ok-from_slice.ensures.items ∙ c.deref.ensures.value ∙ sym name in
    let pushed : map symbol_model c.push.new.self.items ≡ made ++ joined (get_or ys i no_symbol) (get_or ns i []) (get_or vs i None) ∷ [] =
    ap (map symbol_model) c.in_ok-push.ensures.items ∙ map_push symbol_model c.loop-i.made.items _
    ∙ ap (λ n. made ++ joined (get_or ys i no_symbol) n (get_or vs i None) ∷ []) copied in
    ap (λ m. m ++ named_symbols (drop (i + 1) ys) (drop (i + 1) ns) (drop (i + 1) vs)) pushed
    ∙ join_goes ys ns vs made i (named_symbols ys ns vs) c.loop-i.invariant no_symbol [] None c.loop-i-test.true (omega (arith, length-map c.args.names.now text_model)) (omega arith)

pub returns : goal.returns
returns c =
    let ns : List (List ℕ) = map text_model c.args.names.now in
    join_ends_symbols c.args.symbols.now ns c.args.versions.now (map symbol_model c.loop-i.made.items) c.loop-i.i (named_symbols c.args.symbols.now ns c.args.versions.now) c.loop-i.invariant c.loop-i-test.false
