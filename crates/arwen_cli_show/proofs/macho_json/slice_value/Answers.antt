-- The members are put into an empty object, one after the other.
use Rattle.std.proofs.Common.{◌≡◌, ap, ◌∙◌, codes, rules}
use Rattle.serde_json.specs.Data.{Members, no_members, object, put}
use Rattle.serde_json.specs.View.{members_view, view}
use Rattle.serde_json.specs.declared.value.Value.{Object, the_lemmas}
use Rattle.arwen_cli_show.specs.Json.{number_data, slice_data, with_macho}
use Rattle.arwen_cli_facts.specs.MachoFacts.{macho_model}
use Rattle.arwen_cli_show.proofs.macho_json.slice_value.Goals as goal

pub returns : goal.returns
unfolding slice_data
returns c =
    let offset : Members → Members = put (codes "slice_offset") (number_data c.args.slice.now.offset) in
    let size : Members → Members = put (codes "slice_size") (number_data c.args.slice.now.size) in
    let empty : members_view c.new-members.result.entries ≡ no_members = ap members_view c.new-members.ensures.empty in
    let seen : view (Object c.put_macho.new.members) ≡ object (members_view c.put_macho.new.members.entries) = search (rules, the_lemmas) in
    seen ∙ ap object (c.in_ok-put_macho.ensures ∙ ap (with_macho (macho_model c.args.slice.now.file)) (c.in_ok-put_number-2.ensures ∙ ap size (c.in_ok-put_number.ensures ∙ ap offset empty)))
