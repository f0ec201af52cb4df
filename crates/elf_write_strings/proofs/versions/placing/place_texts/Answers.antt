use Rattle.std.proofs.Common.{◌≡◌, ◌<◌, ℕ, List, length, get_or, sym, ap, ◌∙◌, arith}
use Rattle.std.proofs.lemmas.List.{get_or-map, length-map}
use Rattle.patch_bytes.specs.ByteString.{StringValue, bytes_of_each}
use Rattle.elf_write_strings.specs.VersionPlaces.{Tells}
use Rattle.elf_write_strings.proofs.VersionsPlacing.{more-trans, text_at_place, up_to}
use Rattle.elf_write_strings.proofs.versions.placing.place_texts.Goals as goal

-- the text that the loop looks at
text_here : (texts : List StringValue) (i : ℕ) (text : List ℕ) (other : StringValue) → i < length texts → text ≡ other.bytes
    → other ≡ get_or texts i other → text ≡ get_or (bytes_of_each texts) i text
text_here texts i text other within same is =
    same ∙ ap (λ (s : StringValue). s.bytes) is ∙ sym (get_or-map (λ (s : StringValue). s.bytes) texts i other text within)

within_bytes : (texts : List StringValue) (i : ℕ) → i < length texts → i < length (bytes_of_each texts)
within_bytes texts i within = omega (arith, length-map texts (λ (s : StringValue). s.bytes))

pub place_text-requires : goal.place_text-requires
place_text-requires c =
    text_at_place c.args.table.now c.loop-i.table (bytes_of_each c.args.texts.now) c.args.places.now c.loop-i.i 0 c.as_slice.result.now c.requires
    c.loop-i.invariant.more (within_bytes c.args.texts.now c.loop-i.i c.loop-i-test.true)
    (text_here c.args.texts.now c.loop-i.i c.as_slice.result.now c.index-texts-i.result c.loop-i-test.true c.as_slice.ensures c.index-texts-i.is)

pub loop-i-preserved : goal.loop-i-preserved
loop-i-preserved c = record {
  more = more-trans c.args.table.now c.loop-i.table c.place_text.new.table c.loop-i.invariant.more c.in_ok-place_text.ensures.more;
  told = up_to (Tells c.loop-i.table) (Tells c.place_text.new.table) (bytes_of_each c.args.texts.now) c.loop-i.i c.as_slice.result.now
      c.in_ok-place_text.ensures.more.had c.loop-i.invariant.told (within_bytes c.args.texts.now c.loop-i.i c.loop-i-test.true)
      (text_here c.args.texts.now c.loop-i.i c.as_slice.result.now c.index-texts-i.result c.loop-i-test.true c.as_slice.ensures c.index-texts-i.is)
      c.in_ok-place_text.ensures.told;
}

pub returns-clause-told : goal.returns-clause-told
returns-clause-told c k d within =
    c.loop-i.invariant.told k d (omega (arith, within, length-map c.args.texts.now (λ (s : StringValue). s.bytes)))
