-- The tables of headers are lent as slices.
use Rattle.std.proofs.Common.{◌≡◌, List, Bool, ap, sym, ◌∙◌}
use Rattle.std.specs.Prelude.{◌&&◌}
use Rattle.elf_image_rules.specs.declared.headers.Headers.{Headers}
use Rattle.elf_format.specs.declared.form.Form.{Form}
use Rattle.elf_image_rules.specs.Read.{parts_model}
use Rattle.elf_format.specs.declared.records.SectionHeader.{SectionHeader}
use Rattle.elf_format.specs.declared.records.SegmentHeader.{SegmentHeader}
use Rattle.elf_format.specs.Rules.{are_linked, are_whole, is_one_of_each, symbols_have_sections}
use Rattle.elf_image_rules.proofs.linked.are_symbols_right.Goals as goal

abbrev headers_hold : Form → List SegmentHeader → List SectionHeader → Bool
headers_hold form segments sections = is_one_of_each segments sections && are_linked sections && are_whole form sections

lent : (form : Form) (a b : List SegmentHeader) (x y : List SectionHeader) (answer : Bool) → answer ≡ headers_hold form a x → a ≡ b → x ≡ y → answer ≡ headers_hold form b y
lent form a b x y answer is p q = is ∙ ap (λ s. headers_hold form s x) p ∙ ap (headers_hold form b) q

pub returns-then-are_headers_linked : goal.returns-then-are_headers_linked
returns-then-are_headers_linked c =
    let h : Headers = c.args.parts.now in
    let is = lent h.form c.deref.result.now h.segments.items c.deref-2.result.now h.sections.items c.are_headers_linked.result c.are_headers_linked.ensures c.deref.ensures.value c.deref-2.ensures.value in
    c.symbols_have_sections.ensures ∙ sym (ap (λ b. b && symbols_have_sections (parts_model h)) (sym is ∙ c.if-are_headers_linked.true))

pub returns-else-are_headers_linked : goal.returns-else-are_headers_linked
returns-else-are_headers_linked c =
    let h : Headers = c.args.parts.now in
    let is = lent h.form c.deref.result.now h.segments.items c.deref-2.result.now h.sections.items c.are_headers_linked.result c.are_headers_linked.ensures c.deref.ensures.value c.deref-2.ensures.value in
    c.if-are_headers_linked.false ∙ sym (ap (λ b. b && symbols_have_sections (parts_model h)) (sym is ∙ c.if-are_headers_linked.false))
