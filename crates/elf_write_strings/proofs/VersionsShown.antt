-- The versions that are written are those of the image.
use Rattle.std.proofs.Common.{◌≡◌, ℕ, ◌≤◌, Bool, true, false, cond, List, [], ◌∷◌, length, map, refl, sym, ap, ◌∙◌, subst, Option, Some, None}
use Rattle.std.specs.Prelude.{◌==◌}
use Rattle.std.proofs.lemmas.Bool.{eqb-true}
use Rattle.std.proofs.lemmas.Option.{none-some, same_Some}
use Rattle.elf_format.specs.Image.{Image}
use Rattle.elf_format.specs.declared.form.Form.{Form}
use Rattle.elf_format.specs.Versions.{VersionDefinition, VersionNeeds}
use Rattle.elf_format.specs.Views.{defined_versions, needed_versions}
use Rattle.patch_bytes.specs.declared.number.ByteOrder2.{ByteOrder2}
use Rattle.patch_bytes.specs.declared.number.Wide.{Wide}
use Rattle.elf_tables.specs.Strings.{PlacesStand, Strings}
use Rattle.elf_tables.specs.VersionRecords.{definition_table, has_definition_texts, has_needs_texts, needs_table, placed_definition, placed_needs}
use Rattle.elf_image.specs.Kept.{image_at_read}
use Rattle.elf_layout_plan.specs.Needs.{written_needs}
use Rattle.elf_write_spec.specs.Contents.{AreDefinitionsOf, AreNeedsOf, table_in}
use Rattle.elf_write_spec.specs.Final.{final}
use Rattle.elf_write_strings.specs.WrittenStrings.{content_read, made_of, strings_at}
use Rattle.elf_write_spec.specs.Ready.{IsEditedReady}
use Rattle.elf_write_strings.specs.declared.made.Made.{Made}
use Rattle.elf_write_spec.proofs.ForCallers.WholeEdits.{needs_written}

-- records that are spelled by a table of their texts, and are read back
pub definitions_of : (order : ByteOrder2) (form : Form) (table : Strings) (ds now : List VersionDefinition) (count : ℕ) (bytes : List ℕ)
    → order ≡ form.order → ds ≡ now → length ds ≡ count
    → has_definition_texts table now ≡ true → PlacesStand table → bytes ≡ definition_table order (map (placed_definition table) ds)
    → ((wide : Wide) (room : ℕ) → PlacesStand table → length table.bytes ≤ room
    → defined_versions (record { wide = wide; order = order }) room (table_in bytes table.bytes count) ≡ Some ds)
    → AreDefinitionsOf form now table.bytes bytes
definitions_of order form table ds now count bytes same_order same many told stand are read =
    subst (λ (l : List VersionDefinition). AreDefinitionsOf form l table.bytes bytes) same
    (subst (λ (o : ByteOrder2). AreDefinitionsOf (record form { order = o }) ds table.bytes bytes) same_order (record {
      spelled = record {
        names = table;
        of_strings = refl;
        stand = stand;
        told = ap (has_definition_texts table) same ∙ told;
        are_bytes = are;
      };
      read = λ room long.
          ap (λ (n : ℕ). defined_versions (record form { order = order }) room (table_in bytes table.bytes n)) many ∙ read form.wide room stand long;
    }))

pub needs_of : (order : ByteOrder2) (form : Form) (table : Strings) (ns now : List VersionNeeds) (count : ℕ) (bytes : List ℕ)
    → order ≡ form.order → ns ≡ now → length ns ≡ count
    → has_needs_texts table now ≡ true → PlacesStand table → bytes ≡ needs_table order (map (placed_needs table) ns)
    → ((wide : Wide) (room : ℕ) → PlacesStand table → length table.bytes ≤ room
    → needed_versions (record { wide = wide; order = order }) room (table_in bytes table.bytes count) ≡ Some ns)
    → AreNeedsOf form now table.bytes bytes
needs_of order form table ns now count bytes same_order same many told stand are read =
    subst (λ (l : List VersionNeeds). AreNeedsOf form l table.bytes bytes) same
    (subst (λ (o : ByteOrder2). AreNeedsOf (record form { order = o }) ns table.bytes bytes) same_order (record {
      spelled = record {
        names = table;
        of_strings = refl;
        stand = stand;
        told = ap (has_needs_texts table) same ∙ told;
        are_bytes = are;
      };
      read = λ room long.
          ap (λ (n : ℕ). needed_versions (record form { order = order }) room (table_in bytes table.bytes n)) many ∙ read form.wide room stand long;
    }))

-- the needed versions in their final form are those that are written
pub needs_final : (read image : Image) → IsEditedReady read image → written_needs read image ≡ (final (image_at_read image) image).needs
needs_final read image is = ap (λ (r : Image). written_needs r image) is.at_read ∙ sym (needs_written (image_at_read image) image)

-- ## The string table

pub strings_made : (image : Image) (made : List Made) (n : ℕ) (m : Made) → made_of made n ≡ Some m → m.table.bytes ≡ strings_at image made n
strings_made image made n m is =
    sym (ap (λ (o : Option Made). elim o as (λ _. List ℕ) [ Some x ↦ x.table.bytes | None ↦ content_read image n ]) is)

pub strings_copied : (image : Image) (made : List Made) (n : ℕ) → made_of made n ≡ None → content_read image n ≡ strings_at image made n
strings_copied image made n is =
    sym (ap (λ (o : Option Made). elim o as (λ _. List ℕ) [ Some x ↦ x.table.bytes | None ↦ content_read image n ]) is)

number_by : (b : Bool) (x : Made) (o : Option Made) (n : ℕ) (m : Made) → (x.number == n) ≡ b → (o ≡ Some m → m.number ≡ n)
    → cond b (Some x) o ≡ Some m → m.number ≡ n
number_by true x o n m own rest found = ap (λ (y : Made). y.number) (sym (same_Some x m found)) ∙ eqb-true x.number n own
number_by false x o n m own rest found = rest found

-- a table that is told has the number that it was asked for by
pub number_found : (made : List Made) (n : ℕ) (m : Made) → made_of made n ≡ Some m → m.number ≡ n
number_found [] n m is = absurd (none-some m is)
number_found (x ∷ made) n m is = number_by (x.number == n) x (made_of made n) n m refl (number_found made n m) is
