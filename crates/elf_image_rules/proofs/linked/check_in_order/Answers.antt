-- One section after another.
use Rattle.std.proofs.Common.{refl, get_or, [], ◌∷◌, ◌++◌}
use Rattle.std.proofs.lemmas.List.Elements.{All-nil, All-push, All-same}
use Rattle.elf_image_rules.specs.declared.linked.Checked.{Checked}
use Rattle.elf_image_rules.specs.declared.linked.Relocated.{Relocated}
use Rattle.elf_format.specs.Form.{records}
use Rattle.elf_image_rules.specs.LinkSteps.{IsChecked}
use Rattle.elf_image_rules.proofs.LinkSteps.{no_checked}
use Rattle.elf_image_rules.proofs.linked.check_in_order.Goals as goal

pub loop-table-init : goal.loop-table-init
unfolding records
loop-table-init c = record {
  checked = All-same (IsChecked c.args.form c.args.file.now) c.new-checked.result.items [] c.new-checked.ensures.items (All-nil (IsChecked c.args.form c.args.file.now));
  known = refl;
}

pub loop-table-preserved : goal.loop-table-preserved
loop-table-preserved c =
    let table : Relocated = get_or c.args.tables.now c.loop-table.table-index no_checked.of in
    let one : Checked = record { of = table; fits = c.check_behind-fits.result.0 } in
    record {
      checked = All-same (IsChecked c.args.form c.args.file.now) c.push.new.self.items (c.loop-table.checked.items ++ one ∷ []) c.in_ok-push.ensures.items
          (All-push (IsChecked c.args.form c.args.file.now) c.loop-table.checked.items one c.loop-table.invariant.checked c.check_behind-fits.ensures.fits);
      known = c.check_behind-fits.ensures.known;
    }
