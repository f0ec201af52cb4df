-- Whether the numbers of places fit, place by place.
use Rattle.std.proofs.Common.{◌≡◌, List, length, map}
use Rattle.std.specs.List.{list_all}
use Rattle.std.proofs.lemmas.List.{length-map}
use Rattle.std.proofs.lemmas.List.Folds.{list_all-map}
use Rattle.elf_format.specs.declared.form.Form.{Form}
use Rattle.elf_layout_plan.specs.declared.plan.SectionPlace.{SectionPlace}
use Rattle.elf_layout_plan.specs.Plan.{does_place_fit}
use Rattle.elf_layout_plan.specs.PlanModel.{place_model}

pub all_places_fit : (form : Form) (places : List SectionPlace)
    → list_all (does_place_fit form) (map place_model places) ≡ list_all (λ s. does_place_fit form (place_model s)) places
all_places_fit form places = list_all-map (does_place_fit form) place_model places

pub as_many : (places : List SectionPlace) → length (map place_model places) ≡ length places
as_many places = length-map places place_model
