use Rattle.arwen_macho.proofs.StatesLaws.{fresh_has_its_bytes, fresh_is_state, step_is_state}
use Rattle.arwen_macho.proofs.laws.edits_lead_from_state_to_state.Goals as goal

pub returns-clause-bytes : goal.returns-clause-bytes
returns-clause-bytes c = fresh_has_its_bytes

pub returns-clause-fresh : goal.returns-clause-fresh
returns-clause-fresh c = fresh_is_state

pub returns-clause-step : goal.returns-clause-step
returns-clause-step c = step_is_state
