pub mod Args
pub mod Command
pub mod Json
pub mod Lines
pub mod Shown
pub use Rattle.arwen_cli_facts.specs.Reasons
pub use Rattle.arwen_cli_facts.specs.Texts
pub use Rattle.arwen_cli_facts.specs.declared.refusal.Told
