pub use Rattle.arwen_cli_options.specs.Lines
pub mod Fault
pub mod Line
pub mod Meaning
pub mod Signing
pub mod Moving
pub mod Telling
pub use Rattle.arwen_cli_parser.specs.Asked
