pub mod ElfAsked
pub mod ElfWords
pub mod Groups
pub mod Meaning
pub mod Moving
pub mod SymbolTexts
