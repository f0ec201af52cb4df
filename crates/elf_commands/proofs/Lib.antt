pub mod ForCallers
pub mod ElfOutcomes
pub mod ElfStoreLaws
pub mod FailureLaws
pub mod NotingLaws
pub mod ShrinkLaws
