pub mod CallLaws
pub mod FailureLaws
pub mod NameLaws
