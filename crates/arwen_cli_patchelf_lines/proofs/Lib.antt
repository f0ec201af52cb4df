pub mod MapLaws
pub mod ValueLaws
