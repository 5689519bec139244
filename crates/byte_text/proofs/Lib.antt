pub mod BoolLaws
pub mod ListLaws
pub mod MarkLaws
pub mod NumberLaws
pub mod OptionLaws
pub mod XorLaws
