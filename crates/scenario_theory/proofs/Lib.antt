pub mod CheckLaws
pub mod DistanceLaws
pub mod RefusalLaws
pub mod NumberLaws
pub mod RowLaws
pub mod PeriodLaws
pub mod CheckedLaws
