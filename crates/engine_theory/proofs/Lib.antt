pub mod Exact
pub mod RowLaws
pub mod ModelLaws
pub mod Assembled
pub mod Laws
pub mod RecordLaws
pub mod FlatLaws
