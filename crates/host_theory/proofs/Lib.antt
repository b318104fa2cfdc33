pub mod Laws
pub mod RowLaws
pub mod BoundsLaws
pub mod SheetLaws
