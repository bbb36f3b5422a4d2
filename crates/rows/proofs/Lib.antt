pub mod BasisLaws
pub mod RowLaws
pub mod TurnLaws
