pub mod ExponentialLaws
pub mod PointLaws
pub mod PolynomialLaws
pub mod ProductLaws
pub mod StructureLaws
pub mod WeightLaws
