-- Folds, polynomials, Lagrange weights and interpolation, over any commutative ring and monoid; and the ring modulo n.
pub mod Fold
pub mod FoldLaws
pub mod RingLaws
pub mod PolynomialLaws
pub mod WeightLaws
pub mod ExponentLaws
