-- Definitions for the private functions and the proofs: no public contract cites one, and nobody need believe them.
pub mod Order
pub mod Stages
