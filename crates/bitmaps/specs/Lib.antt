pub mod Attested
pub mod Maps
pub mod Parts
pub mod Verdicts
pub mod Signers
