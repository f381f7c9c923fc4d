pub mod SameVerdicts
