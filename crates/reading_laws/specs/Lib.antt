pub mod FormFaults
pub mod WellRead
