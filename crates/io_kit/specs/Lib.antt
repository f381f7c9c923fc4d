pub mod Calls
pub mod Ends
pub mod FaultLines
pub mod Files
pub mod SinkState
pub mod SinkStates
pub mod SourceState
pub mod SourceStates
