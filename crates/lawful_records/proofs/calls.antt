pub mod CallSteps
pub mod CallTurns
pub mod Changes
pub mod FieldSteps
pub mod InCalls
pub mod LinkSteps
pub mod MachineSteps
pub mod Sights
