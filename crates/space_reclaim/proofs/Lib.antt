pub mod plans
