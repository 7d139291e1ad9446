pub mod Fields
pub mod PlanLine
pub mod Lines
