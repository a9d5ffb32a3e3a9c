pub mod Lines
pub mod PlanLines
