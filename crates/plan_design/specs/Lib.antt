pub mod Design
pub mod DesignLaws
